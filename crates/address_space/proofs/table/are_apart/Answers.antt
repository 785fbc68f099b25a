use Rattle.std.proofs.Common.{◌-◌, refl, arith}
use Rattle.address_space.proofs.Sorting.{is_over}
use Rattle.address_space.proofs.table.are_apart.Goals as goal

pub returns-then-rows-next : goal.returns-then-rows-next
returns-then-rows-next c = (
  c.loop-next.next - 1,
  omega arith,
  is_over c.args.rows.now c.requires c.loop-next.next _ _ _ (omega arith) (omega arith) c.if-rows-next.true refl,
)
