use Rattle.std.proofs.Common.{ap, refl, arith, length}
use Rattle.extents.proofs.MapLemmas.{length_flags_of}
use Rattle.extents.proofs.RunLemmas.{stretch_cut}
use Rattle.extents.proofs.free_map.FreeMap.mark_used.Goals as goal

pub returns-then-from : goal.returns-then-from
returns-then-from c =
    (omega (arith, ap length c.self.view_is, length_flags_of c.self.inside.words.items c.self.inside.blocks), refl)

pub stretch-requires : goal.stretch-requires
stretch-requires c = omega (arith, ap length c.self.view_is, length_flags_of c.self.inside.words.items c.self.inside.blocks)

pub returns-then-stretch-run : goal.returns-then-stretch-run
returns-then-stretch-run c = (
  omega (arith, ap length c.self.view_is, length_flags_of c.self.inside.words.items c.self.inside.blocks),
  stretch_cut c.args.self.now c.args.run c.stretch.result c.stretch.ensures c.if-stretch-run.true,
  refl,
)

pub returns : goal.returns
returns c =
    let at_most = c.stretch.ensures.at_most in
    let whole = c.if-stretch-run.false in (
      omega (arith, ap length c.self.view_is, length_flags_of c.self.inside.words.items c.self.inside.blocks),
      λ k from below. c.stretch.ensures.free k from (omega arith),
      c.use_run.ensures,
    )
