use Rattle.std.proofs.Common.{ℕ, ◌+◌, ◌-◌, ◌%◌, List, length, slice_index, ap, ◌∙◌, arith}
use Rattle.std.proofs.lemmas.List.{length-set}
use Rattle.std.proofs.lemmas.Nat.{mod_below}
use Rattle.shared_disk.specs.History.{moment}
use Rattle.shared_disk.specs.Rows.{rows, row_long}
use Rattle.shared_disk.specs.Scripted.{span, span_has}
use Rattle.shared_disk.specs.ScriptedLaws.{first_more}
use Rattle.shared_disk.proofs.scripted_share.ScriptedShareSharedDisk.read_between.Goals as goal

pub bounds-row-place : goal.bounds-row-place
bounds-row-place c =
    let d = c.args.self.now in
    let order = d.order in
    let low = d.low in
    let behind = (c.args.at + c.loop-k.k) % (d.next - d.seen + 1) in
    let most = mod_below (c.args.at + c.loop-k.k) (d.next - d.seen + 1) (omega arith) in
    let long = row_long d.count d.size d.bytes.items (d.seen + behind) d.whole (omega (arith, most, order, low)) in
    let same = ap length c.row.ensures in
    omega (arith, same, long, c.requires, c.loop-k-test.true, c.loop-k.invariant.long)

pub loop-k-preserved : goal.loop-k-preserved
loop-k-preserved c =
    let d = c.args.self.now in
    let order = d.order in
    let all = rows d.count d.size d.bytes.items in
    let place = c.args.at + c.loop-k.k in
    let behind = place % (d.next - d.seen + 1) in
    let most = mod_below place (d.next - d.seen + 1) (omega arith) in
    record {
      gives = first_more (span all d.seen (d.next - d.seen)) c.args.at c.loop-k.into c.loop-k.k _ (moment all (d.seen + behind)) c.loop-k.invariant.gives
          (omega (arith, c.loop-k-test.true, c.loop-k.invariant.long))
          (span_has all d.seen (d.next - d.seen) behind (omega (arith, most, order)))
          (ap (λ (l : List ℕ). slice_index l place) c.row.ensures);
      long = length-set c.loop-k.into c.loop-k.k _ ∙ c.loop-k.invariant.long;
    }
