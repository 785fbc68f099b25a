use Rattle.std.proofs.Common.{◌+◌, ◌++◌, ℕ, List, take, drop, get_or, refl, Ok, arith}
use Rattle.std.proofs.lemmas.Result.{err_from_is_err_and}
use Rattle.disk_model.specs.Places.{part}
use Rattle.intake.specs.Ranges.{bytes_in}
use Rattle.intake.specs.declared.ranges.ByteRange.{ByteRange}
use Rattle.inspector_cli.proofs.CopyLemmas.{copies_none, copies_then, copies_as, copies_front, no_range, ranges_more, ranges_whole, ranges_all}
use Rattle.inspector_cli.proofs.copying.copy_ranges.Goals as goal

pub loop-range-init : goal.loop-range-init
loop-range-init g c = copies_none g.D.Disk c.args.disk.now _ (g.met.D.Disk.only_now c.args.disk.now) (λ (b : List ℕ). bytes_in b (take 0 c.args.ranges.now)) (λ (b : List ℕ). refl)

pub copy_range-requires-clause-within : goal.copy_range-requires-clause-within
copy_range-requires-clause-within g c =
    let here = c.requires.within c.loop-range.range-index no_range c.loop-range-test.true in
    let size = c.loop-range.invariant.quiet.size in
    omega (arith, here, size)

pub returns-in_err-copy_range : goal.returns-in_err-copy_range
returns-in_err-copy_range g c =
    let p = err_from_is_err_and c.from_residual.result c.from_residual.ensures.1 in
    let here : ByteRange = get_or c.args.ranges.now c.loop-range.range-index no_range in
    rw (p.1, p.2)
    (copies_front g.D.Disk c.args.disk.now c.copy_range.new.disk _
    (λ (b : List ℕ). bytes_in b (take c.loop-range.range-index c.args.ranges.now) ++ part b here.start here.length)
    (λ (b : List ℕ). bytes_in b (drop (c.loop-range.range-index + 1) c.args.ranges.now))
    (λ (b : List ℕ). bytes_in b c.args.ranges.now) _
    (λ (b : List ℕ). ranges_whole b c.args.ranges.now c.loop-range.range-index no_range c.loop-range-test.true)
    (copies_then g.D.Disk c.args.disk.now c.loop-range.disk c.copy_range.new.disk _ _ _
    (λ (b : List ℕ). bytes_in b (take c.loop-range.range-index c.args.ranges.now)) (λ (b : List ℕ). part b here.start here.length) _
    c.loop-range.invariant c.in_err-copy_range.ensures))

pub loop-range-preserved : goal.loop-range-preserved
loop-range-preserved g c =
    let here : ByteRange = get_or c.args.ranges.now c.loop-range.range-index no_range in
    copies_as g.D.Disk c.args.disk.now c.copy_range.new.disk _
    (λ (b : List ℕ). bytes_in b (take c.loop-range.range-index c.args.ranges.now) ++ part b here.start here.length)
    (λ (b : List ℕ). bytes_in b (take (c.loop-range.range-index + 1) c.args.ranges.now)) (Ok tt)
    (λ (b : List ℕ). ranges_more b c.args.ranges.now c.loop-range.range-index no_range c.loop-range-test.true)
    (copies_then g.D.Disk c.args.disk.now c.loop-range.disk c.copy_range.new.disk _ _ _
    (λ (b : List ℕ). bytes_in b (take c.loop-range.range-index c.args.ranges.now)) (λ (b : List ℕ). part b here.start here.length) (Ok tt)
    c.loop-range.invariant c.in_ok-copy_range.ensures)

pub returns : goal.returns
returns g c =
    copies_as g.D.Disk c.args.disk.now c.loop-range.disk _ (λ (b : List ℕ). bytes_in b (take c.loop-range.range-index c.args.ranges.now)) (λ (b : List ℕ). bytes_in b c.args.ranges.now) (Ok tt)
    (λ (b : List ℕ). ranges_all b c.args.ranges.now c.loop-range.range-index c.loop-range-test.false) c.loop-range.invariant
