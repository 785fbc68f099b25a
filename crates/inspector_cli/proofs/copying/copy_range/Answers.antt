use Rattle.std.proofs.Common.{◌≡◌, ◌+◌, ◌-◌, ◌++◌, ℕ, List, length, take, ap, Ok, arith}
use Rattle.std.proofs.lemmas.List.{length-take-le}
use Rattle.std.proofs.lemmas.Result.{err_from_is_err_and}
use Rattle.disk_model.specs.Places.{part}
use Rattle.inspector_cli.proofs.CopyLemmas.{copies_none, copies_then, copies_as, copies_front, part_more, part_none, part_whole}
use Rattle.inspector_cli.proofs.copying.copy_range.Goals as goal

pub loop-done-init : goal.loop-done-init
loop-done-init g c = record {
  copies = copies_none g.D.Disk c.args.disk.now _ (g.met.D.Disk.only_now c.args.disk.now) (λ (b : List ℕ). part b c.args.range.start 0) (λ (b : List ℕ). part_none b c.args.range.start);
  within = omega arith;
}

pub copy_piece-requires : goal.copy_piece-requires
copy_piece-requires g c =
    let long = length-take-le c.min-count.result c.loop-done.buffer (omega (arith, c.min-count.ensures)) in
    let size = c.loop-done.invariant.copies.quiet.size in
    let within = c.requires.within in
    omega (arith, long, size, within, c.min-count.ensures, c.loop-done-test.true)

pub returns-in_err-copy_piece : goal.returns-in_err-copy_piece
returns-in_err-copy_piece g c =
    let p = err_from_is_err_and c.from_residual.result c.from_residual.ensures.1 in
    let m = length (take c.min-count.result c.loop-done.buffer) in
    let long = length-take-le c.min-count.result c.loop-done.buffer (omega (arith, c.min-count.ensures)) in
    rw (p.1, p.2)
    (copies_front g.D.Disk c.args.disk.now c.copy_piece.new.disk _
    (λ (b : List ℕ). part b c.args.range.start c.loop-done.done ++ part b (c.args.range.start + c.loop-done.done) m)
    (λ (b : List ℕ). part b (c.args.range.start + (c.loop-done.done + m)) (c.args.range.length - (c.loop-done.done + m)))
    (λ (b : List ℕ). part b c.args.range.start c.args.range.length) _
    (λ (b : List ℕ). part_whole b c.args.range.start c.loop-done.done m c.args.range.length (omega (arith, long, c.min-count.ensures, c.loop-done-test.true)))
    (copies_then g.D.Disk c.args.disk.now c.loop-done.disk c.copy_piece.new.disk _ _ _
    (λ (b : List ℕ). part b c.args.range.start c.loop-done.done) (λ (b : List ℕ). part b (c.args.range.start + c.loop-done.done) m) _
    c.loop-done.invariant.copies c.in_err-copy_piece.ensures))

pub loop-done-preserved : goal.loop-done-preserved
loop-done-preserved g c =
    let m = length (take c.min-count.result c.loop-done.buffer) in
    let long = length-take-le c.min-count.result c.loop-done.buffer (omega (arith, c.min-count.ensures)) in record {
      copies =
          copies_as g.D.Disk c.args.disk.now c.copy_piece.new.disk _
          (λ (b : List ℕ). part b c.args.range.start c.loop-done.done ++ part b (c.args.range.start + c.loop-done.done) m) _ (Ok tt)
          (λ (b : List ℕ). part_more b c.args.range.start c.loop-done.done m _ (omega (arith, long)))
          (copies_then g.D.Disk c.args.disk.now c.loop-done.disk c.copy_piece.new.disk _ _ _
          (λ (b : List ℕ). part b c.args.range.start c.loop-done.done) (λ (b : List ℕ). part b (c.args.range.start + c.loop-done.done) m) (Ok tt)
          c.loop-done.invariant.copies c.in_ok-copy_piece.ensures);
      within = omega (arith, c.min-count.ensures, c.loop-done-test.true);
    }

pub returns : goal.returns
returns g c =
    let within = c.loop-done.invariant.within in
    let all : c.loop-done.done ≡ c.args.range.length = omega (arith, within, c.loop-done-test.false) in
    copies_as g.D.Disk c.args.disk.now c.loop-done.disk _ (λ (b : List ℕ). part b c.args.range.start c.loop-done.done) (λ (b : List ℕ). part b c.args.range.start c.args.range.length) (Ok tt)
    (λ (b : List ℕ). ap (part b c.args.range.start) all) c.loop-done.invariant.copies
