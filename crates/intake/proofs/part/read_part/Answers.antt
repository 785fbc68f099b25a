use Rattle.std.proofs.Common.{◌≡◌, ◌∙◌, ◌+◌, ◌-◌, ◌≤◌, length, drop, get_or, ap, sym, refl, arith}
use Rattle.std.proofs.lemmas.List.{length-take-le, length-drop}
use Rattle.disk_model.specs.Places.{part}
use Rattle.extents.specs.FreeLaws.{run_of}
use Rattle.extents.specs.Runs.{run_blocks}
use Rattle.intake.specs.Blocks.{joined}
use Rattle.intake.proofs.PartLemmas.{one_more_part, all_part_read}
use Rattle.intake.proofs.part.read_part.Goals as goal

pub loop-run-preserved : goal.loop-run-preserved
loop-run-preserved g c =
    let so_far = c.loop-run.invariant in
    let low : c.loop-run.done ≤ length c.loop-run.into = omega (arith, c.loop-run.auto.into, so_far.place) in
    let inside : c.loop-run.done + c.min-size.result - c.loop-run.done ≤ length (drop c.loop-run.done c.loop-run.into) =
    omega (arith, c.min-size.ensures, low, length-drop c.loop-run.done c.loop-run.into) in
    let long : length c.read_piece.new.into ≡ c.min-size.result = c.read_piece.auto.into ∙ length-take-le _ (drop c.loop-run.done c.loop-run.into) inside ∙ omega arith in
    one_more_part g.D.Disk c.args.shape c.args.runs.now c.args.disk.now c.loop-run.disk c.read_piece.new.disk c.args.at (length c.args.into.now) c.loop-run.into c.read_piece.new.into
    c.loop-run.skip c.loop-run.done c.min-front.result c.min-size.result _ c.loop-run.run-index _ (run_of 0 0)
    so_far c.loop-run-test.true c.requires.within (λ honest. g.met.D.Disk.whole c.args.disk.now honest ∙ c.requires.disk) low
    (omega (arith, c.min-front.ensures, c.from-long.ensures))
    (omega (arith, c.min-size.ensures, c.from-long.ensures, c.loop-run.auto.into))
    refl long c.read_piece.ensures.quiet c.read_piece.ensures.later
    (λ honest. c.in_ok-read_piece.ensures.bytes honest
    ∙ ap (part (joined c.args.shape (g.D.Disk.seen c.loop-run.disk) (run_blocks (get_or c.args.runs.now c.loop-run.run-index (run_of 0 0)))) c.min-front.result) (sym c.read_piece.auto.into ∙ long))

pub returns-clause-bytes : goal.returns-clause-bytes
returns-clause-bytes g c honest =
    all_part_read g.D.Disk c.args.shape c.args.runs.now c.args.disk.now c.loop-run.disk c.args.at (length c.args.into.now) c.loop-run.into c.loop-run.skip c.loop-run.done c.loop-run.run-index
    c.loop-run.invariant c.loop-run-test.false c.loop-run.auto.into c.requires.room honest
