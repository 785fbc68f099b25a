use Rattle.std.proofs.Common.{◌≡◌, ◌∙◌, ◌+◌, ◌*◌, ℕ, List, length, ap, sym, arith}
use Rattle.disk_model.specs.Places.{part}
use Rattle.disk_model.specs.PartLaws.{part_part}
use Rattle.extents.specs.Runs.{run_blocks}
use Rattle.intake.specs.Blocks.{block_start, joined}
use Rattle.intake.proofs.PartLemmas.{none_part}
use Rattle.intake.proofs.ReadLemmas.{run_bytes}
use Rattle.intake.proofs.part.read_piece.Goals as goal

pub returns-then-is_empty-clause-bytes : goal.returns-then-is_empty-clause-bytes
returns-then-is_empty-clause-bytes g c honest = none_part c.args.into.now (joined c.args.shape (g.D.Disk.seen c.args.disk.now) (run_blocks c.args.run)) c.args.front (grind (arith, c.if-is_empty.true, c.is_empty.ensures))

pub returns-clause-bytes : goal.returns-clause-bytes
returns-clause-bytes g c honest =
    let place : c.data_start.result + 4096 * c.from.result ≡ block_start c.args.shape c.args.run.start = omega (arith, c.data_start.ensures, c.from.ensures) in
    c.in_ok-read_at.ensures.bytes honest
    ∙ sym (part_part (g.D.Disk.seen c.args.disk.now) (c.data_start.result + 4096 * c.from.result) (4096 * c.args.run.count) c.args.front (length c.args.into.now) c.requires.room)
    ∙ ap (λ (p : ℕ). part (part (g.D.Disk.seen c.args.disk.now) p (4096 * c.args.run.count)) c.args.front (length c.args.into.now)) place
    ∙ ap (λ (b : List ℕ). part b c.args.front (length c.args.into.now)) (run_bytes c.args.shape (g.D.Disk.seen c.args.disk.now) c.args.run.start c.args.run.count)
