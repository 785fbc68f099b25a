use Rattle.std.proofs.Common.{◌⊎◌, ◌+◌, ◌∙◌, length, arith}
use Rattle.disk_model.specs.MomentLaws.{now_too}
use Rattle.journal_layout.specs.Stands.{Stands}
use Rattle.journal_layout.specs.Rewriting.{rewritten}
use Rattle.case_journal.specs.DoubtLaws.{held_doubts}
use Rattle.case_journal.proofs.DoubtLemmas.{half_doubts}
use Rattle.journal_snapshot.specs.FillLaws.{fills_wider}
use Rattle.journal_snapshot.specs.HalfLaws.{half_bytes_length}
use Rattle.journal_snapshot.specs.Halves.{half_bytes}
use Rattle.case_journal.proofs.compacting.write_snapshot.Goals as goal

pub rewrite-requires-clause-in_half : goal.rewrite-requires-clause-in_half
rewrite-requires-clause-in_half g c =
    omega (arith, c.requires.in_half, c.requires.measured.0, c.requires.measured.1, half_bytes_length c.args.target c.args.change.now c.args.entries.now)

pub returns-in_err-rewrite-clause-fills : goal.returns-in_err-rewrite-clause-fills
returns-in_err-rewrite-clause-fills g c =
    fills_wider g.D.Disk c.args.target.start (1 + length (half_bytes c.args.target c.args.change.now c.args.entries.now)) c.args.target.start c.args.half c.args.disk.now c.rewrite.new.disk (omega arith)
    (omega (arith, c.requires.measured.0, c.requires.measured.1, half_bytes_length c.args.target c.args.change.now c.args.entries.now)) c.rewrite.ensures.fills

pub returns-clause-fills : goal.returns-clause-fills
returns-clause-fills g c =
    fills_wider g.D.Disk c.args.target.start (1 + length (half_bytes c.args.target c.args.change.now c.args.entries.now)) c.args.target.start c.args.half c.args.disk.now c.rewrite.new.disk (omega arith)
    (omega (arith, c.requires.measured.0, c.requires.measured.1, half_bytes_length c.args.target c.args.change.now c.args.entries.now)) c.rewrite.ensures.fills

pub returns-in_err-rewrite-clause-doubts : goal.returns-in_err-rewrite-clause-doubts
returns-in_err-rewrite-clause-doubts g c s f is honest holds =
    let d = g.D.Disk in
    let new = c.rewrite.new.disk in
    half_doubts d new s f c.args.target.start is.place
    (now_too d c.args.disk.now new (λ b. Stands b s ⊎ Stands b (rewritten s f)) (c.rewrite.ensures.any_moment s f is honest holds) (g.met.D.Disk.counts_now new) (d.seen new) (g.met.D.Disk.seen_may_stay new (c.rewrite.ensures.fills.honesty ∙ honest)))
    (c.rewrite.ensures.doubt s f is honest holds)

pub returns-clause-doubts : goal.returns-clause-doubts
returns-clause-doubts g c s f is honest holds =
    let d = g.D.Disk in
    let new = c.rewrite.new.disk in
    half_doubts d new s f c.args.target.start is.place
    (now_too d c.args.disk.now new (λ b. Stands b s ⊎ Stands b (rewritten s f)) (c.rewrite.ensures.any_moment s f is honest holds) (g.met.D.Disk.counts_now new) (d.seen new) (g.met.D.Disk.seen_may_stay new (c.rewrite.ensures.fills.honesty ∙ honest)))
    (c.rewrite.ensures.doubt s f is honest holds)

pub returns-in_err-buffer-clause-doubts : goal.returns-in_err-buffer-clause-doubts
returns-in_err-buffer-clause-doubts g c s f is honest holds = held_doubts g.D.Disk c.args.disk.now s (g.met.D.Disk.seen_may_stay c.args.disk.now honest) holds
