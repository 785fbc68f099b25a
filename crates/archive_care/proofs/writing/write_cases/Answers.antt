use Rattle.std.proofs.Common.{◌+◌, length, arith}
use Rattle.journal_snapshot.specs.FillLaws.{fills_wider}
use Rattle.journal_snapshot.specs.HalfLaws.{half_bytes_length}
use Rattle.journal_snapshot.specs.Halves.{half_bytes}
use Rattle.journal_snapshot.specs.declared.change.Change.TheVariants.{Nothing}
use Rattle.archive_care.proofs.writing.write_cases.Goals as goal

pub rewrite-requires-clause-in_half : goal.rewrite-requires-clause-in_half
rewrite-requires-clause-in_half g c =
    omega (arith, c.requires.in_half, c.requires.measured.0, c.requires.measured.1, half_bytes_length c.args.target Nothing c.args.entries.now)

pub returns-in-Ok-clause-fills : goal.returns-in-Ok-clause-fills
returns-in-Ok-clause-fills g c =
    fills_wider g.N.Disk c.args.target.start (1 + length (half_bytes c.args.target Nothing c.args.entries.now)) c.args.target.start c.args.half c.args.onto.now c.rewrite.new.disk (omega arith)
    (omega (arith, c.requires.measured.0, c.requires.measured.1, half_bytes_length c.args.target Nothing c.args.entries.now)) c.rewrite.ensures.fills

pub returns-in-Err-clause-fills : goal.returns-in-Err-clause-fills
returns-in-Err-clause-fills g c =
    fills_wider g.N.Disk c.args.target.start (1 + length (half_bytes c.args.target Nothing c.args.entries.now)) c.args.target.start c.args.half c.args.onto.now c.rewrite.new.disk (omega arith)
    (omega (arith, c.requires.measured.0, c.requires.measured.1, half_bytes_length c.args.target Nothing c.args.entries.now)) c.rewrite.ensures.fills
