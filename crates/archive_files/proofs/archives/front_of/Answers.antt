use Rattle.std.proofs.Common.{◌≡◌, ◌∙◌, ℕ, Option, None, Some, ap, sym, arith}
use Rattle.journal_layout.specs.FrontLaws.{front_limits}
use Rattle.journal_layout.specs.Stands.{front_of}
use Rattle.journal_layout.specs.declared.shape.Shape.{Shape}
use Rattle.archive_files.proofs.archives.front_of.Goals as goal

abbrev half_in : Option Shape → ℕ
half_in None = 0
half_in (Some shape) = shape.half_blocks

pub returns-in-Ok-Some-clause-journal : goal.returns-in-Ok-Some-clause-journal
returns-in-Ok-Some-clause-journal g c = λ s honest stands.
    let half_is : c.in-Ok-Some.shape.half_blocks ≡ s.shape.half_blocks = ap half_in (sym c.in-Ok-Some.field-0-is ∙ c.in-Ok-Some.ensures.shape s honest stands) in
    let low = (front_limits (g.D.Disk.seen c.args.disk.now) (front_of s) stands.front).half in
    omega (arith, half_is, low, c.min.ensures, c.from.ensures)
