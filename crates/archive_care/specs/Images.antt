-- Where the images of an archive lie.
use Rattle.std.specs.Prelude.{ℕ, List}
use Rattle.std.specs.List.{All}
use Rattle.extents.specs.Runs.{runs_of}
use Rattle.intake.specs.Reading.{LieWithin}
use Rattle.journal_layout.specs.declared.entry.Entry.{Entry}

-- each image lies among the first `limit` blocks
abbrev pub AreWithin : ℕ → List Entry → Type 0
AreWithin limit entries = All (λ (e : Entry). LieWithin limit (runs_of e.runs)) entries
