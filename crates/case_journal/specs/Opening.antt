-- The answer of an opening about the journal.
use Rattle.std.specs.Prelude.{Result, Ok, Err}
use Rattle.journal_layout.specs.declared.faults.OpenFault.{OpenFault}
use Rattle.case_journal.specs.Journaled.{Journaled}
use Rattle.case_journal.specs.declared.open.Opened.{Opened}

-- the journal without the names and the blocks that were gathered with it
abbrev pub journal_of : Result Opened OpenFault → Result Journaled OpenFault
journal_of (Ok o) = Ok o.journal
journal_of (Err fault) = Err fault
