-- How an open journal applies a record.
use Rattle.std.specs.Prelude.{◌≡◌, ℕ, ◌+◌, Bool, List, [], ◌∷◌, ◌++◌, Result, Ok, Err}
use Rattle.journal_layout.specs.Case.{Case}
use Rattle.journal_layout.specs.Folding.{dropped, with_pin, with_label}
use Rattle.journal_layout.specs.Record.{Record}
use Rattle.journal_layout.specs.Rewriting.{appended}
use Rattle.journal_layout.specs.Standing.{Standing}
use Rattle.case_journal.specs.declared.compacting.JournalEnd.{JournalEnd}
use Rattle.case_journal.specs.Append.{RecordFits, RecordOverflows}
use Rattle.case_journal.specs.Journaled.{Journaled}
use Rattle.case_journal.specs.declared.faults.JournalFault.{JournalFault}
use Rattle.case_journal.specs.declared.faults.JournalFault.TheVariants.{JournalFull, OutOfMemory, Disk}

-- one case more
abbrev pub entered : Journaled → Case → Journaled
entered j c = record j { standing = record j.standing { cases = j.standing.cases ++ c ∷ []; next = j.standing.next + 1 } }

-- without the cases of these numbers
abbrev pub left : Journaled → List ℕ → Journaled
left j seqs = record j { standing = record j.standing { cases = dropped seqs j.standing.cases } }

-- the case of this number pinned or not
abbrev pub repinned : Journaled → ℕ → Bool → Journaled
repinned j seq flag = record j { standing = record j.standing { cases = with_pin seq flag j.standing.cases } }

-- the case of this number with this label
abbrev pub relabelled : Journaled → ℕ → List ℕ → Journaled
relabelled j seq text = record j { standing = record j.standing { cases = with_label seq text j.standing.cases } }

-- the same cases in version 2 of the layout
abbrev pub in_two : Journaled → Journaled
in_two j = record j { standing = record j.standing { version = 2 } }

-- the place of the next record after this one
abbrev pub place_after : Standing → Record → JournalEnd
place_after s r = record { half = (appended s r).half; generation = (appended s r).generation; used = (appended s r).used }

-- the writing of a record: refused in the order of the faults, each under its condition
abbrev pub PutStep : Standing → Record → Result JournalEnd JournalFault → Type 0
PutStep s r (Ok p) = RecordFits s r × (p ≡ place_after s r)
PutStep s r (Err JournalFull) = RecordOverflows s r
PutStep s r (Err OutOfMemory) = RecordFits s r
PutStep s r (Err Disk) = RecordFits s r
PutStep s r (Err _) = ⊥
