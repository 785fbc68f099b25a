-- The answer of an opening, and the cases that an archive shows.
use Rattle.std.specs.Prelude.{◌≡◌, ℕ, false, true, List, Option, None, Result, Ok, Err, map, replicate}
use Rattle.std.specs.Borrow.{Bor}
use Rattle.journal_layout.specs.Soundness.{case_numbered}
use Rattle.journal_layout.specs.declared.entry.Entry.{Entry}
use Rattle.journal_layout.specs.declared.faults.OpenFault.{OpenFault}
use Rattle.journal_layout.specs.Case.{case_of}
use Rattle.case_journal.specs.Journaled.{Journaled}
use Rattle.case_journal.specs.declared.open.Opened.{Opened}
use Rattle.intake.specs.declared.faults.ArchiveFault.{ArchiveFault}
use Rattle.intake.specs.declared.faults.ArchiveFault.TheVariants as fault
use Rattle.intake.specs.Parts.{Parts, StreamParts, state_of}
use Rattle.intake.specs.Step.{HasCase}

-- the disk, whatever an opening answers
abbrev pub disk_in : {D : Type 0} → Result (Parts D) (OpenFault × D) → D
disk_in (Ok a) = a.disk
disk_in (Err e) = e.1

-- the part of its answer that is about the journal
abbrev pub journal_in : {D : Type 0} → Result (Parts D) (OpenFault × D) → Result Journaled OpenFault
journal_in (Ok a) = Ok a.journal
journal_in (Err e) = Err e.0

-- the same before the archive is put together from the opened journal and the slots
abbrev pub journal_of : Result (Opened × List (Option StreamParts)) OpenFault → Result Journaled OpenFault
journal_of (Ok parts) = Ok parts.0.journal
journal_of (Err fault) = Err fault

-- an archive that was just opened with this limit
pub record IsOpened {D : Type 0} (most : ℕ) (a : Parts D) : Type 0 where
  pub limit : a.limit ≡ most
  pub streams : a.streams ≡ replicate 8 None
  pub runs : a.stopped ≡ false

abbrev pub CasesReply : {D : Type 0} → Parts D → Result (Bor (List Entry)) ArchiveFault → Type 0
CasesReply a (Ok cases) = (a.stopped ≡ false) × (map case_of cases.now ≡ a.journal.standing.cases)
CasesReply a (Err f) = (a.stopped ≡ true) × (f ≡ fault.Stopped)

-- the case of a number, without its image
abbrev pub CaseReply : {D : Type 0} → Parts D → ℕ → Result (Bor Entry) ArchiveFault → Type 0
CaseReply a seq (Ok entry) = HasCase (state_of a) seq (case_of entry.now)
CaseReply a seq (Err fault.Stopped) = a.stopped ≡ true
CaseReply a seq (Err fault.NoCase) = (a.stopped ≡ false) × (case_numbered seq (state_of a).cases ≡ None)
CaseReply a seq (Err _) = ⊥
