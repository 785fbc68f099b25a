-- The fields of an entry that the rule reads, and whether a name is free once the rule has dropped its cases.
use Rattle.std.specs.Prelude.{◌≡◌, ℕ, Bool, true, false, List, map, Result, Ok, Err}
use Rattle.journal_layout.specs.Folding.{dropped}
use Rattle.journal_layout.specs.Case.{case_of}
use Rattle.journal_layout.specs.declared.entry.Entry.{Entry}
use Rattle.retention.specs.Rule.{IsDecision}
use Rattle.retention.specs.declared.Brief.{Brief}
use Rattle.retention.specs.declared.Policy.{Policy}
use Rattle.intake.specs.State.{ArchiveState}
use Rattle.intake.specs.Step.{brief_of, cases_without, is_named}
use Rattle.intake.specs.declared.faults.ArchiveFault.{ArchiveFault}
use Rattle.intake.specs.declared.faults.ArchiveFault.TheVariants.{Stopped, OutOfMemory}
use Rattle.journal_layout.specs.Case.{Case}

abbrev pub brief_of_entry : Entry → Brief
brief_of_entry e = brief_of (case_of e)

abbrev pub seq_of_entry : Entry → ℕ
seq_of_entry e = e.seq

-- one of the cases that are not of these numbers has the name
abbrev pub stays_named : List ℕ → List ℕ → List Case → Bool
stays_named name seqs cases = is_named name (dropped seqs cases)

-- by this decision of the rule, a case stays that has the name
pub record KeepsTheName (s : ArchiveState) (policy : Policy) (name : List ℕ) (kept : Bool) : Type 0 where
  pub runs : s.stopped ≡ false
  pub dropped : List ℕ
  pub unmet : Bool
  pub decision : IsDecision policy (map brief_of s.cases) dropped unmet
  pub is : kept ≡ is_named name (cases_without s dropped)

-- whether a case that stays has the name
abbrev pub NameReply : ArchiveState → Policy → List ℕ → Result Bool ArchiveFault → Type 0
NameReply s policy name (Ok kept) = KeepsTheName s policy name kept
NameReply s policy name (Err Stopped) = s.stopped ≡ true
NameReply s policy name (Err OutOfMemory) = s.stopped ≡ false
NameReply s policy name (Err _) = ⊥
