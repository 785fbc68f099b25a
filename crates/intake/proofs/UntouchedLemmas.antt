-- What leaves the disk as it was.
use Rattle.std.proofs.Common.{◌≡◌, ◌≢◌, ℕ, ◌+◌, ◌%◌, Bool, List, Option, Some, Result, Ok, Err, map, refl, sym, ap, subst, ◌∙◌, arith, true, false}
use Rattle.std.specs.Prelude.{option_map}
use Rattle.journal_layout.specs.Case.{Case}
use Rattle.journal_layout.specs.Soundness.{case_numbered}
use Rattle.case_journal.specs.Append.{StoreRefused}
use Rattle.case_journal.specs.Refusing.{LeavesDisk}
use Rattle.case_journal.specs.Journaled.{Journaled}
use Rattle.case_journal.specs.declared.faults.JournalFault.{JournalFault}
use Rattle.case_journal.specs.declared.faults.JournalFault.TheVariants as journal_fault
use Rattle.intake.specs.Closing.{ClosesStream}
use Rattle.intake.specs.Faults.{fault_of}
use Rattle.intake.specs.Growth.{DiskReply, NeedsBlock}
use Rattle.intake.specs.Parts.{StreamParts, stream_facts}
use Rattle.intake.specs.Slots.{stream_at}
use Rattle.intake.specs.State.{StreamFacts}
use Rattle.intake.specs.Untouched.{RefusalSpares, FinishSpares}
use Rattle.intake.specs.declared.faults.ArchiveFault.{ArchiveFault}
use Rattle.intake.specs.declared.faults.ArchiveFault.TheVariants as fault
use Rattle.intake.proofs.AfterLemmas.{told_same}
use Rattle.intake.proofs.StepLemmas.{some_there}

-- an answer that the disk gave
pub disk_spares : {D : Type 0} (r : Result (Unit {0}) ArchiveFault) (old new : D) → DiskReply r → RefusalSpares {T = Unit {0}} r old new
disk_spares (Ok u) old new told = tt
disk_spares (Err f) old new told = subst (λ (x : ArchiveFault). RefusalSpares {T = Unit {0}} (Err x) old new) (sym told) tt

-- a refusal that is told as one of the journal's
pub journal_spares : {D : Type 0} (T : Type 0) (jf : JournalFault) (f : ArchiveFault) (old new : D) → f ≡ fault_of jf → LeavesDisk jf old new → RefusalSpares {T = T} (Err f) old new
journal_spares T jf f old new told leaves = subst (λ (x : ArchiveFault). RefusalSpares {T = T} (Err x) old new) (sym told) (by_fault jf leaves)
  where
    by_fault : (k : JournalFault) → LeavesDisk k old new → RefusalSpares {T = T} (Err (fault_of k)) old new
    by_fault journal_fault.Disk same = tt
    by_fault journal_fault.Stopped same = same
    by_fault journal_fault.JournalFull same = same
    by_fault journal_fault.NumbersSpent same = same
    by_fault journal_fault.OutOfMemory same = same
    by_fault journal_fault.OldVersion same = same

-- another answer for the same refusal
pub other_spares : {D : Type 0} (S T : Type 0) (f : ArchiveFault) (old new : D) → RefusalSpares {T = S} (Err f) old new → RefusalSpares {T = T} (Err f) old new
other_spares S T fault.Disk old new same = tt
other_spares S T _ old new same = same

-- which fault is answered
pub fault_answered : (T : Type 0) (f h : ArchiveFault) → ◌≡◌ {A = Result T ArchiveFault} (Err f) (Err h) → f ≡ h
fault_answered T f h e = cc

-- what is answered of a fault of the journal is that fault
pub journal_answered : (T : Type 0) (jf h : JournalFault) (f : ArchiveFault) → f ≡ fault_of jf → ◌≡◌ {A = Result T ArchiveFault} (Err f) (Err (fault_of h))
    → ◌≡◌ {A = Result T JournalFault} (Err jf) (Err h)
journal_answered T jf h f told is = ap (λ (k : JournalFault). let r : Result T JournalFault = Err k in r) (told_same jf h (sym told ∙ fault_answered T f (fault_of h) is))

-- bytes that fill no block need none
pub needs_none : (streams : List (Option StreamParts)) (slot n : ℕ) (s : StreamParts) (t : StreamFacts) → stream_at streams slot ≡ Some s → stream_at (map (option_map stream_facts) streams) slot ≡ Some t
    → (((n ≢ 0) × ((t.len + n) % 4096 ≡ 0)) → ⊥) → NeedsBlock s.facts.len n → ⊥
needs_none streams slot n s t is at none needs =
    let same : s.facts ≡ t = inside (sym (some_there streams slot s is) ∙ at) in
    let long : s.facts.len ≡ t.len = ap (λ (x : StreamFacts). x.len) same in
    let full = needs.1 in
    none (needs.0, omega arith)
  where
    inside : Some s.facts ≡ Some t → s.facts ≡ t
    inside e = cc

-- a case with another flag is not one whose flag stands already
pub flag_differs : (seq : ℕ) (flag : Bool) (cases : List Case) (c x : Case) → Some c ≡ case_numbered seq cases → c.pinned ≢ flag → case_numbered seq cases ≡ Some x → x.pinned ≡ flag → ⊥
flag_differs seq flag cases c x found differs at is =
    differs (ap (λ (y : Case). y.pinned) (inside (found ∙ at)) ∙ is)
  where
    inside : Some c ≡ Some x → c ≡ x
    inside e = cc

-- a seal's refusal, but that of the disk
pub seal_spares : {D : Type 0} (free : ℕ) (s s' : StreamParts) (f : ArchiveFault) (old new : D) → ClosesStream free s (Err f) s' → RefusalSpares {T = Unit {0}} (Err f) old new → FinishSpares (Err f) old new
seal_spares free s s' fault.SpaceFull old new closes spares = spares
seal_spares free s s' fault.OutOfMemory old new closes spares = tt
seal_spares free s s' fault.Disk old new closes spares = tt
seal_spares free s s' _ old new closes spares = absurd closes

-- what the journal refuses is not refused before the seal
pub append_spares : {D : Type 0} (jf : JournalFault) (f : ArchiveFault) (old new : D) → f ≡ fault_of jf → (jf ≡ journal_fault.Stopped → ⊥) → FinishSpares (Err f) old new
append_spares jf f old new told on = subst (λ (x : ArchiveFault). FinishSpares (Err x) old new) (sym told) (by_fault jf on)
  where
    by_fault : (k : JournalFault) → (k ≡ journal_fault.Stopped → ⊥) → FinishSpares (Err (fault_of k)) old new
    by_fault journal_fault.Disk on' = tt
    by_fault journal_fault.Stopped on' = absurd (on' refl)
    by_fault journal_fault.JournalFull on' = tt
    by_fault journal_fault.NumbersSpent on' = tt
    by_fault journal_fault.OutOfMemory on' = tt
    by_fault journal_fault.OldVersion on' = tt

-- a journal that runs does not answer that it is stopped
pub never_stopped : (j : Journaled) (c : Case) (jf : JournalFault) (j' : Journaled) → j.stopped ≡ false → StoreRefused j c jf j' → jf ≡ journal_fault.Stopped → ⊥
never_stopped j c jf j' on refused is =
    let off = subst (λ (k : JournalFault). StoreRefused j c k j') is refused in
    let e : true ≡ false = sym off.0 ∙ on in
    cc
