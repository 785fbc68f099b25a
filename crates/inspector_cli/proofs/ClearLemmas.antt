-- Nothing is in doubt at a stage whose archive is not stopped.
use Rattle.std.proofs.Common.{◌≡◌, ◌⊎◌, inl, inr, ⊎_elim, ℕ, zero, suc, Bool, true, false, List, [], ◌∷◌, ◌++◌, length, Result, Ok, Err, refl, sym, ap, subst, ◌∙◌}
use Rattle.std.specs.Prelude.{codes}
use Rattle.std.proofs.lemmas.Bool.{cases_Bool, false≢true, eqb-false}
use Rattle.std.proofs.Math.Dec.{eqb}
use Rattle.std.specs.List.{flat_map, AllByRecursion}
use Rattle.disk_model.specs.declared.disk.Disk as disk
use Rattle.intake.specs.declared.faults.ArchiveFault.{ArchiveFault}
use Rattle.intake.specs.declared.faults.ArchiveFault.TheVariants.{Stopped, BadSlot, SlotBusy, NameTaken, NoStream, TooLong, SpaceFull, NoCase, Pinned, JournalFull, NumbersSpent, OutOfMemory, Disk, OldVersion}
use Rattle.intake.specs.Durable.{Durable}
use Rattle.intake.specs.Growth.{IsDiskFault}
use Rattle.intake.specs.Parts.{Parts, state_of}
use Rattle.intake.specs.State.{ArchiveState, StreamFacts}
use Rattle.intake.specs.Step.{BeginStep, AbandonStep, FinishStep, DeleteStep, PinStep, LabelStep, UpgradeStep, RetireStep}
use Rattle.retention.specs.declared.Decision.{Decision}
use Rattle.retention.specs.declared.Policy.{Policy}
use Rattle.stream_names.specs.declared.naming.Naming.{Naming}
use Rattle.script_lines.specs.Said.{Said, silence, bad_line, long_line, begin_exec, begin_core, part_of, end_of, drop_of, delete_of, pin_of, label_of, retire_by, list_all_cases, count_free, upgrade_archive, inspect_of, said, raw_length}
use Rattle.script_streams.specs.Replies.{no_reply, ok_reply}
use Rattle.inspector_cli.specs.Reply.{Begins, Replies, TakeStep, query_by}
use Rattle.archive_replies.specs.Texts.{end_reply, plain_reply, retire_reply, dropped_line, unmet_line}
use Rattle.stream_names.specs.Streams.{exec_stream, core_stream}
use Rattle.archive_replies.specs.Reasons.{reason_of}
use Rattle.inspector_cli.specs.Stages.{Stage, Moves, MayLeave}
use Rattle.inspector_cli.specs.Session.{Item, AnswersItems, last_stage, Ending, complete, last_line, cut_part, said_last, EndReplies, LastReplies, Truncates, TakesFront, BreaksOff, AnswersAll, AnswersWhole}
use Rattle.inspector_cli.specs.Runs.{IsClear}
use Rattle.case_queries.specs.InspectLaws.{inspects_leaves}

-- the first byte of a text, and its fourth
abbrev first_of : List ℕ → ℕ
first_of [] = 0
first_of (a ∷ rest) = a

abbrev fourth_of : List ℕ → ℕ
fourth_of (a ∷ b ∷ c ∷ d ∷ rest) = d
fourth_of _ = 0

-- a reply with another first byte is not that of a disk fault, nor is a refusal with another reason
pub first_apart : (reply : List ℕ) → eqb (first_of reply) (first_of (no_reply (codes "Disk"))) ≡ false → reply ≡ no_reply (codes "Disk") → ⊥
first_apart reply apart is = eqb-false (first_of reply) (first_of (no_reply (codes "Disk"))) apart (ap first_of is)

reason_apart : (f : ArchiveFault) → eqb (fourth_of (no_reply (reason_of f))) (fourth_of (no_reply (codes "Disk"))) ≡ false → no_reply (reason_of f) ≡ no_reply (codes "Disk") → f ≡ Disk
reason_apart f apart is = absurd (eqb-false (fourth_of (no_reply (reason_of f))) (fourth_of (no_reply (codes "Disk"))) apart (ap fourth_of is))

-- only a disk fault is told as one
told_as_disk : (f : ArchiveFault) → no_reply (reason_of f) ≡ no_reply (codes "Disk") → f ≡ Disk
told_as_disk Disk is = refl
told_as_disk Stopped is = reason_apart Stopped refl is
told_as_disk BadSlot is = reason_apart BadSlot refl is
told_as_disk SlotBusy is = reason_apart SlotBusy refl is
told_as_disk NameTaken is = reason_apart NameTaken refl is
told_as_disk NoStream is = reason_apart NoStream refl is
told_as_disk TooLong is = reason_apart TooLong refl is
told_as_disk SpaceFull is = reason_apart SpaceFull refl is
told_as_disk NoCase is = reason_apart NoCase refl is
told_as_disk Pinned is = reason_apart Pinned refl is
told_as_disk JournalFull is = reason_apart JournalFull refl is
told_as_disk NumbersSpent is = reason_apart NumbersSpent refl is
told_as_disk OutOfMemory is = reason_apart OutOfMemory refl is
told_as_disk OldVersion is = reason_apart OldVersion refl is

pub end_told : (r : Result ℕ ArchiveFault) → end_reply r ≡ no_reply (codes "Disk") → IsDiskFault r
end_told (Ok seq) is = absurd (first_apart (end_reply (Ok seq)) refl is)
end_told (Err f) is = told_as_disk f is

pub plain_told : (r : Result (Unit {0}) ArchiveFault) → plain_reply r ≡ no_reply (codes "Disk") → IsDiskFault r
plain_told (Ok u) is = absurd (first_apart (plain_reply (Ok u)) refl is)
plain_told (Err f) is = told_as_disk f is

decision_told : (dropped : List ℕ) (unmet : Bool) → flat_map dropped_line dropped ++ (unmet_line unmet ++ ok_reply) ≡ no_reply (codes "Disk") → ⊥
decision_told [] true is = first_apart (unmet_line true ++ ok_reply) refl is
decision_told [] false is = first_apart (unmet_line false ++ ok_reply) refl is
decision_told (seq ∷ seqs) unmet is = first_apart (flat_map dropped_line (seq ∷ seqs) ++ (unmet_line unmet ++ ok_reply)) refl is

pub retire_told : (r : Result Decision ArchiveFault) → retire_reply r ≡ no_reply (codes "Disk") → IsDiskFault r
retire_told (Ok d) is = decision_told d.dropped.items d.unmet is
retire_told (Err f) is = told_as_disk f is

-- a disk fault stops the archive
pub finish_stops : (old new : ArchiveState) (slot : ℕ) (r : Result ℕ ArchiveFault) → FinishStep old slot r new → IsDiskFault r → new.stopped ≡ true
finish_stops old new slot (Ok seq) step is = absurd is
finish_stops old new slot (Err f) step is = ap (λ (b : ArchiveState). b.stopped) (subst (λ (x : ArchiveFault). FinishStep old slot (Err x) new) is step).2

pub delete_stops : (old new : ArchiveState) (seq : ℕ) (r : Result (Unit {0}) ArchiveFault) → DeleteStep old seq r new → IsDiskFault r → new.stopped ≡ true
delete_stops old new seq (Ok u) step is = absurd is
delete_stops old new seq (Err f) step is = ap (λ (b : ArchiveState). b.stopped) (subst (λ (x : ArchiveFault). DeleteStep old seq (Err x) new) is step).4

pub pin_stops : (old new : ArchiveState) (seq : ℕ) (flag : Bool) (r : Result (Unit {0}) ArchiveFault) → PinStep old seq flag r new → IsDiskFault r → new.stopped ≡ true
pin_stops old new seq flag (Ok u) step is = absurd is
pin_stops old new seq flag (Err f) step is = ap (λ (b : ArchiveState). b.stopped) (subst (λ (x : ArchiveFault). PinStep old seq flag (Err x) new) is step).4

pub label_stops : (old new : ArchiveState) (seq : ℕ) (label : List ℕ) (r : Result (Unit {0}) ArchiveFault) → LabelStep old seq label r new → IsDiskFault r → new.stopped ≡ true
label_stops old new seq label (Ok u) step is = absurd is
label_stops old new seq label (Err f) step is = ap (λ (b : ArchiveState). b.stopped) (subst (λ (x : ArchiveFault). LabelStep old seq label (Err x) new) is step).4

pub upgrade_stops : (old new : ArchiveState) (r : Result (Unit {0}) ArchiveFault) → UpgradeStep old r new → IsDiskFault r → new.stopped ≡ true
upgrade_stops old new (Ok u) step is = absurd is
upgrade_stops old new (Err f) step is = ap (λ (b : ArchiveState). b.stopped) (subst (λ (x : ArchiveFault). UpgradeStep old (Err x) new) is step).2

pub retire_stops : (old new : ArchiveState) (policy : Policy) (r : Result Decision ArchiveFault) → RetireStep old policy r new → IsDiskFault r → new.stopped ≡ true
retire_stops old new policy (Ok d) step is = absurd is
retire_stops old new policy (Err f) step is = ap (λ (b : ArchiveState). b.stopped) (subst (λ (x : ArchiveFault). RetireStep old policy (Err x) new) is step).4

-- a stopped archive stays so
begin_stays : (old new : ArchiveState) (slot : ℕ) (s : StreamFacts) (r : Result (Unit {0}) ArchiveFault) → BeginStep old slot s r new → old.stopped ≡ true → new.stopped ≡ true
begin_stays old new slot s (Ok x) step stopped = ap (λ (b : ArchiveState). b.stopped) step.1 ∙ stopped
begin_stays old new slot s (Err Stopped) step stopped = ap (λ (b : ArchiveState). b.stopped) step.1 ∙ stopped
begin_stays old new slot s (Err BadSlot) step stopped = ap (λ (b : ArchiveState). b.stopped) step.2 ∙ stopped
begin_stays old new slot s (Err SlotBusy) step stopped = ap (λ (b : ArchiveState). b.stopped) step.3 ∙ stopped
begin_stays old new slot s (Err NameTaken) step stopped = ap (λ (b : ArchiveState). b.stopped) step.4 ∙ stopped
begin_stays old new slot s (Err OutOfMemory) step stopped = ap (λ (b : ArchiveState). b.stopped) step.1 ∙ stopped
begin_stays old new slot s (Err _) step stopped = absurd step

take_stays : (old new : ArchiveState) (slot n : ℕ) (r : Result (Unit {0}) ArchiveFault) → TakeStep old slot n r new → old.stopped ≡ true → new.stopped ≡ true
take_stays old new slot n (Ok x) step stopped = ap (λ (b : ArchiveState). b.stopped) step.4 ∙ stopped
take_stays old new slot n (Err Stopped) step stopped = ap (λ (b : ArchiveState). b.stopped) step.1 ∙ stopped
take_stays old new slot n (Err NoStream) step stopped = ap (λ (b : ArchiveState). b.stopped) step.2 ∙ stopped
take_stays old new slot n (Err TooLong) step stopped = ap (λ (b : ArchiveState). b.stopped) step.4 ∙ stopped
take_stays old new slot n (Err SpaceFull) step stopped = ap (λ (b : ArchiveState). b.stopped) step.6 ∙ stopped
take_stays old new slot n (Err OutOfMemory) step stopped = ap (λ (b : ArchiveState). b.stopped) step.5 ∙ stopped
take_stays old new slot n (Err Disk) step stopped = ap (λ (b : ArchiveState). b.stopped) step.5
take_stays old new slot n (Err _) step stopped = absurd step

finish_stays : (old new : ArchiveState) (slot : ℕ) (r : Result ℕ ArchiveFault) → FinishStep old slot r new → old.stopped ≡ true → new.stopped ≡ true
finish_stays old new slot (Ok x) step stopped = ap (λ (b : ArchiveState). b.stopped) step.7 ∙ stopped
finish_stays old new slot (Err Stopped) step stopped = ap (λ (b : ArchiveState). b.stopped) step.1 ∙ stopped
finish_stays old new slot (Err NoStream) step stopped = ap (λ (b : ArchiveState). b.stopped) step.2 ∙ stopped
finish_stays old new slot (Err SpaceFull) step stopped = ap (λ (b : ArchiveState). b.stopped) step.5 ∙ stopped
finish_stays old new slot (Err JournalFull) step stopped = ap (λ (b : ArchiveState). b.stopped) step.5 ∙ stopped
finish_stays old new slot (Err NumbersSpent) step stopped = ap (λ (b : ArchiveState). b.stopped) step.6 ∙ stopped
finish_stays old new slot (Err OutOfMemory) step stopped = ap (λ (b : ArchiveState). b.stopped) step.2 ∙ stopped
finish_stays old new slot (Err Disk) step stopped = ap (λ (b : ArchiveState). b.stopped) step.2
finish_stays old new slot (Err _) step stopped = absurd step

abandon_stays : (old new : ArchiveState) (slot : ℕ) (r : Result (Unit {0}) ArchiveFault) → AbandonStep old slot r new → old.stopped ≡ true → new.stopped ≡ true
abandon_stays old new slot (Ok x) step stopped = ap (λ (b : ArchiveState). b.stopped) step.2 ∙ stopped
abandon_stays old new slot (Err Stopped) step stopped = ap (λ (b : ArchiveState). b.stopped) step.1 ∙ stopped
abandon_stays old new slot (Err NoStream) step stopped = ap (λ (b : ArchiveState). b.stopped) step.2 ∙ stopped
abandon_stays old new slot (Err _) step stopped = absurd step

delete_stays : (old new : ArchiveState) (seq : ℕ) (r : Result (Unit {0}) ArchiveFault) → DeleteStep old seq r new → old.stopped ≡ true → new.stopped ≡ true
delete_stays old new seq (Ok x) step stopped = ap (λ (b : ArchiveState). b.stopped) step.4 ∙ stopped
delete_stays old new seq (Err Stopped) step stopped = ap (λ (b : ArchiveState). b.stopped) step.1 ∙ stopped
delete_stays old new seq (Err NoCase) step stopped = ap (λ (b : ArchiveState). b.stopped) step.2 ∙ stopped
delete_stays old new seq (Err Pinned) step stopped = ap (λ (b : ArchiveState). b.stopped) step.3 ∙ stopped
delete_stays old new seq (Err JournalFull) step stopped = ap (λ (b : ArchiveState). b.stopped) step.4 ∙ stopped
delete_stays old new seq (Err OutOfMemory) step stopped = ap (λ (b : ArchiveState). b.stopped) step.4 ∙ stopped
delete_stays old new seq (Err Disk) step stopped = ap (λ (b : ArchiveState). b.stopped) step.4
delete_stays old new seq (Err _) step stopped = absurd step

pin_stays : (old new : ArchiveState) (seq : ℕ) (flag : Bool) (r : Result (Unit {0}) ArchiveFault) → PinStep old seq flag r new → old.stopped ≡ true → new.stopped ≡ true
pin_stays old new seq flag (Ok x) step stopped = ⊎_elim (λ same. ap (λ (b : ArchiveState). b.stopped) same.1 ∙ stopped) (λ more. ap (λ (b : ArchiveState). b.stopped) more.2 ∙ stopped) step.2
pin_stays old new seq flag (Err Stopped) step stopped = ap (λ (b : ArchiveState). b.stopped) step.1 ∙ stopped
pin_stays old new seq flag (Err NoCase) step stopped = ap (λ (b : ArchiveState). b.stopped) step.2 ∙ stopped
pin_stays old new seq flag (Err JournalFull) step stopped = ap (λ (b : ArchiveState). b.stopped) step.4 ∙ stopped
pin_stays old new seq flag (Err OutOfMemory) step stopped = ap (λ (b : ArchiveState). b.stopped) step.4 ∙ stopped
pin_stays old new seq flag (Err Disk) step stopped = ap (λ (b : ArchiveState). b.stopped) step.4
pin_stays old new seq flag (Err _) step stopped = absurd step

label_stays : (old new : ArchiveState) (seq : ℕ) (label : List ℕ) (r : Result (Unit {0}) ArchiveFault) → LabelStep old seq label r new → old.stopped ≡ true → new.stopped ≡ true
label_stays old new seq label (Ok x) step stopped = ⊎_elim (λ same. ap (λ (b : ArchiveState). b.stopped) same.1 ∙ stopped) (λ more. ap (λ (b : ArchiveState). b.stopped) more.2 ∙ stopped) step.2
label_stays old new seq label (Err Stopped) step stopped = ap (λ (b : ArchiveState). b.stopped) step.1 ∙ stopped
label_stays old new seq label (Err NoCase) step stopped = ap (λ (b : ArchiveState). b.stopped) step.2 ∙ stopped
label_stays old new seq label (Err OldVersion) step stopped = ap (λ (b : ArchiveState). b.stopped) step.3 ∙ stopped
label_stays old new seq label (Err JournalFull) step stopped = ap (λ (b : ArchiveState). b.stopped) step.4 ∙ stopped
label_stays old new seq label (Err OutOfMemory) step stopped = ap (λ (b : ArchiveState). b.stopped) step.4 ∙ stopped
label_stays old new seq label (Err Disk) step stopped = ap (λ (b : ArchiveState). b.stopped) step.4
label_stays old new seq label (Err _) step stopped = absurd step

upgrade_stays : (old new : ArchiveState) (r : Result (Unit {0}) ArchiveFault) → UpgradeStep old r new → old.stopped ≡ true → new.stopped ≡ true
upgrade_stays old new (Ok x) step stopped = absurd (false≢true (sym step.0 ∙ stopped))
upgrade_stays old new (Err Stopped) step stopped = ap (λ (b : ArchiveState). b.stopped) step.1 ∙ stopped
upgrade_stays old new (Err JournalFull) step stopped = ap (λ (b : ArchiveState). b.stopped) step.2 ∙ stopped
upgrade_stays old new (Err OutOfMemory) step stopped = ap (λ (b : ArchiveState). b.stopped) step.2 ∙ stopped
upgrade_stays old new (Err Disk) step stopped = ap (λ (b : ArchiveState). b.stopped) step.2
upgrade_stays old new (Err _) step stopped = absurd step

retire_stays : (old new : ArchiveState) (policy : Policy) (r : Result Decision ArchiveFault) → RetireStep old policy r new → old.stopped ≡ true → new.stopped ≡ true
retire_stays old new policy (Ok x) step stopped = ⊎_elim (λ same. ap (λ (b : ArchiveState). b.stopped) same.1 ∙ stopped) (λ more. ap (λ (b : ArchiveState). b.stopped) more.2 ∙ stopped) step.2
retire_stays old new policy (Err Stopped) step stopped = ap (λ (b : ArchiveState). b.stopped) step.1 ∙ stopped
retire_stays old new policy (Err JournalFull) step stopped = ap (λ (b : ArchiveState). b.stopped) step.4 ∙ stopped
retire_stays old new policy (Err OutOfMemory) step stopped = ap (λ (b : ArchiveState). b.stopped) step.1 ∙ stopped
retire_stays old new policy (Err Disk) step stopped = ap (λ (b : ArchiveState). b.stopped) step.4
retire_stays old new policy (Err _) step stopped = absurd step

module _ {D : Type 0} (g : disk.Ghosts D) where
  -- A stopped archive stays so; and where anything is in doubt because of the reply, the archive is stopped.
  abbrev pub Halts : Parts D → Said → List ℕ → Parts D → Type 0
  Halts old what reply new =
      (old.stopped ≡ true → new.stopped ≡ true)
      × ((doubts : List Durable) → reply ≡ no_reply (codes "Disk") → AllByRecursion (MayLeave g old what) doubts → (doubts ≡ []) ⊎ (new.stopped ≡ true))

  no_doubts : (P : Durable → Type 0) (doubts : List Durable) → ((x : Durable) → P x → ⊥) → AllByRecursion P doubts → doubts ≡ []
  no_doubts P [] none all = refl
  no_doubts P (x ∷ xs) none all = absurd (none x all.0)

  same_stops : (old new : Parts D) → new ≡ old → old.stopped ≡ true → new.stopped ≡ true
  same_stops old new is stopped = ap (λ (x : Parts D). x.stopped) is ∙ stopped

  begins_stay : (old new : Parts D) (slot : ℕ) (found : Result StreamFacts (List ℕ)) (reply : List ℕ) (accepted : Bool) → Begins g old slot found reply new accepted
      → old.stopped ≡ true → new.stopped ≡ true
  begins_stay old new slot (Ok s) reply accepted begins = begin_stays (state_of old) (state_of new) slot s begins.0 begins.1.step
  begins_stay old new slot (Err reason) reply accepted begins = same_stops old new begins.1

  -- a line that changes no case leaves nothing in doubt
  still : (old new : Parts D) (what : Said) (reply : List ℕ) → ((x : Durable) → MayLeave g old what x → ⊥) → (old.stopped ≡ true → new.stopped ≡ true) → Halts old what reply new
  still old new what reply none stays = (stays, λ doubts told all. inl (no_doubts (MayLeave g old what) doubts none all))

  pub line_halts : (naming : Naming) (old new : Parts D) (what : Said) (raw reply : List ℕ) → Replies g naming old what raw reply new → Halts old what reply new
  line_halts naming old new silence raw reply r = still old new silence reply (λ x none. none) (same_stops old new r.1)
  line_halts naming old new bad_line raw reply r = still old new bad_line reply (λ x none. none) (same_stops old new r.1)
  line_halts naming old new long_line raw reply r = still old new long_line reply (λ x none. none) (same_stops old new r.1)
  line_halts naming old new (begin_exec slot name) raw reply r = still old new (begin_exec slot name) reply (λ x none. none) (begins_stay old new slot (exec_stream name) reply r.0 r.1)
  line_halts naming old new (begin_core slot process) raw reply r = still old new (begin_core slot process) reply (λ x none. none) (begins_stay old new slot (core_stream naming process) reply r.0 r.1)
  line_halts naming old new (part_of slot n) raw reply r = still old new (part_of slot n) reply (λ x none. none) (take_stays (state_of old) (state_of new) slot (length raw) r.0 r.1.step)
  line_halts naming old new (end_of slot) raw reply r = (
    finish_stays (state_of old) (state_of new) slot r.1.0 r.1.1.step,
    λ doubts told all. inr (finish_stops (state_of old) (state_of new) slot r.1.0 r.1.1.step (end_told r.1.0 (sym r.1.2 ∙ told))),
  )
  line_halts naming old new (drop_of slot) raw reply r = still old new (drop_of slot) reply (λ x none. none) (abandon_stays (state_of old) (state_of new) slot r.0 r.1.step)
  line_halts naming old new (delete_of seq) raw reply r = (
    delete_stays (state_of old) (state_of new) seq r.0 r.1.step,
    λ doubts told all. inr (delete_stops (state_of old) (state_of new) seq r.0 r.1.step (plain_told r.0 (sym r.2 ∙ told))),
  )
  line_halts naming old new (pin_of seq flag) raw reply r = (
    pin_stays (state_of old) (state_of new) seq flag r.0 r.1.step,
    λ doubts told all. inr (pin_stops (state_of old) (state_of new) seq flag r.0 r.1.step (plain_told r.0 (sym r.2 ∙ told))),
  )
  line_halts naming old new (label_of seq label) raw reply r = (
    label_stays (state_of old) (state_of new) seq label r.0 r.1.step,
    λ doubts told all. inr (label_stops (state_of old) (state_of new) seq label r.0 r.1.step (plain_told r.0 (sym r.2 ∙ told))),
  )
  line_halts naming old new upgrade_archive raw reply r = (
    upgrade_stays (state_of old) (state_of new) r.0 r.1.step,
    λ doubts told all. inr (upgrade_stops (state_of old) (state_of new) r.0 r.1.step (plain_told r.0 (sym r.2 ∙ told))),
  )
  line_halts naming old new (retire_by policy) raw reply r = (
    retire_stays (state_of old) (state_of new) policy r.0 r.1.step,
    λ doubts told all. inr (retire_stops (state_of old) (state_of new) policy r.0 r.1.step (retire_told r.0 (sym r.2 ∙ told))),
  )
  line_halts naming old new list_all_cases raw reply r = still old new list_all_cases reply (λ x none. none) (same_stops old new r.1)
  line_halts naming old new count_free raw reply r = still old new count_free reply (λ x none. none) (same_stops old new r.3)
  line_halts naming old new (inspect_of seq query) raw reply r = still old new (inspect_of seq query) reply (λ x none. none) (inspects_leaves g old seq (query_by naming query) reply new r).halts

  cut_halts : (old new : Parts D) (what : Said) (raw reply : List ℕ) → Truncates g old what raw reply new → Halts old what reply new
  cut_halts old new (part_of slot n) raw reply cut =
      still old new (part_of slot n) reply (λ x none. none)
      (λ stopped. abandon_stays (state_of cut.0) (state_of new) slot cut.2 cut.4.step (take_stays (state_of old) (state_of cut.0) slot (length raw) cut.1 cut.3.step stopped))
  cut_halts old new _ raw reply cut = absurd cut

  last_halts : (naming : Naming) (n : ℕ) (old new : Parts D) (what : Said) (reply : List ℕ) → LastReplies g naming n old what reply new → Halts old what reply new
  last_halts naming zero old new what reply r = line_halts naming old new what [] reply r
  last_halts naming (suc n) old new what reply r = cut_halts old new what [] reply r

  pub end_halts : (naming : Naming) (old new : Parts D) (e : Ending) (reply : List ℕ) → EndReplies g naming old e reply new → Halts old (said_last e) reply new
  end_halts naming old new complete reply r = still old new silence reply (λ x none. none) (same_stops old new r.1)
  end_halts naming old new (last_line line) reply r = last_halts naming (raw_length (said line)) old new (said line) reply r
  end_halts naming old new (cut_part line raw) reply r = cut_halts old new (said line) raw reply r

  front_stays : (old new : Parts D) (what : Said) (raw : List ℕ) → TakesFront g old what raw new → old.stopped ≡ true → new.stopped ≡ true
  front_stays old new (part_of slot n) raw front = take_stays (state_of old) (state_of new) slot (length raw) front.0 front.1.step
  front_stays old new _ raw front = absurd front

  pub broken_halts : (old new : Parts D) (rest : List ℕ) → BreaksOff g old rest new → Halts old silence [] new
  broken_halts old new rest broken =
      still old new silence [] (λ x none. none) (⊎_elim (λ none. same_stops old new none.1) (λ cut. front_stays old new (said cut.0) cut.1 cut.5) broken)

  -- a line leaves nothing in doubt, unless it stops the archive
  pub clear_on : (old new : Stage D) (what : Said) (reply : List ℕ) → IsClear old → Halts old.archive what reply new.archive → Moves g old what reply new → IsClear new
  clear_on old new what reply clear halts moves runs =
      let wrong : new.archive.stopped ≡ true → ⊥ = λ stopped. false≢true (sym runs ∙ stopped) in
      let ran : old.archive.stopped ≡ false = ⊎_elim (λ stopped. absurd (wrong (halts.0 stopped))) (λ is. is) (cases_Bool old.archive.stopped) in
      let none : moves.doubts ≡ [] = ⊎_elim (λ is. is) (λ told. ⊎_elim (λ is. is) (λ stopped. absurd (wrong stopped)) (halts.1 moves.doubts told.0 told.1)) moves.doubted in
      moves.in_doubt ∙ ap (λ (x : List Durable). x ++ old.in_doubt) none ∙ clear ran

  run_clear : (naming : Naming) (old : Stage D) (is : List Item) (out : List ℕ) (ss : List (Stage D)) → IsClear old → AnswersItems g naming old is out ss → AllByRecursion IsClear ss × IsClear (last_stage old ss)
  run_clear naming old [] out [] clear run = (tt, clear)
  run_clear naming old [] out (s ∷ ss) clear run = absurd run
  run_clear naming old (i ∷ is) out [] clear run = absurd run
  run_clear naming old (i ∷ is) out (s ∷ ss) clear run =
      let next = clear_on old s (said i.line) run.0 clear (line_halts naming old.archive s.archive (said i.line) i.raw run.0 run.2) run.3 in
      let more = run_clear naming s is run.1 ss next run.4 in
      ((next, more.0), more.1)

  pub all_clear : (naming : Naming) (read out : List ℕ) (old : Stage D) (stages : List (Stage D)) (end : Stage D) → IsClear old
      → AnswersAll g naming read out old stages end ⊎ AnswersWhole g naming read out old stages end → AllByRecursion IsClear stages × IsClear end
  all_clear naming read out old stages end clear answers =
      ⊎_elim
      (λ (a : AnswersAll g naming read out old stages end).
      (let run = run_clear naming old a.items a.replies stages clear a.run in (
        run.0,
        clear_on (last_stage old stages) end (said_last a.ending) a.last run.1 (end_halts naming (last_stage old stages).archive end.archive a.ending a.last a.final) a.moves,
      )))
      (λ (a : AnswersWhole g naming read out old stages end).
      (let run = run_clear naming old a.items out stages clear a.run in (
        run.0,
        clear_on (last_stage old stages) end silence [] run.1 (broken_halts (last_stage old stages).archive end.archive a.rest a.broken) a.moves,
      )))
      answers
