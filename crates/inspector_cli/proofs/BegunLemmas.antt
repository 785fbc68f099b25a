-- The stream that stands in a slot, as it began, told by the replies.
use Rattle.std.proofs.Common.{◌≡◌, ◌⊎◌, inl, inr, ⊎_elim, ℕ, ◌==◌, Bool, true, cond, List, Option, Some, None, Result, Ok, Err, refl, sym, ap, subst, ◌∙◌}
use Rattle.std.specs.Prelude.{option_map, slice_set}
use Rattle.std.specs.Result.{result_ok}
use Rattle.disk_model.specs.declared.disk.Disk as disk
use Rattle.intake.specs.Parts.{Parts, state_of}
use Rattle.intake.specs.Slots.{stream_at}
use Rattle.intake.specs.State.{ArchiveState, StreamFacts}
use Rattle.intake.specs.Step.{BeginStep, FinishStep, AbandonStep, DeleteStep, PinStep, LabelStep, UpgradeStep, RetireStep}
use Rattle.intake.specs.declared.faults.ArchiveFault.{ArchiveFault}
use Rattle.intake.specs.declared.faults.ArchiveFault.TheVariants.{Stopped, BadSlot, SlotBusy, NameTaken, NoStream, TooLong, SpaceFull, NoCase, Pinned, JournalFull, NumbersSpent, OutOfMemory, Disk, OldVersion}
use Rattle.retention.specs.declared.Decision.{Decision}
use Rattle.retention.specs.declared.Policy.{Policy}
use Rattle.stream_names.specs.declared.naming.Naming.{Naming}
use Rattle.stream_names.specs.Streams.{exec_stream, core_stream}
use Rattle.script_lines.specs.Said.{Said, silence, bad_line, long_line, begin_exec, begin_core, part_of, end_of, drop_of, delete_of, pin_of, label_of, retire_by, list_all_cases, count_free, upgrade_archive, inspect_of}
use Rattle.case_queries.specs.InspectLaws.{inspects_leaves}
use Rattle.inspector_cli.specs.Headline.{begins_as, begun_then, empty_stream}
use Rattle.inspector_cli.specs.Reply.{Begins, Replies, TakeStep, query_by}
use Rattle.inspector_cli.specs.Told.{is_no}
use Rattle.inspector_cli.proofs.HeldLemmas.{chosen, same_set, other_set, cleared}
use Rattle.inspector_cli.proofs.SlotLemmas.{at_set}

-- the streams are as they were, or the archive is stopped
abbrev Keeps : ArchiveState → ArchiveState → Type 0
Keeps old new = (new.streams ≡ old.streams) ⊎ (new.stopped ≡ true)

same : (old new : ArchiveState) → new ≡ old → Keeps old new
same old new is = inl (ap (λ (s : ArchiveState). s.streams) is)

delete_keeps : (old new : ArchiveState) (seq : ℕ) (r : Result (Unit {0}) ArchiveFault) → DeleteStep old seq r new → Keeps old new
delete_keeps old new seq (Ok u) step = inl (ap (λ (s : ArchiveState). s.streams) step.4)
delete_keeps old new seq (Err Stopped) step = same old new step.1
delete_keeps old new seq (Err NoCase) step = same old new step.2
delete_keeps old new seq (Err Pinned) step = same old new step.3
delete_keeps old new seq (Err JournalFull) step = same old new step.4
delete_keeps old new seq (Err OutOfMemory) step = same old new step.4
delete_keeps old new seq (Err Disk) step = inr (ap (λ (s : ArchiveState). s.stopped) step.4)
delete_keeps old new seq (Err _) step = absurd step

pin_keeps : (old new : ArchiveState) (seq : ℕ) (flag : Bool) (r : Result (Unit {0}) ArchiveFault) → PinStep old seq flag r new → Keeps old new
pin_keeps old new seq flag (Ok u) step = ⊎_elim (λ no. same old new no.1) (λ set. inl (ap (λ (s : ArchiveState). s.streams) set.2)) step.2
pin_keeps old new seq flag (Err Stopped) step = same old new step.1
pin_keeps old new seq flag (Err NoCase) step = same old new step.2
pin_keeps old new seq flag (Err JournalFull) step = same old new step.4
pin_keeps old new seq flag (Err OutOfMemory) step = same old new step.4
pin_keeps old new seq flag (Err Disk) step = inr (ap (λ (s : ArchiveState). s.stopped) step.4)
pin_keeps old new seq flag (Err _) step = absurd step

label_keeps : (old new : ArchiveState) (seq : ℕ) (text : List ℕ) (r : Result (Unit {0}) ArchiveFault) → LabelStep old seq text r new → Keeps old new
label_keeps old new seq text (Ok u) step = ⊎_elim (λ no. same old new no.1) (λ set. inl (ap (λ (s : ArchiveState). s.streams) set.2)) step.2
label_keeps old new seq text (Err Stopped) step = same old new step.1
label_keeps old new seq text (Err NoCase) step = same old new step.2
label_keeps old new seq text (Err OldVersion) step = same old new step.3
label_keeps old new seq text (Err JournalFull) step = same old new step.4
label_keeps old new seq text (Err OutOfMemory) step = same old new step.4
label_keeps old new seq text (Err Disk) step = inr (ap (λ (s : ArchiveState). s.stopped) step.4)
label_keeps old new seq text (Err _) step = absurd step

upgrade_keeps : (old new : ArchiveState) (r : Result (Unit {0}) ArchiveFault) → UpgradeStep old r new → Keeps old new
upgrade_keeps old new (Ok u) step = ⊎_elim (λ no. same old new no.1) (λ set. inl (ap (λ (s : ArchiveState). s.streams) set.2)) step.1
upgrade_keeps old new (Err Stopped) step = same old new step.1
upgrade_keeps old new (Err JournalFull) step = same old new step.2
upgrade_keeps old new (Err OutOfMemory) step = same old new step.2
upgrade_keeps old new (Err Disk) step = inr (ap (λ (s : ArchiveState). s.stopped) step.2)
upgrade_keeps old new (Err _) step = absurd step

retire_keeps : (old new : ArchiveState) (policy : Policy) (r : Result Decision ArchiveFault) → RetireStep old policy r new → Keeps old new
retire_keeps old new policy (Ok d) step = ⊎_elim (λ no. same old new no.1) (λ set. inl (ap (λ (s : ArchiveState). s.streams) set.2)) step.2
retire_keeps old new policy (Err Stopped) step = same old new step.1
retire_keeps old new policy (Err JournalFull) step = same old new step.4
retire_keeps old new policy (Err OutOfMemory) step = same old new step.1
retire_keeps old new policy (Err Disk) step = inr (ap (λ (s : ArchiveState). s.stopped) step.4)
retire_keeps old new policy (Err _) step = absurd step

-- what a slot of these streams holds, as it began
abbrev pub begun_of : List (Option StreamFacts) → ℕ → Option StreamFacts
begun_of xs slot = option_map empty_stream (stream_at xs slot)

module _ (slot : ℕ) where
  -- The stream in the slot began as this, unless the archive is stopped.
  abbrev pub IsBegun : ArchiveState → Option StreamFacts → Type 0
  IsBegun s o = (s.stopped ≡ true) ⊎ (begun_of s.streams slot ≡ o)

  kept : (old new : ArchiveState) → Keeps old new → IsBegun new (begun_of old.streams slot)
  kept old new keeps = ⊎_elim (λ is. inr (ap (λ (xs : List (Option StreamFacts)). begun_of xs slot) is)) (λ stopped. inl stopped) keeps

  unmoved : {D : Type 0} (old new : Parts D) → new ≡ old → IsBegun (state_of new) (begun_of (state_of old).streams slot)
  unmoved old new is = inr (ap (λ (a : Parts _). begun_of (state_of a).streams slot) is)

  module _ (old new : ArchiveState) (s : ℕ) where
    -- a slot is emptied
    emptied : new.streams ≡ slice_set old.streams s None → IsBegun new (cond (s == slot) None (begun_of old.streams slot))
    emptied is =
        inr (chosen s slot (λ (o : Option StreamFacts). begun_of new.streams slot ≡ o) None (begun_of old.streams slot)
        (λ here. ap (λ (xs : List (Option StreamFacts)). begun_of xs slot) is
        ∙ ap (option_map empty_stream) (subst (λ (j : ℕ). stream_at (slice_set old.streams s None) j ≡ None) here (cleared old.streams s)))
        (λ apart. ap (λ (xs : List (Option StreamFacts)). begun_of xs slot) is ∙ ap (option_map empty_stream) (other_set old.streams s slot None apart)))

    -- nothing stood there
    none_there : new.streams ≡ old.streams → stream_at old.streams s ≡ None → IsBegun new (cond (s == slot) None (begun_of old.streams slot))
    none_there is nothing =
        inr (chosen s slot (λ (o : Option StreamFacts). begun_of new.streams slot ≡ o) None (begun_of old.streams slot)
        (λ here. ap (λ (xs : List (Option StreamFacts)). begun_of xs slot) is ∙ ap (option_map empty_stream) (subst (λ (j : ℕ). stream_at old.streams j ≡ None) here nothing))
        (λ apart. ap (λ (xs : List (Option StreamFacts)). begun_of xs slot) is))

    -- it is as it was
    as_it_was : new.streams ≡ old.streams → IsBegun new (cond (s == slot) (begun_of old.streams slot) (begun_of old.streams slot))
    as_it_was is =
        inr (chosen s slot (λ (o : Option StreamFacts). begun_of new.streams slot ≡ o) (begun_of old.streams slot) (begun_of old.streams slot)
        (λ here. ap (λ (xs : List (Option StreamFacts)). begun_of xs slot) is) (λ apart. ap (λ (xs : List (Option StreamFacts)). begun_of xs slot) is))

    -- a stream that grew began as it did
    grown : (f f' : StreamFacts) → stream_at old.streams s ≡ Some f → empty_stream f' ≡ empty_stream f → new.streams ≡ slice_set old.streams s (Some f')
        → IsBegun new (cond (s == slot) (begun_of old.streams slot) (begun_of old.streams slot))
    grown f f' there alike is =
        inr (chosen s slot (λ (o : Option StreamFacts). begun_of new.streams slot ≡ o) (begun_of old.streams slot) (begun_of old.streams slot)
        (λ here.
        (let was : stream_at old.streams slot ≡ Some f = subst (λ (j : ℕ). stream_at old.streams j ≡ Some f) here there in
        ap (λ (xs : List (Option StreamFacts)). begun_of xs slot) is
        ∙ ap (option_map empty_stream) (subst (λ (j : ℕ). stream_at (slice_set old.streams s (Some f')) j ≡ Some f') here (at_set old.streams s f (Some f') there))
        ∙ ap Some alike
        ∙ sym (ap (option_map empty_stream) was)))
        (λ apart. ap (λ (xs : List (Option StreamFacts)). begun_of xs slot) is ∙ ap (option_map empty_stream) (other_set old.streams s slot (Some f') apart)))

begin_same : (old new : ArchiveState) (slot : ℕ) (s : StreamFacts) (f : ArchiveFault) → BeginStep old slot s (Err f) new → new ≡ old
begin_same old new slot s Stopped step = step.1
begin_same old new slot s BadSlot step = step.2
begin_same old new slot s SlotBusy step = step.3
begin_same old new slot s NameTaken step = step.4
begin_same old new slot s OutOfMemory step = step.1
begin_same old new slot s _ step = absurd step

streams_as : (old new : ArchiveState) → new ≡ old → new.streams ≡ old.streams
streams_as old new is = ap (λ (s : ArchiveState). s.streams) is

stops_as : (old new : ArchiveState) → new ≡ old → old.stopped ≡ true → new.stopped ≡ true
stops_as old new is stopped = ap (λ (s : ArchiveState). s.stopped) is ∙ stopped

module _ {D : Type 0} (g : disk.Ghosts D) (slot : ℕ) where
  begins_begun : (old new : Parts D) (s : ℕ) (found : Result StreamFacts (List ℕ)) (reply : List ℕ) (accepted : Bool) → Begins g old s found reply new accepted
      → IsBegun slot (state_of new)
      (cond (s == slot) (cond (is_no reply) (begun_of (state_of old).streams slot) (option_map empty_stream (result_ok found))) (begun_of (state_of old).streams slot))
  begins_begun old new s (Err reason) reply accepted b =
      subst
      (λ (t : Bool). IsBegun slot (state_of new) (cond (s == slot) (cond t (begun_of (state_of old).streams slot) None) (begun_of (state_of old).streams slot))) (sym (ap is_no b.0))
      (as_it_was slot (state_of old) (state_of new) s (ap (λ (a : Parts D). (state_of a).streams) b.1))
  begins_begun old new s (Ok stream) reply accepted (Ok u, call, told, is) =
      subst
      (λ (t : Bool). IsBegun slot (state_of new) (cond (s == slot) (cond t (begun_of (state_of old).streams slot) (Some (empty_stream stream))) (begun_of (state_of old).streams slot))) (sym (ap is_no told))
      (inr (chosen s slot (λ (o : Option StreamFacts). begun_of (state_of new).streams slot ≡ o) (Some (empty_stream stream)) (begun_of (state_of old).streams slot)
      (λ here. ap (λ (b : ArchiveState). begun_of b.streams slot) call.step.1 ∙ ap (option_map empty_stream) (same_set (state_of old).streams s slot (Some stream) here call.step.0.1))
      (λ apart. ap (λ (b : ArchiveState). begun_of b.streams slot) call.step.1 ∙ ap (option_map empty_stream) (other_set (state_of old).streams s slot (Some stream) apart))))
  begins_begun old new s (Ok stream) reply accepted (Err f, call, told, is) =
      subst
      (λ (t : Bool). IsBegun slot (state_of new) (cond (s == slot) (cond t (begun_of (state_of old).streams slot) (Some (empty_stream stream))) (begun_of (state_of old).streams slot))) (sym (ap is_no told))
      (as_it_was slot (state_of old) (state_of new) s (streams_as (state_of old) (state_of new) (begin_same (state_of old) (state_of new) s stream f call.step)))

  refused_begun : (old new : ArchiveState) (s n : ℕ) (f : ArchiveFault) → TakeStep old s n (Err f) new → IsBegun slot new (cond (s == slot) None (begun_of old.streams slot))
  refused_begun old new s n Stopped step = inl (stops_as old new step.1 step.0)
  refused_begun old new s n NoStream step = none_there slot old new s (streams_as old new step.2) step.1
  refused_begun old new s n TooLong step = emptied slot old new s (ap (λ (b : ArchiveState). b.streams) step.4)
  refused_begun old new s n SpaceFull step = emptied slot old new s (ap (λ (b : ArchiveState). b.streams) step.6)
  refused_begun old new s n OutOfMemory step = emptied slot old new s (ap (λ (b : ArchiveState). b.streams) step.5)
  refused_begun old new s n Disk step = inl (ap (λ (b : ArchiveState). b.stopped) step.5)
  refused_begun old new s n _ step = absurd step

  ended_begun : (old new : ArchiveState) (s : ℕ) (r : Result ℕ ArchiveFault) → FinishStep old s r new → IsBegun slot new (cond (s == slot) None (begun_of old.streams slot))
  ended_begun old new s (Ok seq) step = emptied slot old new s (ap (λ (b : ArchiveState). b.streams) step.7)
  ended_begun old new s (Err Stopped) step = inl (stops_as old new step.1 step.0)
  ended_begun old new s (Err NoStream) step = none_there slot old new s (streams_as old new step.2) step.1
  ended_begun old new s (Err SpaceFull) step = emptied slot old new s (ap (λ (b : ArchiveState). b.streams) step.5)
  ended_begun old new s (Err JournalFull) step = emptied slot old new s (ap (λ (b : ArchiveState). b.streams) step.5)
  ended_begun old new s (Err NumbersSpent) step = emptied slot old new s (ap (λ (b : ArchiveState). b.streams) step.6)
  ended_begun old new s (Err OutOfMemory) step = emptied slot old new s (ap (λ (b : ArchiveState). b.streams) step.2)
  ended_begun old new s (Err Disk) step = inl (ap (λ (b : ArchiveState). b.stopped) step.2)
  ended_begun old new s (Err _) step = absurd step

  dropped_begun : (old new : ArchiveState) (s : ℕ) (r : Result (Unit {0}) ArchiveFault) → AbandonStep old s r new → IsBegun slot new (cond (s == slot) None (begun_of old.streams slot))
  dropped_begun old new s (Ok u) step = emptied slot old new s (ap (λ (b : ArchiveState). b.streams) step.2)
  dropped_begun old new s (Err Stopped) step = inl (stops_as old new step.1 step.0)
  dropped_begun old new s (Err NoStream) step = none_there slot old new s (streams_as old new step.2) step.1
  dropped_begun old new s (Err _) step = absurd step

  line_begun : (naming : Naming) (old new : Parts D) (what : Said) (raw reply : List ℕ) → Replies g naming old what raw reply new → IsBegun slot (state_of new) (begun_then (begins_as naming) slot what (is_no reply) (begun_of (state_of old).streams slot))
  line_begun naming old new silence raw reply r = unmoved slot old new r.1
  line_begun naming old new bad_line raw reply r = unmoved slot old new r.1
  line_begun naming old new long_line raw reply r = unmoved slot old new r.1
  line_begun naming old new (begin_exec s name) raw reply r = begins_begun old new s (exec_stream name) reply r.0 r.1
  line_begun naming old new (begin_core s process) raw reply r = begins_begun old new s (core_stream naming process) reply r.0 r.1
  line_begun naming old new (part_of s n) raw reply (Ok u, takes, told) =
      subst (λ (t : Bool). IsBegun slot (state_of new) (cond (s == slot) (cond t None (begun_of (state_of old).streams slot)) (begun_of (state_of old).streams slot))) (sym (ap is_no told))
      (grown slot (state_of old) (state_of new) s takes.step.0 _ takes.step.1.1 refl (ap (λ (b : ArchiveState). b.streams) takes.step.4))
  line_begun naming old new (part_of s n) raw reply (Err f, takes, told) =
      subst (λ (t : Bool). IsBegun slot (state_of new) (cond (s == slot) (cond t None (begun_of (state_of old).streams slot)) (begun_of (state_of old).streams slot))) (sym (ap is_no told))
      (refused_begun (state_of old) (state_of new) s _ f takes.step)
  line_begun naming old new (end_of s) raw reply r = ended_begun (state_of old) (state_of new) s r.1.0 r.1.1.step
  line_begun naming old new (drop_of s) raw reply r = dropped_begun (state_of old) (state_of new) s r.0 r.1.step
  line_begun naming old new (delete_of seq) raw reply r = kept slot (state_of old) (state_of new) (delete_keeps (state_of old) (state_of new) seq r.0 r.1.step)
  line_begun naming old new (pin_of seq flag) raw reply r = kept slot (state_of old) (state_of new) (pin_keeps (state_of old) (state_of new) seq flag r.0 r.1.step)
  line_begun naming old new (label_of seq text) raw reply r = kept slot (state_of old) (state_of new) (label_keeps (state_of old) (state_of new) seq text r.0 r.1.step)
  line_begun naming old new (retire_by policy) raw reply r = kept slot (state_of old) (state_of new) (retire_keeps (state_of old) (state_of new) policy r.0 r.1.step)
  line_begun naming old new upgrade_archive raw reply r = kept slot (state_of old) (state_of new) (upgrade_keeps (state_of old) (state_of new) r.0 r.1.step)
  line_begun naming old new list_all_cases raw reply r = unmoved slot old new r.1
  line_begun naming old new count_free raw reply r = unmoved slot old new r.3
  line_begun naming old new (inspect_of seq query) raw reply r = kept slot (state_of old) (state_of new) (inspects_leaves g old seq (query_by naming query) reply new r).streams

  pub then_begun : (naming : Naming) (old new : Parts D) (what : Said) (raw reply : List ℕ) (o : Option StreamFacts) → (old.stopped ≡ true → new.stopped ≡ true) → Replies g naming old what raw reply new → IsBegun slot (state_of old) o
      → IsBegun slot (state_of new) (begun_then (begins_as naming) slot what (is_no reply) o)
  then_begun naming old new what raw reply o stays r before =
      ⊎_elim (λ stopped. inl (stays stopped))
      (λ is. subst (λ (x : Option StreamFacts). IsBegun slot (state_of new) (begun_then (begins_as naming) slot what (is_no reply) x)) is (line_begun naming old new what raw reply r)) before
