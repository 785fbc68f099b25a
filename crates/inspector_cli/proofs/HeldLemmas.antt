-- What the stream in a slot has taken, told by the replies.
use Rattle.std.proofs.Common.{◌≡◌, ◌≢◌, ◌⊎◌, inl, inr, ⊎_elim, ℕ, zero, suc, ◌==◌, ◌<◌, Bool, true, false, cond, List, [], ◌∷◌, ◌++◌, length, Option, Some, None, Result, Ok, Err, refl, sym, ap, subst, ◌∙◌, arith}
use Rattle.std.proofs.lemmas.Bool.Decides.{eqb_tells}
use Rattle.std.proofs.lemmas.List.{get_or-set_same, get_or-set_other, length-map}
use Rattle.std.specs.Prelude.{replicate, option_map, slice_set, IsTrue}
use Rattle.disk_model.specs.declared.disk.Disk as disk
use Rattle.intake.specs.Contents.{Contents, Taken, RefusedBytes, UnmovedBytes, empty_taken}
use Rattle.intake.specs.Opened.{IsOpened}
use Rattle.intake.specs.Parts.{Parts, StreamParts, state_of, stream_facts, contents_of, taken_in}
use Rattle.intake.specs.Slots.{stream_at}
use Rattle.intake.specs.State.{ArchiveState, StreamFacts}
use Rattle.intake.specs.Step.{FinishStep}
use Rattle.intake.specs.declared.faults.ArchiveFault.{ArchiveFault}
use Rattle.intake.specs.declared.faults.ArchiveFault.TheVariants.{Stopped, NoStream, Disk}
use Rattle.stream_names.specs.declared.naming.Naming.{Naming}
use Rattle.script_lines.specs.Said.{Said, silence, bad_line, long_line, begin_exec, begin_core, part_of, end_of, drop_of, delete_of, pin_of, label_of, retire_by, list_all_cases, count_free, upgrade_archive, inspect_of}
use Rattle.inspector_cli.specs.Reply.{Begins, Feeds, Ends, Drops, Replies, TakeStep, query_by}
use Rattle.stream_names.specs.Streams.{exec_stream, core_stream}
use Rattle.inspector_cli.specs.Told.{is_no, begun, fed, held_then}
use Rattle.case_queries.specs.InspectLaws.{inspects_leaves}
use Rattle.inspector_cli.proofs.ClearLemmas.{finish_stops, delete_stops, pin_stops, label_stops, upgrade_stops, retire_stops}
use Rattle.inspector_cli.proofs.SlotLemmas.{at_set, at_mapped}

-- a slot that is set, and another one
pub same_set : {X : Type 0} (xs : List (Option X)) (s slot : ℕ) (o : Option X) → s ≡ slot → s < length xs → stream_at (slice_set xs s o) slot ≡ o
same_set xs s slot o is below = subst (λ (j : ℕ). stream_at (slice_set xs s o) j ≡ o) is (get_or-set_same xs s o None below)

pub other_set : {X : Type 0} (xs : List (Option X)) (s slot : ℕ) (o : Option X) → s ≢ slot → stream_at (slice_set xs s o) slot ≡ stream_at xs slot
other_set xs s slot o apart = get_or-set_other xs s slot o None (λ is. apart (sym is))

pub cleared : {X : Type 0} (xs : List (Option X)) (s : ℕ) → stream_at (slice_set xs s None) s ≡ None
cleared [] s = refl
cleared (x ∷ xs) zero = refl
cleared (x ∷ xs) (suc s) = cleared xs s

none_of : {X Y : Type 0} (f : X → Y) (o : Option X) → option_map f o ≡ None → o ≡ None
none_of f None is = refl
none_of f (Some x) is = cc

-- one of two by whether the slots are the same
pub chosen : {Y : Type 0} (s slot : ℕ) (P : Y → Type 0) (a b : Y) → (s ≡ slot → P a) → (s ≢ slot → P b) → P (cond (s == slot) a b)
chosen s slot P a b same other =
    ⊎_elim (λ h. subst (λ (t : Bool). P (cond t a b)) (sym h.0) (same h.1)) (λ h. subst (λ (t : Bool). P (cond t a b)) (sym h.0) (other h.1)) (eqb_tells s slot)

abbrev bytes_in : List (Option Taken) → ℕ → Option (List ℕ)
bytes_in xs slot = option_map (λ (t : Taken). t.bytes) (stream_at xs slot)

module _ {D : Type 0} (g : disk.Ghosts D) (slot : ℕ) where
  abbrev slots_of : Parts D → List (Option Taken)
  slots_of a = (contents_of g.seen a).taken

  abbrev pub taken_at : Parts D → Option (List ℕ)
  taken_at a = bytes_in (slots_of a) slot

  -- The stream in the slot has taken this, unless the archive is stopped.
  abbrev pub IsHeld : Parts D → Option (List ℕ) → Type 0
  IsHeld a held = (a.stopped ≡ true) ⊎ (taken_at a ≡ held)

  -- where no stream stands, none has taken anything
  pub none_taken : (a : Parts D) (s : ℕ) → stream_at (state_of a).streams s ≡ None → stream_at (slots_of a) s ≡ None
  none_taken a s none =
      at_mapped (taken_in a.journal (g.seen a.disk)) a.streams s
      ∙ ap (option_map (taken_in a.journal (g.seen a.disk))) (none_of stream_facts (stream_at a.streams s) (sym (at_mapped stream_facts a.streams s) ∙ none))

  slots_long : (a : Parts D) → length (slots_of a) ≡ length (state_of a).streams
  slots_long a = length-map a.streams (option_map (taken_in a.journal (g.seen a.disk))) ∙ sym (length-map a.streams (option_map stream_facts))

  unmoved : (old new : Parts D) → new ≡ old → IsHeld new (taken_at old)
  unmoved old new is = inr (ap taken_at is)

  -- what a line that takes no bytes leaves in its slot
  module _ (old new : Parts D) (s : ℕ) where
    abbrev Leaves : Option (List ℕ) → Type 0
    Leaves held = IsHeld new (cond (s == slot) held (taken_at old))

    put : (o : Option Taken) → s < length (slots_of old) → slots_of new ≡ slice_set (slots_of old) s o → Leaves (option_map (λ (t : Taken). t.bytes) o)
    put o below is =
        inr (chosen s slot (λ (held : Option (List ℕ)). taken_at new ≡ held) (option_map (λ (t : Taken). t.bytes) o) (taken_at old)
        (λ same. ap (λ (xs : List (Option Taken)). bytes_in xs slot) is ∙ ap (option_map (λ (t : Taken). t.bytes)) (same_set (slots_of old) s slot o same below))
        (λ apart. ap (λ (xs : List (Option Taken)). bytes_in xs slot) is ∙ ap (option_map (λ (t : Taken). t.bytes)) (other_set (slots_of old) s slot o apart)))

    emptied : slots_of new ≡ slice_set (slots_of old) s None → Leaves None
    emptied is =
        inr (chosen s slot (λ (held : Option (List ℕ)). taken_at new ≡ held) None (taken_at old)
        (λ same. ap (λ (xs : List (Option Taken)). bytes_in xs slot) is
        ∙ ap (option_map (λ (t : Taken). t.bytes)) (subst (λ (j : ℕ). stream_at (slice_set (slots_of old) s None) j ≡ None) same (cleared (slots_of old) s)))
        (λ apart. ap (λ (xs : List (Option Taken)). bytes_in xs slot) is ∙ ap (option_map (λ (t : Taken). t.bytes)) (other_set (slots_of old) s slot None apart)))

    as_it_was : slots_of new ≡ slots_of old → stream_at (slots_of old) s ≡ None → Leaves None
    as_it_was is none =
        inr (chosen s slot (λ (held : Option (List ℕ)). taken_at new ≡ held) None (taken_at old)
        (λ same. ap (λ (xs : List (Option Taken)). bytes_in xs slot) is ∙ ap (option_map (λ (t : Taken). t.bytes)) (subst (λ (j : ℕ). stream_at (slots_of old) j ≡ None) same none))
        (λ apart. ap (λ (xs : List (Option Taken)). bytes_in xs slot) is))

    -- a stream that was refused is gone
    refused : (f : ArchiveFault) → RefusedBytes (contents_of g.seen old) s f (contents_of g.seen new) → (f ≡ Stopped → new.stopped ≡ true) → (f ≡ NoStream → stream_at (slots_of old) s ≡ None) → (f ≡ Disk → new.stopped ≡ true)
        → Leaves None
    refused Stopped bytes stopped none failed = inl (stopped refl)
    refused NoStream bytes stopped none failed = as_it_was (ap (λ (c : Contents). c.taken) bytes) (none refl)
    refused Disk bytes stopped none failed = inl (failed refl)
    refused _ bytes stopped none failed = emptied (ap (λ (c : Contents). c.taken) bytes)

  begins_held : (old new : Parts D) (s : ℕ) (found : Result StreamFacts (List ℕ)) (reply : List ℕ) (accepted : Bool) → Begins g old s found reply new accepted
      → IsHeld new (cond (s == slot) (begun (is_no reply) (taken_at old)) (taken_at old))
  begins_held old new s (Err reason) reply accepted b =
      let said_no : is_no reply ≡ true = ap is_no b.0 in
      inr (chosen s slot (λ (held : Option (List ℕ)). taken_at new ≡ held) (begun (is_no reply) (taken_at old)) (taken_at old)
      (λ same. ap taken_at b.1 ∙ ap (λ (t : Bool). begun t (taken_at old)) (sym said_no)) (λ apart. ap taken_at b.1))
  begins_held old new s (Ok stream) reply accepted (Ok u, call, told, is) =
      let said_no : is_no reply ≡ false = ap is_no told in
      subst (λ (t : Bool). IsHeld new (cond (s == slot) (begun t (taken_at old)) (taken_at old))) (sym said_no)
      (put old new s (Some empty_taken) (let n = slots_long old in let below = call.step.0.1 in omega (arith, n, below)) (ap (λ (c : Contents). c.taken) call.bytes))
  begins_held old new s (Ok stream) reply accepted (Err f, call, told, is) =
      let said_no : is_no reply ≡ true = ap is_no told in
      let same : taken_at new ≡ taken_at old = ap (λ (c : Contents). bytes_in c.taken slot) call.bytes in
      inr (chosen s slot (λ (held : Option (List ℕ)). taken_at new ≡ held) (begun (is_no reply) (taken_at old)) (taken_at old)
      (λ is. same ∙ ap (λ (t : Bool). begun t (taken_at old)) (sym said_no)) (λ apart. same))

  feeds_held : (old new : Parts D) (s : ℕ) (raw reply : List ℕ) → IsTrue (g.is_honest old.disk) → (old.stopped ≡ true → new.stopped ≡ true) → Feeds g old s raw reply new
      → IsHeld new (cond (s == slot) (fed (is_no reply) raw (taken_at old)) (taken_at old))
  feeds_held old new s raw reply honest stays (Ok u, takes, told) =
      let said_no : is_no reply ≡ false = ap is_no told in
      let b = takes.bytes honest in
      let after : Option Taken = Some (record { bytes = b.0.bytes ++ raw; free = b.1 }) in
      let is : slots_of new ≡ slice_set (slots_of old) s after = ap (λ (c : Contents). c.taken) b.3 in
      inr (subst (λ (t : Bool). taken_at new ≡ cond (s == slot) (fed t raw (taken_at old)) (taken_at old)) (sym said_no)
      (chosen s slot (λ (held : Option (List ℕ)). taken_at new ≡ held) (fed false raw (taken_at old)) (taken_at old)
      (λ same.
      (let here : stream_at (slots_of old) slot ≡ Some b.0 = subst (λ (j : ℕ). stream_at (slots_of old) j ≡ Some b.0) same b.2 in
      ap (λ (xs : List (Option Taken)). bytes_in xs slot) is
      ∙ ap (option_map (λ (t : Taken). t.bytes)) (subst (λ (j : ℕ). stream_at (slice_set (slots_of old) s after) j ≡ after) same (at_set (slots_of old) s b.0 after b.2))
      ∙ sym (ap (λ (o : Option Taken). fed false raw (option_map (λ (t : Taken). t.bytes) o)) here)))
      (λ apart. ap (λ (xs : List (Option Taken)). bytes_in xs slot) is ∙ ap (option_map (λ (t : Taken). t.bytes)) (other_set (slots_of old) s slot after apart))))
  feeds_held old new s raw reply honest stays (Err f, takes, told) =
      let said_no : is_no reply ≡ true = ap is_no told in
      subst (λ (t : Bool). IsHeld new (cond (s == slot) (fed t raw (taken_at old)) (taken_at old))) (sym said_no)
      (refused old new s f (takes.bytes honest)
      (λ is. stays (subst (λ (x : ArchiveFault). TakeStep (state_of old) s (length raw) (Err x) (state_of new)) is takes.step).0)
      (λ is. none_taken old s (subst (λ (x : ArchiveFault). TakeStep (state_of old) s (length raw) (Err x) (state_of new)) is takes.step).1)
      (λ is. ap (λ (b : ArchiveState). b.stopped) (subst (λ (x : ArchiveFault). TakeStep (state_of old) s (length raw) (Err x) (state_of new)) is takes.step).5))

  ends_held : (old new : Parts D) (s : ℕ) (reply : List ℕ) (stored : Option ℕ) → IsTrue (g.is_honest old.disk) → (old.stopped ≡ true → new.stopped ≡ true) → Ends g old s reply new stored
      → IsHeld new (cond (s == slot) None (taken_at old))
  ends_held old new s reply stored honest stays (Ok seq, call, told, is) = emptied old new s (ap (λ (c : Contents). c.taken) (call.bytes honest).2)
  ends_held old new s reply stored honest stays (Err f, call, told, is) =
      refused old new s f (call.bytes honest)
      (λ is. stays (subst (λ (x : ArchiveFault). FinishStep (state_of old) s (Err x) (state_of new)) is call.step).0)
      (λ is. none_taken old s (subst (λ (x : ArchiveFault). FinishStep (state_of old) s (Err x) (state_of new)) is call.step).1)
      (λ is. finish_stops (state_of old) (state_of new) s (Err f) call.step is)

  drops_held : (old new : Parts D) (s : ℕ) (reply : List ℕ) → Drops g old s reply new → IsHeld new (cond (s == slot) None (taken_at old))
  drops_held old new s reply (Ok u, call, told) = emptied old new s (ap (λ (c : Contents). c.taken) call.bytes)
  drops_held old new s reply (Err f, call, told) =
      let is : slots_of new ≡ slots_of old = ap (λ (c : Contents). c.taken) call.bytes in
      as_it_was old new s is (subst (λ (xs : List (Option Taken)). stream_at xs s ≡ None) is (none_taken new s call.quiet))

  -- a call that takes no bytes leaves them, unless the disk failed
  unmoved_held : (old new : Parts D) (f : ArchiveFault) → UnmovedBytes (contents_of g.seen old) f (contents_of g.seen new) → (f ≡ Disk → new.stopped ≡ true) → IsHeld new (taken_at old)
  unmoved_held old new Disk bytes failed = inl (failed refl)
  unmoved_held old new _ bytes failed = inr (ap (λ (c : Contents). bytes_in c.taken slot) bytes)

  line_held : (naming : Naming) (old new : Parts D) (what : Said) (raw reply : List ℕ) → IsTrue (g.is_honest old.disk) → (old.stopped ≡ true → new.stopped ≡ true) → Replies g naming old what raw reply new
      → IsHeld new (held_then slot what raw (is_no reply) (taken_at old))
  line_held naming old new silence raw reply honest stays r = unmoved old new r.1
  line_held naming old new bad_line raw reply honest stays r = unmoved old new r.1
  line_held naming old new long_line raw reply honest stays r = unmoved old new r.1
  line_held naming old new (begin_exec s name) raw reply honest stays r = begins_held old new s (exec_stream name) reply r.0 r.1
  line_held naming old new (begin_core s process) raw reply honest stays r = begins_held old new s (core_stream naming process) reply r.0 r.1
  line_held naming old new (part_of s n) raw reply honest stays r = feeds_held old new s raw reply honest stays r
  line_held naming old new (end_of s) raw reply honest stays r = ends_held old new s reply r.0 honest stays r.1
  line_held naming old new (drop_of s) raw reply honest stays r = drops_held old new s reply r
  line_held naming old new (delete_of seq) raw reply honest stays (Ok u, call, told) = inr (ap (λ (c : Contents). bytes_in c.taken slot) (call.bytes honest))
  line_held naming old new (delete_of seq) raw reply honest stays (Err f, call, told) =
      unmoved_held old new f (call.bytes honest) (λ is. delete_stops (state_of old) (state_of new) seq (Err f) call.step is)
  line_held naming old new (pin_of seq flag) raw reply honest stays (Ok u, call, told) = inr (ap (λ (c : Contents). bytes_in c.taken slot) (call.bytes honest))
  line_held naming old new (pin_of seq flag) raw reply honest stays (Err f, call, told) =
      unmoved_held old new f (call.bytes honest) (λ is. pin_stops (state_of old) (state_of new) seq flag (Err f) call.step is)
  line_held naming old new (label_of seq label) raw reply honest stays (Ok u, call, told) = inr (ap (λ (c : Contents). bytes_in c.taken slot) (call.bytes honest))
  line_held naming old new (label_of seq label) raw reply honest stays (Err f, call, told) =
      unmoved_held old new f (call.bytes honest) (λ is. label_stops (state_of old) (state_of new) seq label (Err f) call.step is)
  line_held naming old new upgrade_archive raw reply honest stays (Ok u, call, told) = inr (ap (λ (c : Contents). bytes_in c.taken slot) (call.bytes honest))
  line_held naming old new upgrade_archive raw reply honest stays (Err f, call, told) =
      unmoved_held old new f (call.bytes honest) (λ is. upgrade_stops (state_of old) (state_of new) (Err f) call.step is)
  line_held naming old new (retire_by policy) raw reply honest stays (Ok d, call, told) = inr (ap (λ (c : Contents). bytes_in c.taken slot) (call.bytes honest))
  line_held naming old new (retire_by policy) raw reply honest stays (Err f, call, told) =
      unmoved_held old new f (call.bytes honest) (λ is. retire_stops (state_of old) (state_of new) policy (Err f) call.step is)
  line_held naming old new list_all_cases raw reply honest stays r = unmoved old new r.1
  line_held naming old new count_free raw reply honest stays r = unmoved old new r.3
  line_held naming old new (inspect_of seq query) raw reply honest stays r =
      ⊎_elim (λ same. inr (ap (λ (xs : List (Option Taken)). bytes_in xs slot) same)) (λ stopped. inl stopped)
      ((inspects_leaves g old seq (query_by naming query) reply new r).taken honest)

  pub then_held : (naming : Naming) (old new : Parts D) (what : Said) (raw reply : List ℕ) (held : Option (List ℕ)) → IsTrue (g.is_honest old.disk) → (old.stopped ≡ true → new.stopped ≡ true) → Replies g naming old what raw reply new
      → IsHeld old held → IsHeld new (held_then slot what raw (is_no reply) held)
  then_held naming old new what raw reply held honest stays r before =
      ⊎_elim (λ stopped. inl (stays stopped))
      (λ is. subst (λ (o : Option (List ℕ)). IsHeld new (held_then slot what raw (is_no reply) o)) is (line_held naming old new what raw reply honest stays r)) before

none_open : {X : Type 0} (n slot : ℕ) → stream_at {X = X} (replicate n None) slot ≡ None
none_open zero slot = refl
none_open (suc n) zero = refl
none_open (suc n) (suc slot) = none_open n slot

pub opening_quiet : {D : Type 0} (limit : ℕ) (a : Parts D) → IsOpened limit a → (slot : ℕ) → stream_at (state_of a).streams slot ≡ None
opening_quiet limit a opened slot =
    at_mapped stream_facts a.streams slot ∙ ap (λ (xs : List (Option StreamParts)). option_map stream_facts (stream_at xs slot)) opened.streams ∙ ap (option_map stream_facts) (none_open 8 slot)
