-- Cases are retired for a stream that begins then, and for no other.
use Rattle.std.proofs.Common.{◌≡◌, ◌⊎◌, inl, inr, ⊎_elim, ℕ, Bool, true, false, ◌||◌, List, [], Option, Some, None, Result, Ok, Err, is_ok, refl, sym, ap, ◌∙◌, replicate, arith, subst, map, length}
use Rattle.std.proofs.lemmas.Bool.{true≢false}
use Rattle.std.specs.List.{list_any}
use Rattle.std.specs.Prelude.{codes, option_map, IfOk}
use Rattle.disk_model.specs.declared.disk.Disk as disk
use Rattle.archive_replies.specs.Texts.{begin_reply}
use Rattle.intake.specs.Calls.{BeginCall}
use Rattle.intake.specs.Parts.{Parts, state_of, stream_facts}
use Rattle.intake.specs.Slots.{stream_at}
use Rattle.intake.specs.State.{ArchiveState, StreamFacts}
use Rattle.intake.specs.Step.{RetireStep, has_name, is_named, is_taken}
use Rattle.intake.specs.declared.faults.ArchiveFault.{ArchiveFault}
use Rattle.intake.specs.declared.faults.ArchiveFault.TheVariants as fault
use Rattle.retention.specs.declared.Decision.{Decision}
use Rattle.retention.specs.declared.Policy.{Policy}
use Rattle.script_streams.specs.Replies.{no_reply}
use Rattle.inspector_cli.specs.Reply.{Begins}
use Rattle.inspector_cli.specs.Storing.{CannotBegin, IsChosen, RetiresFirst, RetiresForStream, RetiresForName, MayBeginNow, RetiresNothingUnasked, RetiresForAStreamAlone, RetiresUnlessRefused}

-- a retirement that is done leaves the streams
retired_streams : (old new : ArchiveState) (policy : Policy) (r : Result Decision ArchiveFault) → RetireStep old policy r new → true ≡ is_ok r → new.streams ≡ old.streams
retired_streams old new policy (Ok d) step is = ⊎_elim (λ none. ap (λ (s : ArchiveState). s.streams) none.1) (λ some. ap (λ (s : ArchiveState). s.streams) some.2) step.2
retired_streams old new policy (Err f) step is = absurd (true≢false is)

-- and the archive runs on, with the name free
pub retired_runs : (old new : ArchiveState) (policy : Policy) (name : List ℕ) (r : Result Decision ArchiveFault) → RetireStep old policy r new → IfOk r (λ d. is_named name new.cases ≡ false) → true ≡ is_ok r
    → (new.stopped ≡ false) × (is_named name new.cases ≡ false)
retired_runs old new policy name (Ok d) step free is =
    (⊎_elim (λ none. ap (λ (s : ArchiveState). s.stopped) none.1 ∙ step.0) (λ some. ap (λ (s : ArchiveState). s.stopped) some.2 ∙ step.0) step.2, free)
retired_runs old new policy name (Err f) step free is = absurd (true≢false is)

module _ {D : Type 0} (g : disk.Ghosts D) where
  -- over an archive without streams, where no case has the name
  begun_or_memory : (retired mid : Parts D) (stream : StreamFacts) (first : List ℕ) (accepted : Bool) (r : Result (Unit {0}) ArchiveFault)
      → (state_of retired).streams ≡ replicate 8 None → (state_of retired).stopped ≡ false → is_named stream.origin.name (state_of retired).cases ≡ false
      → BeginCall g retired 0 stream r mid → first ≡ begin_reply stream.origin.name r → accepted ≡ is_ok r
      → (accepted ≡ true) ⊎ (first ≡ no_reply (codes "OutOfMemory"))
  begun_or_memory retired mid stream first accepted (Ok u) none runs free call told is = inl is
  begun_or_memory retired mid stream first accepted (Err fault.OutOfMemory) none runs free call told is = inr told
  begun_or_memory retired mid stream first accepted (Err fault.Stopped) none runs free call told is = absurd (true≢false (sym call.step.0 ∙ runs))
  begun_or_memory retired mid stream first accepted (Err fault.BadSlot) none runs free call told is =
      let low = call.step.1 in
      let long = ap (λ (xs : List (Option StreamFacts)). length xs) none in
      absurd (omega (arith, low, long))
  begun_or_memory retired mid stream first accepted (Err fault.SlotBusy) none runs free call told is =
      absurd (call.step.2 (ap (λ (xs : List (Option StreamFacts)). stream_at xs 0) none))
  begun_or_memory retired mid stream first accepted (Err fault.NameTaken) none runs free call told is =
      let of_cases : is_taken (state_of retired) stream.origin.name ≡ list_any (has_name stream.origin.name) (state_of retired).streams = ap (λ (b : Bool). b || list_any (has_name stream.origin.name) (state_of retired).streams) free in
      let of_streams : list_any (has_name stream.origin.name) (state_of retired).streams ≡ false = ap (list_any (has_name stream.origin.name)) none in
      absurd (true≢false (sym call.step.3 ∙ of_cases ∙ of_streams))
  begun_or_memory retired mid stream first accepted (Err _) none runs free call told is = absurd call.step

  -- where a case has the name
  not_begun : (retired mid : Parts D) (stream : StreamFacts) (accepted : Bool) (r : Result (Unit {0}) ArchiveFault) → is_named stream.origin.name (state_of retired).cases ≡ true
      → BeginCall g retired 0 stream r mid → accepted ≡ is_ok r → accepted ≡ false
  not_begun retired mid stream accepted (Ok u) named call is =
      let taken : is_taken (state_of retired) stream.origin.name ≡ true = ap (λ (b : Bool). b || list_any (has_name stream.origin.name) (state_of retired).streams) named in
      absurd (true≢false (sym taken ∙ call.step.0.3))
  not_begun retired mid stream accepted (Err f) named call is = is

  -- what is retired for this name is retired for that stream
  pub retires_for_named : (old new : Parts D) (asked : Option Policy) (policy : Policy) (stream : StreamFacts) (told : List ℕ) (made : Bool) → asked ≡ Some policy
      → RetiresForName g old policy stream.origin.name told new made → RetiresForStream g old asked (Ok stream) told new made
  retires_for_named old new asked policy stream told made is (inl kept) = record {
    policy = None;
    chosen = inr (policy, is, (kept.3, kept.4));
    retires_first = (kept.0, kept.1, kept.2);
    needed = λ p e m. absurd (cc);
  }
  retires_for_named old new asked policy stream told made is (inr done) = record {
    policy = Some policy;
    chosen = is;
    retires_first = (done.0, done.1);
    needed = λ p e m. done.2 m;
  }

  -- nothing is retired where the line begins no stream
  pub retires_for_none : (old : Parts D) (asked : Option Policy) (policy : Policy) (reason : List ℕ) → asked ≡ Some policy → RetiresForStream g old asked (Err reason) [] old true
  retires_for_none old asked policy reason is = record {
    policy = None;
    chosen = inr (policy, is, tt);
    retires_first = (refl, refl, refl);
    needed = λ p e m. absurd (cc);
  }

  -- nor where none is asked for
  pub retires_nothing : (old : Parts D) (asked : Option Policy) (found : Result StreamFacts (List ℕ)) → asked ≡ None → RetiresForStream g old asked found [] old true
  retires_nothing old asked found is = record {
    policy = None;
    chosen = inl is;
    retires_first = (refl, refl, refl);
    needed = λ p e m. absurd (cc);
  }

  begins_then : (retired mid : Parts D) (found : Result StreamFacts (List ℕ)) (first : List ℕ) (accepted : Bool) → (state_of retired).streams ≡ replicate 8 None → MayBeginNow (state_of retired) found
      → Begins g retired 0 found first mid accepted → (accepted ≡ true) ⊎ (first ≡ no_reply (codes "OutOfMemory"))
  begins_then retired mid (Ok stream) first accepted none may begins = begun_or_memory retired mid stream first accepted begins.0 none may.0 may.1 begins.1 begins.2 begins.3
  begins_then retired mid (Err reason) first accepted none may begins = absurd may

  refused_then : (old retired mid : Parts D) (policy : Policy) (found : Result StreamFacts (List ℕ)) (first : List ℕ) (accepted : Bool) → retired ≡ old → CannotBegin (state_of old) policy found
      → Begins g retired 0 found first mid accepted → accepted ≡ false
  refused_then old retired mid policy (Ok stream) first accepted same cannot begins =
      not_begun retired mid stream accepted begins.0 (ap (λ (a : Parts D). is_named stream.origin.name (state_of a).cases) same ∙ cannot.1) begins.1 begins.3
  refused_then old retired mid policy (Err reason) first accepted same cannot begins = begins.2

  made_streams : (old retired : Parts D) (policy : Option Policy) (told : List ℕ) (made : Bool) → RetiresFirst g old policy told retired made → made ≡ true → (state_of retired).streams ≡ (state_of old).streams
  made_streams old retired None told made makes is = ap (λ (a : Parts D). (state_of a).streams) makes.1
  made_streams old retired (Some policy) told made makes is = retired_streams (state_of old) (state_of retired) policy makes.0.0 makes.0.1.step (sym is ∙ makes.1)

  retired_then_begun : (old retired mid : Parts D) (asked : Option Policy) (found : Result StreamFacts (List ℕ)) (told first : List ℕ) (made accepted : Bool) (m : RetiresForStream g old asked found told retired made) (policy : Option Policy) → m.policy ≡ policy
      → (state_of old).streams ≡ replicate 8 None → made ≡ true → Begins g retired 0 found first mid accepted → (retired ≡ old) ⊎ (accepted ≡ true) ⊎ (first ≡ no_reply (codes "OutOfMemory"))
  retired_then_begun old retired mid asked found told first made accepted m None is none done begins =
      inl ((subst (λ (p : Option Policy). RetiresFirst g old p told retired made) is m.retires_first).1)
  retired_then_begun old retired mid asked found told first made accepted m (Some policy) is none done begins =
      inr (begins_then retired mid found first accepted (made_streams old retired m.policy told made m.retires_first done ∙ none) (m.needed policy is done) begins)

  pub retires_for_a_stream_alone : RetiresForAStreamAlone g
  retires_for_a_stream_alone file file' fails fails' old asked found options replies end outcome limit opened s done =
      retired_then_begun old s.retired s.stores.mid asked found s.told s.stores.first outcome.retired_first s.stores.accepted s.retires_first s.retires_first.policy refl
      (ap (λ xs. map (option_map stream_facts) xs) opened.streams) done s.stores.begins

  left_out : (old retired mid : Parts D) (asked : Option Policy) (policy : Policy) (found : Result StreamFacts (List ℕ)) (told first : List ℕ) (made accepted : Bool) (m : RetiresForStream g old asked found told retired made) (chosen : Option Policy) → m.policy ≡ chosen
      → asked ≡ Some policy → Begins g retired 0 found first mid accepted → (chosen ≡ Some policy) ⊎ (accepted ≡ false)
  left_out old retired mid asked policy found told first made accepted m None is wanted begins =
      inr (of (subst (IsChosen (state_of old) asked found) is m.chosen))
    where
      of : IsChosen (state_of old) asked found None → accepted ≡ false
      of (inl none) = absurd (let e : None ≡ Some policy = sym none ∙ wanted in cc)
      of (inr why) =
          refused_then old retired mid why.0 found first accepted ((subst (λ (p : Option Policy). RetiresFirst g old p told retired made) is m.retires_first).1) why.2 begins
  left_out old retired mid asked policy found told first made accepted m (Some chosen) is wanted begins =
      inl (sym (subst (IsChosen (state_of old) asked found) is m.chosen) ∙ wanted)

  pub retires_unless_refused : RetiresUnlessRefused g
  retires_unless_refused file file' fails fails' old asked found options replies end outcome policy wanted s =
      left_out old s.retired s.stores.mid asked policy found s.told s.stores.first outcome.retired_first s.stores.accepted s.retires_first s.retires_first.policy refl wanted s.stores.begins

  -- where no policy is asked for, nothing is retired
  not_chosen : (s : ArchiveState) (found : Result StreamFacts (List ℕ)) (policy : Option Policy) → IsChosen s None found policy → policy ≡ None
  not_chosen s found None chosen = refl
  not_chosen s found (Some policy) chosen = absurd (cc)

  pub retires_nothing_unasked : RetiresNothingUnasked g
  retires_nothing_unasked file file' fails fails' old found options replies end outcome s =
      let none = not_chosen (state_of old) found s.retires_first.policy s.retires_first.chosen in
      subst (λ (p : Option Policy). RetiresFirst g old p s.told s.retired outcome.retired_first) none s.retires_first.retires_first
