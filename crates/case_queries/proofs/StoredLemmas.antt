-- A line that may ask a case is answered of what is stored.
use Rattle.std.proofs.Common.{◌≡◌, ◌⊎◌, inl, inr, ⊎_elim, ℕ, ◌-◌, ◌^◌, ◌≤◌, ◌==◌, Bool, true, false, cond, List, [], ◌∷◌, ◌++◌, map, Option, None, Some, Result, Ok, Err, refl, sym, ap, subst, ◌∙◌, arith}
use Rattle.std.proofs.lemmas.Bool.{cases_lt, eq-eqb, false≢true}
use Rattle.std.specs.Prelude.{IsTrue}
use Rattle.std.specs.List.{All, filter}
use Rattle.std.proofs.lemmas.List.Elements.{All-cons, All-head, All-nil, All-tail, All-weaker}
use Rattle.address_space.specs.Source.{ExecutableView}
use Rattle.archive_replies.specs.Reasons.{reason_of}
use Rattle.disk_model.specs.Disk.{HasRisen}
use Rattle.disk_model.specs.declared.disk.Disk as disk
use Rattle.image_replies.specs.Reasons.{core_reason}
use Rattle.image_replies.specs.declared.core_image.CoreFault.{CoreFault}
use Rattle.intake.specs.Blocks.{image_in}
use Rattle.intake.specs.Contents.{Contents, image_at}
use Rattle.intake.specs.Parts.{Parts, state_of, contents_of}
use Rattle.intake.specs.State.{ArchiveState}
use Rattle.intake.specs.declared.faults.ArchiveFault.{ArchiveFault}
use Rattle.intake.specs.declared.faults.ArchiveFault.TheVariants.{Stopped, NoCase, OutOfMemory, Disk}
use Rattle.journal_layout.specs.Soundness.{case_numbered}
use Rattle.journal_layout.specs.Case.{Case}
use Rattle.journal_layout.specs.declared.entry.Kind.{Kind}
use Rattle.script_lines.specs.Queries.{QuerySaid}
use Rattle.script_streams.specs.Replies.{no_reply, reply_of}
use Rattle.memory_replies.specs.Answers.{Answers, memory_reply}
use Rattle.case_queries.specs.Collecting.{Collects, CollectsAll, Gathered, Wanted, debugs_for, gathered_with, is_for, is_named_by, is_wanted, wanted_case, wanted_for}
use Rattle.build_replies.specs.Choosing.{told_files}
use Rattle.build_ids.specs.BuildId.{build_id_of}
use Rattle.build_replies.specs.NameWords.{name_of_debug, wanted_debugs}
use Rattle.script_lines.specs.Queries.{ask_header, ask_notes, ask_threads, ask_registers, ask_process, ask_signal, ask_auxiliary_vector, ask_files, ask_maps, ask_dump, ask_at, ask_find, ask_strings, ask_backtrace, ask_unwind, ask_lines, ask_frame, ask_builds, ask_symbol, ask_by_build, ask_symbol_by_build, ask_line}
use Rattle.script_lines.specs.declared.query.BuildQuery.TheVariants as builds
use Rattle.case_queries.specs.InspectLaws.{asked_kind, steps_of}
use Rattle.case_queries.specs.Inspecting.{MayAsk, Told, answer_of, core_fault_for, reads_executables}
use Rattle.case_queries.specs.LeaveLaws.{collects_leaves}
use Rattle.case_queries.specs.Seeing.{LooksAt, SeesImage}
use Rattle.case_queries.specs.Steps.{Asks, ShowsBy, ShowsCore, ShowsWithExecutables, ToldWithExecutables}
use Rattle.case_queries.specs.Stored.{AnswersAreOfTheCase, AreStored, IsAnsweredOfTheCase, IsHindered, IsStored, WhatIsStoredHasOneAnswer, of_core, of_fault, of_image}

-- the case of a number has its own image
abbrev HasImage : ℕ → (Case → List ℕ) → List Case → List ℕ → Type 0
HasImage seq of cases image = (entry : Case) × (case_numbered seq cases ≡ Some entry) × (image ≡ of entry)

has_image : (seq : ℕ) (of : Case → List ℕ) (cases : List Case) (image : List ℕ) → image_at seq cases (map of cases) ≡ Some image → HasImage seq of cases image
has_image seq of [] image is = absurd cc
has_image seq of (c ∷ cs) image is =
    (elim (c.seq == seq) as (λ t. cond t (Some (of c)) (image_at seq cs (map of cs)) ≡ Some image → (entry : Case) × (cond t (Some c) (case_numbered seq cs) ≡ Some entry) × (image ≡ of entry)) [
      | true ↦ λ h. (c, refl, cc)
      | false ↦ λ h. has_image seq of cs image h
    ]) is

-- of each of these numbers there is a case
abbrev IsThere : List Case → Wanted → Type 0
IsThere cases w = case_numbered w.0 cases ≡ None → ⊥

one_more : (c : Case) (cs : List Case) (w : Wanted) → IsThere cs w → IsThere (c ∷ cs) w
one_more c cs w there =
    elim (c.seq == w.0) as (λ t. cond t (Some c) (case_numbered w.0 cs) ≡ None → ⊥) [
      | true ↦ λ h. cc
      | false ↦ λ h. there h
    ]

itself : (c : Case) (cs : List Case) → IsThere (c ∷ cs) (wanted_case c)
itself c cs none = let h : Some c ≡ None = subst (λ (t : Bool). cond t (Some c) (case_numbered c.seq cs) ≡ None) (eq-eqb c.seq c.seq refl) none in cc

picked_there : (p : Case → Bool) (cases : List Case) → All (IsThere cases) (map wanted_case (filter p cases))
picked_there p [] = All-nil (IsThere [])
picked_there p (c ∷ cs) =
    let rest = All-weaker (IsThere cs) (IsThere (c ∷ cs)) (one_more c cs) (map wanted_case (filter p cs)) (picked_there p cs) in
    elim (p c) as (λ t. All (IsThere (c ∷ cs)) (map wanted_case (cond t (c ∷ filter p cs) (filter p cs)))) [
      | true ↦ All-cons (IsThere (c ∷ cs)) (wanted_case c) (map wanted_case (filter p cs)) (itself c cs) rest
      | false ↦ rest
    ]

wanted_there : (q : QuerySaid) (b : List ℕ) (cases : List Case) → All (IsThere cases) (wanted_for q b cases)
wanted_there ask_header b cases = picked_there (is_wanted b) cases
wanted_there ask_notes b cases = picked_there (is_wanted b) cases
wanted_there ask_threads b cases = picked_there (is_wanted b) cases
wanted_there (ask_registers t) b cases = picked_there (is_wanted b) cases
wanted_there ask_process b cases = picked_there (is_wanted b) cases
wanted_there ask_signal b cases = picked_there (is_wanted b) cases
wanted_there ask_auxiliary_vector b cases = picked_there (is_wanted b) cases
wanted_there ask_files b cases = picked_there (is_wanted b) cases
wanted_there ask_maps b cases = picked_there (is_wanted b) cases
wanted_there (ask_dump x n) b cases = picked_there (is_wanted b) cases
wanted_there (ask_at x) b cases = picked_there (is_wanted b) cases
wanted_there (ask_find n) b cases = picked_there (is_wanted b) cases
wanted_there (ask_strings n) b cases = picked_there (is_wanted b) cases
wanted_there (ask_backtrace t) b cases = picked_there (is_wanted b) cases
wanted_there (ask_unwind t) b cases = picked_there (is_for (told_files b)) cases
wanted_there (ask_lines t) b cases = picked_there (is_for (told_files b)) cases
wanted_there (ask_frame t i) b cases = picked_there (is_for (told_files b)) cases
wanted_there (ask_builds query) b cases = picked_there (is_for (told_files b)) cases
wanted_there (ask_symbol x) b cases = picked_there (is_wanted b) cases
wanted_there (ask_by_build query) b cases = picked_there (is_for (told_files b)) cases
wanted_there (ask_symbol_by_build x) b cases = picked_there (is_named_by (name_of_debug (build_id_of b))) cases
wanted_there (ask_line x) b cases = picked_there (is_named_by (name_of_debug (build_id_of b))) cases

debugs_there : (q : QuerySaid) (b : List ℕ) (cases : List Case) (xs : List ExecutableView) → All (IsThere cases) (debugs_for q b cases xs)
debugs_there ask_header b cases xs = All-nil (IsThere cases)
debugs_there ask_notes b cases xs = All-nil (IsThere cases)
debugs_there ask_threads b cases xs = All-nil (IsThere cases)
debugs_there (ask_registers t) b cases xs = All-nil (IsThere cases)
debugs_there ask_process b cases xs = All-nil (IsThere cases)
debugs_there ask_signal b cases xs = All-nil (IsThere cases)
debugs_there ask_auxiliary_vector b cases xs = All-nil (IsThere cases)
debugs_there ask_files b cases xs = All-nil (IsThere cases)
debugs_there ask_maps b cases xs = All-nil (IsThere cases)
debugs_there (ask_dump x n) b cases xs = All-nil (IsThere cases)
debugs_there (ask_at x) b cases xs = All-nil (IsThere cases)
debugs_there (ask_find n) b cases xs = All-nil (IsThere cases)
debugs_there (ask_strings n) b cases xs = All-nil (IsThere cases)
debugs_there (ask_backtrace t) b cases xs = All-nil (IsThere cases)
debugs_there (ask_unwind t) b cases xs = picked_there (is_named_by (wanted_debugs (told_files b) xs)) cases
debugs_there (ask_lines t) b cases xs = picked_there (is_named_by (wanted_debugs (told_files b) xs)) cases
debugs_there (ask_frame t i) b cases xs = picked_there (is_named_by (wanted_debugs (told_files b) xs)) cases
debugs_there (ask_builds builds.Compared) b cases xs = All-nil (IsThere cases)
debugs_there (ask_builds builds.Used) b cases xs = picked_there (is_named_by (wanted_debugs (told_files b) xs)) cases
debugs_there (ask_builds builds.Wanted) b cases xs = All-nil (IsThere cases)
debugs_there (ask_symbol x) b cases xs = All-nil (IsThere cases)
debugs_there (ask_by_build (ask_at x)) b cases xs = picked_there (is_named_by (wanted_debugs (told_files b) xs)) cases
debugs_there (ask_by_build (ask_backtrace t)) b cases xs = picked_there (is_named_by (wanted_debugs (told_files b) xs)) cases
debugs_there (ask_by_build _) b cases xs = All-nil (IsThere cases)
debugs_there (ask_symbol_by_build x) b cases xs = All-nil (IsThere cases)
debugs_there (ask_line x) b cases xs = All-nil (IsThere cases)

-- a count that rose since a moment rose since each moment before
risen_since : (a b c : ℕ) → a ≤ b → HasRisen b c → HasRisen a c
risen_since a b c later rose = (omega (arith, rose.0), λ small. ⊎_elim (λ below. omega (arith, rose.1 below)) (λ above. omega (arith, rose.0)) (cases_lt b (2 ^ 64 - 1)))

module _ {D : Type 0} (g : disk.Ghosts D) where
  -- an archive that shows what it showed before
  record ShowsAs (a b : Parts D) : Type 0 where
    honest : IsTrue (g.is_honest b.disk)
    state : state_of b ≡ state_of a
    contents : contents_of g.seen b ≡ contents_of g.seen a

  sees_as : (a old mid : Parts D) (seq : ℕ) (image : List ℕ) → ShowsAs a old → SeesImage g old seq image mid → ShowsAs a mid
  sees_as a old mid seq image so sees = record {
    honest = sees.stays.honesty ∙ so.honest;
    state = sees.state ∙ so.state;
    contents = sees.contents so.honest ∙ so.contents;
  }

  -- an image that is seen is the one that was stored before
  stored : (a old mid : Parts D) (seq : ℕ) (image : List ℕ) → ShowsAs a old → SeesImage g old seq image mid → IsStored g.seen a seq image
  stored a old mid seq image so sees =
      let same : image_at seq (state_of a).cases (contents_of g.seen a).images ≡ Some image =
      sym (ap (λ (s : ArchiveState). image_at seq s.cases (contents_of g.seen a).images) so.state)
      ∙ sym (ap (λ (c : Contents). image_at seq (state_of old).cases c.images) so.contents)
      ∙ sees.own.bytes so.honest in
      let found = has_image seq (λ (c : Case). image_in (state_of a).shape (g.seen a.disk) c.blocks c.len) (state_of a).cases image same in
      record {
        entry = found.0;
        has = found.1;
        bytes = found.2;
        long = sees.own.long found.0 (ap (λ (s : ArchiveState). case_numbered seq s.cases) so.state ∙ found.1);
      }

  -- executables that are read are those that were stored before
  all_stored : (a old new : Parts D) (ws : List Wanted) (xs : List ExecutableView) → ShowsAs a old → Collects g old ws (Ok xs) new → AreStored g.seen a ws xs
  all_stored a old new [] xs so all = cc
  all_stored a old new (w ∷ ws) xs so (Err f, mid, call, more) = absurd cc
  all_stored a old new (w ∷ ws) xs so (Ok image, mid, sees, inl short) = absurd cc
  all_stored a old new (w ∷ ws) xs so (Ok image, mid, sees, inr (Err f, rest, is)) = absurd cc
  all_stored a old new (w ∷ ws) xs so (Ok image, mid, sees, inr (Ok ys, rest, is)) =
      let same : record { path = w.1; image = image } ∷ ys ≡ xs = cc in
      subst (AreStored g.seen a (w ∷ ws)) same (refl, stored a old mid w.0 image so sees, all_stored a mid new ws ys (sees_as a old mid w.0 image so sees) rest)

  -- and so is the archive after them
  read_as : (a old new : Parts D) (ws : List Wanted) (xs : List ExecutableView) → ShowsAs a old → Collects g old ws (Ok xs) new → ShowsAs a new
  read_as a old new [] xs so all = subst (ShowsAs a) (sym all.1) so
  read_as a old new (w ∷ ws) xs so (Err f, mid, call, more) = absurd cc
  read_as a old new (w ∷ ws) xs so (Ok image, mid, sees, inl short) = absurd cc
  read_as a old new (w ∷ ws) xs so (Ok image, mid, sees, inr (Err f, rest, is)) = absurd cc
  read_as a old new (w ∷ ws) xs so (Ok image, mid, sees, inr (Ok ys, rest, is)) = read_as a mid new ws ys (sees_as a old mid w.0 image so sees) rest

  -- no failure is forgotten
  later_than : (old new : Parts D) (ws : List Wanted) (xs : List ExecutableView) → Collects g old ws (Ok xs) new → g.failures old.disk ≤ g.failures new.disk
  later_than old new ws xs all = (collects_leaves g old new ws (Ok xs) all).stays.later

  -- why an image of a case that is there can't be read
  abbrev Hinders : Parts D → ArchiveFault → Parts D → Type 0
  Hinders old f new = (f ≡ OutOfMemory) ⊎ ((f ≡ Disk) × HasRisen (g.failures old.disk) (g.failures new.disk))

  unseen : (old new : Parts D) (seq : ℕ) (f : ArchiveFault) → (state_of old).stopped ≡ false → (case_numbered seq (state_of old).cases ≡ None → ⊥) → LooksAt g old seq (Err f) new → Hinders old f new
  unseen old new seq Stopped runs there call = absurd (false≢true (sym runs ∙ call.step.0))
  unseen old new seq NoCase runs there call = absurd (there call.step.1)
  unseen old new seq OutOfMemory runs there call = inl refl
  unseen old new seq Disk runs there call = inr (refl, call.cause refl)
  unseen old new seq _ runs there call = absurd call.step

  hinders_since : (a b c : Parts D) (f : ArchiveFault) → g.failures a.disk ≤ g.failures b.disk → Hinders b f c → Hinders a f c
  hinders_since a b c f later h = ⊎_elim (λ short. inl short) (λ failed. inr (failed.0, risen_since _ _ _ later failed.1)) h

  unread : (old new : Parts D) (ws : List Wanted) (f : ArchiveFault) → (state_of old).stopped ≡ false → All (IsThere (state_of old).cases) ws → Collects g old ws (Err f) new → Hinders old f new
  unread old new [] f runs there all = absurd cc
  unread old new (w ∷ ws) f runs there (Err e, mid, call, (is, still)) =
      let same : e ≡ f = cc in
      subst (λ (x : ArchiveFault). Hinders old x new) same (subst (Hinders old e) (sym still) (unseen old mid w.0 e runs (All-head (IsThere (state_of old).cases) w ws there) call))
  unread old new (w ∷ ws) f runs there (Ok image, mid, sees, inl short) = inl cc
  unread old new (w ∷ ws) f runs there (Ok image, mid, sees, inr (Ok ys, rest, is)) = absurd cc
  unread old new (w ∷ ws) f runs there (Ok image, mid, sees, inr (Err e, rest, is)) =
      let same : e ≡ f = cc in
      let more = unread mid new ws e (ap (λ (s : ArchiveState). s.stopped) sees.state ∙ runs)
      (subst (λ (s : ArchiveState). All (IsThere s.cases) ws) (sym sees.state) (All-tail (IsThere (state_of old).cases) w ws there)) rest in
      subst (λ (x : ArchiveFault). Hinders old x new) same (hinders_since old mid new e sees.stays.later more)

  hindered : (old new : Parts D) (f : ArchiveFault) (reply : List ℕ) → Hinders old f new → reply ≡ no_reply (reason_of f) → IsHindered g old reply new
  hindered old new f reply h told =
      ⊎_elim (λ short. inl (told ∙ ap (λ (x : ArchiveFault). no_reply (reason_of x)) short))
      (λ failed. inr (told ∙ ap (λ (x : ArchiveFault). no_reply (reason_of x)) failed.0, failed.1)) h

  told_of : (kind : Kind) (q : QuerySaid) (b reply : List ℕ) → Told kind q b reply → (reply ≡ reply_of (answer_of kind q b [] [])) ⊎ (reply ≡ memory_reply)
  told_of kind (ask_symbol address) b reply told = ⊎_elim (λ is. inl is) (λ short. inr short.0) told
  told_of kind _ b reply told = inl told

  module _ (a mid new : Parts D) (seq : ℕ) (q : QuerySaid) (kind : Kind) (reply image : List ℕ) (honest : IsTrue (g.is_honest a.disk)) (runs : (state_of a).stopped ≡ false) (sees : SeesImage g a seq image mid) where
    abbrev IsAnswered : Type 0
    IsAnswered = IsAnsweredOfTheCase g.seen a seq q kind reply ⊎ IsHindered g a reply new

    here : IsStored g.seen a seq image
    here = stored a a mid seq image (record { honest = honest; state = refl; contents = refl }) sees

    -- what shows as the archive did
    as_seen : ShowsAs a mid
    as_seen = sees_as a a mid seq image (record { honest = honest; state = refl; contents = refl }) sees

    runs_on : (state_of mid).stopped ≡ false
    runs_on = ap (λ (s : ArchiveState). s.stopped) sees.state ∙ runs

    abbrev Wants : List Wanted
    Wants = wanted_for q image (state_of mid).cases

    abbrev Debugs : List ExecutableView → List Wanted
    Debugs xs = debugs_for q image (state_of mid).cases xs

    -- why one of those that are wanted can't be read
    by_unread : (then : Parts D) (ws : List Wanted) (f : ArchiveFault) → (state_of then).stopped ≡ false → All (IsThere (state_of then).cases) ws → g.failures a.disk ≤ g.failures then.disk → CollectsAll g then ws (Err f) new → reply ≡ no_reply (reason_of f) → IsAnswered
    by_unread then ws f on there later (inl short) told = inr (hindered a new f reply (inl cc) told)
    by_unread then ws f on there later (inr all) told = inr (hindered a new f reply (hinders_since a then new f later (unread then new ws f on there all)) told)

    by_more : reads_executables q ≡ true → core_fault_for q image ≡ None → (xs : List ExecutableView) (read : Parts D) → Collects g mid Wants (Ok xs) read → (more : Result (List ExecutableView) ArchiveFault) → CollectsAll g read (Debugs xs) more new
        → ToldWithExecutables kind q image (gathered_with Wants xs (Debugs xs) more) reply → IsAnswered
    by_more reads sound xs read all (Ok ds) (inl short) told = absurd cc
    by_more reads sound xs read all (Ok ds) (inr rest) told =
        let are = subst (λ (s : ArchiveState). AreStored g.seen a (wanted_for q image s.cases) xs) sees.state (all_stored a mid read Wants xs as_seen all) in
        let beside = subst (λ (s : ArchiveState). AreStored g.seen a (debugs_for q image s.cases xs) ds) sees.state (all_stored a read new (Debugs xs) ds (read_as a mid read Wants xs as_seen all) rest) in
        let answers = subst (λ (s : ArchiveState). Answers (answer_of kind q image (wanted_for q image s.cases ++ debugs_for q image s.cases xs) (xs ++ ds)) reply) sees.state told in
        ⊎_elim (λ is. inl (of_core image here reads sound xs ds are beside is)) (λ short. inr (inl short)) answers
    by_more reads sound xs read all (Err f) rest told =
        let same = (read_as a mid read Wants xs as_seen all).state ∙ sym sees.state in
        by_unread read (Debugs xs) f (ap (λ (s : ArchiveState). s.stopped) same ∙ runs_on)
        (subst (λ (s : ArchiveState). All (IsThere s.cases) (Debugs xs)) (sym same) (debugs_there q image (state_of mid).cases xs))
        (let first = sees.stays.later in let second = later_than mid read Wants xs all in omega (arith, first, second)) rest told

    by_core : reads_executables q ≡ true → core_fault_for q image ≡ None → ShowsCore g mid kind q image reply new → IsAnswered
    by_core reads sound (r, (Ok xs, read, inl short, more), told) = absurd cc
    by_core reads sound (r, (Ok xs, read, inr all, (more, rest, is)), told) =
        by_more reads sound xs read all more rest (subst (λ (x : Result Gathered ArchiveFault). ToldWithExecutables kind q image x reply) is told)
    by_core reads sound (r, (Err f, read, collects, (is, still)), told) =
        by_unread mid Wants f runs_on (wanted_there q image (state_of mid).cases) sees.stays.later (subst (CollectsAll g mid Wants (Err f)) (sym still) collects)
        (subst (λ (x : Result Gathered ArchiveFault). ToldWithExecutables kind q image x reply) is told)

    by_fault : reads_executables q ≡ true → (o : Option CoreFault) → core_fault_for q image ≡ o → ShowsWithExecutables g mid kind q image o reply new → IsAnswered
    by_fault reads (Some fault) is shows = inl (of_fault image here reads fault is shows.0)
    by_fault reads None is shows = by_core reads is shows

    by_image : (t : Bool) → reads_executables q ≡ t → ShowsBy g mid kind q image t reply new → IsAnswered
    by_image true reads shows = by_fault reads (core_fault_for q image) refl shows
    by_image false reads shows = ⊎_elim (λ is. inl (of_image image here reads is)) (λ short. inr (inl short)) (told_of kind q image reply shows.0)

  asked : (old new : Parts D) (seq : ℕ) (q : QuerySaid) (kind : Kind) (reply : List ℕ) → IsTrue (g.is_honest old.disk) → MayAsk (state_of old) seq q kind → Asks g old seq q (Ok kind) reply new
      → IsAnsweredOfTheCase g.seen old seq q kind reply ⊎ IsHindered g old reply new
  asked old new seq q kind reply honest may (Ok image, mid, sees, shows) = by_image old mid new seq q kind reply image honest may.runs sees (reads_executables q) refl shows
  asked old new seq q kind reply honest may (Err f, mid, call, told) =
      let there : case_numbered seq (state_of old).cases ≡ None → ⊥ = λ none. (let h : Some may.entry ≡ None = sym may.has ∙ none in cc) in
      inr (hindered old new f reply (subst (Hinders old f) (sym told.1) (unseen old mid seq f may.runs there call)) told.0)

  pub answered : AnswersAreOfTheCase g
  answered old new seq q kind reply honest may inspects =
      asked old new seq q kind reply honest may (subst (λ (k : Result Kind (List ℕ)). Asks g old seq q k reply new) (asked_kind g old seq q reply kind may) (steps_of g old seq q reply new inspects))

  -- What is stored under a number is one image.
  one_image : (a : Parts D) (seq : ℕ) (i j : List ℕ) → IsStored g.seen a seq i → IsStored g.seen a seq j → j ≡ i
  one_image a seq i j x y =
      let cases : Some y.entry ≡ Some x.entry = sym y.has ∙ x.has in
      let same : y.entry ≡ x.entry = cc in
      y.bytes ∙ ap (λ (c : Case). image_in (state_of a).shape (g.seen a.disk) c.blocks c.len) same ∙ sym x.bytes

  one_list : (a : Parts D) (ws : List Wanted) (xs ys : List ExecutableView) → AreStored g.seen a ws xs → AreStored g.seen a ws ys → ys ≡ xs
  one_list a [] xs ys p q = q ∙ sym p
  one_list a (w ∷ ws) [] ys p q = absurd p
  one_list a (w ∷ ws) (x ∷ xs) [] p q = absurd q
  one_list a (w ∷ ws) (x ∷ xs) (y ∷ ys) p q =
      let path : y.path ≡ x.path = q.0 ∙ sym p.0 in
      let image : y.image ≡ x.image = one_image a w.0 x.image y.image p.1 q.1 in
      let head : y ≡ x =
      ap (λ (n : List ℕ). record { path = n; image = y.image }) path ∙ ap (λ (i : List ℕ). record { path = x.path; image = i }) image in
      ap (λ (z : ExecutableView). z ∷ ys) head ∙ ap (λ (zs : List ExecutableView). x ∷ zs) (one_list a ws xs ys p.2 q.2)

  pub one : WhatIsStoredHasOneAnswer g
  one a seq q kind reply reply' (of_image i x off told) (of_image j y off' told') =
      told' ∙ ap (λ (b : List ℕ). reply_of (answer_of kind q b [] [])) (one_image a seq i j x y) ∙ sym told
  one a seq q kind reply reply' (of_image i x off told) (of_fault j y on fault is told') = absurd (false≢true (sym off ∙ on))
  one a seq q kind reply reply' (of_image i x off told) (of_core j y on sound xs ds are beside told') = absurd (false≢true (sym off ∙ on))
  one a seq q kind reply reply' (of_fault i x on fault is told) (of_image j y off told') = absurd (false≢true (sym off ∙ on))
  one a seq q kind reply reply' (of_fault i x on fault is told) (of_fault j y on' fault' is' told') =
      let faults : Some fault' ≡ Some fault = sym is' ∙ ap (core_fault_for q) (one_image a seq i j x y) ∙ is in
      let same : fault' ≡ fault = cc in
      told' ∙ ap (λ (f : CoreFault). no_reply (core_reason f)) same ∙ sym told
  one a seq q kind reply reply' (of_fault i x on fault is told) (of_core j y on' sound xs ds are beside told') =
      absurd (let e : None ≡ Some fault = sym sound ∙ ap (core_fault_for q) (one_image a seq i j x y) ∙ is in cc)
  one a seq q kind reply reply' (of_core i x on sound xs ds are beside told) (of_image j y off told') = absurd (false≢true (sym off ∙ on))
  one a seq q kind reply reply' (of_core i x on sound xs ds are beside told) (of_fault j y on' fault is told') =
      absurd (let e : None ≡ Some fault = sym sound ∙ sym (ap (core_fault_for q) (one_image a seq i j x y)) ∙ is in cc)
  one a seq q kind reply reply' (of_core i x on sound xs ds are beside told) (of_core j y on' sound' ys es are' beside' told') =
      let cases = (state_of a).cases in
      let image = one_image a seq i j x y in
      let list = one_list a (wanted_for q i cases) xs ys are (subst (λ (b : List ℕ). AreStored g.seen a (wanted_for q b cases) ys) image are') in
      let first = subst (λ (b : List ℕ). AreStored g.seen a (debugs_for q b cases ys) es) image beside' in
      let more = one_list a (debugs_for q i cases xs) ds es beside (subst (λ (zs : List ExecutableView). AreStored g.seen a (debugs_for q i cases zs) es) list first) in
      told' ∙ ap (λ (b : List ℕ). reply_of (answer_of kind q b (wanted_for q b cases ++ debugs_for q b cases ys) (ys ++ es))) image
      ∙ ap (λ (zs : List ExecutableView). reply_of (answer_of kind q i (wanted_for q i cases ++ debugs_for q i cases zs) (zs ++ es))) list
      ∙ ap (λ (zs : List ExecutableView). reply_of (answer_of kind q i (wanted_for q i cases ++ debugs_for q i cases xs) (xs ++ zs))) more ∙ sym told
