-- What lines that ask an image show of archives that hold the same.
use Rattle.std.proofs.Common.{◌≡◌, ⊎_elim, inl, inr, ℕ, ◌==◌, Bool, true, false, cond, List, [], ◌∷◌, map, Option, Some, None, Result, Ok, Err, refl, sym, ap, subst, ◌∙◌}
use Rattle.std.proofs.lemmas.Bool.{cases_Bool, false≢true}
use Rattle.std.specs.Prelude.{option_map, IsTrue, codes}
use Rattle.address_space.specs.Source.{ExecutableView}
use Rattle.archive_replies.specs.Reasons.{reason_of}
use Rattle.disk_model.specs.declared.disk.Disk as disk
use Rattle.image_replies.specs.declared.core_image.CoreFault.{CoreFault}
use Rattle.intake.specs.Contents.{Contents, image_at}
use Rattle.intake.specs.OneAnswer.{IsDecided}
use Rattle.intake.specs.Parts.{Parts, state_of, contents_of}
use Rattle.intake.specs.State.{ArchiveState}
use Rattle.intake.specs.declared.faults.ArchiveFault.{ArchiveFault}
use Rattle.intake.specs.declared.faults.ArchiveFault.TheVariants.{Stopped, NoCase, OutOfMemory, Disk}
use Rattle.journal_layout.specs.Soundness.{case_numbered}
use Rattle.journal_layout.specs.Case.{Case}
use Rattle.journal_layout.specs.declared.entry.Kind.{Kind}
use Rattle.case_queries.specs.Collecting.{Collects, CollectsAll, Gathered, Gathers, GathersMore, Wanted, debugs_for, gathered_with, wanted_for, with_executable}
use Rattle.case_queries.specs.InspectLaws.{steps_of}
use Rattle.case_queries.specs.Inspecting.{Inspects, Told, core_fault_for, reads_executables}
use Rattle.case_queries.specs.LeaveLaws.{all_leaves}
use Rattle.case_queries.specs.Steps.{Asks, ShowsBy, ShowsWithExecutables, ShowsCore, ToldWithExecutables, kind_asked, kind_found}
use Rattle.case_queries.specs.Seeing.{LooksAt}
use Rattle.script_lines.specs.Queries.{QuerySaid, ask_symbol}
use Rattle.script_streams.specs.Replies.{no_reply}
use Rattle.inspector_cli.specs.Agreement.{HoldSame, IsFree, bytes_taken}

-- a refusal that is told by no free reply is decided
pub told_decided : (f : ArchiveFault) (reply : List ℕ) → reply ≡ no_reply (reason_of f) → (IsFree reply → ⊥) → IsDecided {T = List ℕ} (Err f)
told_decided OutOfMemory reply told bound = bound (inl told)
told_decided Disk reply told bound = bound (inr told)
told_decided _ reply told bound = tt

pub decided_as : (T U : Type 0) (f : ArchiveFault) → IsDecided {T = T} (Err f) → IsDecided {T = U} (Err f)
decided_as T U OutOfMemory x = x
decided_as T U Disk x = x
decided_as T U _ x = tt

-- a case that has an image is there
has_case : (seq : ℕ) (cases : List Case) (images : List (List ℕ)) (image : List ℕ) → image_at seq cases images ≡ Some image → case_numbered seq cases ≡ None → ⊥
has_case seq [] images image is none = cc
has_case seq (c ∷ cs) [] image is none = cc
has_case seq (c ∷ cs) (i ∷ others) image is none =
    (elim (c.seq == seq) as (λ t. cond t (Some i) (image_at seq cs others) ≡ Some image → cond t (Some c) (case_numbered seq cs) ≡ None → ⊥) [
      | true ↦ λ a b. cc
      | false ↦ λ a b. has_case seq cs others image a b
    ]) is none

-- an image that can't be seen in an archive that is not stopped: there is no such case
record Unseen {D : Type 0} (g : disk.Ghosts D) (old : Parts D) (seq : ℕ) (f : ArchiveFault) (new : Parts D) : Type 0 where
  pub is : f ≡ NoCase
  pub state : state_of new ≡ state_of old
  pub contents : contents_of g.seen new ≡ contents_of g.seen old
  pub none : case_numbered seq (state_of old).cases ≡ None

unseen : {D : Type 0} (g : disk.Ghosts D) (old new : Parts D) (seq : ℕ) (f : ArchiveFault) → IsTrue (g.is_honest old.disk) → (state_of old).stopped ≡ false → LooksAt g old seq (Err f) new → IsDecided {T = List ℕ} (Err f)
    → Unseen g old seq f new
unseen g old new seq Stopped honest runs call decided = absurd (false≢true (sym runs ∙ call.step.0))
unseen g old new seq NoCase honest runs call decided = record { is = refl; state = call.step.2; contents = call.bytes honest; none = call.step.1 }
unseen g old new seq OutOfMemory honest runs call decided = absurd decided
unseen g old new seq Disk honest runs call decided = absurd decided
unseen g old new seq _ honest runs call decided = absurd call.step

module _ {D E : Type 0} (g : disk.Ghosts D) (h : disk.Ghosts E) where
  -- what changes neither state nor bytes
  pub held_on : (old new : Parts D) (old' new' : Parts E) → HoldSame g h old old' → state_of new ≡ state_of old → contents_of g.seen new ≡ contents_of g.seen old → state_of new' ≡ state_of old' → contents_of h.seen new' ≡ contents_of h.seen old'
      → HoldSame g h new new'
  held_on old new old' new' same state contents state' contents' = record {
    state = state' ∙ same.state ∙ sym state;
    images = ap (λ (c : Contents). c.images) contents' ∙ same.images ∙ sym (ap (λ (c : Contents). c.images) contents);
    taken = ap (λ (c : Contents). map (option_map bytes_taken) c.taken) contents' ∙ same.taken ∙ sym (ap (λ (c : Contents). map (option_map bytes_taken) c.taken) contents);
  }

  pub held_still : (old new : Parts D) (old' new' : Parts E) → HoldSame g h old old' → new ≡ old → new' ≡ old' → HoldSame g h new new'
  held_still old new old' new' same is is' = held_on old new old' new' same (ap state_of is) (ap (contents_of g.seen) is) (ap state_of is') (ap (contents_of h.seen) is')

  no_such_case : (old : Parts D) (old' : Parts E) (seq : ℕ) → HoldSame g h old old' → case_numbered seq (state_of old').cases ≡ None → case_numbered seq (state_of old).cases ≡ None
  no_such_case old old' seq same none = ap (λ (s : ArchiveState). case_numbered seq s.cases) (sym same.state) ∙ none

  looks_agree : (old new : Parts D) (old' new' : Parts E) (seq : ℕ) (r r' : Result (List ℕ) ArchiveFault) → IsTrue (g.is_honest old.disk) → IsTrue (h.is_honest old'.disk) → HoldSame g h old old' → (state_of old).stopped ≡ false
      → LooksAt g old seq r new → LooksAt h old' seq r' new' → IsDecided r → IsDecided r' → (r' ≡ r) × HoldSame g h new new'
  looks_agree old new old' new' seq (Ok image) (Ok image') honest honest' same runs sees sees' d d' =
      let is : Some image' ≡ Some image =
      sym (sees'.own.bytes honest')
      ∙ ap (λ (s : ArchiveState). image_at seq s.cases (contents_of h.seen old').images) same.state
      ∙ ap (image_at seq (state_of old).cases) same.images
      ∙ sees.own.bytes honest in
      (let e : Ok image' ≡ Ok image = cc in e, held_on old new old' new' same sees.state (sees.contents honest) sees'.state (sees'.contents honest'))
  looks_agree old new old' new' seq (Ok image) (Err f) honest honest' same runs sees call d d' =
      let u = unseen h old' new' seq f honest' (ap (λ (s : ArchiveState). s.stopped) same.state ∙ runs) call d' in
      absurd (has_case seq (state_of old).cases (contents_of g.seen old).images image (sees.own.bytes honest) (no_such_case old old' seq same u.none))
  looks_agree old new old' new' seq (Err f) (Ok image) honest honest' same runs call sees d d' =
      let u = unseen g old new seq f honest runs call d in
      absurd (has_case seq (state_of old').cases (contents_of h.seen old').images image (sees.own.bytes honest') (ap (λ (s : ArchiveState). case_numbered seq s.cases) same.state ∙ u.none))
  looks_agree old new old' new' seq (Err f) (Err f') honest honest' same runs call call' d d' =
      let u = unseen g old new seq f honest runs call d in
      let u' = unseen h old' new' seq f' honest' (ap (λ (s : ArchiveState). s.stopped) same.state ∙ runs) call' d' in
      (ap (λ (x : ArchiveFault). Err x) (u'.is ∙ sym u.is), held_on old new old' new' same u.state u.contents u'.state u'.contents)

  others_decided : (path image : List ℕ) (others : Result (List ExecutableView) ArchiveFault) → IsDecided (with_executable path image others) → IsDecided others
  others_decided path image (Ok xs) decided = tt
  others_decided path image (Err f) decided = decided

  abbrev Agrees : Parts D → Parts E → Result (List ExecutableView) ArchiveFault → Result (List ExecutableView) ArchiveFault → Type 0
  Agrees new new' r r' = (r' ≡ r) × HoldSame g h new new'

  collects_agree : (xs : List Wanted) (old new : Parts D) (old' new' : Parts E) (r r' : Result (List ExecutableView) ArchiveFault) → IsTrue (g.is_honest old.disk) → IsTrue (h.is_honest old'.disk) → HoldSame g h old old' → (state_of old).stopped ≡ false
      → Collects g old xs r new → Collects h old' xs r' new' → IsDecided r → IsDecided r' → Agrees new new' r r'
  collects_agree [] old new old' new' r r' honest honest' same runs all all' d d' = (all'.0 ∙ sym all.0, held_still old new old' new' same all.1 all'.1)
  collects_agree (x ∷ xs) old new old' new' r r' honest honest' same runs (Ok image, mid, sees, inl short) all' d d' = absurd (subst IsDecided short.0 d)
  collects_agree (x ∷ xs) old new old' new' r r' honest honest' same runs (Ok image, mid, sees, inr (others, rest, is)) (Ok image', mid', sees', inl short) d d' = absurd (subst IsDecided short.0 d')
  collects_agree (x ∷ xs) old new old' new' r r' honest honest' same runs (Ok image, mid, sees, inr (others, rest, is)) (Ok image', mid', sees', inr (others', rest', is')) d d' =
      let looks = looks_agree old mid old' mid' x.0 (Ok image) (Ok image') honest honest' same runs sees sees' tt tt in
      let more = collects_agree xs mid new mid' new' others others' (sees.stays.honesty ∙ honest) (sees'.stays.honesty ∙ honest') looks.1 (ap (λ (s : ArchiveState). s.stopped) sees.state ∙ runs) rest rest'
      (others_decided x.1 image others (subst IsDecided is d)) (others_decided x.1 image' others' (subst IsDecided is' d')) in
      let one : image' ≡ image = (let e = looks.0 in cc) in
      (is' ∙ ap (λ (i : List ℕ). with_executable x.1 i others') one ∙ ap (with_executable x.1 image) more.0 ∙ sym is, more.1)
  collects_agree (x ∷ xs) old new old' new' r r' honest honest' same runs (Ok image, mid, sees, inr more) (Err f', mid', call', is') d d' =
      let looks = looks_agree old mid old' mid' x.0 (Ok image) (Err f') honest honest' same runs sees call' tt (decided_as (List ExecutableView) (List ℕ) f' (subst IsDecided is'.0 d')) in
      absurd (let e = looks.0 in cc)
  collects_agree (x ∷ xs) old new old' new' r r' honest honest' same runs (Err f, mid, call, is) (Ok image', mid', sees', more') d d' =
      let looks = looks_agree old mid old' mid' x.0 (Err f) (Ok image') honest honest' same runs call sees' (decided_as (List ExecutableView) (List ℕ) f (subst IsDecided is.0 d)) tt in
      absurd (let e = looks.0 in cc)
  collects_agree (x ∷ xs) old new old' new' r r' honest honest' same runs (Err f, mid, call, is) (Err f', mid', call', is') d d' =
      let looks = looks_agree old mid old' mid' x.0 (Err f) (Err f') honest honest' same runs call call' (decided_as (List ExecutableView) (List ℕ) f (subst IsDecided is.0 d)) (decided_as (List ExecutableView) (List ℕ) f' (subst IsDecided is'.0 d')) in
      let one : f' ≡ f = (let e = looks.0 in cc) in
      (is'.0 ∙ ap (λ (y : ArchiveFault). Err y) one ∙ sym is.0, held_still mid new mid' new' looks.1 is.1 is'.1)

  all_agree : (xs : List Wanted) (old new : Parts D) (old' new' : Parts E) (r r' : Result (List ExecutableView) ArchiveFault) → IsTrue (g.is_honest old.disk) → IsTrue (h.is_honest old'.disk) → HoldSame g h old old' → (state_of old).stopped ≡ false
      → CollectsAll g old xs r new → CollectsAll h old' xs r' new' → IsDecided r → IsDecided r' → Agrees new new' r r'
  all_agree xs old new old' new' r r' honest honest' same runs (inl short) all' d d' = absurd (subst IsDecided short.0 d)
  all_agree xs old new old' new' r r' honest honest' same runs (inr all) (inl short) d d' = absurd (subst IsDecided short.0 d')
  all_agree xs old new old' new' r r' honest honest' same runs (inr all) (inr all') d d' = collects_agree xs old new old' new' r r' honest honest' same runs all all' d d'

  -- executables that are read leave the state as it was
  collects_state : (xs : List Wanted) (old new : Parts D) (views : List ExecutableView) → Collects g old xs (Ok views) new → state_of new ≡ state_of old
  collects_state [] old new views all = ap state_of all.1
  collects_state (x ∷ xs) old new views (Ok image, mid, sees, inl short) = absurd (let e = short.0 in cc)
  collects_state (x ∷ xs) old new views (Ok image, mid, sees, inr (Ok ys, rest, is)) = collects_state xs mid new ys rest ∙ sees.state
  collects_state (x ∷ xs) old new views (Ok image, mid, sees, inr (Err f, rest, is)) = absurd (let e : Ok views ≡ Err f = is in cc)
  collects_state (x ∷ xs) old new views (Err f, mid, call, is) = absurd (let e = is.0 in cc)

  all_state : (xs : List Wanted) (old new : Parts D) (views : List ExecutableView) → CollectsAll g old xs (Ok views) new → state_of new ≡ state_of old
  all_state xs old new views (inl short) = absurd (let e = short.0 in cc)
  all_state xs old new views (inr all) = collects_state xs old new views all

  more_decided : (ws : List Wanted) (xs : List ExecutableView) (ds : List Wanted) (more : Result (List ExecutableView) ArchiveFault) → IsDecided (gathered_with ws xs ds more) → IsDecided more
  more_decided ws xs ds (Ok ys) decided = tt
  more_decided ws xs ds (Err f) decided = decided_as Gathered (List ExecutableView) f decided

  -- what is read for a line, of two archives that hold the same
  module _ (ws : List Wanted) (debugs : List ExecutableView → List Wanted) where
    more_agree : (first : Result (List ExecutableView) ArchiveFault) (mid new : Parts D) (mid' new' : Parts E) (r r' : Result Gathered ArchiveFault) → IsTrue (g.is_honest mid.disk) → IsTrue (h.is_honest mid'.disk) → HoldSame g h mid mid'
        → ((xs : List ExecutableView) → first ≡ Ok xs → (state_of mid).stopped ≡ false)
        → GathersMore g mid ws debugs first r new → GathersMore h mid' ws debugs first r' new' → IsDecided r → IsDecided r' → (r' ≡ r) × HoldSame g h new new'
    more_agree (Ok xs) mid new mid' new' r r' honest honest' same runs (more, collects, is) (more', collects', is') d d' =
        let agreed = all_agree (debugs xs) mid new mid' new' more more' honest honest' same (runs xs refl) collects collects'
        (more_decided ws xs (debugs xs) more (subst IsDecided is d)) (more_decided ws xs (debugs xs) more' (subst IsDecided is' d')) in
        (is' ∙ ap (gathered_with ws xs (debugs xs)) agreed.0 ∙ sym is, agreed.1)
    more_agree (Err f) mid new mid' new' r r' honest honest' same runs (is, still) (is', still') d d' = (is' ∙ sym is, held_still mid new mid' new' same still still')

    first_decided : {F : Type 0} (k : disk.Ghosts F) (first : Result (List ExecutableView) ArchiveFault) (mid new : Parts F) (r : Result Gathered ArchiveFault) → GathersMore k mid ws debugs first r new → IsDecided r → IsDecided first
    first_decided k (Ok xs) mid new r more d = tt
    first_decided k (Err f) mid new r (is, still) d = decided_as Gathered (List ExecutableView) f (subst IsDecided is d)

    gathers_agree : (old new : Parts D) (old' new' : Parts E) (r r' : Result Gathered ArchiveFault) → IsTrue (g.is_honest old.disk) → IsTrue (h.is_honest old'.disk) → HoldSame g h old old' → (state_of old).stopped ≡ false
        → Gathers g old ws debugs r new → Gathers h old' ws debugs r' new' → IsDecided r → IsDecided r' → (r' ≡ r) × HoldSame g h new new'
    gathers_agree old new old' new' r r' honest honest' same runs (first, mid, all, more) (first', mid', all', more') d d' =
        let agreed = all_agree ws old mid old' mid' first first' honest honest' same runs all all' (first_decided g first mid new r more d) (first_decided h first' mid' new' r' more' d') in
        let on : (xs : List ExecutableView) → first ≡ Ok xs → (state_of mid).stopped ≡ false =
        λ xs is. ap (λ (s : ArchiveState). s.stopped) (all_state ws old mid xs (subst (λ (x : Result (List ExecutableView) ArchiveFault). CollectsAll g old ws x mid) is all)) ∙ runs in
        more_agree first mid new mid' new' r r' ((all_leaves g old mid ws first all).stays.honesty ∙ honest) ((all_leaves h old' mid' ws first' all').stays.honesty ∙ honest') agreed.1 on more
        (subst (λ (x : Result (List ExecutableView) ArchiveFault). GathersMore h mid' ws debugs x r' new') agreed.0 more') d d'

  -- the answer of a query
  told_one : (kind : Kind) (q : QuerySaid) (b reply reply' : List ℕ) → Told kind q b reply → Told kind q b reply' → (IsFree reply → ⊥) → (IsFree reply' → ⊥) → reply' ≡ reply
  told_one kind (ask_symbol address) b reply reply' told told' bound bound' =
      ⊎_elim (λ a. ⊎_elim (λ a'. a' ∙ sym a) (λ m. absurd (bound' (inl m.0))) told') (λ m. absurd (bound (inl m.0))) told
  told_one kind _ b reply reply' told told' bound bound' = told' ∙ sym told

  with_executables_decided : (kind : Kind) (q : QuerySaid) (b : List ℕ) (r : Result Gathered ArchiveFault) (reply : List ℕ) → ToldWithExecutables kind q b r reply → (IsFree reply → ⊥) → IsDecided r
  with_executables_decided kind q b (Ok read) reply told bound = tt
  with_executables_decided kind q b (Err f) reply told bound = decided_as (List ℕ) Gathered f (told_decided f reply told bound)

  with_executables_one : (kind : Kind) (q : QuerySaid) (b : List ℕ) (r : Result Gathered ArchiveFault) (reply reply' : List ℕ) → ToldWithExecutables kind q b r reply → ToldWithExecutables kind q b r reply' → (IsFree reply → ⊥) → (IsFree reply' → ⊥)
      → reply' ≡ reply
  with_executables_one kind q b (Ok read) reply reply' told told' bound bound' =
      ⊎_elim (λ a. ⊎_elim (λ a'. a' ∙ sym a) (λ m. absurd (bound' (inl m))) told') (λ m. absurd (bound (inl m))) told
  with_executables_one kind q b (Err f) reply reply' told told' bound bound' = told' ∙ sym told

  module _ (old new : Parts D) (old' new' : Parts E) (kind : Kind) (q : QuerySaid) (b reply reply' : List ℕ) (honest : IsTrue (g.is_honest old.disk)) (honest' : IsTrue (h.is_honest old'.disk)) (same : HoldSame g h old old') (runs : (state_of old).stopped ≡ false)
      (bound : IsFree reply → ⊥) (bound' : IsFree reply' → ⊥) where
    core_agrees : ShowsCore g old kind q b reply new → ShowsCore h old' kind q b reply' new' → (reply' ≡ reply) × HoldSame g h new new'
    core_agrees (r, all, told) (r', all', told') =
        let gathered = gathers_agree (wanted_for q b (state_of old).cases) (debugs_for q b (state_of old).cases) old new old' new' r r' honest honest' same runs all
        (subst (λ (s : ArchiveState). Gathers h old' (wanted_for q b s.cases) (debugs_for q b s.cases) r' new') same.state all')
        (with_executables_decided kind q b r reply told bound) (with_executables_decided kind q b r' reply' told' bound') in
        let same_read = subst (λ (x : Result Gathered ArchiveFault). ToldWithExecutables kind q b x reply') gathered.0 told' in
        (with_executables_one kind q b r reply reply' told same_read bound bound', gathered.1)

    with_executables_agrees : (o : Option CoreFault) → ShowsWithExecutables g old kind q b o reply new → ShowsWithExecutables h old' kind q b o reply' new' → (reply' ≡ reply) × HoldSame g h new new'
    with_executables_agrees (Some fault) shows shows' = (shows'.0 ∙ sym shows.0, held_still old new old' new' same shows.1 shows'.1)
    with_executables_agrees None shows shows' = core_agrees shows shows'

    by_agrees : (t : Bool) → ShowsBy g old kind q b t reply new → ShowsBy h old' kind q b t reply' new' → (reply' ≡ reply) × HoldSame g h new new'
    by_agrees true shows shows' = with_executables_agrees (core_fault_for q b) shows shows'
    by_agrees false shows shows' = (told_one kind q b reply reply' shows.0 shows'.0 bound bound', held_still old new old' new' same shows.1 shows'.1)

  -- an archive that is asked is not stopped
  asked_runs : (s : ArchiveState) (seq : ℕ) (q : QuerySaid) (kind : Kind) → kind_asked s seq q ≡ Ok kind → s.stopped ≡ false
  asked_runs s seq q kind is =
      ⊎_elim (λ (on : s.stopped ≡ true). absurd (let e : Err (codes "Stopped") ≡ Ok kind = sym (ap (λ (t : Bool). cond t (Err (codes "Stopped")) (kind_found q (case_numbered seq s.cases))) on) ∙ is in cc)) (λ off. off) (cases_Bool s.stopped)

  asks_agree : (old new : Parts D) (old' new' : Parts E) (seq : ℕ) (q : QuerySaid) (k : Result Kind (List ℕ)) (reply reply' : List ℕ) → IsTrue (g.is_honest old.disk) → IsTrue (h.is_honest old'.disk) → HoldSame g h old old'
      → kind_asked (state_of old) seq q ≡ k → Asks g old seq q k reply new → Asks h old' seq q k reply' new' → (IsFree reply → ⊥) → (IsFree reply' → ⊥) → (reply' ≡ reply) × HoldSame g h new new'
  asks_agree old new old' new' seq q (Err reason) reply reply' honest honest' same is asks asks' bound bound' = (asks'.0 ∙ sym asks.0, held_still old new old' new' same asks.1 asks'.1)
  asks_agree old new old' new' seq q (Ok kind) reply reply' honest honest' same is (Ok image, mid, sees, shows) (Ok image', mid', sees', shows') bound bound' =
      let runs = asked_runs (state_of old) seq q kind is in
      let looks = looks_agree old mid old' mid' seq (Ok image) (Ok image') honest honest' same runs sees sees' tt tt in
      let one : image' ≡ image = (let e = looks.0 in cc) in
      by_agrees mid new mid' new' kind q image reply reply' (sees.stays.honesty ∙ honest) (sees'.stays.honesty ∙ honest') looks.1 (ap (λ (s : ArchiveState). s.stopped) sees.state ∙ runs) bound bound' (reads_executables q) shows
      (subst (λ (i : List ℕ). ShowsBy h mid' kind q i (reads_executables q) reply' new') one shows')
  asks_agree old new old' new' seq q (Ok kind) reply reply' honest honest' same is (Ok image, mid, sees, shows) (Err f', mid', call', told') bound bound' =
      let looks = looks_agree old mid old' mid' seq (Ok image) (Err f') honest honest' same (asked_runs (state_of old) seq q kind is) sees call' tt (told_decided f' reply' told'.0 bound') in
      absurd (let e = looks.0 in cc)
  asks_agree old new old' new' seq q (Ok kind) reply reply' honest honest' same is (Err f, mid, call, told) (Ok image', mid', sees', shows') bound bound' =
      let looks = looks_agree old mid old' mid' seq (Err f) (Ok image') honest honest' same (asked_runs (state_of old) seq q kind is) call sees' (told_decided f reply told.0 bound) tt in
      absurd (let e = looks.0 in cc)
  asks_agree old new old' new' seq q (Ok kind) reply reply' honest honest' same is (Err f, mid, call, told) (Err f', mid', call', told') bound bound' =
      let looks = looks_agree old mid old' mid' seq (Err f) (Err f') honest honest' same (asked_runs (state_of old) seq q kind is) call call' (told_decided f reply told.0 bound) (told_decided f' reply' told'.0 bound') in
      let one : f' ≡ f = (let e = looks.0 in cc) in
      (told'.0 ∙ ap (λ (x : ArchiveFault). no_reply (reason_of x)) one ∙ sym told.0, held_still mid new mid' new' looks.1 told.1 told'.1)

  pub inspects_agree : (old new : Parts D) (old' new' : Parts E) (seq : ℕ) (q : QuerySaid) (reply reply' : List ℕ) → IsTrue (g.is_honest old.disk) → IsTrue (h.is_honest old'.disk) → HoldSame g h old old'
      → Inspects g old seq q reply new → Inspects h old' seq q reply' new' → (IsFree reply → ⊥) → (IsFree reply' → ⊥) → (reply' ≡ reply) × HoldSame g h new new'
  inspects_agree old new old' new' seq q reply reply' honest honest' same asks asks' bound bound' =
      asks_agree old new old' new' seq q (kind_asked (state_of old) seq q) reply reply' honest honest' same refl (steps_of g old seq q reply new asks)
      (subst (λ (s : ArchiveState). Asks h old' seq q (kind_asked s seq q) reply' new') same.state (steps_of h old' seq q reply' new' asks')) bound bound'
