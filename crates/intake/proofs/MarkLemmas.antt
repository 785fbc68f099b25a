-- What is found after a stop, told by the marks of a run.
use Rattle.std.proofs.Common.{◌≡◌, ◌⊎◌, ℕ, zero, suc, ◌<◌, ◌≤◌, Bool, true, false, not, List, [], ◌∷◌, ◌++◌, map, refl, sym, ap, subst, ◌∙◌, ⊎_elim, inl, inr, arith, Option, None, Some, Result, Ok, Err, length}
use Rattle.std.proofs.lemmas.Bool.{cases_lt, false≢true}
use Rattle.std.specs.Prelude.{IsTrue, option_map}
use Rattle.disk_model.specs.Moments.{AddsOnly}
use Rattle.disk_model.specs.MomentLaws.{adds_weakened}
use Rattle.disk_model.specs.declared.disk.Disk as disk
use Rattle.intake.specs.Calls.{ChangesNoCase, Changes, FinishCall, DeleteCall, PinCall, LabelCall, UpgradeCall, RetireCall}
use Rattle.intake.specs.Durable.{Durable, StandsFor, durable_of, durable_part, with_images, with_case, without, flagged, labelled, upgraded}
use Rattle.intake.specs.Contents.{Contents, Taken, FinishBytes, UnmovedBytes}
use Rattle.intake.specs.Growth.{IsDiskFault}
use Rattle.std.specs.List.{AllByRecursion}
use Rattle.intake.specs.Guarding.{Leaves, LeavesNew, StoresIn, MayBeStored, MayBeRetired}
use Rattle.intake.specs.Marks.{Mark, IsOneOf, FindsMark, IsMarkSettled, Passes, IsRunOfMarks, last_of, FindsOne, IsFoundFrom, IsFoundSince, mark_of, doubted, LeadsToMark}
use Rattle.intake.specs.Parts.{Parts, StreamParts, state_of, stream_facts, contents_of, taken_in}
use Rattle.intake.specs.Slots.{stream_at}
use Rattle.intake.specs.State.{ArchiveState, StreamFacts, blocks_for}
use Rattle.intake.specs.Step.{MayHaveRuns, FinishStep, DeleteStep, PinStep, LabelStep, UpgradeStep, RetireStep, brief_of, stored, halted, without_cases, with_flag, with_label, anew_in_two}
use Rattle.intake.specs.declared.faults.ArchiveFault.{ArchiveFault}
use Rattle.intake.specs.declared.faults.ArchiveFault.TheVariants as fault
use Rattle.intake.proofs.DurableLemmas.{durable_is}
use Rattle.retention.specs.Rule.{IsDecision, holds_after, goes, seq_of}
use Rattle.retention.specs.declared.Brief.{Brief}
use Rattle.retention.specs.declared.Decision.{Decision}
use Rattle.retention.specs.declared.Policy.{Policy}
use Rattle.journal_layout.specs.Case.{Case}
use Rattle.extents.specs.Runs.{runs_of}

module _ {D : Type 0} (g : disk.Ghosts D) (only : (d : D) (c : List ℕ) → g.left_since d (g.clock d) c → g.may_leave d c) where
  first_finds : (c : List ℕ) (m : Mark D) (ns : List (Mark D)) → FindsMark c m → FindsOne c m ns
  first_finds c m [] found = found
  first_finds c m (n ∷ ns) found = inl found

  -- a crash since a moment before a mark leaves what it could have left at the mark, or what a mark from it on has
  pub since : (t : ℕ) (m : Mark D) (ns : List (Mark D)) → t ≤ g.clock m.disk → IsTrue (g.is_honest m.disk) → IsRunOfMarks g m ns
      → (c : List ℕ) → g.left_since (last_of m ns).disk t c → g.left_since m.disk t c ⊎ FindsOne c m ns
  since t m [] early honest run c was = inl was
  since t m (n ∷ ns) early honest run c was =
      let crash = run.0.crash honest in
      ⊎_elim
      (λ at_next. ⊎_elim (λ earlier. inl earlier) (λ found. inr (⊎_elim (λ here. inl here) (λ there. inr (first_finds c n ns there)) found)) (crash.added t c early at_next))
      (λ later. inr (inr later))
      (since t n ns (let l = crash.later in omega (arith, early, l)) (run.0.honesty ∙ honest) run.1 c was)

  pub found_from : (m : Mark D) (ns : List (Mark D)) → IsTrue (g.is_honest m.disk) → IsMarkSettled g m → IsRunOfMarks g m ns → IsFoundFrom g m ns
  found_from m ns honest settled run c was =
      ⊎_elim (λ now. first_finds c m ns (settled c (only m.disk c now))) (λ found. found) (since (g.clock m.disk) m ns (omega arith) honest run c was)

  pub found_since : (m : Mark D) (ns : List (Mark D)) → IsTrue (g.is_honest m.disk) → IsMarkSettled g m → IsRunOfMarks g m ns → IsFoundSince g m ns
  found_since m [] honest settled run = found_from m [] honest settled run
  found_since m (n ∷ ns) honest settled run = (found_from m (n ∷ ns) honest settled run, found_since n ns (run.0.honesty ∙ honest) (run.0.settled honest settled) run.1)

some_is : {X : Type 0} (x y : X) → Some x ≡ Some y → x ≡ y
some_is x y e = cc

none_some : {X : Type 0} (x : X) → None ≡ Some x → ⊥
none_some x e = cc

disk_or_not : (f : ArchiveFault) → (f ≡ fault.Disk) ⊎ (f ≡ fault.Disk → ⊥)
disk_or_not fault.Disk = inl refl
disk_or_not _ = inr (λ e. cc)

-- what was in doubt stays so
old_doubts : (more before : List Durable) (x : Durable) → IsOneOf before x → IsOneOf (more ++ before) x
old_doubts [] before x was = was
old_doubts (y ∷ more) before x was = inr (old_doubts more before x was)

new_doubts : (more before : List Durable) (x : Durable) → IsOneOf more x → IsOneOf (more ++ before) x
new_doubts [] before x is = absurd is
new_doubts (y ∷ more) before x is = ⊎_elim (λ here. inl here) (λ there. inr (new_doubts more before x there)) is

which_doubt : (more before : List Durable) (x : Durable) → IsOneOf (more ++ before) x → IsOneOf more x ⊎ IsOneOf before x
which_doubt [] before x is = inr is
which_doubt (y ∷ more) before x is = ⊎_elim (λ here. inl (inl here)) (λ there. ⊎_elim (λ a. inl (inr a)) (λ b. inr b) (which_doubt more before x there)) is

-- what is in doubt after an answer is what the call would have left
among_doubted : {T : Type 0} (r : Result T ArchiveFault) (more : List Durable) (x : Durable) → IsOneOf (doubted {T = T} r more) x → IsOneOf more x
among_doubted (Ok v) more x is = absurd is
among_doubted (Err fault.Disk) more x is = is
among_doubted (Err _) more x is = absurd is

-- what a call may leave is found at one of its two marks
left_found : {D : Type 0} (T : Type 0) (seen : D → List ℕ) (old new : Parts D) (r : Result T ArchiveFault) (doubt : Durable → Type 0) (before more : List Durable) (c : List ℕ)
    → (IsDiskFault r → (x : Durable) → doubt x → IsOneOf more x)
    → LeavesNew {T = T} r (durable_of seen new) doubt c → FindsMark c (mark_of seen old before) ⊎ FindsMark c (mark_of seen new (doubted {T = T} r more ++ before))
left_found T seen old new (Ok v) doubt before more c among stands = inr (durable_of seen new, stands, inl refl)
left_found T seen old new (Err fault.Disk) doubt before more c among h = inr (h.0, h.2, inr (new_doubts more before h.0 (among refl h.0 h.1)))
left_found T seen old new (Err _) doubt before more c among h = absurd h

module _ {D : Type 0} (g : disk.Ghosts D) (counts : (d : D) (t : ℕ) (c : List ℕ) → t ≤ g.clock d → g.may_leave d c → g.left_since d t c)
    (only : (d : D) (c : List ℕ) → g.left_since d (g.clock d) c → g.may_leave d c) (old new : Parts D) (before more : List Durable) where
  abbrev first : Mark D
  first = mark_of g.seen old before

  abbrev second : Mark D
  second = mark_of g.seen new (more ++ before)

  -- what the first mark has the second has too, where the cases stay
  carried : durable_of g.seen new ≡ durable_of g.seen old → (c : List ℕ) → FindsMark c first → FindsMark c second
  carried same c found = (found.0, found.1, ⊎_elim (λ is. inl (is ∙ sym same)) (λ was. inr (old_doubts more before found.0 was)) found.2)

  still_settled : AddsOnly g old.disk new.disk (λ c. FindsMark c first ⊎ FindsMark c second) → durable_of g.seen new ≡ durable_of g.seen old → IsMarkSettled g first → IsMarkSettled g second
  still_settled crash same settled c may =
      ⊎_elim
      (λ was. carried same c (settled c (only old.disk c was)))
      (λ found. ⊎_elim (λ a. carried same c a) (λ b. b) found)
      (crash.added (g.clock old.disk) c (omega arith) (counts new.disk (g.clock old.disk) c crash.later may))

module _ {D : Type 0} (T : Type 0) (g : disk.Ghosts D) (counts : (d : D) (t : ℕ) (c : List ℕ) → t ≤ g.clock d → g.may_leave d c → g.left_since d t c)
    (only : (d : D) (c : List ℕ) → g.left_since d (g.clock d) c → g.may_leave d c) (old new : Parts D) (r : Result T ArchiveFault) (doubt : Durable → Type 0) where
  -- where the cases of a stopped archive are those that it had
  change_passes : (before more : List Durable) → Changes T g old r new doubt → (IsDiskFault r → (x : Durable) → doubt x → IsOneOf more x)
      → ((x : Durable) → IsOneOf more x → (durable_of g.seen old).next ≤ x.next) → (durable_of g.seen old).next ≤ (durable_of g.seen new).next
      → (new.stopped ≡ true → IsTrue (g.is_honest old.disk) → durable_of g.seen new ≡ durable_of g.seen old)
      → Passes g (mark_of g.seen old before) (mark_of g.seen new (doubted {T = T} r more ++ before))
  change_passes before more changes among above number same = record {
    honesty = changes.disk.honesty;
    crash = moments;
    settled = λ honest settled. here honest settled new.stopped refl;
    number = λ honest. number;
    doubts = λ honest x one. ⊎_elim (λ new_one. inr (above x (among_doubted r more x new_one))) (λ was. inl was) (which_doubt (doubted {T = T} r more) before x one);
  }
    where
      moments : IsTrue (g.is_honest old.disk) → AddsOnly g old.disk new.disk (λ c. FindsMark c (mark_of g.seen old before) ⊎ FindsMark c (mark_of g.seen new (doubted {T = T} r more ++ before)))
      moments honest =
          adds_weakened g old.disk new.disk (Leaves {T = T} (durable_of g.seen old) r (durable_of g.seen new) doubt)
          (λ c. FindsMark c (mark_of g.seen old before) ⊎ FindsMark c (mark_of g.seen new (doubted {T = T} r more ++ before)))
          (λ c h. ⊎_elim (λ stands'. inl (durable_of g.seen old, stands', inl refl)) (λ more'. left_found T g.seen old new r doubt before more c among more') h) (changes.crash honest)

      here : IsTrue (g.is_honest old.disk) → IsMarkSettled g (mark_of g.seen old before) → (b : Bool) → new.stopped ≡ b → IsMarkSettled g (mark_of g.seen new (doubted {T = T} r more ++ before))
      here honest settled false is c may = (durable_of g.seen new, changes.stands is (changes.disk.honesty ∙ honest) c may, inl refl)
      here honest settled true is c may = still_settled g counts only old new before (doubted {T = T} r more) (moments honest) (same is honest) settled c may

  -- a call whose answer leaves nothing in doubt
  leads_plain : (IsDiskFault r → ⊥) → Changes T g old r new doubt → (durable_of g.seen old).next ≤ (durable_of g.seen new).next
      → (new.stopped ≡ true → IsTrue (g.is_honest old.disk) → durable_of g.seen new ≡ durable_of g.seen old) → LeadsToMark T g old r new doubt
  leads_plain not_disk changes number same before = ([], tt, change_passes before [] changes (λ is x may. absurd (not_disk is)) (λ x one. absurd one) number same)

  -- a call that has none in doubt
  leads_none : ((x : Durable) → doubt x → ⊥) → Changes T g old r new doubt → (durable_of g.seen old).next ≤ (durable_of g.seen new).next
      → (new.stopped ≡ true → IsTrue (g.is_honest old.disk) → durable_of g.seen new ≡ durable_of g.seen old) → LeadsToMark T g old r new doubt
  leads_none none changes number same before = ([], tt, change_passes before [] changes (λ is x may. absurd (none x may)) (λ x one. absurd one) number same)

  -- a call that has one archive in doubt
  leads_one : (x : Durable) → doubt x → ((y : Durable) → doubt y → y ≡ x) → (durable_of g.seen old).next ≤ x.next → Changes T g old r new doubt
      → (durable_of g.seen old).next ≤ (durable_of g.seen new).next
      → (new.stopped ≡ true → IsTrue (g.is_honest old.disk) → durable_of g.seen new ≡ durable_of g.seen old) → LeadsToMark T g old r new doubt
  leads_one x may one high changes number same before =
      (x ∷ [], (may, tt), change_passes before (x ∷ []) changes (λ is y may'. inl (one y may')) (λ y is. ⊎_elim (λ same_x. subst (λ (z : Durable). (durable_of g.seen old).next ≤ z.next) (sym same_x) high) (λ none. absurd none) is) number same)

module _ {D : Type 0} (g : disk.Ghosts D) (counts : (d : D) (t : ℕ) (c : List ℕ) → t ≤ g.clock d → g.may_leave d c → g.left_since d t c)
    (only : (d : D) (c : List ℕ) → g.left_since d (g.clock d) c → g.may_leave d c) (old new : Parts D) (before : List Durable) where
  pub stays_lead : ChangesNoCase g old new → Passes g (mark_of g.seen old before) (mark_of g.seen new before)
  stays_lead stays = record {
    honesty = stays.honesty;
    crash = moments;
    settled = λ honest settled. still_settled g counts only old new before [] (moments honest) (stays.durable honest) settled;
    number = λ honest. (let e = ap (λ (x : Durable). x.next) (stays.durable honest) in omega (arith, e));
    doubts = λ honest x one. inl one;
  }
    where
      moments : IsTrue (g.is_honest old.disk) → AddsOnly g old.disk new.disk (λ c. FindsMark c (mark_of g.seen old before) ⊎ FindsMark c (mark_of g.seen new before))
      moments honest =
          adds_weakened g old.disk new.disk (λ c. StandsFor c (durable_of g.seen old)) (λ c. FindsMark c (mark_of g.seen old before) ⊎ FindsMark c (mark_of g.seen new before))
          (λ c stands. inl (durable_of g.seen old, stands, inl refl)) (stays.crash honest)

-- what is in doubt is told of other words for it
all_weakened : (P Q : Durable → Type 0) → ((x : Durable) → P x → Q x) → (xs : List Durable) → AllByRecursion P xs → AllByRecursion Q xs
all_weakened P Q implies [] all = tt
all_weakened P Q implies (x ∷ xs) all = (implies x all.0, all_weakened P Q implies xs all.1)

leads_weakened : {D : Type 0} (T : Type 0) (g : disk.Ghosts D) (old new : Parts D) (r : Result T ArchiveFault) (P Q : Durable → Type 0) → ((x : Durable) → P x → Q x) → LeadsToMark T g old r new P → LeadsToMark T g old r new Q
leads_weakened T g old new r P Q implies leads before = let lead = leads before in (lead.0, all_weakened P Q implies lead.0 lead.1, lead.2)

-- whether an image of `len` bytes may lie in `runs` runs
fits_or_not : (len runs : ℕ) → MayHaveRuns len runs ⊎ (MayHaveRuns len runs → ⊥)
fits_or_not len runs =
    elim (cases_lt (blocks_for len) runs) as (λ _. MayHaveRuns len runs ⊎ (MayHaveRuns len runs → ⊥)) [
      | inl over ↦ inr (λ h. (let w = h.0 in absurd (omega (arith, over, w))))
      | inr within ↦ elim (cases_lt 0 runs) as (λ _. MayHaveRuns len runs ⊎ (MayHaveRuns len runs → ⊥)) [
        | inl some ↦ inl (within, λ _. some)
        | inr none ↦ elim (cases_lt 0 len) as (λ _. MayHaveRuns len runs ⊎ (MayHaveRuns len runs → ⊥)) [
          | inl bytes ↦ inr (λ h. (let w = h.1 bytes in absurd (omega (arith, none, w))))
          | inr empty ↦ inl (within, λ bytes. absurd (omega (arith, empty, bytes)))
        ]
      ]
    ]

-- what a finish may leave is one
one_stored : (blocks : List ℕ) (s : ArchiveState) (c : Contents) (old : Durable) (slot : ℕ) (x y : Durable) → StoresIn blocks s c old slot x → StoresIn blocks s c old slot y → y ≡ x
one_stored blocks s c old slot x y may may' =
    let stream : may'.0 ≡ may.0 = some_is may'.0 may.0 (sym may'.2 ∙ may.2) in
    let taken : may'.1 ≡ may.1 = some_is may'.1 may.1 (sym may'.3 ∙ may.3) in
    may'.5 ∙ ap (λ (z : StreamFacts). with_case old z blocks may'.1.bytes) stream ∙ ap (λ (z : Taken). with_case old may.0 blocks z.bytes) taken ∙ sym may.5

-- the rule has one answer
no_fewer : (policy : Policy) (cases : List Brief) (a b : List ℕ) (u v : Bool) (d : IsDecision policy cases a u) (e : IsDecision policy cases b v) → d.count < e.count → ⊥
no_fewer policy cases a b u v d e less =
    let fails : holds_after policy cases d.count ≡ false = e.fewer_fail d.count less in
    let off : u ≡ true = d.unmet_is ∙ ap not fails in
    let all = d.all_where_unmet off in
    let most = e.within in
    omega (arith, less, all, most)

one_count : (policy : Policy) (cases : List Brief) (a b : List ℕ) (u v : Bool) (d : IsDecision policy cases a u) (e : IsDecision policy cases b v) → d.count ≡ e.count
one_count policy cases a b u v d e =
    elim (cases_lt d.count e.count) as (λ _. d.count ≡ e.count) [
      | inl less ↦ absurd (no_fewer policy cases a b u v d e less)
      | inr high ↦ elim (cases_lt e.count d.count) as (λ _. d.count ≡ e.count) [
        | inl less ↦ absurd (no_fewer policy cases b a v u e d less)
        | inr low ↦ omega (arith, high, low)
      ]
    ]

pub one_unmet : (policy : Policy) (cases : List Brief) (a b : List ℕ) (u v : Bool) → IsDecision policy cases a u → IsDecision policy cases b v → u ≡ v
one_unmet policy cases a b u v d e = d.unmet_is ∙ ap (λ (n : ℕ). not (holds_after policy cases n)) (one_count policy cases a b u v d e) ∙ sym e.unmet_is

one_decision : (policy : Policy) (cases : List Brief) (a b : List ℕ) (u v : Bool) → IsDecision policy cases a u → IsDecision policy cases b v → a ≡ b
one_decision policy cases a b u v d e =
    d.dropped_are ∙ ap (λ (n : ℕ). map seq_of (goes policy n cases)) (one_count policy cases a b u v d e) ∙ sym e.dropped_are

one_retired : (s : ArchiveState) (policy : Policy) (old x y : Durable) → MayBeRetired s policy old x → MayBeRetired s policy old y → y ≡ x
one_retired s policy old x y may may' = may'.3 ∙ ap (without old) (one_decision policy (map brief_of s.cases) may'.0 may.0 may'.1 may.1 may'.2.1 may.2.1) ∙ sym may.3

-- the cases are told by the state and the bytes
told : {D : Type 0} (seen : D → List ℕ) (old new : Parts D) (b : ArchiveState) (c : Contents) → state_of new ≡ b → contents_of seen new ≡ c
    → durable_part b c ≡ durable_part (state_of old) (contents_of seen old) → durable_of seen new ≡ durable_of seen old
told seen old new b c is has same =
    durable_is seen new ∙ ap (λ (z : ArchiveState). durable_part z (contents_of seen new)) is ∙ ap (durable_part b) has ∙ same ∙ sym (durable_is seen old)

-- what is not stopped is not stopped
goes_on : {D : Type 0} (new : Parts D) (b : ArchiveState) → b.stopped ≡ false → state_of new ≡ b → new.stopped ≡ true → ⊥
goes_on new b runs is stopped = false≢true (sym runs ∙ ap (λ (z : ArchiveState). z.stopped) (sym is) ∙ stopped)

-- the taken bytes of a stream that stands in a slot
taken_there : {D : Type 0} (seen : D → List ℕ) (a : Parts D) (slot : ℕ) (s : StreamFacts) → stream_at (state_of a).streams slot ≡ Some s
    → (t : Taken) × (stream_at (contents_of seen a).taken slot ≡ Some t)
taken_there seen a slot s is = there a.streams slot is
  where
    there : (xs : List (Option StreamParts)) (k : ℕ) → stream_at (map (option_map stream_facts) xs) k ≡ Some s
        → (t : Taken) × (stream_at (map (option_map (taken_in a.journal (seen a.disk))) xs) k ≡ Some t)
    there [] k h = absurd (none_some s h)
    there (None ∷ xs) zero h = absurd (none_some s h)
    there (Some x ∷ xs) zero h = (taken_in a.journal (seen a.disk) x, refl)
    there (x ∷ xs) (suc k) h = there xs k h

module _ {D : Type 0} (g : disk.Ghosts D) (counts : (d : D) (t : ℕ) (c : List ℕ) → t ≤ g.clock d → g.may_leave d c → g.left_since d t c)
    (only : (d : D) (c : List ℕ) → g.left_since d (g.clock d) c → g.may_leave d c) (old new : Parts D) where
  -- a state and bytes that are those before, but for streams
  abbrev pub SameCases : Type 0
  SameCases = durable_of g.seen new ≡ durable_of g.seen old

  pub finish_same : (slot : ℕ) (f : ArchiveFault) → FinishStep (state_of old) slot (Err f) (state_of new) → FinishBytes (contents_of g.seen old) slot (Err f) (contents_of g.seen new) → SameCases
  finish_same slot fault.Stopped step bytes = told g.seen old new (state_of old) (contents_of g.seen old) step.1 bytes refl
  finish_same slot fault.NoStream step bytes = told g.seen old new (state_of old) (contents_of g.seen old) step.2 bytes refl
  finish_same slot fault.SpaceFull step bytes = told g.seen old new _ _ step.5 bytes refl
  finish_same slot fault.JournalFull step bytes = told g.seen old new _ _ step.5 bytes refl
  finish_same slot fault.NumbersSpent step bytes = told g.seen old new _ _ step.6 bytes refl
  finish_same slot fault.OutOfMemory step bytes = told g.seen old new _ _ step.2 bytes refl
  finish_same slot fault.Disk step bytes = told g.seen old new _ _ step.2 bytes refl
  finish_same slot _ step bytes = absurd step

  finish_number : (slot : ℕ) (r : Result ℕ ArchiveFault) → FinishStep (state_of old) slot r (state_of new) → (state_of old).next ≤ (state_of new).next
  finish_number slot (Ok seq) step = let e = ap (λ (b : ArchiveState). b.next) step.7 in omega (arith, e)
  finish_number slot (Err fault.Stopped) step = let e = ap (λ (b : ArchiveState). b.next) step.1 in omega (arith, e)
  finish_number slot (Err fault.NoStream) step = let e = ap (λ (b : ArchiveState). b.next) step.2 in omega (arith, e)
  finish_number slot (Err fault.SpaceFull) step = let e = ap (λ (b : ArchiveState). b.next) step.5 in omega (arith, e)
  finish_number slot (Err fault.JournalFull) step = let e = ap (λ (b : ArchiveState). b.next) step.5 in omega (arith, e)
  finish_number slot (Err fault.NumbersSpent) step = let e = ap (λ (b : ArchiveState). b.next) step.6 in omega (arith, e)
  finish_number slot (Err fault.OutOfMemory) step = let e = ap (λ (b : ArchiveState). b.next) step.2 in omega (arith, e)
  finish_number slot (Err fault.Disk) step = let e = ap (λ (b : ArchiveState). b.next) step.2 in omega (arith, e)
  finish_number slot (Err _) step = absurd step

  -- the next number of a state that it has
  same_number : (b : ArchiveState) → state_of new ≡ b → b.next ≡ (state_of old).next → (state_of old).next ≤ (state_of new).next
  same_number b is same = let e = ap (λ (z : ArchiveState). z.next) is in omega (arith, e, same)

  finish_leads_in : (slot : ℕ) (r : Result ℕ ArchiveFault) (call : FinishCall g old slot r new) → LeadsToMark ℕ g old r new (StoresIn call.blocks (state_of old) (contents_of g.seen old) (durable_of g.seen old) slot)
  finish_leads_in slot (Ok seq) call =
      leads_plain ℕ g counts only old new (Ok seq) (StoresIn call.blocks (state_of old) (contents_of g.seen old) (durable_of g.seen old) slot) (λ is. is) call.changes (finish_number slot (Ok seq) call.step)
      (λ stopped honest. absurd (goes_on new (stored (state_of old) slot call.step.0 call.step.1) call.step.2.0 call.step.7 stopped))
  finish_leads_in slot (Err f) call =
      let same : new.stopped ≡ true → IsTrue (g.is_honest old.disk) → SameCases = λ stopped honest. finish_same slot f call.step (call.bytes honest) in
      ⊎_elim
      (λ is. (
      let step = subst (λ (z : ArchiveFault). FinishStep (state_of old) slot (Err z) (state_of new)) is call.step in
      let t = taken_there g.seen old slot step.0 step.1.1 in
      let x = with_case (durable_of g.seen old) step.0 call.blocks t.0.bytes in
      ⊎_elim
      (λ fits. (
      let may : StoresIn call.blocks (state_of old) (contents_of g.seen old) (durable_of g.seen old) slot x = (step.0, t.0, step.1.1, t.1, fits, refl) in
      leads_one ℕ g counts only old new (Err f) (StoresIn call.blocks (state_of old) (contents_of g.seen old) (durable_of g.seen old) slot) x may
      (λ y may'. one_stored call.blocks (state_of old) (contents_of g.seen old) (durable_of g.seen old) slot x y may may') (omega arith) call.changes (finish_number slot (Err f) call.step) same
      ))
      (λ none. leads_none ℕ g counts only old new (Err f) (StoresIn call.blocks (state_of old) (contents_of g.seen old) (durable_of g.seen old) slot)
      (λ y may. none (subst (λ (z : StreamFacts). MayHaveRuns z.len (length (runs_of call.blocks))) (some_is may.0 step.0 (sym may.2 ∙ step.1.1)) may.4)) call.changes (finish_number slot (Err f) call.step) same)
      (fits_or_not step.0.len (length (runs_of call.blocks)))
      ))
      (λ not. leads_plain ℕ g counts only old new (Err f) (StoresIn call.blocks (state_of old) (contents_of g.seen old) (durable_of g.seen old) slot) not call.changes (finish_number slot (Err f) call.step) same)
      (disk_or_not f)

  pub finish_leads : (slot : ℕ) (r : Result ℕ ArchiveFault) → FinishCall g old slot r new → LeadsToMark ℕ g old r new (MayBeStored (state_of old) (contents_of g.seen old) (durable_of g.seen old) slot)
  finish_leads slot r call = leads_weakened ℕ g old new r (stores slot call.blocks) (MayBeStored (state_of old) (contents_of g.seen old) (durable_of g.seen old) slot) (λ x may. (call.blocks, may)) (finish_leads_in slot r call)
    where
      stores : ℕ → List ℕ → Durable → Type 0
      stores slot' blocks x = StoresIn blocks (state_of old) (contents_of g.seen old) (durable_of g.seen old) slot' x

  -- what a refusal leaves that drops no stream but where the disk failed
  unmoved : (f : ArchiveFault) (b : ArchiveState) → durable_part b (contents_of g.seen old) ≡ durable_part (state_of old) (contents_of g.seen old) → state_of new ≡ b
      → UnmovedBytes (contents_of g.seen old) f (contents_of g.seen new) → SameCases
  unmoved fault.Disk b same is bytes = told g.seen old new b _ is bytes same
  unmoved _ b same is bytes = told g.seen old new b (contents_of g.seen old) is bytes same

  -- the state after such a refusal is the same, but for streams
  abbrev pub IsRefused : Type 0
  IsRefused = (b : ArchiveState) × (state_of new ≡ b) × (b.cases ≡ (state_of old).cases) × (b.next ≡ (state_of old).next) × (b.version ≡ (state_of old).version)

  pub delete_is : (seq : ℕ) (f : ArchiveFault) → DeleteStep (state_of old) seq (Err f) (state_of new) → IsRefused
  delete_is seq fault.Stopped step = (state_of old, step.1, refl, refl, refl)
  delete_is seq fault.NoCase step = (state_of old, step.2, refl, refl, refl)
  delete_is seq fault.Pinned step = (state_of old, step.3, refl, refl, refl)
  delete_is seq fault.JournalFull step = (state_of old, step.4, refl, refl, refl)
  delete_is seq fault.OutOfMemory step = (state_of old, step.4, refl, refl, refl)
  delete_is seq fault.Disk step = (halted (state_of old), step.4, refl, refl, refl)
  delete_is seq _ step = absurd step

  pub pin_is : (seq : ℕ) (flag : Bool) (f : ArchiveFault) → PinStep (state_of old) seq flag (Err f) (state_of new) → IsRefused
  pin_is seq flag fault.Stopped step = (state_of old, step.1, refl, refl, refl)
  pin_is seq flag fault.NoCase step = (state_of old, step.2, refl, refl, refl)
  pin_is seq flag fault.JournalFull step = (state_of old, step.4, refl, refl, refl)
  pin_is seq flag fault.OutOfMemory step = (state_of old, step.4, refl, refl, refl)
  pin_is seq flag fault.Disk step = (halted (state_of old), step.4, refl, refl, refl)
  pin_is seq flag _ step = absurd step

  pub label_is : (seq : ℕ) (text : List ℕ) (f : ArchiveFault) → LabelStep (state_of old) seq text (Err f) (state_of new) → IsRefused
  label_is seq text fault.Stopped step = (state_of old, step.1, refl, refl, refl)
  label_is seq text fault.NoCase step = (state_of old, step.2, refl, refl, refl)
  label_is seq text fault.OldVersion step = (state_of old, step.3, refl, refl, refl)
  label_is seq text fault.JournalFull step = (state_of old, step.4, refl, refl, refl)
  label_is seq text fault.OutOfMemory step = (state_of old, step.4, refl, refl, refl)
  label_is seq text fault.Disk step = (halted (state_of old), step.4, refl, refl, refl)
  label_is seq text _ step = absurd step

  pub upgrade_is : (f : ArchiveFault) → UpgradeStep (state_of old) (Err f) (state_of new) → IsRefused
  upgrade_is fault.Stopped step = (state_of old, step.1, refl, refl, refl)
  upgrade_is fault.JournalFull step = (state_of old, step.2, refl, refl, refl)
  upgrade_is fault.OutOfMemory step = (state_of old, step.2, refl, refl, refl)
  upgrade_is fault.Disk step = (halted (state_of old), step.2, refl, refl, refl)
  upgrade_is _ step = absurd step

  pub retire_is : (policy : Policy) (f : ArchiveFault) → RetireStep (state_of old) policy (Err f) (state_of new) → IsRefused
  retire_is policy fault.Stopped step = (state_of old, step.1, refl, refl, refl)
  retire_is policy fault.JournalFull step = (state_of old, step.4, refl, refl, refl)
  retire_is policy fault.OutOfMemory step = (state_of old, step.1, refl, refl, refl)
  retire_is policy fault.Disk step = (halted (state_of old), step.4, refl, refl, refl)
  retire_is policy _ step = absurd step

  refused_number : IsRefused → (state_of old).next ≤ (state_of new).next
  refused_number is = same_number is.0 is.1 is.3

  pub refused_same : (f : ArchiveFault) → IsRefused
      → UnmovedBytes (contents_of g.seen old) f (contents_of g.seen new) → SameCases
  refused_same f is bytes =
      unmoved f is.0
      (ap (λ (cs : List Case). record { cases = with_images cs (contents_of g.seen old).images; next = is.0.next; version = is.0.version }) is.2
      ∙ ap (λ (n : ℕ). record { cases = with_images (state_of old).cases (contents_of g.seen old).images; next = n; version = is.0.version }) is.3
      ∙ ap (λ (v : ℕ). record { cases = with_images (state_of old).cases (contents_of g.seen old).images; next = (state_of old).next; version = v }) is.4)
      is.1 bytes

  pub delete_leads : (seq : ℕ) (r : Result (Unit {0}) ArchiveFault) → DeleteCall g old seq r new → LeadsToMark (Unit {0}) g old r new (λ x. x ≡ without (durable_of g.seen old) (seq ∷ []))
  delete_leads seq (Ok u) call =
      leads_plain (Unit {0}) g counts only old new (Ok u) (λ x. x ≡ without (durable_of g.seen old) (seq ∷ [])) (λ is. is) call.changes (same_number (without_cases (state_of old) (seq ∷ [])) call.step.4 refl)
      (λ stopped honest. absurd (goes_on new (without_cases (state_of old) (seq ∷ [])) call.step.1.0 call.step.4 stopped))
  delete_leads seq (Err f) call =
      let same : new.stopped ≡ true → IsTrue (g.is_honest old.disk) → SameCases = λ stopped honest. refused_same f (delete_is seq f call.step) (call.bytes honest) in
      ⊎_elim
      (λ is. leads_one (Unit {0}) g counts only old new (Err f) (λ x. x ≡ without (durable_of g.seen old) (seq ∷ [])) (without (durable_of g.seen old) (seq ∷ [])) refl (λ y may. may) (omega arith) call.changes (refused_number (delete_is seq f call.step)) same)
      (λ not. leads_plain (Unit {0}) g counts only old new (Err f) (λ x. x ≡ without (durable_of g.seen old) (seq ∷ [])) not call.changes (refused_number (delete_is seq f call.step)) same)
      (disk_or_not f)

  pub pin_leads : (seq : ℕ) (flag : Bool) (r : Result (Unit {0}) ArchiveFault) → PinCall g old seq flag r new → LeadsToMark (Unit {0}) g old r new (λ x. x ≡ flagged (durable_of g.seen old) seq flag)
  pin_leads seq flag (Ok u) call =
      leads_plain (Unit {0}) g counts only old new (Ok u) (λ x. x ≡ flagged (durable_of g.seen old) seq flag) (λ is. is) call.changes
      (⊎_elim (λ kept. same_number (state_of old) kept.1 refl) (λ set. same_number (with_flag (state_of old) seq flag) set.2 refl) call.step.2)
      (λ stopped honest. absurd (⊎_elim
      (λ kept. goes_on new (state_of old) call.step.1.0 kept.1 stopped)
      (λ set. goes_on new (with_flag (state_of old) seq flag) call.step.1.0 set.2 stopped) call.step.2))
  pin_leads seq flag (Err f) call =
      let same : new.stopped ≡ true → IsTrue (g.is_honest old.disk) → SameCases = λ stopped honest. refused_same f (pin_is seq flag f call.step) (call.bytes honest) in
      ⊎_elim
      (λ is. leads_one (Unit {0}) g counts only old new (Err f) (λ x. x ≡ flagged (durable_of g.seen old) seq flag) (flagged (durable_of g.seen old) seq flag) refl (λ y may. may) (omega arith) call.changes (refused_number (pin_is seq flag f call.step)) same)
      (λ not. leads_plain (Unit {0}) g counts only old new (Err f) (λ x. x ≡ flagged (durable_of g.seen old) seq flag) not call.changes (refused_number (pin_is seq flag f call.step)) same)
      (disk_or_not f)

  pub label_leads : (seq : ℕ) (text : List ℕ) (r : Result (Unit {0}) ArchiveFault) → LabelCall g old seq text r new → LeadsToMark (Unit {0}) g old r new (λ x. x ≡ labelled (durable_of g.seen old) seq text)
  label_leads seq text (Ok u) call =
      leads_plain (Unit {0}) g counts only old new (Ok u) (λ x. x ≡ labelled (durable_of g.seen old) seq text) (λ is. is) call.changes
      (⊎_elim (λ kept. same_number (state_of old) kept.1 refl) (λ set. same_number (with_label (state_of old) seq text) set.2 refl) call.step.2)
      (λ stopped honest. absurd (⊎_elim
      (λ kept. goes_on new (state_of old) call.step.1.0.0 kept.1 stopped)
      (λ set. goes_on new (with_label (state_of old) seq text) call.step.1.0.0 set.2 stopped) call.step.2))
  label_leads seq text (Err f) call =
      let same : new.stopped ≡ true → IsTrue (g.is_honest old.disk) → SameCases = λ stopped honest. refused_same f (label_is seq text f call.step) (call.bytes honest) in
      ⊎_elim
      (λ is. leads_one (Unit {0}) g counts only old new (Err f) (λ x. x ≡ labelled (durable_of g.seen old) seq text) (labelled (durable_of g.seen old) seq text) refl (λ y may. may) (omega arith) call.changes (refused_number (label_is seq text f call.step)) same)
      (λ not. leads_plain (Unit {0}) g counts only old new (Err f) (λ x. x ≡ labelled (durable_of g.seen old) seq text) not call.changes (refused_number (label_is seq text f call.step)) same)
      (disk_or_not f)

  pub upgrade_leads : (r : Result (Unit {0}) ArchiveFault) → UpgradeCall g old r new → LeadsToMark (Unit {0}) g old r new (λ x. x ≡ upgraded (durable_of g.seen old))
  upgrade_leads (Ok u) call =
      leads_plain (Unit {0}) g counts only old new (Ok u) (λ x. x ≡ upgraded (durable_of g.seen old)) (λ is. is) call.changes
      (⊎_elim (λ kept. same_number (state_of old) kept.1 refl) (λ set. same_number (anew_in_two (state_of old)) set.2 refl) call.step.1)
      (λ stopped honest. absurd (⊎_elim
      (λ kept. goes_on new (state_of old) call.step.0 kept.1 stopped)
      (λ set. goes_on new (anew_in_two (state_of old)) call.step.0 set.2 stopped) call.step.1))
  upgrade_leads (Err f) call =
      let same : new.stopped ≡ true → IsTrue (g.is_honest old.disk) → SameCases = λ stopped honest. refused_same f (upgrade_is f call.step) (call.bytes honest) in
      ⊎_elim
      (λ is. leads_one (Unit {0}) g counts only old new (Err f) (λ x. x ≡ upgraded (durable_of g.seen old)) (upgraded (durable_of g.seen old)) refl (λ y may. may) (omega arith) call.changes (refused_number (upgrade_is f call.step)) same)
      (λ not. leads_plain (Unit {0}) g counts only old new (Err f) (λ x. x ≡ upgraded (durable_of g.seen old)) not call.changes (refused_number (upgrade_is f call.step)) same)
      (disk_or_not f)

  pub retire_leads : (policy : Policy) (r : Result Decision ArchiveFault) → RetireCall g old policy r new → LeadsToMark Decision g old r new (λ x. MayBeRetired (state_of old) policy (durable_of g.seen old) x)
  retire_leads policy (Ok d) call =
      leads_plain Decision g counts only old new (Ok d) (λ x. MayBeRetired (state_of old) policy (durable_of g.seen old) x) (λ is. is) call.changes
      (⊎_elim (λ kept. same_number (state_of old) kept.1 refl) (λ gone. same_number (without_cases (state_of old) d.dropped.items) gone.2 refl) call.step.2)
      (λ stopped honest. absurd (⊎_elim
      (λ kept. goes_on new (state_of old) call.step.0 kept.1 stopped)
      (λ gone. goes_on new (without_cases (state_of old) d.dropped.items) call.step.0 gone.2 stopped) call.step.2))
  retire_leads policy (Err f) call =
      let same : new.stopped ≡ true → IsTrue (g.is_honest old.disk) → SameCases = λ stopped honest. refused_same f (retire_is policy f call.step) (call.bytes honest) in
      ⊎_elim
      (λ is. (
      let step = subst (λ (z : ArchiveFault). RetireStep (state_of old) policy (Err z) (state_of new)) is call.step in
      let x = without (durable_of g.seen old) step.0 in
      let may : MayBeRetired (state_of old) policy (durable_of g.seen old) x = (step.0, step.1, step.2, refl) in
      leads_one Decision g counts only old new (Err f) (λ y. MayBeRetired (state_of old) policy (durable_of g.seen old) y) x may
      (λ y may'. one_retired (state_of old) policy (durable_of g.seen old) x y may may') (omega arith) call.changes (refused_number (retire_is policy f call.step)) same
      ))
      (λ not. leads_plain Decision g counts only old new (Err f) (λ y. MayBeRetired (state_of old) policy (durable_of g.seen old) y) not call.changes (refused_number (retire_is policy f call.step)) same)
      (disk_or_not f)
