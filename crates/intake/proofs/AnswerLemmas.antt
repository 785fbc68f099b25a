-- The image that is answered of a case, after other calls.
use Rattle.std.proofs.Common.{◌≡◌, ◌⊎◌, ℕ, ◌+◌, ◌<◌, ◌≤◌, ◌==◌, Bool, true, false, not, cond, List, [], ◌∷◌, ◌++◌, map, refl, sym, ap, subst, ◌∙◌, ⊎_elim, inl, inr, arith, Option, None, Some, Ok, Err, Vec, Global}
use Rattle.std.specs.List.{filter}
use Rattle.std.specs.Prelude.{IsTrue, option_map}
use Rattle.std.proofs.lemmas.Bool.{cases_eq, eq-eqb, ne_eqb, false≢true}
use Rattle.disk_model.specs.declared.disk.Disk as disk
use Rattle.journal_layout.specs.Case.{Case}
use Rattle.journal_layout.specs.Folding.{is_among, pinned_as, labelled_as}
use Rattle.journal_layout.specs.Grammar.{WhatStandsIsLive}
use Rattle.journal_layout.specs.Soundness.{Rise, case_numbered}
use Rattle.intake.specs.Blocks.{image_in}
use Rattle.intake.specs.Calls.{FinishCall}
use Rattle.intake.specs.Durable.{Durable, FoundCase, durable_of, found_case, without, flagged, labelled, made_of}
use Rattle.intake.specs.Lasting.{number_of}
use Rattle.intake.specs.Making.{Call, ReplyTo, Makes, Made, AreMade, StaysOpen, archive_after, taken_over, begin_in, lend_of, advance_by, finish_of, abandon_of, delete_of, pin_of, label_of, upgrade_it, retire_by, image_of, find_case, list_cases, count_free, ask_version, ask_stopped}
use Rattle.intake.specs.Parts.{Parts, state_of, contents_of}
use Rattle.intake.specs.State.{ArchiveState, StreamFacts}
use Rattle.intake.specs.Contents.{image_at}
use Rattle.intake.proofs.ImageLemmas.{image_found}
use Rattle.intake.proofs.LastingLemmas.{numbers_above}
use Rattle.intake.proofs.LastsLemmas.{finish_lasts, delete_lasts, pin_lasts, label_lasts, upgrade_lasts, retire_lasts, refusals_last}
use Rattle.intake.proofs.FactLemmas.{image_taken}
use Rattle.intake.proofs.MakingLemmas.{room_durable, still_honest}

-- the image of the case of this number
abbrev found_image : ℕ → List FoundCase → Option (List ℕ)
found_image seq [] = None
found_image seq (c ∷ cs) = cond (c.case.seq == seq) (Some c.image) (found_image seq cs)

-- one case more, of another number
found_then : (seq : ℕ) (cs : List FoundCase) (c : FoundCase) → (c.case.seq ≡ seq → ⊥) → found_image seq (cs ++ c ∷ []) ≡ found_image seq cs
found_then seq [] c ne = ap (λ (t : Bool). cond t (Some c.image) None) (ne_eqb c.case.seq seq ne)
found_then seq (d ∷ ds) c ne = ap (cond (d.case.seq == seq) (Some d.image)) (found_then seq ds c ne)

-- one case more, of this number, where there was none
found_last : (seq : ℕ) (cs : List FoundCase) (c : FoundCase) → c.case.seq ≡ seq → found_image seq cs ≡ None → found_image seq (cs ++ c ∷ []) ≡ Some c.image
found_last seq [] c is none = ap (λ (t : Bool). cond t (Some c.image) None) (eq-eqb c.case.seq seq is)
found_last seq (d ∷ ds) c is none =
    elim (cases_eq d.case.seq seq) as (λ _. found_image seq ((d ∷ ds) ++ c ∷ []) ≡ Some c.image) [
      | inl here ↦ (let e : Some d.image ≡ None = sym (ap (λ (t : Bool). cond t (Some d.image) (found_image seq ds)) (eq-eqb d.case.seq seq here)) ∙ none in cc)
      | inr ne ↦ ap (λ (t : Bool). cond t (Some d.image) (found_image seq (ds ++ c ∷ []))) (ne_eqb d.case.seq seq ne)
          ∙ found_last seq ds c is (sym (ap (λ (t : Bool). cond t (Some d.image) (found_image seq ds)) (ne_eqb d.case.seq seq ne)) ∙ none)
    ]

abbrev kept : List ℕ → List FoundCase → List FoundCase
kept seqs cs = filter (λ (c : FoundCase). not (is_among seqs c.case.seq)) cs

same_among : (seqs : List ℕ) (a b : ℕ) (t u : Bool) → a ≡ b → is_among seqs a ≡ t → is_among seqs b ≡ u → t ≡ u
same_among seqs a b t u same is at = sym is ∙ ap (is_among seqs) same ∙ at

-- cases that are dropped
found_dropped : (seq : ℕ) (seqs : List ℕ) (cs : List FoundCase) → is_among seqs seq ≡ true → found_image seq (kept seqs cs) ≡ None
found_dropped seq seqs [] among = refl
found_dropped seq seqs (c ∷ cs) among = by_test (found_dropped seq seqs cs among) (is_among seqs c.case.seq) refl
  where
    by_test : found_image seq (kept seqs cs) ≡ None → (t : Bool) → is_among seqs c.case.seq ≡ t → found_image seq (kept seqs (c ∷ cs)) ≡ None
    by_test more true is = ap (λ (t : Bool). found_image seq (cond (not t) (c ∷ kept seqs cs) (kept seqs cs))) is ∙ more
    by_test more false is =
        ap (λ (t : Bool). found_image seq (cond (not t) (c ∷ kept seqs cs) (kept seqs cs))) is
        ∙ ap (λ (t : Bool). cond t (Some c.image) (found_image seq (kept seqs cs))) (ne_eqb c.case.seq seq (λ e. false≢true (same_among seqs c.case.seq seq false true e is among)))
        ∙ more

found_kept : (seq : ℕ) (seqs : List ℕ) (cs : List FoundCase) → is_among seqs seq ≡ false → found_image seq (kept seqs cs) ≡ found_image seq cs
found_kept seq seqs [] among = refl
found_kept seq seqs (c ∷ cs) among = by_test (found_kept seq seqs cs among) (is_among seqs c.case.seq) refl
  where
    by_test : found_image seq (kept seqs cs) ≡ found_image seq cs → (t : Bool) → is_among seqs c.case.seq ≡ t → found_image seq (kept seqs (c ∷ cs)) ≡ found_image seq (c ∷ cs)
    by_test more true is =
        ap (λ (t : Bool). found_image seq (cond (not t) (c ∷ kept seqs cs) (kept seqs cs))) is ∙ more
        ∙ sym (ap (λ (t : Bool). cond t (Some c.image) (found_image seq cs)) (ne_eqb c.case.seq seq (λ e. false≢true (sym (same_among seqs c.case.seq seq true false e is among)))))
    by_test more false is =
        ap (λ (t : Bool). found_image seq (cond (not t) (c ∷ kept seqs cs) (kept seqs cs))) is
        ∙ ap (cond (c.case.seq == seq) (Some c.image)) more

-- cases that keep their numbers
found_made : (seq : ℕ) (f : Case → Case) → ((c : Case) → (f c).seq ≡ c.seq) → (cs : List FoundCase) → found_image seq (map (made_of f) cs) ≡ found_image seq cs
found_made seq f same [] = refl
found_made seq f same (c ∷ cs) =
    ap (λ (k : ℕ). cond (k == seq) (Some c.image) (found_image seq (map (made_of f) cs))) (same c.case) ∙ ap (cond (c.case.seq == seq) (Some c.image)) (found_made seq f same cs)

pin_keeps : (at : ℕ) (flag : Bool) (c : Case) → (pinned_as at flag c).seq ≡ c.seq
pin_keeps at flag c = elim (c.seq == at) as (λ t. (cond t (record c { pinned = flag }) c).seq ≡ c.seq) [ true ↦ refl | false ↦ refl ]

label_keeps : (at : ℕ) (text : List ℕ) (c : Case) → (labelled_as at text c).seq ≡ c.seq
label_keeps at text c = elim (c.seq == at) as (λ t. (cond t (record c { label = text }) c).seq ≡ c.seq) [ true ↦ refl | false ↦ refl ]

-- a number that was given, and whose case has this image or is gone
abbrev IsOrIsGone : ℕ → List ℕ → Durable → Type 0
IsOrIsGone seq image x = (seq < x.next) × ((found_image seq x.cases ≡ Some image) ⊎ (found_image seq x.cases ≡ None))

goes_same : (seq : ℕ) (image : List ℕ) (x y : Durable) → y.next ≡ x.next → found_image seq y.cases ≡ found_image seq x.cases → IsOrIsGone seq image x → IsOrIsGone seq image y
goes_same seq image x y next same was = (
  (let low = was.0 in omega (arith, next, low)),
  ⊎_elim (λ is. inl (same ∙ is)) (λ gone. inr (same ∙ gone)) was.1,
)

goes_without : (seq : ℕ) (image : List ℕ) (x y : Durable) (seqs : List ℕ) → y ≡ without x seqs → IsOrIsGone seq image x → IsOrIsGone seq image y
goes_without seq image x y seqs is was = subst (IsOrIsGone seq image) (sym is) (by_test (is_among seqs seq) refl)
  where
    by_test : (t : Bool) → is_among seqs seq ≡ t → IsOrIsGone seq image (without x seqs)
    by_test true among = (was.0, inr (found_dropped seq seqs x.cases among))
    by_test false among = goes_same seq image x (without x seqs) refl (found_kept seq seqs x.cases among) was

goes_flagged : (seq at : ℕ) (image : List ℕ) (flag : Bool) (x y : Durable) → y ≡ flagged x at flag → IsOrIsGone seq image x → IsOrIsGone seq image y
goes_flagged seq at image flag x y is was = subst (IsOrIsGone seq image) (sym is) (goes_same seq image x (flagged x at flag) refl (found_made seq (pinned_as at flag) (pin_keeps at flag) x.cases) was)

goes_labelled : (seq at : ℕ) (image text : List ℕ) (x y : Durable) → y ≡ labelled x at text → IsOrIsGone seq image x → IsOrIsGone seq image y
goes_labelled seq at image text x y is was = subst (IsOrIsGone seq image) (sym is) (goes_same seq image x (labelled x at text) refl (found_made seq (labelled_as at text) (label_keeps at text) x.cases) was)

goes_stored : (seq : ℕ) (image : List ℕ) (x y : Durable) (c : FoundCase) → y.cases ≡ x.cases ++ c ∷ [] → y.next ≡ x.next + 1 → c.case.seq ≡ x.next → IsOrIsGone seq image x → IsOrIsGone seq image y
goes_stored seq image x y c cases next number was =
    let low = was.0 in
    let same : found_image seq y.cases ≡ found_image seq x.cases = ap (found_image seq) cases ∙ found_then seq x.cases c (λ e. omega (arith, e, number, low)) in
    (omega (arith, next, low), ⊎_elim (λ is. inl (same ∙ is)) (λ gone. inr (same ∙ gone)) was.1)

goes_as : (seq : ℕ) (image : List ℕ) (x y : Durable) → y ≡ x → IsOrIsGone seq image x → IsOrIsGone seq image y
goes_as seq image x y is was = subst (IsOrIsGone seq image) (sym is) was

module _ {D : Type 0} (g : disk.Ghosts D) (counts : (d : D) (t : ℕ) (c : List ℕ) → t ≤ g.clock d → g.may_leave d c → g.left_since d t c)
    (only : (d : D) (c : List ℕ) → g.left_since d (g.clock d) c → g.may_leave d c) where
  goes_over : (seq : ℕ) (image : List ℕ) (old new : Parts D) (call : Call) (r : ReplyTo call) → IsTrue (g.is_honest old.disk) → Makes g old call r new → IsOrIsGone seq image (durable_of g.seen old) → IsOrIsGone seq image (durable_of g.seen new)
  goes_over seq image old new (begin_in slot s) r honest made was = goes_as seq image _ _ (made.stays.durable honest) was
  goes_over seq image old new (lend_of slot left) r honest made was = goes_as seq image _ _ (ap (durable_of g.seen) made.2 ∙ room_durable g.seen old slot r left) was
  goes_over seq image old new (advance_by slot n) r honest made was = goes_as seq image _ _ (made.stays.durable honest) was
  goes_over seq image old new (finish_of slot) (Ok given) honest made was =
      let lasts = finish_lasts g old new honest slot given made in
      goes_stored seq image (durable_of g.seen old) (durable_of g.seen new) _ (ap (λ (x : Durable). x.cases) lasts.1.5) (ap (λ (x : Durable). x.next) lasts.1.5) refl was
  goes_over seq image old new (finish_of slot) (Err f) honest made was = goes_as seq image _ _ (refusals_last g counts only old new f honest (inl (slot, made))) was
  goes_over seq image old new (abandon_of slot) r honest made was = goes_as seq image _ _ (made.stays.durable honest) was
  goes_over seq image old new (delete_of gone) (Ok u) honest made was = goes_without seq image _ _ (gone ∷ []) (delete_lasts g old new honest gone u made) was
  goes_over seq image old new (delete_of gone) (Err f) honest made was = goes_as seq image _ _ (refusals_last g counts only old new f honest (inr (inl (gone, made)))) was
  goes_over seq image old new (pin_of at flag) (Ok u) honest made was =
      let lasts = pin_lasts g old new honest at flag u made in
      ⊎_elim (λ same. goes_as seq image _ _ same.1 was) (λ set. goes_flagged seq at image flag _ _ set.1 was) lasts.2
  goes_over seq image old new (pin_of at flag) (Err f) honest made was = goes_as seq image _ _ (refusals_last g counts only old new f honest (inr (inr (inl (at, flag, made))))) was
  goes_over seq image old new (label_of at text) (Ok u) honest made was =
      let lasts = label_lasts g old new honest at text u made in
      ⊎_elim (λ same. goes_as seq image _ _ same.1 was) (λ set. goes_labelled seq at image text _ _ set.1 was) lasts.2
  goes_over seq image old new (label_of at text) (Err f) honest made was = goes_as seq image _ _ (refusals_last g counts only old new f honest (inr (inr (inr (inr (inl (at, text, made))))))) was
  goes_over seq image old new upgrade_it (Ok u) honest made was = subst (IsOrIsGone seq image) (sym (upgrade_lasts g old new honest u made)) was
  goes_over seq image old new upgrade_it (Err f) honest made was = goes_as seq image _ _ (refusals_last g counts only old new f honest (inr (inr (inr (inr (inr made)))))) was
  goes_over seq image old new (retire_by policy) (Ok d) honest made was = goes_without seq image _ _ d.dropped.items (retire_lasts g old new honest policy d made) was
  goes_over seq image old new (retire_by policy) (Err f) honest made was = goes_as seq image _ _ (refusals_last g counts only old new f honest (inr (inr (inr (inl (policy, made)))))) was
  goes_over seq image old new (image_of at) r honest made was = goes_as seq image _ _ (made.stays.durable honest) was
  goes_over seq image old new (find_case at) r honest made was = goes_as seq image _ _ (ap (durable_of g.seen) made.1) was
  goes_over seq image old new list_cases r honest made was = goes_as seq image _ _ (ap (durable_of g.seen) made.1) was
  goes_over seq image old new count_free r honest made was = goes_as seq image _ _ (ap (durable_of g.seen) made.1) was
  goes_over seq image old new ask_version r honest made was = goes_as seq image _ _ (ap (durable_of g.seen) made.1) was
  goes_over seq image old new ask_stopped r honest made was = goes_as seq image _ _ (ap (durable_of g.seen) made.1) was

  goes_all : (seq : ℕ) (image : List ℕ) (a : Parts D) (made : List (Made D)) → IsTrue (g.is_honest a.disk) → AreMade g a made → IsOrIsGone seq image (durable_of g.seen a)
      → IsOrIsGone seq image (durable_of g.seen (archive_after a made)) × IsTrue (g.is_honest (archive_after a made).disk)
  goes_all seq image a [] honest all was = (was, honest)
  goes_all seq image a (m ∷ ms) honest all was =
      goes_all seq image m.archive ms (still_honest g a m.archive m.call m.reply all.0 ∙ honest) all.1 (goes_over seq image a m.archive m.call m.reply honest all.0 was)

-- the numbers of the cases before the last one are below its number
rise_below : (last : ℕ) (cs : List FoundCase) (c : FoundCase) → Rise last (map number_of (cs ++ c ∷ [])) → last < c.case.seq
rise_below last [] c rise = rise.0
rise_below last (d ∷ ds) c rise = (let first = rise.0 in omega (arith, first, rise_below d.case.seq ds c rise.1))

none_before : (seq last : ℕ) (cs : List FoundCase) (c : FoundCase) → c.case.seq ≡ seq → Rise last (map number_of (cs ++ c ∷ [])) → found_image seq cs ≡ None
none_before seq last [] c is rise = refl
none_before seq last (d ∷ ds) c is rise =
    ap (λ (t : Bool). cond t (Some d.image) (found_image seq ds)) (ne_eqb d.case.seq seq (λ e. omega (arith, e, is, rise_below d.case.seq ds c rise.1)))
    ∙ none_before seq d.case.seq ds c is rise.1

-- the image that a call of image answers
found_numbered : (seq : ℕ) (find : Case → FoundCase) (image : Case → List ℕ) → ((c : Case) → (find c).case.seq ≡ c.seq) → ((c : Case) → (find c).image ≡ image c) → (cases : List Case)
    → found_image seq (map find cases) ≡ option_map image (case_numbered seq cases)
found_numbered seq find image number same [] = refl
found_numbered seq find image number same (c ∷ cs) =
    ap (λ (k : ℕ). cond (k == seq) (Some (find c).image) (found_image seq (map find cs))) (number c)
    ∙ by_test (found_numbered seq find image number same cs) (c.seq == seq)
  where
    by_test : found_image seq (map find cs) ≡ option_map image (case_numbered seq cs) → (t : Bool) → cond t (Some (find c).image) (found_image seq (map find cs)) ≡ option_map image (cond t (Some c) (case_numbered seq cs))
    by_test more true = ap (λ (x : List ℕ). Some x) (same c)
    by_test more false = more

image_of_case : {D : Type 0} (seen : D → List ℕ) (a : Parts D) (seq : ℕ) → image_at seq (state_of a).cases (contents_of seen a).images ≡ found_image seq (durable_of seen a).cases
image_of_case seen a seq =
    image_found seq (λ (c : Case). image_in a.journal.standing.shape (seen a.disk) c.blocks c.len) a.journal.standing.cases
    ∙ sym (found_numbered seq (found_case a.journal.standing.shape (seen a.disk)) (λ (c : Case). image_in a.journal.standing.shape (seen a.disk) c.blocks c.len) (λ c. refl) (λ c. refl) a.journal.standing.cases)

one_or_none : (o : Option (List ℕ)) (x y : List ℕ) → (o ≡ Some x) ⊎ (o ≡ None) → o ≡ Some y → y ≡ x
one_or_none o x y was is = ⊎_elim (λ here. (let e : Some x ≡ Some y = sym here ∙ is in sym (inside e))) (λ gone. (let e : None ≡ Some y = sym gone ∙ is in cc)) was
  where
    inside : Some x ≡ Some y → x ≡ y
    inside e = cc

module _ {D : Type 0} (g : disk.Ghosts D) (counts : (d : D) (t : ℕ) (c : List ℕ) → t ≤ g.clock d → g.may_leave d c → g.left_since d t c)
    (only : (d : D) (c : List ℕ) → g.left_since d (g.clock d) c → g.may_leave d c) (stays_seen : (d : D) → IsTrue (g.is_honest d) → g.may_leave d (g.seen d)) (live : WhatStandsIsLive) where
  all_honest : (a : Parts D) (made : List (Made D)) → IsTrue (g.is_honest a.disk) → AreMade g a made → IsTrue (g.is_honest (archive_after a made).disk)
  all_honest a [] honest all = honest
  all_honest a (m ∷ ms) honest all = all_honest m.archive ms (still_honest g a m.archive m.call m.reply all.0 ∙ honest) all.1

  -- a case that was just stored has its image
  just_stored : (last stored : Parts D) (slot seq : ℕ) (c : FoundCase) → IsTrue (g.is_honest last.disk) → FinishCall g last slot (Ok seq) stored → c.case.seq ≡ seq → (durable_of g.seen stored).cases ≡ (durable_of g.seen last).cases ++ c ∷ []
      → IsOrIsGone seq c.image (durable_of g.seen stored)
  just_stored last stored slot seq c honest finish number cases =
      let real = finish.changes.disk.honesty ∙ honest in
      let runs : stored.stopped ≡ false = ap (λ (b : ArchiveState). b.stopped) finish.step.7 ∙ finish.step.2.0 in
      let stands = finish.changes.stands runs real (g.seen stored.disk) (stays_seen stored.disk real) in
      let numbers = numbers_above (g.seen stored.disk) (durable_of g.seen stored) stands (live (g.seen stored.disk) stands.standing stands.stands) in
      let next = ap (λ (b : ArchiveState). b.next) finish.step.7 in
      let given = finish.step.6 in (
        omega (arith, next, given),
        inl (ap (found_image seq) cases
            ∙ found_last seq (durable_of g.seen last).cases c number (none_before seq 0 (durable_of g.seen last).cases c number (subst (λ (cs : List FoundCase). Rise 0 (map number_of cs)) cases numbers.rise))),
      )

  -- what is answered of a case's image, after whatever other calls, is what its stream's calls took
  pub image_answered : (old begun : Parts D) (slot : ℕ) (s : StreamFacts) (u : Unit {0}) (made : List (Made D)) (stored : Parts D) (seq : ℕ) (later : List (Made D)) (image : Vec ℕ Global) (last : Parts D)
      → IsTrue (g.is_honest old.disk) → Makes g old (begin_in slot s) (Ok u) begun → AreMade g begun made → StaysOpen slot made → Makes g (archive_after begun made) (finish_of slot) (Ok seq) stored
      → AreMade g stored later → Makes g (archive_after stored later) (image_of seq) (Ok image) last → image.items ≡ taken_over g.seen slot begun made
  image_answered old begun slot s u made stored seq later image last honest begin all stays finish then answer =
      let there = all_honest begun made (begin.stays.honesty ∙ honest) all in
      let taken = image_taken g old begun slot s u made stored seq honest begin all stays finish in
      let first = just_stored (archive_after begun made) stored slot seq taken.0 there finish taken.1.number taken.2 in
      let goes = goes_all g counts only seq taken.0.image stored later (finish.changes.disk.honesty ∙ there) then first in
      let is = answer.bytes goes.1 in
      one_or_none (found_image seq (durable_of g.seen (archive_after stored later)).cases) taken.0.image image.items goes.0.1 (sym (image_of_case g.seen (archive_after stored later) seq) ∙ is.0) ∙ taken.1.image
