-- Cases that stay, from one time to a later one.
use Rattle.std.proofs.Common.{◌≡◌, ◌⊎◌, ℕ, ◌+◌, ◌<◌, ◌≤◌, ◌==◌, Bool, true, false, cond, List, [], ◌∷◌, ◌++◌, map, refl, sym, ap, subst, ◌∙◌, ⊎_elim, inl, inr, arith, Ok, Err}
use Rattle.std.specs.List.{All, filter}
use Rattle.std.specs.Prelude.{IsTrue}
use Rattle.std.proofs.lemmas.List.Elements.{All-head, All-tail}
use Rattle.disk_model.specs.declared.disk.Disk as disk
use Rattle.journal_layout.specs.Case.{Case}
use Rattle.journal_layout.specs.Folding.{pinned_as, labelled_as}
use Rattle.journal_layout.specs.Soundness.{Rise}
use Rattle.journal_layout.specs.declared.shape.Shape.{Shape}
use Rattle.intake.specs.Blocks.{image_in}
use Rattle.intake.specs.Durable.{Durable, FoundCase, durable_of, found_case, without, flagged, labelled, upgraded, made_of}
use Rattle.intake.specs.InTurn.{IsSameImage, IsLater, AreInTurn, IsBetween, StandsAs, HasItsBytes, last_state, states_of}
use Rattle.intake.specs.Lasting.{HasNumbers, number_of}
use Rattle.intake.specs.Lives.{IsAmong}
use Rattle.intake.specs.Making.{Call, ReplyTo, Makes, Made, AreMade, WouldLeave, begin_in, lend_of, advance_by, finish_of, abandon_of, delete_of, pin_of, label_of, upgrade_it, retire_by, image_of, find_case, list_cases, count_free, ask_version, ask_stopped}
use Rattle.intake.specs.Parts.{Parts}
use Rattle.intake.proofs.LastsLemmas.{finish_lasts, delete_lasts, pin_lasts, label_lasts, upgrade_lasts, retire_lasts, refusals_last}
use Rattle.intake.proofs.MakingLemmas.{room_durable, still_honest}

same_self : (c : FoundCase) → IsSameImage c c
same_self c = record { number = refl; origin = refl; len = refl; blocks = refl; image = refl }

same_then : (b c d : FoundCase) → IsSameImage b c → IsSameImage c d → IsSameImage b d
same_then b c d one two = record {
  number = two.number ∙ one.number;
  origin = two.origin ∙ one.origin;
  len = two.len ∙ one.len;
  blocks = two.blocks ∙ one.blocks;
  image = two.image ∙ one.image;
}

later_self : (x : Durable) → IsLater x x
later_self x = record { next = omega arith; cases = λ d among below. (d, among, same_self d) }

later_same : (x y : Durable) → y ≡ x → IsLater x y
later_same x y is = subst (IsLater x) (sym is) (later_self x)

later_then : (x y z : Durable) → IsLater x y → IsLater y z → IsLater x z
later_then x y z one two = record {
  next = (let a = one.next in let b = two.next in omega (arith, a, b));
  cases = λ d among below.
      let mid = two.cases d among (let a = one.next in omega (arith, a, below)) in
      let first = one.cases mid.0 mid.1 (let n = mid.2.number in omega (arith, n, below)) in
      (first.0, first.1, same_then first.0 mid.0 d first.2 mid.2);
}

-- cases that are dropped
among_kept : (f : FoundCase → Bool) (xs : List FoundCase) (d : FoundCase) → IsAmong (filter f xs) d → IsAmong xs d
among_kept f [] d among = among
among_kept f (x ∷ xs) d among = by_test (f x) (among_kept f xs d) among
  where
    by_test : (t : Bool) → (IsAmong (filter f xs) d → IsAmong xs d) → IsAmong (cond t (x ∷ filter f xs) (filter f xs)) d → IsAmong (x ∷ xs) d
    by_test true more here = ⊎_elim (λ is. inl is) (λ there. inr (more there)) here
    by_test false more there = inr (more there)

later_without : (x y : Durable) (seqs : List ℕ) → y ≡ without x seqs → IsLater x y
later_without x y seqs is = subst (IsLater x) (sym is) (record { next = omega arith; cases = λ d among below. (d, among_kept _ x.cases d among, same_self d) })

-- cases that are made others
among_made : (f : FoundCase → FoundCase) (xs : List FoundCase) (d : FoundCase) → IsAmong (map f xs) d → (c : FoundCase) × IsAmong xs c × (d ≡ f c)
among_made f [] d among = absurd among
among_made f (x ∷ xs) d among =
    ⊎_elim (λ is. (x, inl refl, is)) (λ there. (let m = among_made f xs d there in (m.0, inr m.1, m.2))) among

-- the same but for its pin and its label
record KeepsImage (b c : Case) : Type 0 where
  number : c.seq ≡ b.seq
  origin : c.origin ≡ b.origin
  len : c.len ≡ b.len
  blocks : c.blocks ≡ b.blocks

pin_keeps : (at : ℕ) (flag : Bool) (c : Case) → KeepsImage c (pinned_as at flag c)
pin_keeps at flag c = elim (c.seq == at) as (λ t. KeepsImage c (cond t (record c { pinned = flag }) c)) [
  | true ↦ record { number = refl; origin = refl; len = refl; blocks = refl }
  | false ↦ record { number = refl; origin = refl; len = refl; blocks = refl }
]

label_keeps : (at : ℕ) (text : List ℕ) (c : Case) → KeepsImage c (labelled_as at text c)
label_keeps at text c = elim (c.seq == at) as (λ t. KeepsImage c (cond t (record c { label = text }) c)) [
  | true ↦ record { number = refl; origin = refl; len = refl; blocks = refl }
  | false ↦ record { number = refl; origin = refl; len = refl; blocks = refl }
]

later_made : (f : Case → Case) → ((c : Case) → KeepsImage c (f c)) → (x : Durable) → IsLater x (record x { cases = map (made_of f) x.cases })
later_made f keeps x = record {
  next = omega arith;
  cases = λ d among below.
      let made = among_made (made_of f) x.cases d among in
      let kept = keeps made.0.case in
      (made.0, made.1, subst (IsSameImage made.0) (sym made.2) (record { number = kept.number; origin = kept.origin; len = kept.len; blocks = kept.blocks; image = refl }));
}

later_flagged : (x y : Durable) (at : ℕ) (flag : Bool) → y ≡ flagged x at flag → IsLater x y
later_flagged x y at flag is = subst (IsLater x) (sym is) (later_made (pinned_as at flag) (pin_keeps at flag) x)

later_labelled : (x y : Durable) (at : ℕ) (text : List ℕ) → y ≡ labelled x at text → IsLater x y
later_labelled x y at text is = subst (IsLater x) (sym is) (later_made (labelled_as at text) (label_keeps at text) x)

later_upgraded : (x y : Durable) → y ≡ upgraded x → IsLater x y
later_upgraded x y is = subst (IsLater x) (sym is) (record { next = omega arith; cases = λ d among below. (d, among, same_self d) })

-- one case more
among_then : (xs : List FoundCase) (c d : FoundCase) → IsAmong (xs ++ c ∷ []) d → IsAmong xs d ⊎ (d ≡ c)
among_then [] c d among = ⊎_elim (λ is. inr is) (λ none. absurd none) among
among_then (x ∷ xs) c d among = ⊎_elim (λ is. inl (inl is)) (λ there. ⊎_elim (λ before. inl (inr before)) (λ is. inr is) (among_then xs c d there)) among

later_stored : (x y : Durable) (c : FoundCase) → y.cases ≡ x.cases ++ c ∷ [] → y.next ≡ x.next + 1 → c.case.seq ≡ x.next → IsLater x y
later_stored x y c cases next number = record {
  next = omega (arith, next);
  cases = λ d among below.
      ⊎_elim
      (λ there. (d, there, same_self d))
      (λ is. absurd (let e = ap (λ (z : FoundCase). z.case.seq) is in omega (arith, e, number, below)))
      (among_then x.cases c d (subst (λ (zs : List FoundCase). IsAmong zs d) cases among));
}

-- what is there at a time between
end_later : (x : Durable) (ys : List Durable) → AreInTurn x ys → IsLater x (last_state x ys)
end_later x [] turn = later_self x
end_later x (y ∷ ys) turn = later_then x y (last_state y ys) turn.0 (end_later y ys turn.1)

both_ways : (x : Durable) (ys : List Durable) (z : Durable) → AreInTurn x ys → IsBetween x ys z → IsLater x z × IsLater z (last_state x ys)
both_ways x [] z turn is = (later_same x z is, subst (λ (w : Durable). IsLater w x) (sym is) (later_self x))
both_ways x (y ∷ ys) z turn between =
    ⊎_elim
    (λ is. (later_same x z is, subst (λ (w : Durable). IsLater w (last_state y ys)) (sym is) (end_later x (y ∷ ys) turn)))
    (λ there. (let rest = both_ways y ys z turn.1 there in (later_then x y z turn.0 rest.0, rest.1)))
    between

all_among : (P : FoundCase → Type 0) (xs : List FoundCase) (c : FoundCase) → All P xs → IsAmong xs c → P c
all_among P [] c all among = absurd among
all_among P (x ∷ xs) c all among = ⊎_elim (λ is. subst P (sym is) (All-head P x xs all)) (λ there. all_among P xs c (All-tail P x xs all) there) among

above : (last : ℕ) (xs : List FoundCase) (d : FoundCase) → Rise last (map number_of xs) → IsAmong xs d → last < d.case.seq
above last [] d rise among = absurd among
above last (x ∷ xs) d rise among =
    ⊎_elim (λ is. (let e = ap (λ (z : FoundCase). z.case.seq) is in let low = rise.0 in omega (arith, e, low))) (λ there. (let low = rise.0 in omega (arith, low, above x.case.seq xs d rise.1 there))) among

one_of_number : (last : ℕ) (xs : List FoundCase) (c d : FoundCase) → Rise last (map number_of xs) → IsAmong xs c → IsAmong xs d → c.case.seq ≡ d.case.seq → c ≡ d
one_of_number last [] c d rise one two same = absurd one
one_of_number last (x ∷ xs) c d rise one two same =
    ⊎_elim
    (λ c_is. ⊎_elim
    (λ d_is. c_is ∙ sym d_is)
    (λ d_there. absurd (let e = ap (λ (z : FoundCase). z.case.seq) c_is in omega (arith, e, same, above x.case.seq xs d rise.1 d_there)))
    two)
    (λ c_there. ⊎_elim
    (λ d_is. absurd (let e = ap (λ (z : FoundCase). z.case.seq) d_is in omega (arith, e, same, above x.case.seq xs c rise.1 c_there)))
    (λ d_there. one_of_number x.case.seq xs c d rise.1 c_there d_there same)
    two)
    one

-- a case that is found has the image that its blocks hold
image_there : (shape : Shape) (bytes : List ℕ) (cases : List Case) (e : FoundCase) → IsAmong (map (found_case shape bytes) cases) e → e.image ≡ image_in shape bytes e.case.blocks e.case.len
image_there shape bytes [] e among = absurd among
image_there shape bytes (c ∷ cs) e among =
    ⊎_elim
    (λ is. subst (λ (z : FoundCase). z.image ≡ image_in shape bytes z.case.blocks z.case.len) (sym is) refl)
    (λ there. image_there shape bytes cs e there)
    among

module _ (x : Durable) (ys : List Durable) (c d : FoundCase) (numbers : HasNumbers x) (turn : AreInTurn x ys) (first : IsAmong x.cases c) (last : IsAmong (last_state x ys).cases d) (number : d.case.seq ≡ c.case.seq) where
  given : c.case.seq < x.next
  given = all_among (λ (z : FoundCase). z.case.seq < x.next) x.cases c numbers.below first

  is_there : (z : Durable) → IsBetween x ys z → (e : FoundCase) × IsAmong z.cases e × IsSameImage c e
  is_there z between =
      let ways = both_ways x ys z turn between in
      let next = ways.0.next in
      let here = ways.1.cases d last (omega (arith, number, given, next)) in
      let same = here.2.number in
      let back = ways.0.cases here.0 here.1 (omega (arith, same, number, given)) in
      let back_number = back.2.number in
      let is : back.0 ≡ c = one_of_number 0 x.cases back.0 c numbers.rise back.1 first (sym back_number ∙ sym same ∙ number) in
      (here.0, here.1, subst (λ (b : FoundCase). IsSameImage b here.0) is back.2)

  pub same_at_last : IsSameImage c d
  same_at_last =
      let later = end_later x ys turn in
      let back = later.cases d last (omega (arith, number, given)) in
      let is : back.0 ≡ c = one_of_number 0 x.cases back.0 c numbers.rise back.1 first (sym back.2.number ∙ number) in
      subst (λ (b : FoundCase). IsSameImage b d) is back.2

  pub bytes_between : (z : Durable) (shape : Shape) (bytes : List ℕ) → IsBetween x ys z → StandsAs shape bytes z → HasItsBytes shape bytes z c
  bytes_between z shape bytes between stands =
      let here = is_there z between in
      let is : map (found_case stands.standing.shape bytes) stands.standing.cases ≡ z.cases = ap (λ (w : Durable). w.cases) stands.is in
      let held = image_there stands.standing.shape bytes stands.standing.cases here.0 (subst (λ (zs : List FoundCase). IsAmong zs here.0) (sym is) here.1) in
      record {
        found = here.0;
        there = here.1;
        same = here.2;
        image =
            ap (λ (s : Shape). image_in s bytes c.case.blocks c.case.len) (sym stands.shaped)
            ∙ ap (λ (bs : List ℕ). image_in stands.standing.shape bytes bs c.case.len) (sym here.2.blocks)
            ∙ ap (image_in stands.standing.shape bytes here.0.case.blocks) (sym here.2.len)
            ∙ sym held
            ∙ here.2.image;
      }

module _ {D : Type 0} (g : disk.Ghosts D) (counts : (d : D) (t : ℕ) (c : List ℕ) → t ≤ g.clock d → g.may_leave d c → g.left_since d t c)
    (only : (d : D) (c : List ℕ) → g.left_since d (g.clock d) c → g.may_leave d c) where
  later_over : (old new : Parts D) (call : Call) (r : ReplyTo call) → IsTrue (g.is_honest old.disk) → Makes g old call r new → IsLater (durable_of g.seen old) (durable_of g.seen new)
  later_over old new (begin_in slot s) r honest made = later_same _ _ (made.stays.durable honest)
  later_over old new (lend_of slot left) r honest made = later_same _ _ (ap (durable_of g.seen) made.2 ∙ room_durable g.seen old slot r left)
  later_over old new (advance_by slot n) r honest made = later_same _ _ (made.stays.durable honest)
  later_over old new (finish_of slot) (Ok given) honest made =
      let lasts = finish_lasts g old new honest slot given made in
      later_stored (durable_of g.seen old) (durable_of g.seen new) _ (ap (λ (x : Durable). x.cases) lasts.1.5) (ap (λ (x : Durable). x.next) lasts.1.5) refl
  later_over old new (finish_of slot) (Err f) honest made = later_same _ _ (refusals_last g counts only old new f honest (inl (slot, made)))
  later_over old new (abandon_of slot) r honest made = later_same _ _ (made.stays.durable honest)
  later_over old new (delete_of gone) (Ok u) honest made = later_without _ _ (gone ∷ []) (delete_lasts g old new honest gone u made)
  later_over old new (delete_of gone) (Err f) honest made = later_same _ _ (refusals_last g counts only old new f honest (inr (inl (gone, made))))
  later_over old new (pin_of at flag) (Ok u) honest made =
      ⊎_elim (λ same. later_same _ _ same.1) (λ set. later_flagged _ _ at flag set.1) (pin_lasts g old new honest at flag u made).2
  later_over old new (pin_of at flag) (Err f) honest made = later_same _ _ (refusals_last g counts only old new f honest (inr (inr (inl (at, flag, made)))))
  later_over old new (label_of at text) (Ok u) honest made =
      ⊎_elim (λ same. later_same _ _ same.1) (λ set. later_labelled _ _ at text set.1) (label_lasts g old new honest at text u made).2
  later_over old new (label_of at text) (Err f) honest made = later_same _ _ (refusals_last g counts only old new f honest (inr (inr (inr (inr (inl (at, text, made)))))))
  later_over old new upgrade_it (Ok u) honest made = later_upgraded _ _ (upgrade_lasts g old new honest u made)
  later_over old new upgrade_it (Err f) honest made = later_same _ _ (refusals_last g counts only old new f honest (inr (inr (inr (inr (inr made))))))
  later_over old new (retire_by policy) (Ok d) honest made = later_without _ _ d.dropped.items (retire_lasts g old new honest policy d made)
  later_over old new (retire_by policy) (Err f) honest made = later_same _ _ (refusals_last g counts only old new f honest (inr (inr (inr (inl (policy, made))))))
  later_over old new (image_of at) r honest made = later_same _ _ (made.stays.durable honest)
  later_over old new (find_case at) r honest made = later_same _ _ (ap (durable_of g.seen) made.1)
  later_over old new list_cases r honest made = later_same _ _ (ap (durable_of g.seen) made.1)
  later_over old new count_free r honest made = later_same _ _ (ap (durable_of g.seen) made.1)
  later_over old new ask_version r honest made = later_same _ _ (ap (durable_of g.seen) made.1)
  later_over old new ask_stopped r honest made = later_same _ _ (ap (durable_of g.seen) made.1)

  would_be_later : (old : Parts D) (call : Call) (x : Durable) → WouldLeave g old call x → IsLater (durable_of g.seen old) x
  would_be_later old (finish_of slot) x would =
      later_stored (durable_of g.seen old) x _ (ap (λ (y : Durable). y.cases) would.1.5) (ap (λ (y : Durable). y.next) would.1.5) refl
  would_be_later old (delete_of seq) x would = later_without _ _ (seq ∷ []) would
  would_be_later old (pin_of seq flag) x would = later_flagged _ _ seq flag would
  would_be_later old (label_of seq text) x would = later_labelled _ _ seq text would
  would_be_later old upgrade_it x would = later_upgraded _ _ would
  would_be_later old (retire_by policy) x would = later_without _ _ would.0 would.3
  would_be_later old _ x would = absurd would

  pub leads_on : (old new : Parts D) (call : Call) (r : ReplyTo call) → IsTrue (g.is_honest old.disk) → Makes g old call r new
      → IsLater (durable_of g.seen old) (durable_of g.seen new) × ((x : Durable) → WouldLeave g old call x → IsLater (durable_of g.seen old) x)
  leads_on old new call r honest made = (later_over old new call r honest made, would_be_later old call)

  pub lead_in_turn : (a : Parts D) (made : List (Made D)) → IsTrue (g.is_honest a.disk) → AreMade g a made → AreInTurn (durable_of g.seen a) (states_of g.seen made)
  lead_in_turn a [] honest all = tt
  lead_in_turn a (m ∷ ms) honest all =
      (later_over a m.archive m.call m.reply honest all.0, lead_in_turn m.archive ms (still_honest g a m.archive m.call m.reply all.0 ∙ honest) all.1)
