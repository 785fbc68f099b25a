-- The values of a range are the bytes of its pieces.
use Rattle.std.proofs.Common.{◌≡◌, ◌≤◌, ◌<◌, ℕ, zero, suc, ◌+◌, ◌-◌, ltb, leb, cond, Bool, true, false, List, [], ◌∷◌, ◌++◌, length, map, take, drop, get_or, Option, None, Some, refl, sym, ap, subst, ◌∙◌, arith, inl, inr, append_assoc, eqb}
use Rattle.std.proofs.lemmas.Bool.{cases_Bool, cond-true, cond-false, and_parts, eqb-true, leb-true, leb-false, ltb-true}
use Rattle.std.proofs.Math.Seq.{drop-cons}
use Rattle.std.proofs.lemmas.Option.{same_Some, none-some}
use Rattle.std.specs.List.{flat_map}
use Rattle.std.specs.Option.{option_map}
use Rattle.elf_view.specs.Header.{SegmentView}
use Rattle.elf_view.specs.Field.{part}
use Rattle.core_notes.specs.FileList.{FileView}
use Rattle.address_space.specs.Source.{Space, Place, nowhere, dumped, cut_off, unwritten, in_file, first_from, is_covering, is_mapping, span, decider, entry_at, placed, undumped, filed, place_at, executable_named, ExecutableView, spot_in, content_by, value_of, value_at}
use Rattle.address_space.specs.Pieces.{is_same, grown, stretches, PieceView, piece_of, is_same_at, pieces_of}
use Rattle.memory_replies.specs.Texts.{content_bytes, value_list, values_between}
use Rattle.memory_replies.proofs.ValueLemmas.{no_values, values_step}

-- what is found passes the test, and its number is not below the first
found_passes : {A : Type 0} (test : A → Bool) (i : ℕ) (xs : List A) (d : ℕ × A) → first_from test i xs ≡ Some d → test d.1 ≡ true
found_passes test i [] d h = absurd (none-some d h)
found_passes test i (x ∷ xs) d h = elim (cases_Bool (test x)) as (λ _. test d.1 ≡ true) [
  | inl passes ↦ ap (λ e. test e.1) (sym (same_Some (i, x) d (sym (cond-true (test x) _ _ passes) ∙ h))) ∙ passes
  | inr fails ↦ found_passes test (i + 1) xs d (sym (cond-false (test x) _ _ fails) ∙ h)
]

found_from : {A : Type 0} (test : A → Bool) (i : ℕ) (xs : List A) (d : ℕ × A) → first_from test i xs ≡ Some d → i ≤ d.0
found_from test i [] d h = absurd (none-some d h)
found_from {A = A} test i (x ∷ xs) d h = elim (cases_Bool (test x)) as (λ _. i ≤ d.0) [
  | inl passes ↦
      let is : i ≡ d.0 = ap (λ (e : ℕ × A). e.0) (same_Some (i, x) d (sym (cond-true (test x) _ _ passes) ∙ h)) in
      omega arith
  | inr fails ↦
      let above : i + 1 ≤ d.0 = found_from test (i + 1) xs d (sym (cond-false (test x) _ _ fails) ∙ h) in
      omega arith
]

-- of one list, what has one number is one item
same_item : {A : Type 0} (test other : A → Bool) (i : ℕ) (xs : List A) (d e : ℕ × A) → first_from test i xs ≡ Some d → first_from other i xs ≡ Some e → d.0 ≡ e.0 → d.1 ≡ e.1
same_item test other i [] d e h k same = absurd (none-some d h)
same_item {A = A} test other i (x ∷ xs) d e h k same =
    elim (cases_Bool (test x)) as (λ _. d.1 ≡ e.1) [
      | inl passes ↦
          let here : (i, x) ≡ d = same_Some (i, x) d (sym (cond-true (test x) _ _ passes) ∙ h) in
          elim (cases_Bool (other x)) as (λ _. d.1 ≡ e.1) [
            | inl also ↦
                let there : (i, x) ≡ e = same_Some (i, x) e (sym (cond-true (other x) _ _ also) ∙ k) in
                sym (ap (λ (t : ℕ × A). t.1) here) ∙ ap (λ (t : ℕ × A). t.1) there
            | inr behind ↦
                let number : i ≡ d.0 = ap (λ (t : ℕ × A). t.0) here in
                let above : i + 1 ≤ e.0 = found_from other (i + 1) xs e (sym (cond-false (other x) _ _ behind) ∙ k) in
                absurd (omega arith)
          ]
      | inr fails ↦
          let rest : first_from test (i + 1) xs ≡ Some d = sym (cond-false (test x) _ _ fails) ∙ h in
          elim (cases_Bool (other x)) as (λ _. d.1 ≡ e.1) [
            | inl also ↦
                let number : i ≡ e.0 = ap (λ (t : ℕ × A). t.0) (same_Some (i, x) e (sym (cond-true (other x) _ _ also) ∙ k)) in
                let above : i + 1 ≤ d.0 = found_from test (i + 1) xs d rest in
                absurd (omega arith)
            | inr behind ↦ same_item test other (i + 1) xs d e rest (sym (cond-false (other x) _ _ behind) ∙ k) same
          ]
    ]

abbrev image_in : ExecutableView → List ℕ
image_in x = x.image

-- what is known of an address of a place with bytes
abbrev Stands : Space → ℕ → Place → Type 0
Stands space a nowhere = Unit {0}
Stands space a (dumped i s) = (decider space a ≡ Some (i, s)) × (s.vaddr ≤ a) × (a - s.vaddr < length s.bytes)
Stands space a (cut_off i) = Unit {0}
Stands space a (unwritten i e) = Unit {0}
Stands space a (in_file i e x) = (entry_at space.files a ≡ Some e) × (e.1.start ≤ a) × ((spot_in a e.1).offset < length x) × (option_map image_in (executable_named space e.1.name) ≡ Some x)

filed_stands : (space : Space) (a i : ℕ) (e : ℕ × FileView) (o : Option ExecutableView) → executable_named space e.1.name ≡ o → entry_at space.files a ≡ Some e → e.1.start ≤ a → Stands space a (filed a i e o)
filed_stands space a i e None is entry low = tt
filed_stands space a i e (Some x) is entry low =
    elim (cases_Bool (ltb (spot_in a e.1).offset (length x.image))) as (λ _. Stands space a (cond (ltb (spot_in a e.1).offset (length x.image)) (in_file i e x.image) (unwritten i (Some e)))) [
      | inl within ↦ subst (λ t. Stands space a (cond t (in_file i e x.image) (unwritten i (Some e)))) (sym within) (entry, low, ltb-true (spot_in a e.1).offset (length x.image) within, ap (option_map image_in) is)
      | inr past ↦ subst (λ t. Stands space a (cond t (in_file i e x.image) (unwritten i (Some e)))) (sym past) tt
    ]

undumped_stands : (space : Space) (a i : ℕ) (e : Option (ℕ × FileView)) → entry_at space.files a ≡ e → Stands space a (undumped space a i e)
unfolding entry_at
undumped_stands space a i None is = tt
undumped_stands space a i (Some e) is =
    let maps = found_passes (is_mapping a) 0 space.files e is in
    filed_stands space a i e (executable_named space e.1.name) refl is (leb-true e.1.start a (and_parts (leb e.1.start a) (ltb a e.1.past) maps).0)

held_stands : (space : Space) (a : ℕ) (d : ℕ × SegmentView) → decider space a ≡ Some d → d.1.vaddr ≤ a → Stands space a (cond (leb (length d.1.bytes) (a - d.1.vaddr)) (cut_off d.0) (dumped d.0 d.1))
held_stands space a d is low =
    elim (cases_Bool (leb (length d.1.bytes) (a - d.1.vaddr))) as (λ _. Stands space a (cond (leb (length d.1.bytes) (a - d.1.vaddr)) (cut_off d.0) (dumped d.0 d.1))) [
      | inl past ↦ subst (λ t. Stands space a (cond t (cut_off d.0) (dumped d.0 d.1))) (sym past) tt
      | inr within ↦ subst (λ t. Stands space a (cond t (cut_off d.0) (dumped d.0 d.1))) (sym within) (is, low, leb-false (length d.1.bytes) (a - d.1.vaddr) within)
    ]

placed_stands : (space : Space) (a : ℕ) (o : Option (ℕ × SegmentView)) → decider space a ≡ o → Stands space a (placed space a o)
unfolding decider
placed_stands space a None is = tt
placed_stands space a (Some d) is =
    let covers = found_passes (is_covering a) 0 space.segments d is in
    let low = leb-true d.1.vaddr a (and_parts (leb d.1.vaddr a) (ltb a (d.1.vaddr + span d.1)) covers).0 in
    elim (leb d.1.filesz (a - d.1.vaddr)) as (λ t. Stands space a (cond t (undumped space a d.0 (entry_at space.files a)) (cond (leb (length d.1.bytes) (a - d.1.vaddr)) (cut_off d.0) (dumped d.0 d.1)))) [
      | true ↦ undumped_stands space a d.0 (entry_at space.files a) refl
      | false ↦ held_stands space a d is low
    ]

stands : (space : Space) (a : ℕ) → Stands space a (place_at space a)
unfolding place_at
stands space a = placed_stands space a (decider space a) refl

-- one byte and those after it
part_more : (b : List ℕ) (k m : ℕ) → k < length b → part b k (m + 1) ≡ get_or b k 0 ∷ part b (k + 1) m
part_more b k m h =
    let more : m + 1 ≡ suc m = omega arith in
    let next : suc k ≡ k + 1 = omega arith in
    ap (λ n. take n (drop k b)) more ∙ ap (take (suc m)) (drop-cons b k 0 h) ∙ ap (λ j. get_or b k 0 ∷ take m (drop j b)) next

part_on : (b c : List ℕ) (k j m : ℕ) → k < length b → b ≡ c → k + 1 ≡ j → part b k (m + 1) ≡ (get_or b k 0 ∷ []) ++ part c j m
part_on b c k j m h same next = part_more b k m h ∙ ap (λ t. get_or b k 0 ∷ part t (k + 1) m) same ∙ ap (λ t. get_or b k 0 ∷ part c t m) next

abbrev bytes_at : ℕ → ℕ → Place → List ℕ
bytes_at a n p = content_bytes (content_by (λ b k. part b k n) a p)

abbrev value_here : ℕ → Place → List ℕ
value_here a p = value_list (value_of (content_by (λ b k. get_or b k 0) a p))

-- an address by itself
one_byte : (space : Space) (a : ℕ) (p : Place) → Stands space a p → bytes_at a 1 p ≡ value_here a p
one_byte space a nowhere h = refl
one_byte space a (dumped i s) h = part_more s.bytes (a - s.vaddr) 0 h.2
one_byte space a (cut_off i) h = refl
one_byte space a (unwritten i e) h = refl
one_byte space a (in_file i e x) h = part_more x (spot_in a e.1).offset 0 h.2

-- an address before others of the same place
more_bytes : (space : Space) (a m : ℕ) (p q : Place) → Stands space a p → Stands space (a + 1) q → is_same p q ≡ true → bytes_at a (m + 1) p ≡ value_here a p ++ bytes_at (a + 1) m q
unfolding decider entry_at
more_bytes space a m nowhere nowhere h k same = refl
more_bytes space a m nowhere (dumped j t) h k same = cc
more_bytes space a m nowhere (cut_off j) h k same = cc
more_bytes space a m nowhere (unwritten j f) h k same = cc
more_bytes space a m nowhere (in_file j f y) h k same = cc
more_bytes space a m (dumped i s) nowhere h k same = cc
more_bytes space a m (dumped i s) (dumped j t) h k same =
    let one : s ≡ t = same_item (is_covering a) (is_covering (a + 1)) 0 space.segments (i, s) (j, t) h.0 k.0 (eqb-true i j same) in
    let low = h.1 in
    let next : a - s.vaddr + 1 ≡ a + 1 - s.vaddr = omega arith in
    part_on s.bytes t.bytes (a - s.vaddr) (a + 1 - t.vaddr) m h.2 (ap (λ (r : SegmentView). r.bytes) one) (next ∙ ap (λ (r : SegmentView). a + 1 - r.vaddr) one)
more_bytes space a m (dumped i s) (cut_off j) h k same = cc
more_bytes space a m (dumped i s) (unwritten j f) h k same = cc
more_bytes space a m (dumped i s) (in_file j f y) h k same = cc
more_bytes space a m (cut_off i) nowhere h k same = cc
more_bytes space a m (cut_off i) (dumped j t) h k same = cc
more_bytes space a m (cut_off i) (cut_off j) h k same = refl
more_bytes space a m (cut_off i) (unwritten j f) h k same = cc
more_bytes space a m (cut_off i) (in_file j f y) h k same = cc
more_bytes space a m (unwritten i e) nowhere h k same = cc
more_bytes space a m (unwritten i e) (dumped j t) h k same = cc
more_bytes space a m (unwritten i e) (cut_off j) h k same = cc
more_bytes space a m (unwritten i e) (unwritten j f) h k same = refl
more_bytes space a m (unwritten i e) (in_file j f y) h k same = cc
more_bytes space a m (in_file i e x) nowhere h k same = cc
more_bytes space a m (in_file i e x) (dumped j t) h k same = cc
more_bytes space a m (in_file i e x) (cut_off j) h k same = cc
more_bytes space a m (in_file i e x) (unwritten j f) h k same = cc
more_bytes space a m (in_file i e x) (in_file j f y) h k same =
    let one : e.1 ≡ f.1 = same_item (is_mapping a) (is_mapping (a + 1)) 0 space.files e f h.0 k.0 (eqb-true e.0 f.0 (and_parts (eqb i j) (eqb e.0 f.0) same).1) in
    let image : x ≡ y = same_Some x y (sym h.3 ∙ ap (λ (r : FileView). option_map image_in (executable_named space r.name)) one ∙ k.3) in
    let low = h.1 in
    let next : (spot_in a e.1).offset + 1 ≡ (spot_in (a + 1) e.1).offset = omega arith in
    part_on x y (spot_in a e.1).offset (spot_in (a + 1) f.1).offset m h.2 image (next ∙ ap (λ (r : FileView). (spot_in (a + 1) r).offset) one)

-- the bytes of a piece, and of stretches as pieces
abbrev pub piece_bytes : PieceView → List ℕ
piece_bytes p = content_bytes p.content

abbrev stretch_bytes : Space → List (ℕ × ℕ) → List ℕ
stretch_bytes space xs = flat_map piece_bytes (map (piece_of space) xs)

-- the first of the stretches, if there is one, begins there
abbrev StartsAt : ℕ → List (ℕ × ℕ) → Type 0
StartsAt a [] = Unit {0}
StartsAt a (x ∷ xs) = x.0 ≡ a

grown_starts : (same : ℕ → ℕ → Bool) (a : ℕ) (xs : List (ℕ × ℕ)) → StartsAt a (grown same a xs)
grown_starts same a [] = refl
grown_starts same a (x ∷ xs) = elim (same a x.0) as (λ t. StartsAt a (cond t ((a, x.1 + 1) ∷ xs) ((a, 1) ∷ x ∷ xs))) [ true ↦ refl | false ↦ refl ]

starts : (same : ℕ → ℕ → Bool) (a n : ℕ) → StartsAt a (stretches same a n)
unfolding stretches
starts same a zero = tt
starts same a (suc n) = grown_starts same a (stretches same (a + 1) n)

alone_bytes : (space : Space) (a : ℕ) (xs : List (ℕ × ℕ)) → stretch_bytes space ((a, 1) ∷ xs) ≡ value_list (value_at space a) ++ stretch_bytes space xs
alone_bytes space a xs = ap (λ t. t ++ stretch_bytes space xs) (one_byte space a (place_at space a) (stands space a))

grown_bytes : (space : Space) (a : ℕ) (xs : List (ℕ × ℕ)) → StartsAt (a + 1) xs → stretch_bytes space (grown (is_same_at space) a xs) ≡ value_list (value_at space a) ++ stretch_bytes space xs
grown_bytes space a [] h = alone_bytes space a []
grown_bytes space a (x ∷ xs) h =
    elim (cases_Bool (is_same_at space a x.0)) as (λ _. stretch_bytes space (cond (is_same_at space a x.0) ((a, x.1 + 1) ∷ xs) ((a, 1) ∷ x ∷ xs)) ≡ value_list (value_at space a) ++ stretch_bytes space (x ∷ xs)) [
      | inl same ↦
          ap (stretch_bytes space) (cond-true (is_same_at space a x.0) ((a, x.1 + 1) ∷ xs) ((a, 1) ∷ x ∷ xs) same)
          ∙ ap (λ t. t ++ stretch_bytes space xs) (more_bytes space a x.1 (place_at space a) (place_at space (a + 1)) (stands space a) (stands space (a + 1)) (subst (λ b. is_same_at space a b ≡ true) h same))
          ∙ append_assoc (value_list (value_at space a)) (bytes_at (a + 1) x.1 (place_at space (a + 1))) (stretch_bytes space xs)
          ∙ ap (λ b. value_list (value_at space a) ++ (bytes_at b x.1 (place_at space b) ++ stretch_bytes space xs)) (sym h)
      | inr other ↦
          ap (stretch_bytes space) (cond-false (is_same_at space a x.0) ((a, x.1 + 1) ∷ xs) ((a, 1) ∷ x ∷ xs) other) ∙ alone_bytes space a (x ∷ xs)
    ]

stretches_are : (space : Space) (n a : ℕ) → stretch_bytes space (stretches (is_same_at space) a n) ≡ values_between space a n
unfolding stretches
stretches_are space zero a = sym (no_values space a 0 refl)
stretches_are space (suc n) a =
    grown_bytes space a (stretches (is_same_at space) (a + 1) n) (starts (is_same_at space) (a + 1) n)
    ∙ ap (λ t. value_list (value_at space a) ++ t) (stretches_are space n (a + 1))
    ∙ sym (values_step space a n)

pub pieces_are : (space : Space) (a n : ℕ) → flat_map piece_bytes (pieces_of space a n) ≡ values_between space a n
unfolding pieces_of
pieces_are space a n = stretches_are space n a
