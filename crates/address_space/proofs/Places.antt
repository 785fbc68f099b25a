-- Places of addresses in a row, and when two of them are not the same.
use Rattle.std.proofs.Common.{◌≡◌, ◌<◌, ◌≤◌, ℕ, zero, suc, ◌+◌, ◌-◌, leb, ltb, eqb, cond, Bool, true, false, List, length, map, drop, Option, None, Some, refl, sym, ap, subst, ◌∙◌, arith, inl, inr}
use Rattle.std.specs.Option.{option_map}
use Rattle.std.specs.List.{range_with_len}
use Rattle.std.proofs.lemmas.List.{length-take}
use Rattle.std.proofs.lemmas.Bool.{cases_lt, and_left, and_right, cond-true, cond-false, cases_Bool, true≢false}
use Rattle.std.proofs.lemmas.Option.{same_Some, none-some}
use Rattle.elf_view.specs.Header.{SegmentView, segment_at, segments_of, segment_from}
use Rattle.core_notes.specs.FileList.{FileView}
use Rattle.address_space.specs.Source.{Space, Place, nowhere, dumped, cut_off, unwritten, in_file, first_from, is_covering, decider, entry_at, placed, undumped, filed, place_at, executable_named, ExecutableView, spot_in}
use Rattle.address_space.specs.Pieces.{same_number, is_same}
use Rattle.address_space.specs.Ranges.{IsAlike, IsStretch, place_number}

-- a stretch of one function is one of another that agrees with it on m addresses, where the next is not the same
pub extended : (place other : ℕ → Place) (a limit m n : ℕ) → IsStretch other a m n → ((k : ℕ) → k < m → place (a + k) ≡ other (a + k)) → m ≤ limit → (m < limit → is_same (place a) (place (a + m)) ≡ false) → IsStretch place a limit n
extended place other a limit m n s agree bound behind =
    let some = s.some in
    let within = s.within in
    let zero : a + 0 ≡ a = omega arith in
    let first : place a ≡ other a = subst (λ b. place b ≡ other b) zero (agree 0 (omega arith)) in
    record {
      some = some;
      within = omega arith;
      same = λ k h. agree k (omega arith) ∙ s.same k h ∙ sym first;
      longest = λ h. elim (cases_lt n m) as (λ _. is_same (place a) (place (a + n)) ≡ false) [
        | inl less ↦ ap (λ p. is_same p (place (a + n))) first ∙ ap (is_same (other a)) (agree n less) ∙ s.longest less
        | inr all ↦
            let is : m ≡ n = omega arith in
            subst (λ k. is_same (place a) (place (a + k)) ≡ false) is (behind (omega arith))
      ];
    }

abbrev number_eq : Option ℕ → Option ℕ → Bool
number_eq None None = true
number_eq None (Some j) = false
number_eq (Some i) None = false
number_eq (Some i) (Some j) = eqb i j

numbers_same : {A : Type 0} (x y : Option (ℕ × A)) → same_number x y ≡ number_eq (option_map (λ (d : ℕ × A). d.0) x) (option_map (λ (d : ℕ × A). d.0) y)
numbers_same None None = refl
numbers_same None (Some y) = refl
numbers_same (Some x) None = refl
numbers_same (Some x) (Some y) = refl

-- places of different segments
other_segments : (p q : Place) → number_eq (place_number p) (place_number q) ≡ false → is_same p q ≡ false
other_segments nowhere nowhere h = h
other_segments nowhere (dumped j t) h = refl
other_segments nowhere (cut_off j) h = refl
other_segments nowhere (unwritten j f) h = refl
other_segments nowhere (in_file j f y) h = refl
other_segments (dumped i s) nowhere h = refl
other_segments (dumped i s) (dumped j t) h = h
other_segments (dumped i s) (cut_off j) h = refl
other_segments (dumped i s) (unwritten j f) h = refl
other_segments (dumped i s) (in_file j f y) h = refl
other_segments (cut_off i) nowhere h = refl
other_segments (cut_off i) (dumped j t) h = refl
other_segments (cut_off i) (cut_off j) h = h
other_segments (cut_off i) (unwritten j f) h = refl
other_segments (cut_off i) (in_file j f y) h = refl
other_segments (unwritten i e) nowhere h = refl
other_segments (unwritten i e) (dumped j t) h = refl
other_segments (unwritten i e) (cut_off j) h = refl
other_segments (unwritten i e) (unwritten j f) h = and_left (eqb i j) (same_number e f) h
other_segments (unwritten i e) (in_file j f y) h = refl
other_segments (in_file i e x) nowhere h = refl
other_segments (in_file i e x) (dumped j t) h = refl
other_segments (in_file i e x) (cut_off j) h = refl
other_segments (in_file i e x) (unwritten j f) h = refl
other_segments (in_file i e x) (in_file j f y) h = and_left (eqb i j) (eqb e.0 f.0) h

filed_number : (a i : ℕ) (e : ℕ × FileView) (x : Option ExecutableView) → place_number (filed a i e x) ≡ Some i
filed_number a i e None = refl
filed_number a i e (Some x) = elim (ltb (spot_in a e.1).offset (length x.image)) as (λ t. place_number (cond t (in_file i e x.image) (unwritten i (Some e))) ≡ Some i) [ true ↦ refl | false ↦ refl ]

undumped_number : (space : Space) (a i : ℕ) (e : Option (ℕ × FileView)) → place_number (undumped space a i e) ≡ Some i
undumped_number space a i None = refl
undumped_number space a i (Some e) = filed_number a i e (executable_named space e.1.name)

-- the number of a place is that of what decides it
pub placed_number : (space : Space) (a : ℕ) (o : Option (ℕ × SegmentView)) → place_number (placed space a o) ≡ option_map (λ (d : ℕ × SegmentView). d.0) o
placed_number space a None = refl
placed_number space a (Some d) =
    elim (leb d.1.filesz (a - d.1.vaddr)) as (λ t. place_number (cond t (undumped space a d.0 (entry_at space.files a)) (cond (leb (length d.1.bytes) (a - d.1.vaddr)) (cut_off d.0) (dumped d.0 d.1))) ≡ Some d.0) [
      | true ↦ undumped_number space a d.0 (entry_at space.files a)
      | false ↦ elim (leb (length d.1.bytes) (a - d.1.vaddr)) as (λ t. place_number (cond t (cut_off d.0) (dumped d.0 d.1)) ≡ Some d.0) [ true ↦ refl | false ↦ refl ]
    ]

pub placed_apart : (space : Space) (a b : ℕ) (x y : Option (ℕ × SegmentView)) → same_number x y ≡ false → is_same (placed space a x) (placed space b y) ≡ false
placed_apart space a b x y h =
    other_segments (placed space a x) (placed space b y) (ap (λ n. number_eq n (place_number (placed space b y))) (placed_number space a x) ∙ ap (number_eq (option_map (λ (d : ℕ × SegmentView). d.0) x)) (placed_number space b y) ∙ sym (numbers_same x y) ∙ h)

-- the number of the entry of NT_FILE, of a place that is not dumped
abbrev entry_number : Place → Option ℕ
entry_number nowhere = None
entry_number (dumped i s) = None
entry_number (cut_off i) = None
entry_number (unwritten i e) = option_map (λ (d : ℕ × FileView). d.0) e
entry_number (in_file i e x) = Some e.0

other_entries : (p q : Place) → number_eq (entry_number p) (entry_number q) ≡ false → is_same p q ≡ false
other_entries nowhere nowhere h = h
other_entries nowhere (dumped j t) h = refl
other_entries nowhere (cut_off j) h = refl
other_entries nowhere (unwritten j f) h = refl
other_entries nowhere (in_file j f y) h = refl
other_entries (dumped i s) nowhere h = refl
other_entries (dumped i s) (dumped j t) h = absurd (true≢false h)
other_entries (dumped i s) (cut_off j) h = refl
other_entries (dumped i s) (unwritten j f) h = refl
other_entries (dumped i s) (in_file j f y) h = refl
other_entries (cut_off i) nowhere h = refl
other_entries (cut_off i) (dumped j t) h = refl
other_entries (cut_off i) (cut_off j) h = absurd (true≢false h)
other_entries (cut_off i) (unwritten j f) h = refl
other_entries (cut_off i) (in_file j f y) h = refl
other_entries (unwritten i e) nowhere h = refl
other_entries (unwritten i e) (dumped j t) h = refl
other_entries (unwritten i e) (cut_off j) h = refl
other_entries (unwritten i e) (unwritten j f) h = and_right (eqb i j) (same_number e f) (numbers_same e f ∙ h)
other_entries (unwritten i e) (in_file j f y) h = refl
other_entries (in_file i e x) nowhere h = refl
other_entries (in_file i e x) (dumped j t) h = refl
other_entries (in_file i e x) (cut_off j) h = refl
other_entries (in_file i e x) (unwritten j f) h = refl
other_entries (in_file i e x) (in_file j f y) h = and_right (eqb i j) (eqb e.0 f.0) h

filed_entry : (a i : ℕ) (e : ℕ × FileView) (x : Option ExecutableView) → entry_number (filed a i e x) ≡ Some e.0
filed_entry a i e None = refl
filed_entry a i e (Some x) = elim (ltb (spot_in a e.1).offset (length x.image)) as (λ t. entry_number (cond t (in_file i e x.image) (unwritten i (Some e))) ≡ Some e.0) [ true ↦ refl | false ↦ refl ]

undumped_entry : (space : Space) (a i : ℕ) (e : Option (ℕ × FileView)) → entry_number (undumped space a i e) ≡ option_map (λ (d : ℕ × FileView). d.0) e
undumped_entry space a i None = refl
undumped_entry space a i (Some e) = filed_entry a i e (executable_named space e.1.name)

pub undumped_apart : (space : Space) (a b i : ℕ) (x y : Option (ℕ × FileView)) → same_number x y ≡ false → is_same (undumped space a i x) (undumped space b i y) ≡ false
undumped_apart space a b i x y h =
    other_entries (undumped space a i x) (undumped space b i y) (ap (λ n. number_eq n (entry_number (undumped space b i y))) (undumped_entry space a i x) ∙ ap (number_eq (option_map (λ (d : ℕ × FileView). d.0) x)) (undumped_entry space b i y) ∙ sym (numbers_same x y) ∙ h)

-- an item that was found, with its number
pub with_number : {X A : Type 0} (view : X → A) (r : Option X) (x : X) (o : Option (ℕ × A)) → r ≡ Some x → option_map view r ≡ option_map (λ (e : ℕ × A). e.1) o → (j : ℕ) × (o ≡ Some (j, view x))
with_number view r x None is h = absurd (none-some (view x) (sym h ∙ ap (option_map view) is))
with_number view r x (Some e) is h = (e.0, ap (λ y. Some (e.0, y)) (same_Some e.1 (view x) (sym h ∙ ap (option_map view) is)))

pub some_view : {X A : Type 0} (view : X → A) (r : Option X) (x : X) (o : Option A) → r ≡ Some x → option_map view r ≡ o → o ≡ Some (view x)
some_view view r x o is h = sym h ∙ ap (option_map view) is

pub none_view : {X A : Type 0} (view : X → A) (r : Option X) (o : Option A) → r ≡ None → option_map view r ≡ o → o ≡ None
none_view view r o is h = sym h ∙ ap (option_map view) is

-- places of addresses that nothing decides, and of those that one segment does
pub place_from : (space : Space) (a : ℕ) (o : Option (ℕ × SegmentView)) → decider space a ≡ o → place_at space a ≡ placed space a o
unfolding place_at
place_from space a o h = ap (placed space a) h

pub located_some : (space : Space) (a limit m n : ℕ) (o : Option (ℕ × SegmentView)) → decider space a ≡ o → IsAlike (decider space) a limit m → IsStretch (λ b. placed space b o) a m n → IsStretch (place_at space) a limit n
unfolding place_at
located_some space a limit m n o is alike s =
    extended (place_at space) (λ b. placed space b o) a limit m n s
    (λ k h. ap (placed space (a + k)) (alike.same k h ∙ is))
    alike.within
    (λ h. placed_apart space a (a + m) (decider space a) (decider space (a + m)) (alike.longest h))

pub nowhere_all : (space : Space) (a m : ℕ) → 0 < m → IsStretch (λ b. placed space b None) a m m
nowhere_all space a m h = record { some = h; within = omega arith; same = λ k l. refl; longest = λ l. absurd (omega arith) }

-- what a segment has of its bytes is no more than p_filesz
segment_held : (b : List ℕ) (p : ℕ) → length (segment_from b p).bytes ≤ (segment_from b p).filesz
unfolding segment_from
segment_held b p = omega (arith, length-take (segment_from b p).filesz (drop (segment_from b p).offset b))

-- what holds of each item that is made holds of the one that is found
pub found_among : {A : Type 0} (P : A → Type 0) (f : ℕ → A) → ((k : ℕ) → P (f k)) → (test : A → Bool) (i k n : ℕ) (d : ℕ × A) → first_from test i (map f (range_with_len k n)) ≡ Some d → P d.1
found_among P f each test i k zero d h = absurd (none-some d h)
found_among {A = A} P f each test i k (suc n) d h =
    elim (cases_Bool (test (f k))) as (λ _. P d.1) [
      | inl passes ↦ subst (λ (e : ℕ × A). P e.1) (same_Some (i, f k) d (sym (cond-true (test (f k)) _ _ passes) ∙ h)) (each k)
      | inr fails ↦ found_among P f each test (i + 1) (k + 1) n d (sym (cond-false (test (f k)) _ _ fails) ∙ h)
    ]

pub decider_held : (b : List ℕ) (a : ℕ) (d : ℕ × SegmentView) → first_from (is_covering a) 0 (segments_of b) ≡ Some d → length d.1.bytes ≤ d.1.filesz
decider_held b a d h = found_among (λ (s : SegmentView). length s.bytes ≤ s.filesz) (segment_at b) (λ k. segment_held b _) (is_covering a) 0 0 _ d h
