-- The values of addresses of one place.
use Rattle.std.specs.Option.{option_map}
use Rattle.std.specs.List.{find}
use Rattle.std.proofs.Common.{◌≡◌, ◌<◌, ◌≤◌, ℕ, ◌+◌, ◌-◌, leb, ltb, cond, Bool, true, false, List, [], ◌∷◌, length, drop, get_or, Option, None, Some, refl, sym, ap, ◌∙◌, arith, inl, inr}
use Rattle.std.proofs.lemmas.List.{get_or-take, get_or-drop}
use Rattle.std.proofs.lemmas.Bool.{and_parts, leb-true, cond-true, cond-false, cases_Bool, le-leb}
use Rattle.std.proofs.lemmas.Option.{same_Some, none-some}
use Rattle.elf_view.specs.Header.{SegmentView}
use Rattle.elf_view.specs.Field.{part}
use Rattle.core_notes.specs.FileList.{FileView}
use Rattle.address_space.specs.Source.{Space, Place, nowhere, dumped, cut_off, unwritten, in_file, first_from, is_covering, is_mapping, span, decider, entry_at, placed, undumped, filed, place_at, executable_named, ExecutableView, spot_in, Content, content_by, value_of, is_named}
use Rattle.address_space.specs.Pieces.{content_from}
use Rattle.address_space.specs.Ranges.{IsStretch, place_number, IsAlike}
use Rattle.address_space.specs.CursorWords.{IsRun, value_in}
use Rattle.address_space.specs.SourceWords.{bytes_in}
use Rattle.address_space.proofs.Places.{placed_number}

-- what is found passes the test
pub found_passes : {A : Type 0} (test : A → Bool) (i : ℕ) (xs : List A) (d : ℕ × A) → first_from test i xs ≡ Some d → test d.1 ≡ true
found_passes test i [] d h = absurd (none-some d h)
found_passes test i (x ∷ xs) d h = elim (cases_Bool (test x)) as (λ _. test d.1 ≡ true) [
  | inl passes ↦ ap (λ e. test e.1) (sym (same_Some (i, x) d (sym (cond-true (test x) _ _ passes) ∙ h))) ∙ passes
  | inr fails ↦ found_passes test (i + 1) xs d (sym (cond-false (test x) _ _ fails) ∙ h)
]

-- the bytes of a place begin at or below its address
abbrev IsBegun : ℕ → Place → Type 0
IsBegun a nowhere = Unit {0}
IsBegun a (dumped i s) = s.vaddr ≤ a
IsBegun a (cut_off i) = Unit {0}
IsBegun a (unwritten i e) = Unit {0}
IsBegun a (in_file i e x) = e.1.start ≤ a

filed_begun : (a i : ℕ) (e : ℕ × FileView) (x : Option ExecutableView) → e.1.start ≤ a → IsBegun a (filed a i e x)
filed_begun a i e None h = tt
filed_begun a i e (Some x) h = elim (ltb (spot_in a e.1).offset (length x.image)) as (λ t. IsBegun a (cond t (in_file i e x.image) (unwritten i (Some e)))) [ true ↦ h | false ↦ tt ]

undumped_begun : (space : Space) (a i : ℕ) (e : Option (ℕ × FileView)) → entry_at space.files a ≡ e → IsBegun a (undumped space a i e)
unfolding entry_at
undumped_begun space a i None h = tt
undumped_begun space a i (Some e) h =
    let maps = found_passes (is_mapping a) 0 space.files e h in
    filed_begun a i e (executable_named space e.1.name) (leb-true e.1.start a (and_parts (leb e.1.start a) (ltb a e.1.past) maps).0)

placed_begun : (space : Space) (a : ℕ) (o : Option (ℕ × SegmentView)) → decider space a ≡ o → IsBegun a (placed space a o)
unfolding decider
placed_begun space a None h = tt
placed_begun space a (Some d) h =
    let covers = found_passes (is_covering a) 0 space.segments d h in
    let low = leb-true d.1.vaddr a (and_parts (leb d.1.vaddr a) (ltb a (d.1.vaddr + span d.1)) covers).0 in
    elim (leb d.1.filesz (a - d.1.vaddr)) as (λ t. IsBegun a (cond t (undumped space a d.0 (entry_at space.files a)) (cond (leb (length d.1.bytes) (a - d.1.vaddr)) (cut_off d.0) (dumped d.0 d.1)))) [
      | true ↦ undumped_begun space a d.0 (entry_at space.files a) refl
      | false ↦ elim (leb (length d.1.bytes) (a - d.1.vaddr)) as (λ t. IsBegun a (cond t (cut_off d.0) (dumped d.0 d.1))) [ true ↦ tt | false ↦ low ]
    ]

begun : (space : Space) (a : ℕ) → IsBegun a (place_at space a)
unfolding place_at
begun space a = placed_begun space a (decider space a) refl

pub byte_of_part : (b : List ℕ) (p n k q : ℕ) → k < n → q ≡ p + k → get_or b q 0 ≡ get_or (part b p n) k 0
byte_of_part b p n k q h is = ap (λ j. get_or b j 0) is ∙ sym (get_or-drop p b k 0) ∙ sym (get_or-take n (drop p b) k 0 h)

value_within : (p : Place) (a n k : ℕ) → IsBegun a p → k < n → value_of (content_by (λ b j. get_or b j 0) (a + k) p) ≡ value_in (bytes_in (content_by (λ b j. part b j n) a p)) k
value_within nowhere a n k h l = refl
value_within (dumped i s) a n k h l = ap Some (byte_of_part s.bytes (a - s.vaddr) n k (a + k - s.vaddr) l (omega arith))
value_within (cut_off i) a n k h l = refl
value_within (unwritten i e) a n k h l = refl
value_within (in_file i e x) a n k h l = ap Some (byte_of_part x (spot_in a e.1).offset n k (spot_in (a + k) e.1).offset l (omega arith))

-- what is known of addresses of one place
pub run_of : (space : Space) (a limit n : ℕ) (number : Option ℕ) (content : Content (List ℕ)) (bytes : Option (List ℕ)) → IsStretch (place_at space) a limit n → place_number (place_at space a) ≡ number → content_from space a n ≡ content → bytes ≡ bytes_in content → IsRun space a limit n number bytes
unfolding place_at
run_of space a limit n number content bytes s num is bytes_is = record {
  some = s.some;
  within = s.within;
  decided = λ k h. sym (placed_number space (a + k) (decider space (a + k))) ∙ ap place_number (s.same k h) ∙ num;
  values = λ k h.
      ap (λ p. value_of (content_by (λ b j. get_or b j 0) (a + k) p)) (s.same k h) ∙ value_within (place_at space a) a n k (begun space a) h ∙ ap (λ c. value_in (bytes_in c) k) is ∙ ap (λ o. value_in o k) (sym bytes_is);
}

-- where no executable is attached, an address without a byte in the core has no value
undumped_alone : (space : Space) (b i : ℕ) (e : Option (ℕ × FileView)) → space.executables ≡ [] → value_of (content_by (λ x j. get_or x j 0) b (undumped space b i e)) ≡ None
unfolding executable_named
undumped_alone space b i None none = refl
undumped_alone space b i (Some e) none = ap (λ xs. value_of (content_by (λ x j. get_or x j 0) b (filed b i e (find (is_named e.1.name) xs)))) none

abbrev value_placed : Space → ℕ → ℕ → SegmentView → Option ℕ
value_placed space b i s = value_of (content_by (λ x j. get_or x j 0) b (placed space b (Some (i, s))))

pub no_byte : (space : Space) (b i : ℕ) (s : SegmentView) → space.executables ≡ [] → length s.bytes ≤ b - s.vaddr → value_placed space b i s ≡ None
no_byte space b i s none past = elim (cases_Bool (leb s.filesz (b - s.vaddr))) as (λ _. value_placed space b i s ≡ None) [
  | inl behind ↦ ap (λ p. value_of (content_by (λ x j. get_or x j 0) b p)) (cond-true (leb s.filesz (b - s.vaddr)) (undumped space b i (entry_at space.files b)) (cond (leb (length s.bytes) (b - s.vaddr)) (cut_off i) (dumped i s)) behind) ∙ undumped_alone space b i (entry_at space.files b) none
  | inr within ↦ ap (λ p. value_of (content_by (λ x j. get_or x j 0) b p)) (cond-false (leb s.filesz (b - s.vaddr)) (undumped space b i (entry_at space.files b)) (cond (leb (length s.bytes) (b - s.vaddr)) (cut_off i) (dumped i s)) within ∙ cond-true (leb (length s.bytes) (b - s.vaddr)) (cut_off i) (dumped i s) (le-leb (length s.bytes) (b - s.vaddr) past))
]

-- what is known of addresses that one segment decides, and of those that none does
pub run_decided_by : (space : Space) (a limit m n : ℕ) (d : ℕ × SegmentView) (bytes : Option (List ℕ)) → decider space a ≡ Some d → IsAlike (decider space) a limit m → 0 < n → n ≤ m → ((k : ℕ) → k < n → value_placed space (a + k) d.0 d.1 ≡ value_in bytes k) → IsRun space a limit n (Some d.0) bytes
unfolding place_at
run_decided_by space a limit m n d bytes is alike some le values =
    let within = alike.within in record {
      some = some;
      within = omega arith;
      decided = λ k h. ap (option_map (λ (e : ℕ × SegmentView). e.0)) (alike.same k (omega arith) ∙ is);
      values = λ k h. ap (λ o. value_of (content_by (λ x j. get_or x j 0) (a + k) (placed space (a + k) o))) (alike.same k (omega arith) ∙ is) ∙ values k h;
    }

pub run_undecided : (space : Space) (a limit m : ℕ) → decider space a ≡ None → IsAlike (decider space) a limit m → IsRun space a limit m None None
unfolding place_at
run_undecided space a limit m is alike = record {
  some = alike.some;
  within = alike.within;
  decided = λ k h. ap (option_map (λ (e : ℕ × SegmentView). e.0)) (alike.same k h ∙ is);
  values = λ k h. ap (λ o. value_of (content_by (λ x j. get_or x j 0) (a + k) (placed space (a + k) o))) (alike.same k h ∙ is);
}
