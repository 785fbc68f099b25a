-- A byte that is held is in the file, and the first segment that covers an address decides it.
use Rattle.std.proofs.Common.{◌≡◌, ◌<◌, ℕ, zero, suc, ◌+◌, ◌-◌, leb, ltb, cond, Bool, true, false, List, [], ◌∷◌, length, Option, None, Some, refl, sym, ap, subst, ◌∙◌, arith, inl, inr}
use Rattle.std.specs.List.{slice_get}
use Rattle.std.specs.Prelude.{slice_index}
use Rattle.std.proofs.lemmas.Bool.{cases_Bool, cond-true, cond-false, leb-false, false≢true}
use Rattle.std.proofs.lemmas.Option.{same_Some, none-some}
use Rattle.core_notes.specs.FileList.{FileView}
use Rattle.elf_view.specs.Header.{SegmentView}
use Rattle.address_space.specs.Source.{Content, ExecutableView, Place, Space, content_by, cut, cut_off, decider, dumped, entry_at, executable_named, filed, first_from, from_file, held, in_file, is_covering, not_dumped, placed, spot_in, undumped, unmapped, unwritten}
use Rattle.address_space.proofs.Places.{place_from}
use Rattle.address_space.proofs.Scanning.{first_yes, first_no}
use Rattle.windowed_search.specs.Held.{HeldBytesAreInTheFile, IsInTheFile, TheFirstDecides}

abbrev is_held : Content ℕ → Bool
is_held (held x) = true
is_held (from_file x) = false
is_held (not_dumped e) = false
is_held cut = false
is_held unmapped = false

abbrev byte_held : Content ℕ → ℕ
byte_held (held x) = x
byte_held (from_file x) = 0
byte_held (not_dumped e) = 0
byte_held cut = 0
byte_held unmapped = 0

abbrev content : ℕ → Place → Content ℕ
content a p = content_by slice_index a p

filed_elsewhere : (a i : ℕ) (e : ℕ × FileView) (x : Option ExecutableView) → is_held (content a (filed a i e x)) ≡ false
filed_elsewhere a i e None = refl
filed_elsewhere a i e (Some x) =
    elim (ltb (spot_in a e.1).offset (length x.image)) as (λ t. is_held (content a (cond t (in_file i e x.image) (unwritten i (Some e)))) ≡ false) [
      | true ↦ refl
      | false ↦ refl
    ]

elsewhere : (space : Space) (a i : ℕ) (o : Option (ℕ × FileView)) → is_held (content a (undumped space a i o)) ≡ false
elsewhere space a i None = refl
elsewhere space a i (Some e) = filed_elsewhere a i e (executable_named space e.1.name)

in_the_file : (space : Space) (a x : ℕ) (o : Option (ℕ × SegmentView)) → decider space a ≡ o → content a (placed space a o) ≡ held x → IsInTheFile space a x
in_the_file space a x None found is = absurd (false≢true (ap is_held is))
in_the_file space a x (Some d) found is =
    elim (cases_Bool (leb d.1.filesz (a - d.1.vaddr))) as (λ _. IsInTheFile space a x) [
      | inl past ↦
          let here : placed space a (Some d) ≡ undumped space a d.0 (entry_at space.files a) = cond-true (leb d.1.filesz (a - d.1.vaddr)) _ _ past in
          absurd (false≢true (sym (elsewhere space a d.0 (entry_at space.files a)) ∙ ap (λ p. is_held (content a p)) (sym here) ∙ ap is_held is))
      | inr low ↦
          let within : placed space a (Some d) ≡ cond (leb (length d.1.bytes) (a - d.1.vaddr)) (cut_off d.0) (dumped d.0 d.1) = cond-false (leb d.1.filesz (a - d.1.vaddr)) _ _ low in
          elim (cases_Bool (leb (length d.1.bytes) (a - d.1.vaddr))) as (λ _. IsInTheFile space a x) [
            | inl gone ↦
                let here : placed space a (Some d) ≡ cut_off d.0 = within ∙ cond-true (leb (length d.1.bytes) (a - d.1.vaddr)) _ _ gone in
                absurd (false≢true (ap (λ p. is_held (content a p)) (sym here) ∙ ap is_held is))
            | inr there ↦
                let here : placed space a (Some d) ≡ dumped d.0 d.1 = within ∙ cond-false (leb (length d.1.bytes) (a - d.1.vaddr)) _ _ there in
                record {
                  number = d.0;
                  segment = d.1;
                  decides = found;
                  stated = leb-false d.1.filesz (a - d.1.vaddr) low;
                  there = leb-false (length d.1.bytes) (a - d.1.vaddr) there;
                  byte = ap (λ p. byte_held (content a p)) (sym here) ∙ ap byte_held is;
                }
          ]
    ]

pub held_in_the_file : HeldBytesAreInTheFile
held_in_the_file space a x is = in_the_file space a x (decider space a) refl (ap (content a) (sym (place_from space a (decider space a) refl)) ∙ is)

passed_over : {A : Type 0} (test : A → Bool) (i : ℕ) (xs : List A) (d : ℕ × A) → first_from test i xs ≡ Some d → (k : ℕ) (y : A) → i + k < d.0 → slice_get xs k ≡ Some y → test y ≡ false
passed_over test i [] d h k y low at = absurd (none-some d h)
passed_over test i (x ∷ xs) d h zero y low at = elim (cases_Bool (test x)) as (λ _. test y ≡ false) [
  | inl holds ↦
      let same : i ≡ d.0 = ap (λ (e : ℕ × _). e.0) (same_Some (i, x) d (sym (first_yes test i x xs holds) ∙ h)) in
      absurd (omega (arith, same, low))
  | inr fails ↦ subst (λ z. test z ≡ false) (same_Some x y at) fails
]
passed_over test i (x ∷ xs) d h (suc k) y low at = elim (cases_Bool (test x)) as (λ _. test y ≡ false) [
  | inl holds ↦
      let same : i ≡ d.0 = ap (λ (e : ℕ × _). e.0) (same_Some (i, x) d (sym (first_yes test i x xs holds) ∙ h)) in
      absurd (omega (arith, same, low))
  | inr fails ↦ passed_over test (i + 1) xs d (sym (first_no test i x xs fails) ∙ h) k y (omega (arith, low)) at
]

pub first_decides : TheFirstDecides
unfolding decider
first_decides space a d h k s low at = passed_over (is_covering a) 0 space.segments d h k s (omega (arith, low)) at
