-- Signatures of walks.
use Rattle.std.proofs.Common.{◌≡◌, ℕ, ◌+◌, ◌-◌, Bool, true, false, not, ◌&&◌, ◌||◌, cond, ltb, List, [], ◌∷◌, ◌++◌, length, take, drop, map, min, Option, None, Some, refl, sym, ap, ◌∙◌}
use Rattle.std.proofs.lemmas.List.{length-map, map-append}
use Rattle.std.specs.List.{list_any, position, position_or_len, prefix_len}
use Rattle.std.specs.Prelude.{nat_lt}
use Rattle.crash_signatures.specs.Signature.{HandledSaid, SignatureSaid, behind, handling, is_fault, is_signal_frame, signal_mark, unhandled}
use Rattle.crash_signatures.specs.Steps.{is_outermost}
use Rattle.crash_signatures.specs.WordViews.{said}
use Rattle.crash_signatures.specs.Words.{WordSaid}
use Rattle.crash_signatures.specs.declared.words.Word.{Word}
use Rattle.crash_signatures.proofs.SliceLemmas.{front_same, said_from, said_to}

prefix_len-map : {A B : Type 0} → (f : A → B) (p : B → Bool) (xs : List A) → prefix_len p (map f xs) ≡ prefix_len (λ x. p (f x)) xs
prefix_len-map f p [] = refl
prefix_len-map f p (x ∷ xs) = ap (λ n. cond (p (f x)) (1 + n) 0) (prefix_len-map f p xs)

-- the first place that passes
position-map : {A B : Type 0} → (f : A → B) (p : B → Bool) (xs : List A) → position (λ x. p (f x)) xs ≡ position p (map f xs)
position-map f p xs =
    let place = sym (prefix_len-map f (λ y. not (p y)) xs) in
    let len = sym (length-map xs f) in
    ap (λ n. cond (ltb n (length xs)) (Some n) None) place ∙ ap (λ m. cond (ltb (position_or_len p (map f xs)) m) (Some (position_or_len p (map f xs))) None) len

list_any-map : {A B : Type 0} → (f : A → B) (p : B → Bool) (xs : List A) → list_any (λ x. p (f x)) xs ≡ list_any p (map f xs)
list_any-map f p [] = refl
list_any-map f p (x ∷ xs) = ap (λ t. p (f x) || t) (list_any-map f p xs)

pub any_said : (words : List Word) → list_any (λ w. is_outermost (said w)) words ≡ list_any is_outermost (map said words)
any_said words = list_any-map said is_outermost words

pub place_said : (words : List Word) (n : ℕ) (r : Option ℕ) → n ≡ min (length words) 16 → r ≡ position (λ w. is_signal_frame (said w)) (take n words)
    → r ≡ position is_signal_frame (take 16 (map said words))
place_said words n r least is =
    is ∙ ap (position (λ w. is_signal_frame (said w))) (front_same n 16 words least) ∙ position-map said is_signal_frame (take 16 words)
    ∙ ap (position is_signal_frame) (said_to words 16)

behind_nothing : (s : SignatureSaid) → behind [] s ≡ s
behind_nothing s = refl

module _ (words : List Word) (at : ℕ) (h : Option HandledSaid) (is_whole t : Bool) (mark : Word) (r : SignatureSaid) (test : t ≡ (is_fault h && nat_lt (at + 1) (length words))) (its : said mark ≡ signal_mark h) where
  abbrev past : SignatureSaid
  past = behind (signal_mark h ∷ []) (unhandled (drop (at + 1) (map said words)) is_whole)

  abbrev ended_there : SignatureSaid
  ended_there = unhandled (take at (map said words) ++ signal_mark h ∷ []) true

  by_test : handling at (map said words) h is_whole ≡ cond t past ended_there
  by_test =
      ap (λ (n : ℕ). cond (is_fault h && nat_lt (at + 1) n) past ended_there) (length-map words said) ∙ ap (λ (b : Bool). cond b past ended_there) (sym test)

  pub had_failed : (lead : List Word) → t ≡ true → lead ≡ mark ∷ [] → r ≡ behind (map said lead) (unhandled (map said (take (length words - (at + 1)) (drop (at + 1) words))) is_whole)
      → r ≡ handling at (map said words) h is_whole
  had_failed lead yes_failed one is =
      is ∙ ap (λ (l : List Word). behind (map said l) (unhandled (map said (take (length words - (at + 1)) (drop (at + 1) words))) is_whole)) one
      ∙ ap (λ (w : WordSaid). behind (w ∷ []) (unhandled (map said (take (length words - (at + 1)) (drop (at + 1) words))) is_whole)) its
      ∙ ap (λ (l : List WordSaid). behind (signal_mark h ∷ []) (unhandled l is_whole)) (said_from words (at + 1))
      ∙ sym (by_test ∙ ap (λ (b : Bool). cond b past ended_there) yes_failed)

  pub handler_failed : (lead ended part : List Word) → t ≡ false → lead ≡ [] → ended ≡ part ++ mark ∷ [] → map said part ≡ map said (take at words) → r ≡ behind (map said lead) (unhandled (map said ended) true)
      → r ≡ handling at (map said words) h is_whole
  handler_failed lead ended part not_failed none longer same is =
      is ∙ ap (λ (l : List Word). behind (map said l) (unhandled (map said ended) true)) none ∙ behind_nothing (unhandled (map said ended) true)
      ∙ ap (λ (l : List WordSaid). unhandled l true)
      (ap (map said) longer ∙ map-append said part (mark ∷ []) ∙ ap (λ (l : List WordSaid). l ++ said mark ∷ []) (same ∙ said_to words at) ∙ ap (λ (w : WordSaid). take at (map said words) ++ w ∷ []) its)
      ∙ sym (by_test ∙ ap (λ (b : Bool). cond b past ended_there) not_failed)
