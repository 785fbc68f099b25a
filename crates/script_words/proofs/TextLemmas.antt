-- Reading a text byte by byte gives the text.
use Rattle.std.proofs.Common.{◌≡◌, ◌==◌, ℕ, zero, suc, ◌<◌, ◌≤◌, true, List, [], ◌∷◌, ◌++◌, length, get_or, take, drop, Option, None, Some, refl, ap, append_assoc, arith, ⊎_elim}
use Rattle.std.proofs.lemmas.Bool.{cases_Bool}
use Rattle.script_words.specs.Pairs.{pair_of}
use Rattle.script_words.specs.Text.{with_byte}

-- the text, the bytes of front before it
abbrev pub with_front : List ℕ → Option (List ℕ) → Option (List ℕ)
with_front front None = None
with_front front (Some text) = Some (front ++ text)

-- one byte more in front
pub with_front-push : (front : List ℕ) (c : ℕ) (text : Option (List ℕ)) → with_front (front ++ c ∷ []) text ≡ with_front front (with_byte c text)
with_front-push front c None = refl
with_front-push front c (Some text) = ap Some (append_assoc front (c ∷ []) text)

-- a word with no `=` is no pair
pub pair_of-none : (word : List ℕ) → ((k : ℕ) → 0 ≤ k → k < length word → ¬ ((get_or word k 0 == 61) ≡ true)) → pair_of word ≡ None
pair_of-none [] none = refl
pair_of-none (c ∷ cs) none =
    ⊎_elim
    (λ is. absurd (none 0 (omega arith) (omega arith) is))
    (λ other. rw (other, pair_of-none cs (λ k low high. none (suc k) (omega arith) (omega arith))))
    (cases_Bool (c == 61))

-- a word is cut at its first `=`
pub pair_of-found : (word : List ℕ) (at : ℕ) → at < length word → ((k : ℕ) → 0 ≤ k → k < at → ¬ ((get_or word k 0 == 61) ≡ true)) → (get_or word at 0 == 61) ≡ true
    → pair_of word ≡ Some (take at word, drop 1 (drop at word))
pair_of-found [] at lt none is = absurd (omega arith)
pair_of-found (c ∷ cs) zero lt none is = rw is
pair_of-found (c ∷ cs) (suc at) lt none is =
    ⊎_elim
    (λ first. absurd (none 0 (omega arith) (omega arith) first))
    (λ other. rw (other, pair_of-found cs at (omega arith) (λ k low high. none (suc k) (omega arith) (omega arith)) is))
    (cases_Bool (c == 61))
