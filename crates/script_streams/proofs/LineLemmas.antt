-- What is kept of a line that goes on.
use Rattle.std.proofs.Common.{◌≡◌, ℕ, List, [], ◌∷◌, ◌++◌, None, Some, refl, ⊎_elim}
use Rattle.std.proofs.lemmas.Bool.{cases_Bool}
use Rattle.script_words.specs.Words.{is_space, first_visible_of}

pub first_visible_of-append-none : (line piece : List ℕ) → first_visible_of line ≡ None → first_visible_of (line ++ piece) ≡ first_visible_of piece
first_visible_of-append-none [] piece none = refl
first_visible_of-append-none (c ∷ cs) piece none =
    ⊎_elim
    (λ space. rw space (first_visible_of-append-none cs piece (rw space at none)))
    (λ other. let wrong : Some c ≡ None = rw other at none in cc)
    (cases_Bool (is_space c))

pub first_visible_of-append-some : (line piece : List ℕ) (x : ℕ) → first_visible_of line ≡ Some x → first_visible_of (line ++ piece) ≡ Some x
first_visible_of-append-some [] piece x found = cc
first_visible_of-append-some (c ∷ cs) piece x found =
    ⊎_elim
    (λ space. rw space (first_visible_of-append-some cs piece x (rw space at found)))
    (λ other. rw other (rw other at found))
    (cases_Bool (is_space c))
