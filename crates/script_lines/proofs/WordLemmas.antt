-- No word of a line is empty, or longer than the line.
use Rattle.std.proofs.Common.{ℕ, suc, ◌≤◌, List, [], ◌∷◌, length, filter, arith, ⊎_elim}
use Rattle.std.proofs.lemmas.Bool.{cases_Bool}
use Rattle.script_words.specs.Words.{is_space, with_first, pieces_of, is_word, words_of}
use Rattle.script_lines.specs.LineWords.{AreWords}

abbrev AreWithin : ℕ → List (List ℕ) → Type 0
AreWithin n [] = Unit {0}
AreWithin n (word ∷ words) = (length word ≤ n) × AreWithin n words

widened : (n m : ℕ) → n ≤ m → (words : List (List ℕ)) → AreWithin n words → AreWithin m words
widened n m more [] within = tt
widened n m more (word ∷ words) within = (omega (arith, within.0), widened n m more words within.1)

with_first_within : (n c : ℕ) (pieces : List (List ℕ)) → AreWithin n pieces → AreWithin (suc n) (with_first c pieces)
with_first_within n c [] within = (omega arith, tt)
with_first_within n c (piece ∷ pieces) within = (omega (arith, within.0), widened n (suc n) (omega arith) pieces within.1)

pieces_within : (line : List ℕ) → AreWithin (length line) (pieces_of line)
pieces_within [] = (omega arith, tt)
pieces_within (c ∷ cs) =
    ⊎_elim
    (λ space. rw space (omega arith, widened (length cs) (suc (length cs)) (omega arith) (pieces_of cs) (pieces_within cs)))
    (λ other. rw other (with_first_within (length cs) c (pieces_of cs) (pieces_within cs)))
    (cases_Bool (is_space c))

words_within : (pieces : List (List ℕ)) → AreWithin 1024 pieces → AreWords (filter is_word pieces)
words_within [] within = tt
words_within ([] ∷ pieces) within = words_within pieces within.1
words_within ((c ∷ cs) ∷ pieces) within = ((omega arith, within.0), words_within pieces within.1)

pub are_words : (line : List ℕ) → length line ≤ 1024 → AreWords (words_of line)
are_words line few = words_within (pieces_of line) (widened (length line) 1024 few (pieces_of line) (pieces_within line))
