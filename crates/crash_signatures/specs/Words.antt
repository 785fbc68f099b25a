-- Words of a signature.
use Rattle.std.specs.Prelude.{ℕ, Bool, ◌&&◌, nat_eq, List}
use Rattle.std.specs.Cmp.Lexicographic.{pointwise, slice_cmp}
use Rattle.std.proofs.Math.Bool.{beq}
use Rattle.std.specs.Ordering.{bool_cmp, nat_cmp, ordering_then}
use Rattle.std.specs.declared.cmp.Ordering.{Ordering}

-- a word: its bytes, and whether it says which kind of place a frame is at
pub record WordSaid : Type 0 where
  pub text : List ℕ
  pub is_mark : Bool

-- two words are the same
abbrev pub same_word : WordSaid → WordSaid → Bool
same_word a b = pointwise nat_eq a.text b.text && beq a.is_mark b.is_mark

-- two lists have the same words, in the same order
abbrev pub same_words : List WordSaid → List WordSaid → Bool
same_words a b = pointwise same_word a b

-- the order of words: by their bytes, and of equal bytes names first
abbrev pub word_cmp : WordSaid → WordSaid → Ordering
word_cmp a b = ordering_then (slice_cmp nat_cmp a.text b.text) (bool_cmp a.is_mark b.is_mark)
