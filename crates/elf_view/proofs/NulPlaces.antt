-- memchr's place of a byte is where the bytes before it end.
use Rattle.std.proofs.Common.{◌≡◌, ℕ, Bool, true, false, List, Some, None, length, take, refl, sym, ap, ◌∙◌, arith}
use Rattle.std.specs.List.{position_or_len, before_first}
use Rattle.std.proofs.lemmas.List.{take_all}
use Rattle.std.proofs.lemmas.List.Sums.{position_or_len_is}
use Rattle.memchr.specs.Find.{IsFirstByte, is_byte}

not_yet : (t : Bool) → (t ≡ true → ⊥) → t ≡ false
not_yet true h = absurd (h refl)
not_yet false h = refl

-- the place that was found
pub found_at : (b : ℕ) (xs : List ℕ) (k : ℕ) → IsFirstByte (is_byte b) xs (Some k) → position_or_len (is_byte b) xs ≡ k
found_at b xs k h = position_or_len_is (is_byte b) xs k 0 (omega (arith, h.0.high)) (λ i lt. not_yet _ (h.0.before i (omega arith) lt)) (λ lt. h.1)

-- none was found
pub found_none : (b : ℕ) (xs : List ℕ) → IsFirstByte (is_byte b) xs None → position_or_len (is_byte b) xs ≡ length xs
found_none b xs h = position_or_len_is (is_byte b) xs (length xs) 0 (omega arith) (λ i lt. not_yet _ (h i (omega arith) lt)) (λ lt. absurd (omega arith))

pub before_found : (b : ℕ) (xs : List ℕ) (k : ℕ) → IsFirstByte (is_byte b) xs (Some k) → take k xs ≡ before_first (is_byte b) xs
before_found b xs k h = ap (λ n. take n xs) (sym (found_at b xs k h))

pub before_none : (b : ℕ) (xs : List ℕ) → IsFirstByte (is_byte b) xs None → xs ≡ before_first (is_byte b) xs
before_none b xs h = sym (take_all (length xs) xs (omega arith)) ∙ ap (λ n. take n xs) (sym (found_none b xs h))
