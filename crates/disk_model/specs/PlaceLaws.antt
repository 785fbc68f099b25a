-- Laws of the words on places.
use Rattle.std.proofs.Common.{◌≡◌, inl, inr, ℕ, ◌+◌, ◌-◌, ◌<◌, ◌≤◌, List, ◌++◌, length, get_or, take, drop, refl, ◌∙◌, ap, arith, append_assoc, length-append, length-drop}
use Rattle.std.proofs.lemmas.List.{take_at, drop_at, length-take, length-take-le, get_or-take, get_or-drop, get_or_past, get_or_append_left, get_or-append_right}
use Rattle.std.proofs.lemmas.Bool.{cases_lt}
use Rattle.disk_model.specs.Places.{AreBytes, overwritten, SameOutside}

-- a front, an end and a join of bytes are bytes
pub take_bytes : (n : ℕ) (bytes : List ℕ) → AreBytes bytes → AreBytes (take n bytes)
take_bytes n bytes are k =
    elim (cases_lt k n) as (λ _. get_or (take n bytes) k 0 < 256) [
      | inl below ↦ rw (get_or-take n bytes k 0 below) (are k)
      | inr past ↦ rw (get_or_past (take n bytes) k 0 (omega (arith, length-take n bytes))) (omega arith)
    ]

pub drop_bytes : (n : ℕ) (bytes : List ℕ) → AreBytes bytes → AreBytes (drop n bytes)
drop_bytes n bytes are k = rw (get_or-drop n bytes k 0) (are (n + k))

pub append_bytes : (a b : List ℕ) → AreBytes a → AreBytes b → AreBytes (a ++ b)
append_bytes a b first second k =
    elim (cases_lt k (length a)) as (λ _. get_or (a ++ b) k 0 < 256) [
      | inl below ↦ rw (get_or_append_left a b 0 k below) (first k)
      | inr past ↦ rw (get_or-append_right a b (length a) k 0 refl past) (second (k - length a))
    ]

pub overwritten_bytes : (old : List ℕ) (at : ℕ) (bytes : List ℕ) → AreBytes old → AreBytes bytes → AreBytes (overwritten old at bytes)
overwritten_bytes old at bytes first second =
    append_bytes (take at old ++ bytes) (drop (at + length bytes) old)
    (append_bytes (take at old) bytes (take_bytes at old first) second)
    (drop_bytes (at + length bytes) old first)

front_length : (old : List ℕ) (at : ℕ) (bytes : List ℕ) → at + length bytes ≤ length old → length (take at old ++ bytes) ≡ at + length bytes
front_length old at bytes fits = omega (arith, length-append (take at old) bytes, length-take at old)

pub overwritten_length : (old : List ℕ) (at : ℕ) (bytes : List ℕ) → at + length bytes ≤ length old → length (overwritten old at bytes) ≡ length old
overwritten_length old at bytes fits =
    omega (
      arith,
      front_length old at bytes fits,
      length-append (take at old ++ bytes) (drop (at + length bytes) old),
      length-drop (at + length bytes) old,
    )

-- a write changes nothing outside its range
pub overwritten_outside : (old : List ℕ) (at : ℕ) (bytes : List ℕ) → at + length bytes ≤ length old → SameOutside at (length bytes) old (overwritten old at bytes)
overwritten_outside old at bytes fits = record {
  same_length = overwritten_length old at bytes fits;
  before =
      ap (take at) (append_assoc (take at old) bytes (drop (at + length bytes) old))
      ∙ take_at (take at old) (bytes ++ drop (at + length bytes) old) at (length-take-le at old (omega (arith, fits)));
  after = drop_at (take at old ++ bytes) (drop (at + length bytes) old) (at + length bytes) (front_length old at bytes fits);
}

-- a list is the same as itself outside any range
pub same_as_it_was : (at n : ℕ) (bytes : List ℕ) → SameOutside at n bytes bytes
same_as_it_was at n bytes = record { same_length = refl; before = refl; after = refl }
