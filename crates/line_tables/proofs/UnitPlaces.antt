-- The units of a section, one by one.
use Rattle.std.proofs.Common.{◌≡◌, ◌<◌, ◌≤◌, ◌+◌, ℕ, zero, suc, Bool, true, false, cond, leb, ltb, List, [], ◌∷◌, Option, Some, None, length, take, drop, refl, ap, arith}
use Rattle.std.proofs.lemmas.List.{length-drop}
use Rattle.std.proofs.lemmas.Bool.{leb-true}
use Rattle.std.proofs.lemmas.Option.{same_Some}
use Rattle.std.specs.Option.{option_and_then}
use Rattle.elf_view.specs.Field.{field}
use Rattle.line_tables.specs.Texts.{number, split}
use Rattle.line_tables.specs.Units.{if_whole, framed, unit_of, behind_unit, place_behind, units_for, units_from}

cut_by : {A : Type 0} (w : ℕ) (bytes : List ℕ) (x : A) (t : Bool) (p : A × List ℕ) → leb w (length bytes) ≡ t → cond t (Some (x, drop w bytes)) None ≡ Some p → length p.1 + w ≡ length bytes
cut_by w bytes x false p is h = cc
cut_by w bytes x true p is h =
    let same : drop w bytes ≡ p.1 = ap (λ q. q.1) (same_Some _ _ h) in
    let size = ap length same in
    let within = leb-true w (length bytes) is in omega (arith, length-drop w bytes)

number_size : (w : ℕ) (bytes : List ℕ) (p : ℕ × List ℕ) → number w bytes ≡ Some p → length p.1 + w ≡ length bytes
unfolding number
number_size w bytes p h = cut_by w bytes (field bytes 0 w) (leb w (length bytes)) p refl h

split_size : (n : ℕ) (bytes : List ℕ) (p : List ℕ × List ℕ) → split n bytes ≡ Some p → length p.1 + n ≡ length bytes
unfolding split
split_size n bytes p h = cut_by n bytes (take n bytes) (leb n (length bytes)) p refl h

whole_by : (n : ℕ × List ℕ) (t : Bool) (p : List ℕ × List ℕ) → cond t (split n.0 n.1) None ≡ Some p → length p.1 ≤ length n.1
whole_by n true p h =
    let size = split_size n.0 n.1 p h in omega arith
whole_by n false p h = cc

framed_by : (bytes : List ℕ) (o : Option (ℕ × List ℕ)) (p : List ℕ × List ℕ) → number 4 bytes ≡ o → option_and_then if_whole o ≡ Some p → length p.1 + 4 ≤ length bytes
framed_by bytes None p is h = cc
framed_by bytes (Some n) p is h =
    let size = number_size 4 bytes n is in
    let less = whole_by n (ltb n.0 0xfffffff0) p h in omega arith

behind_by : (bytes : List ℕ) (o : Option (List ℕ × List ℕ)) → 0 < length bytes → ((p : List ℕ × List ℕ) → o ≡ Some p → length p.1 + 4 ≤ length bytes) → length (behind_unit o) < length bytes
behind_by bytes None some f = some
behind_by bytes (Some p) some f =
    let less = f p refl in omega arith

-- no unit takes no bytes
pub behind_fewer : (bytes : List ℕ) → 0 < length bytes → length (behind_unit (framed bytes)) < length bytes
unfolding framed
behind_fewer bytes some = behind_by bytes (framed bytes) some (λ p. framed_by bytes (number 4 bytes) p refl)

units_enough : (n k i p : ℕ) (bytes : List ℕ) → length bytes ≤ n → length bytes ≤ k → units_for n i p bytes ≡ units_for k i p bytes
unfolding units_for
units_enough zero zero i p bytes h few = refl
units_enough zero (suc k) i p [] h few = refl
units_enough (suc n) zero i p [] h few = refl
units_enough (suc n) (suc k) i p [] h few = refl
units_enough zero (suc k) i p (x ∷ xs) h few = absurd (omega arith)
units_enough (suc n) zero i p (x ∷ xs) h few = absurd (omega arith)
units_enough (suc n) (suc k) i p (x ∷ xs) h few =
    let less = behind_fewer (x ∷ xs) (omega arith) in
    ap (λ us. unit_of i p (framed (x ∷ xs)) ∷ us) (units_enough n k (i + 1) (place_behind p (x ∷ xs)) (behind_unit (framed (x ∷ xs))) (omega arith) (omega arith))

-- the first unit, and those after it
pub units_next : (i p : ℕ) (bytes : List ℕ) → 0 < length bytes → units_from i p bytes ≡ unit_of i p (framed bytes) ∷ units_from (i + 1) (place_behind p bytes) (behind_unit (framed bytes))
unfolding units_for
units_next i p [] some = absurd (omega arith)
units_next i p (x ∷ xs) some =
    let less = behind_fewer (x ∷ xs) some in
    ap (λ us. unit_of i p (framed (x ∷ xs)) ∷ us) (units_enough (length xs) (length (behind_unit (framed (x ∷ xs)))) (i + 1) (place_behind p (x ∷ xs)) (behind_unit (framed (x ∷ xs))) (omega arith) (omega arith))

pub units_end : (i p : ℕ) (bytes : List ℕ) → length bytes ≡ 0 → units_from i p bytes ≡ []
unfolding units_for
units_end i p [] h = refl
units_end i p (x ∷ xs) h = absurd (omega arith)
