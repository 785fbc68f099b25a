-- Where the names of a string table end.
use Rattle.std.proofs.Common.{◌≡◌, ◌<◌, ◌≤◌, ◌+◌, ◌-◌, ℕ, Bool, true, false, List, Some, None, length, get_or, take, drop, leb, refl, sym, ap, ⊎_elim, ◌∙◌, arith}
use Rattle.std.proofs.lemmas.Bool.{le-leb, lt-leb, cases_lt}
use Rattle.std.proofs.lemmas.List.{get_or-drop, length-drop, take_all}
use Rattle.std.proofs.lemmas.List.Elements.{All-from_get_or}
use Rattle.std.proofs.lemmas.List.Folds.{list_any_at, list_any_none}
use Rattle.memchr.specs.Find.{IsLastByte, is_byte}
use Rattle.symbols.specs.SymbolTable.{ends_in_nul}

not_yet : (t : Bool) → (t ≡ true → ⊥) → t ≡ false
not_yet true h = absurd (h refl)
not_yet false h = refl

-- one is there, or after it, where the last is
pub ended : (s : List ℕ) (place last : ℕ) → IsLastByte (is_byte 0) s (Some last) → place ≤ last → ends_in_nul s place ≡ true
unfolding ends_in_nul
ended s place last h behind =
    let i : place + (last - place) ≡ last = omega arith in
    list_any_at (is_byte 0) (drop place s) (last - place) 0 (omega (arith, length-drop place s, h.0.high)) (ap (is_byte 0) (get_or-drop place s (last - place) 0 ∙ ap (λ k. get_or s k 0) i) ∙ h.1)

none_from : (s : List ℕ) (place : ℕ) → ((k : ℕ) → place ≤ k → k < length s → is_byte 0 (get_or s k 0) ≡ false) → ends_in_nul s place ≡ false
unfolding ends_in_nul
none_from s place none =
    list_any_none (is_byte 0) (drop place s) (All-from_get_or (λ x. is_byte 0 x ≡ false) (drop place s) 0 (λ i lt. ap (is_byte 0) (get_or-drop place s i 0) ∙ none (place + i) (omega arith) (omega (arith, lt, length-drop place s))))

pub unended : (s : List ℕ) (place last : ℕ) → IsLastByte (is_byte 0) s (Some last) → last < place → ends_in_nul s place ≡ false
unended s place last h behind = none_from s place (λ k low lt. not_yet _ (h.0.after k (omega arith) lt))

pub none_ended : (s : List ℕ) (place : ℕ) → IsLastByte (is_byte 0) s None → ends_in_nul s place ≡ false
none_ended s place h = none_from s place (λ k low lt. not_yet _ (h k (omega arith) lt))

-- the last decides
pub last_decides : (s : List ℕ) (place last : ℕ) → IsLastByte (is_byte 0) s (Some last) → leb place last ≡ ends_in_nul s place
last_decides s place last h =
    ⊎_elim
    (λ before. lt-leb place last before ∙ sym (unended s place last h before))
    (λ behind. le-leb place last behind ∙ sym (ended s place last h behind))
    (cases_lt last place)

-- the bytes from a place on, which may be past the end
pub from_place : (s : List ℕ) (place : ℕ) → take (length s) (drop place s) ≡ drop place s
from_place s place = take_all (length s) (drop place s) (omega (arith, length-drop place s))
