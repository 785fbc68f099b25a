-- Laws of bytes with one of them shown as another.
use Rattle.std.proofs.Common.{◌≡◌, ◌⊎◌, inl, inr, ℕ, zero, suc, ◌+◌, ◌<◌, ◌≤◌, List, [], ◌∷◌, length, get_or, refl, sym, ap, ◌∙◌, arith, Option, None, Some}
use Rattle.std.proofs.lemmas.Bool.{cases_lt}
use Rattle.std.proofs.lemmas.List.{get_or_past}
use Rattle.disk_model.specs.Places.{AreBytes, part, overwritten, SameOutside}
use Rattle.disk_model.specs.PlaceLaws.{overwritten_bytes, overwritten_length, overwritten_outside}
use Rattle.disk_model.specs.PartLaws.{part_length, part_part, part_place, part_overwritten, part_spared, place_spared, same_all, same_by_places}
use Rattle.salvage.specs.Showing.{IsWithin, IsSmall, shown}
use Rattle.salvage.specs.declared.shown.Patch.{Patch}

pub shown_length : (p : Option Patch) (b : List ℕ) → IsWithin (length b) p → length (shown p b) ≡ length b
shown_length None b within = refl
shown_length (Some p) b within = overwritten_length b p.at (p.byte ∷ []) (omega (arith, within p refl))

one_byte : (n : ℕ) → n < 256 → AreBytes (n ∷ [])
one_byte n small zero = small
one_byte n small (suc k) = omega (arith, get_or_past (n ∷ []) (suc k) 0 (omega arith))

pub shown_bytes : (p : Option Patch) (b : List ℕ) → AreBytes b → IsSmall p → AreBytes (shown p b)
shown_bytes None b are small = are
shown_bytes (Some p) b are small = overwritten_bytes b p.at (p.byte ∷ []) are (one_byte p.byte (small p refl))

-- a part that has the byte
pub part_patched : (b : List ℕ) (p x at n k : ℕ) → at + n ≤ length b → k < n → k + at ≡ p
    → overwritten (part b at n) k (x ∷ []) ≡ part (overwritten b p (x ∷ [])) at n
part_patched b p x at n k within low place =
    sym (same_all k 1 old new (same_by_places k 1 old new long same) inside)
  where
    whole : length (part b at n) ≡ n
    whole = part_length b at n within

    new : List ℕ
    new = part (overwritten b p (x ∷ [])) at n

    old : List ℕ
    old = overwritten (part b at n) k (x ∷ [])

    fits : p + 1 ≤ length b
    fits = omega (arith, within, low, place)

    fits_part : k + 1 ≤ length (part b at n)
    fits_part = omega (arith, whole, low)

    long_new : length new ≡ n
    long_new = part_length (overwritten b p (x ∷ [])) at n (omega (arith, within, overwritten_length b p (x ∷ []) fits))

    long_old : length old ≡ n
    long_old = overwritten_length (part b at n) k (x ∷ []) fits_part ∙ whole

    long : length new ≡ length old
    long = long_new ∙ sym long_old

    outside : SameOutside p 1 b (overwritten b p (x ∷ []))
    outside = overwritten_outside b p (x ∷ []) fits

    outside_part : SameOutside k 1 (part b at n) old
    outside_part = overwritten_outside (part b at n) k (x ∷ []) fits_part

    here : (j : ℕ) → (j < k) ⊎ (k + 1 ≤ j) → (at + j < p) ⊎ (p + 1 ≤ at + j)
    here j (inl low) = inl (omega (arith, low, place))
    here j (inr high) = inr (omega (arith, high, place))

    same : (j : ℕ) → (j < k) ⊎ (k + 1 ≤ j) → get_or new j 0 ≡ get_or old j 0
    same j out =
        elim (cases_lt j n) as (λ _. get_or new j 0 ≡ get_or old j 0) [
          | inl below ↦
              part_place (overwritten b p (x ∷ [])) at n j 0 below
              ∙ place_spared p 1 b (overwritten b p (x ∷ [])) outside (at + j) 0 (here j out)
              ∙ sym (part_place b at n j 0 below)
              ∙ sym (place_spared k 1 (part b at n) old outside_part j 0 out)
          | inr past ↦ get_or_past new j 0 (omega (arith, long_new, past)) ∙ sym (get_or_past old j 0 (omega (arith, long_old, past)))
        ]

    inside : part new k 1 ≡ part old k 1
    inside =
        let e : at + k ≡ p = omega (arith, place) in
        part_part (overwritten b p (x ∷ [])) at n k 1 (omega (arith, low))
        ∙ ap (λ (q : ℕ). part (overwritten b p (x ∷ [])) q 1) e
        ∙ part_overwritten b p (x ∷ []) fits
        ∙ sym (part_overwritten (part b at n) k (x ∷ []) fits_part)

-- a part that has it not
pub part_unpatched : (b : List ℕ) (p x at n : ℕ) → p < length b → (at + n ≤ p) ⊎ (p + 1 ≤ at) → part (overwritten b p (x ∷ [])) at n ≡ part b at n
part_unpatched b p x at n within out =
    part_spared p 1 b (overwritten b p (x ∷ [])) (overwritten_outside b p (x ∷ []) (omega (arith, within))) at n out
