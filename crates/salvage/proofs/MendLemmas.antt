-- What lies outside of bytes that are put in place of others.
use Rattle.std.proofs.Common.{◌≡◌, ◌⊎◌, inl, inr, ◌+◌, ◌-◌, ◌≤◌, ◌++◌, ◌∙◌, ℕ, List, length, take, drop, refl, ap, sym, arith}
use Rattle.std.proofs.lemmas.List.{take_at}
use Rattle.journal_layout.specs.Layout.{IsWithinLimits, data_start, half_length, half_start}
use Rattle.journal_layout.specs.Stands.{records_area}
use Rattle.journal_layout.specs.declared.shape.Half.{Half}
use Rattle.journal_layout.specs.declared.shape.Half.TheVariants.{A, B}
use Rattle.journal_layout.specs.declared.shape.Shape.{Shape}
use Rattle.disk_model.specs.PartLaws.{part_part, part_spared}
use Rattle.disk_model.specs.PlaceLaws.{overwritten_outside}
use Rattle.disk_model.specs.Places.{overwritten, part}
use Rattle.salvage.specs.Mending.{Spares}

-- bytes that are put within a stretch
pub put_spares : (start size at : ℕ) (bytes old new : List ℕ) → start ≤ at → at + length bytes ≤ start + size → at + length bytes ≤ length old
    → new ≡ overwritten old at bytes → Spares start size old new
put_spares start size at bytes old new low high fits is p m out =
    ap (λ (l : List ℕ). part l p m) is
    ∙ part_spared at (length bytes) old (overwritten old at bytes) (overwritten_outside old at bytes fits) p m (here out)
  where
    here : (p + m ≤ start) ⊎ (start + size ≤ p) → (p + m ≤ at) ⊎ (at + length bytes ≤ p)
    here (inl before) = inl (omega (arith, before, low))
    here (inr behind) = inr (omega (arith, behind, high))

pub spares_twice : (start size : ℕ) (a b c : List ℕ) → Spares start size a b → Spares start size b c → Spares start size a c
spares_twice start size a b c first second p m out = second p m out ∙ first p m out

-- what is written back into a vector as a slice of all its items
pub back_whole : (n : ℕ) (l items : List ℕ) → length l ≡ length items → n ≡ length items → take n (l ++ drop (length l) items) ≡ l
back_whole n l items same whole =
    ap (λ (m : ℕ). take m (l ++ drop (length l) items)) (whole ∙ sym same) ∙ take_at l (drop (length l) items) (length l) refl

-- the records of a front that was read of a longer row of bytes
pub front_area : (b : List ℕ) (s : Shape) (half : Half) → IsWithinLimits s → records_area (part b 0 (data_start s)) s half ≡ records_area b s half
front_area b s half limits =
    let from : 0 + (half_start s half + 32) ≡ half_start s half + 32 = omega arith in
    part_part b 0 (data_start s) (half_start s half + 32) (half_length s - 32) (within half)
    ∙ ap (λ (p : ℕ). part b p (half_length s - 32)) from
  where
    within : (h : Half) → half_start s h + 32 + (half_length s - 32) ≤ data_start s
    within A = omega (arith, limits.some_half)
    within B = omega (arith, limits.some_half)
