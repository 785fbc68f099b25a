-- What is read of bytes that are shown with one of them as another.
use Rattle.std.proofs.Common.{◌≡◌, inl, inr, ℕ, ◌+◌, ◌-◌, ◌<◌, ◌≤◌, List, [], ◌∷◌, length, sym, ap, ◌∙◌, arith, Option, Some}
use Rattle.std.proofs.lemmas.Bool.{cases_lt}
use Rattle.disk_model.specs.Places.{part, overwritten}
use Rattle.salvage.specs.Showing.{shown, patched}
use Rattle.salvage.specs.ShowLaws.{part_patched, part_unpatched}
use Rattle.salvage.specs.declared.shown.Patch.{Patch}

pub read_patched : (patch : Option Patch) (p : Patch) (b got out : List ℕ) (at n : ℕ) → patch ≡ Some p → p.at < length b → at + n ≤ length b
    → got ≡ part b at n → length got ≡ n
    → (p.at < at → out ≡ got) → (at + length got ≤ p.at → out ≡ got)
    → (at ≤ p.at → p.at < at + length got → (k : ℕ) → k + at ≡ p.at → out ≡ overwritten got k (p.byte ∷ []))
    → out ≡ part (shown patch b) at n
read_patched patch p b got out at n is within lies read long before after there =
    by_cases ∙ ap (λ (q : Option Patch). part (shown q b) at n) (sym is)
  where
    by_cases : out ≡ part (patched p b) at n
    by_cases =
        elim (cases_lt p.at at) as (λ _. out ≡ part (patched p b) at n) [
          | inl low ↦ before low ∙ read ∙ sym (part_unpatched b p.at p.byte at n within (inr (omega (arith, low))))
          | inr high ↦
              elim (cases_lt p.at (at + length got)) as (λ _. out ≡ part (patched p b) at n) [
                | inl inside ↦
                    there high inside (p.at - at) (omega (arith, high))
                    ∙ ap (λ (l : List ℕ). overwritten l (p.at - at) (p.byte ∷ [])) read
                    ∙ part_patched b p.at p.byte at n (p.at - at) lies (omega (arith, high, inside, long)) (omega (arith, high))
                | inr past ↦ after past ∙ read ∙ sym (part_unpatched b p.at p.byte at n within (inl (omega (arith, past, long))))
              ]
        ]
