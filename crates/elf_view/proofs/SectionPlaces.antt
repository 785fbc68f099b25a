-- Sections are asked one by one.
use Rattle.std.proofs.Common.{◌≡◌, ◌<◌, ◌+◌, ◌-◌, ℕ, zero, suc, Bool, false, cond, ◌∷◌, Some, find, ap, ◌∙◌, arith}
use Rattle.std.specs.List.{range_with_len}

-- the first of the numbers that are left
range_step : (i n : ℕ) → 0 < n → range_with_len i n ≡ i ∷ range_with_len (i + 1) (n - 1)
range_step i zero h = absurd (omega arith)
range_step i (suc n) h =
    let less : n ≡ suc n - 1 = omega arith in ap (λ m. i ∷ range_with_len (i + 1) m) less

-- one that fails leaves the others to be asked
pub find_on : (p : ℕ → Bool) (i n : ℕ) → i < n → p i ≡ false → find p (range_with_len i (n - i)) ≡ find p (range_with_len (i + 1) (n - (i + 1)))
find_on p i n h fails =
    let some : 0 < n - i = omega arith in
    let less : n - i - 1 ≡ n - (i + 1) = omega arith in
    ap (find p) (range_step i (n - i) some)
    ∙ ap (λ t. cond t (Some i) (find p (range_with_len (i + 1) (n - i - 1)))) fails ∙ ap (λ m. find p (range_with_len (i + 1) m)) less
