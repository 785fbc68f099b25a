-- The rows of seven counts.
use Rattle.std.proofs.Common.{◌≡◌, ℕ, List, [], ◌∷◌, ◌++◌, length, refl, arith, slice_index_or}
use Rattle.case_tables.specs.DayBars.{day_row, rows_text}

pub seven_rows : (most day : ℕ) (xs : List ℕ) → length xs ≡ 7 → rows_text most day xs ≡ day_row most day 6 (slice_index_or xs 0 0)
    ++ (day_row most day 5 (slice_index_or xs 1 0) ++ (day_row most day 4 (slice_index_or xs 2 0) ++ (day_row most day 3 (slice_index_or xs 3 0)
    ++ (day_row most day 2 (slice_index_or xs 4 0) ++ (day_row most day 1 (slice_index_or xs 5 0) ++ (day_row most day 0 (slice_index_or xs 6 0) ++ []))))))
seven_rows most day [] n = absurd (omega (arith, n))
seven_rows most day (a ∷ []) n = absurd (omega (arith, n))
seven_rows most day (a ∷ b ∷ []) n = absurd (omega (arith, n))
seven_rows most day (a ∷ b ∷ c ∷ []) n = absurd (omega (arith, n))
seven_rows most day (a ∷ b ∷ c ∷ d ∷ []) n = absurd (omega (arith, n))
seven_rows most day (a ∷ b ∷ c ∷ d ∷ e ∷ []) n = absurd (omega (arith, n))
seven_rows most day (a ∷ b ∷ c ∷ d ∷ e ∷ f ∷ []) n = absurd (omega (arith, n))
seven_rows most day (a ∷ b ∷ c ∷ d ∷ e ∷ f ∷ g ∷ []) n = refl
seven_rows most day (a ∷ b ∷ c ∷ d ∷ e ∷ f ∷ g ∷ h ∷ xs) n = absurd (omega (arith, n))
