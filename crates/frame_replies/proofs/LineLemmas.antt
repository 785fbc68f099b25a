-- The lines of frames that are left.
use Rattle.std.proofs.Common.{◌≡◌, ◌<◌, ◌≤◌, ℕ, zero, suc, ◌+◌, List, [], ◌∷◌, ◌++◌, length, drop, get_or, refl, ap, ◌∙◌, arith}
use Rattle.std.proofs.Math.Seq.{drop-cons}
use Rattle.image_replies.specs.Lines.{numbered_lines}

-- the next line, and those after it
pub line_left : {A : Type 0} → (line : ℕ → A → List ℕ) (xs : List A) (i : ℕ) (d : A) → i < length xs → numbered_lines line i (drop i xs) ≡ line i (get_or xs i d) ++ numbered_lines line (i + 1) (drop (i + 1) xs)
line_left line xs i d h =
    let next : suc i ≡ i + 1 = omega arith in
    ap (numbered_lines line i) (drop-cons xs i d h) ∙ ap (λ n. line i (get_or xs i d) ++ numbered_lines line (i + 1) (drop n xs)) next

past : {A : Type 0} → (xs : List A) (i : ℕ) → length xs ≤ i → drop i xs ≡ []
past [] zero h = refl
past [] (suc i) h = refl
past (x ∷ xs) zero h = absurd (omega (arith, h))
past (x ∷ xs) (suc i) h = past xs i (omega (arith, h))

-- none is left
pub none_left : {A : Type 0} → (line : ℕ → A → List ℕ) (xs : List A) (i : ℕ) → length xs ≤ i → numbered_lines line i (drop i xs) ≡ []
none_left line xs i h = ap (numbered_lines line i) (past xs i h)
