-- The names of an NT_FILE, one after the other.
use Rattle.std.proofs.Common.{◌≡◌, ◌≤◌, ◌+◌, ℕ, List, length, take, drop, sym, ap, ◌∙◌, ⊎_elim, arith}
use Rattle.std.proofs.lemmas.Bool.{cases_lt}
use Rattle.std.proofs.lemmas.List.{take_all, drop_all, length-drop, length-take, length-take-le}

-- what follows the first n, but for one place
pub behind_front : (n : ℕ) (xs : List ℕ) → take (length xs) (drop (length (take n xs) + 1) xs) ≡ drop (n + 1) xs
behind_front n xs =
    take_all (length xs) (drop (length (take n xs) + 1) xs) (omega (arith, length-drop (length (take n xs) + 1) xs))
    ∙ ⊎_elim
    (λ past.
    let end : length xs ≤ length (take n xs) + 1 = omega (arith, length-take n xs) in
    drop_all (length (take n xs) + 1) xs end ∙ sym (drop_all (n + 1) xs (omega arith)))
    (λ within. ap (λ k. drop (k + 1) xs) (length-take-le n xs within))
    (cases_lt (length xs) n)
