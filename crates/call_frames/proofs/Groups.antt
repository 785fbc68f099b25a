-- The number that groups of seven bits are.
use Rattle.std.proofs.Common.{◌≡◌, Bool, true, false, cond, ltb, Some, None, ◌<◌, ◌≤◌, ◌+◌, ◌-◌, ◌*◌, ◌%◌, ◌^◌, ℕ, zero, suc, List, [], ◌∷◌, length, get_or, drop, ap, ◌∙◌, sym, arith, lit<}
use Rattle.std.proofs.lemmas.Nat.{pow-add}
use Rattle.std.proofs.lemmas.Bool.{lt-ltb, le-ltb}
use Rattle.std.proofs.lemmas.List.{length-drop}
use Rattle.std.proofs.lemmas.List.Sums.{position_or_len_is}
use Rattle.std.proofs.Math.Pow.{pow_mono}
use Rattle.std.specs.List.{position, position_or_len}
use Rattle.call_frames.specs.Leb.{groups, is_last}

-- a power of 128 as one of 2
seven : (n : ℕ) → 2 ^ (7 * suc n) ≡ 128 * 2 ^ (7 * n)
seven n =
    let more : 7 * suc n ≡ 7 + 7 * n = omega arith in ap (λ k. 2 ^ k) more ∙ pow-add 2 7 (7 * n)

pub groups_small : (xs : List ℕ) → groups xs < 2 ^ (7 * length xs)
groups_small [] = lit< tt
groups_small (x ∷ xs) =
    let less = groups_small xs in rw (seven (length xs)) (omega arith)

-- at most ten groups from some place on
pub groups_fit : (xs : List ℕ) (i : ℕ) → i ≤ length xs → length xs ≤ 10 → groups (drop i xs) < 2 ^ (7 * (length xs - i))
groups_fit xs i h few =
    let small = groups_small (drop i xs) in
    let size : length (drop i xs) ≡ length xs - i = length-drop i xs in
    let same : 2 ^ (7 * length (drop i xs)) ≡ 2 ^ (7 * (length xs - i)) = ap (λ n. 2 ^ (7 * n)) size in omega arith

-- one group fewer
pub groups_room : (xs : List ℕ) (i : ℕ) → 0 < i → i ≤ length xs → length xs ≤ 10 → groups (drop i xs) < 2 ^ 63
groups_room xs i some h few =
    let small = groups_fit xs i h few in
    let less : 7 * (length xs - i) ≤ 63 = omega arith in
    let bound : 2 ^ (7 * (length xs - i)) ≤ 2 ^ 63 = pow_mono less in omega arith

place_is : (xs : List ℕ) (i : ℕ) (t : Bool) → position_or_len is_last xs ≡ i → ltb i (length xs) ≡ t → position is_last xs ≡ cond t (Some i) None
place_is xs i t at is =
    ap (λ k. cond (ltb k (length xs)) (Some k) None) at ∙ ap (λ u. cond u (Some i) None) is

-- the first byte below 0x80
pub last_found : (xs : List ℕ) (i : ℕ) → i < length xs → ((k : ℕ) → k < i → is_last (get_or xs k 0) ≡ false) → is_last (get_or xs i 0) ≡ true → Some i ≡ position is_last xs
last_found xs i h none is =
    sym (place_is xs i true (position_or_len_is is_last xs i 0 (omega arith) none (λ _. is)) (lt-ltb i (length xs) h))

pub last_missing : (xs : List ℕ) → ((k : ℕ) → k < length xs → is_last (get_or xs k 0) ≡ false) → None ≡ position is_last xs
last_missing xs none =
    sym (place_is xs (length xs) false (position_or_len_is is_last xs (length xs) 0 (omega arith) none (λ lt. absurd (omega arith))) (le-ltb (length xs) (length xs) (omega arith)))

-- from the first on they are all
pub groups_whole : (xs : List ℕ) (i : ℕ) → i ≤ 0 → groups (drop i xs) < 2 ^ (7 * length xs)
groups_whole xs zero h = groups_small xs
groups_whole xs (suc i) h = absurd (omega arith)
