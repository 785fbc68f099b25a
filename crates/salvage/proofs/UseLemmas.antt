-- Blocks that are used.
use Rattle.std.proofs.Common.{◌≡◌, ◌⊎◌, inl, inr, ℕ, zero, suc, ◌+◌, ◌<◌, ◌≤◌, Bool, true, List, [], ◌∷◌, ◌++◌, length, refl, drop, get_or, sym, ◌∙◌, subst, arith}
use Rattle.std.proofs.lemmas.List.Elements.{Contains-append_cases}
use Rattle.std.proofs.lemmas.List.FromFn.{get_or-range_with_len, length-range_with_len}
use Rattle.std.specs.List.{Contains, range_with_len}
use Rattle.extents.specs.Runs.{blocks_of, run_blocks}
use Rattle.extents.specs.declared.run_list.Run.{Run}
use Rattle.salvage.specs.Contests.{is_used}

-- what holds of each block from the first one on holds of the blocks of the run
pub run_holds : (P : ℕ → Type 0) (start count : ℕ) → ((k : ℕ) → start ≤ k → k < start + count → P k) → (block : ℕ) → Contains (range_with_len start count) block → P block
run_holds P start count all block (i, low, is) =
    let below : i < count = omega (arith, low, length-range_with_len start count) in
    subst P (sym (get_or-range_with_len start count i block below) ∙ is) (all (start + i) (omega arith) (omega (arith, below)))

both_hold : (P : ℕ → Type 0) (ks ls : List ℕ) → ((b : ℕ) → Contains ks b → P b) → ((b : ℕ) → Contains ls b → P b) → (b : ℕ) → Contains (ks ++ ls) b → P b
both_hold P ks ls one two b has = by_part (Contains-append_cases ks ls b has)
  where
    by_part : Contains ks b ⊎ Contains ls b → P b
    by_part (inl first) = one b first
    by_part (inr later) = two b later

-- of a run and of those behind it
pub holds_back : (P : ℕ → Type 0) (rs : List Run) (i : ℕ) (r : Run) → i < length rs → ((b : ℕ) → Contains (run_blocks (get_or rs i r)) b → P b)
    → ((b : ℕ) → Contains (blocks_of (drop (suc i) rs)) b → P b) → (b : ℕ) → Contains (blocks_of (drop i rs)) b → P b
holds_back P [] i r low here rest = absurd (omega (arith, low))
holds_back P (x ∷ xs) zero r low here rest = both_hold P (run_blocks x) (blocks_of xs) here rest
holds_back P (x ∷ xs) (suc i) r low here rest = holds_back P xs i r (omega (arith, low)) here rest

pub none_behind : (P : ℕ → Type 0) (rs : List Run) (i : ℕ) → length rs ≤ i → (b : ℕ) → Contains (blocks_of (drop i rs)) b → P b
none_behind P [] zero past b (k, low, is) = absurd (omega (arith, low))
none_behind P [] (suc i) past b (k, low, is) = absurd (omega (arith, low))
none_behind P (x ∷ xs) zero past b has = absurd (omega (arith, past))
none_behind P (x ∷ xs) (suc i) past b has = none_behind P xs i (omega (arith, past)) b has

-- what the archive has not counts as used
pub used_past : (used : List Bool) (k : ℕ) → length used ≤ k → is_used used k ≡ true
used_past [] k past = refl
used_past (x ∷ xs) zero past = absurd (omega (arith, past))
used_past (x ∷ xs) (suc k) past = used_past xs k (omega (arith, past))

-- of an item and of those behind it
pub each_back : {A : Type 0} (P : A → Type 0) (xs : List A) (i : ℕ) (x : A) → i < length xs → x ≡ get_or xs i x → P x → ((y : A) → Contains (drop (suc i) xs) y → P y)
    → (y : A) → Contains (drop i xs) y → P y
each_back P [] i x low is here rest y has = absurd (omega (arith, low))
each_back {A} P (z ∷ zs) zero x low is here rest y has = by_part (Contains-append_cases (z ∷ []) zs y has)
  where
    first : (k : ℕ) → k < 1 → get_or (z ∷ []) k y ≡ y → P y
    first zero low2 e = subst P (is ∙ e) here
    first (suc k) low2 e = absurd (omega (arith, low2))

    by_part : Contains (z ∷ []) y ⊎ Contains zs y → P y
    by_part (inl (k, low2, e)) = first k low2 e
    by_part (inr later) = rest y later
each_back P (z ∷ zs) (suc i) x low is here rest y has = each_back P zs i x (omega (arith, low)) is here rest y has

pub nothing_behind : {A : Type 0} (P : A → Type 0) (xs : List A) (i : ℕ) → length xs ≤ i → (y : A) → Contains (drop i xs) y → P y
nothing_behind P [] zero past y (k, low, is) = absurd (omega (arith, low))
nothing_behind P [] (suc i) past y (k, low, is) = absurd (omega (arith, low))
nothing_behind P (x ∷ xs) zero past y has = absurd (omega (arith, past))
nothing_behind P (x ∷ xs) (suc i) past y has = nothing_behind P xs i (omega (arith, past)) y has
