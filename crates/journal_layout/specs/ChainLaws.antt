-- Laws of lists of runs of which none adjoins the run before it: such a list is the shortest one of its blocks.
use Rattle.std.proofs.Common.{◌≡◌, ℕ, zero, suc, ◌+◌, ◌≤◌, Bool, true, false, ◌==◌, List, [], ◌∷◌, ◌++◌, length, refl, ap, ◌∙◌, subst, arith, Option, Some, None, cond, length-append}
use Rattle.std.proofs.lemmas.Bool.{eqb-true, eq-eqb}
use Rattle.std.proofs.lemmas.List.FromFn.{length-range_with_len}
use Rattle.std.specs.List.{range_with_len}
use Rattle.extents.specs.declared.run_list.Run.{Run}
use Rattle.extents.specs.Runs.{run_blocks, blocks_of, with_first, runs_of}
use Rattle.journal_layout.specs.Checks.{is_adjoining, block_count}

-- each run has a block, and does not start at the end of the run before it
abbrev pub AreInChain : Option ℕ → List Run → Type 0
AreInChain end [] = Unit {0}
AreInChain end (r ∷ rest) = (1 ≤ r.count) × (is_adjoining end r ≡ false) × AreInChain (Some (r.start + r.count)) rest

chain_first : (b : ℕ) (rs : List Run) → AreInChain None rs → AreInChain None (with_first b rs)
chain_first b [] h = (omega arith, refl, tt)
chain_first b (r ∷ rest) h = of (b + 1 == r.start) refl
  where
    P : List Run → Type 0
    P rs = AreInChain None rs

    of : (t : Bool) → (b + 1 == r.start) ≡ t → P (cond t (record { start = b; count = r.count + 1 } ∷ rest) (record { start = b; count = 1 } ∷ r ∷ rest))
    of true e =
        let met : b + 1 ≡ r.start = eqb-true (b + 1) r.start e in
        let end : r.start + r.count ≡ b + (r.count + 1) = omega arith in
        (omega arith, refl, subst (λ (n : ℕ). AreInChain (Some n) rest) end h.2)
    of false e = (omega arith, refl, (h.0, e, h.2))

-- the shortest list is such a list
pub chain_of : (bs : List ℕ) → AreInChain None (runs_of bs)
chain_of [] = tt
chain_of (b ∷ rest) = chain_first b (runs_of rest) (chain_of rest)

blocks_first : (b : ℕ) (rs : List Run) → blocks_of (with_first b rs) ≡ b ∷ blocks_of rs
blocks_first b [] = refl
blocks_first b (r ∷ rest) = of (b + 1 == r.start) refl
  where
    of : (t : Bool) → (b + 1 == r.start) ≡ t → blocks_of (cond t (record { start = b; count = r.count + 1 } ∷ rest) (record { start = b; count = 1 } ∷ r ∷ rest)) ≡ b ∷ blocks_of (r ∷ rest)
    of true e =
        let met : b + 1 ≡ r.start = eqb-true (b + 1) r.start e in
        let more : r.count + 1 ≡ suc r.count = omega arith in
        ap (λ (n : ℕ). range_with_len b n ++ blocks_of rest) more ∙ ap (λ (n : ℕ). b ∷ (range_with_len n r.count ++ blocks_of rest)) met
    of false e = refl

-- and it has the blocks that it was made of
pub blocks_back : (bs : List ℕ) → blocks_of (runs_of bs) ≡ bs
blocks_back [] = refl
blocks_back (b ∷ rest) = blocks_first b (runs_of rest) ∙ ap (λ (l : List ℕ). b ∷ l) (blocks_back rest)

-- the first of these runs begins elsewhere
abbrev Elsewhere : ℕ → List Run → Type 0
Elsewhere end [] = Unit {0}
Elsewhere end (r ∷ rest) = (end == r.start) ≡ false

alone : (start : ℕ) (rest : List Run) → Elsewhere (start + 1) rest → with_first start rest ≡ record { start = start; count = 1 } ∷ rest
alone start [] apart = refl
alone start (r ∷ rest) apart = rw apart refl

joins : (start n : ℕ) (rest : List Run) → with_first start (record { start = start + 1; count = suc n } ∷ rest) ≡ record { start = start; count = suc (suc n) } ∷ rest
joins start n rest =
    let e : suc n + 1 ≡ suc (suc n) = omega arith in
    rw (eq-eqb (start + 1) (start + 1) refl) (ap (λ (k : ℕ). record { start = start; count = k } ∷ rest) e)

with_range : (start n : ℕ) (rest : List Run) (bs : List ℕ) → runs_of bs ≡ rest → Elsewhere (start + suc n) rest → runs_of (range_with_len start (suc n) ++ bs) ≡ record { start = start; count = suc n } ∷ rest
with_range start zero rest bs same apart = ap (with_first start) same ∙ alone start rest apart
with_range start (suc n) rest bs same apart =
    let e : start + suc (suc n) ≡ start + 1 + suc n = omega arith in
    ap (with_first start) (with_range (start + 1) n rest bs same (rw e at apart)) ∙ joins start n rest

some_range : (start count : ℕ) (rest : List Run) (bs : List ℕ) → 1 ≤ count → runs_of bs ≡ rest → Elsewhere (start + count) rest → runs_of (range_with_len start count ++ bs) ≡ record { start = start; count = count } ∷ rest
some_range start zero rest bs some same apart = absurd (omega arith)
some_range start (suc n) rest bs some same apart = with_range start n rest bs same apart

elsewhere : (end : ℕ) (rs : List Run) → AreInChain (Some end) rs → Elsewhere end rs
elsewhere end [] h = tt
elsewhere end (r ∷ rest) h = h.1

-- such a list is the shortest one of its blocks
pub shortest_back : (end : Option ℕ) (rs : List Run) → AreInChain end rs → runs_of (blocks_of rs) ≡ rs
shortest_back end [] h = refl
shortest_back end (r ∷ rest) h =
    some_range r.start r.count rest (blocks_of rest) h.0 (shortest_back (Some (r.start + r.count)) rest h.2) (elsewhere (r.start + r.count) rest h.2)

-- the blocks of runs, counted
pub blocks_counted : (rs : List Run) → length (blocks_of rs) ≡ block_count rs
blocks_counted [] = refl
blocks_counted (r ∷ rest) = length-append (run_blocks r) (blocks_of rest) ∙ omega (arith, length-range_with_len r.start r.count, blocks_counted rest)
