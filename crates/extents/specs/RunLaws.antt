-- Laws of the shortest list of runs.
use Rattle.std.proofs.Common.{◌≡◌, inl, inr, ℕ, ◌+◌, ◌<◌, ◌≤◌, List, [], ◌∷◌, ◌++◌, length, refl, ap, ◌∙◌, arith, suc, true, false, cond, ◌==◌}
use Rattle.std.specs.List.{All, range_with_len}
use Rattle.std.proofs.lemmas.List.Elements.{All-nil, All-cons, All-tail}
use Rattle.std.proofs.lemmas.Bool.{cases_eq, eq-eqb, ne_eqb}
use Rattle.extents.specs.declared.run_list.Run.{Run}
use Rattle.extents.specs.Runs.{blocks_of, runs_of, with_first}

first_no_more : (b : ℕ) (rs : List Run) → length (with_first b rs) ≤ length rs + 1
first_no_more b [] = omega arith
first_no_more b (r ∷ rest) =
    elim (b + 1 == r.start) as (λ t. length (cond t (record { start = b; count = r.count + 1 } ∷ rest) (record { start = b; count = 1 } ∷ r ∷ rest)) ≤ length (r ∷ rest) + 1)
    [ true ↦ omega arith | false ↦ omega arith ]

-- runs are no more than their blocks
pub runs_no_more : (bs : List ℕ) → length (runs_of bs) ≤ length bs
runs_no_more [] = omega arith
runs_no_more (b ∷ rest) = omega (arith, first_no_more b (runs_of rest), runs_no_more rest)

first_some : (b : ℕ) (rs : List Run) → 0 < length (with_first b rs)
first_some b [] = omega arith
first_some b (r ∷ rest) =
    elim (b + 1 == r.start) as (λ t. 0 < length (cond t (record { start = b; count = r.count + 1 } ∷ rest) (record { start = b; count = 1 } ∷ r ∷ rest)))
    [ true ↦ omega arith | false ↦ omega arith ]

-- blocks lie in some run
pub runs_some : (bs : List ℕ) → 0 < length bs → 0 < length (runs_of bs)
runs_some [] some = absurd (omega arith)
runs_some (b ∷ rest) some = first_some b (runs_of rest)

with_first_blocks : (b : ℕ) (rs : List Run) → blocks_of (with_first b rs) ≡ b ∷ blocks_of rs
with_first_blocks b [] = refl
with_first_blocks b (r ∷ rest) =
    elim (cases_eq (b + 1) r.start) as (λ _. blocks_of (with_first b (r ∷ rest)) ≡ b ∷ blocks_of (r ∷ rest)) [
      | inl next ↦ rw (eq-eqb (b + 1) r.start next)
          (let e : r.count + 1 ≡ suc r.count = omega arith in
          ap (λ n. range_with_len b n ++ blocks_of rest) e ∙ ap (λ a. b ∷ (range_with_len a r.count ++ blocks_of rest)) next)
      | inr apart ↦ rw (ne_eqb (b + 1) r.start apart) refl
    ]

-- the shortest runs with these blocks have these blocks
pub blocks_of_runs : (bs : List ℕ) → blocks_of (runs_of bs) ≡ bs
blocks_of_runs [] = refl
blocks_of_runs (b ∷ rest) = with_first_blocks b (runs_of rest) ∙ ap (λ xs. b ∷ xs) (blocks_of_runs rest)

with_first_some : (b : ℕ) (rs : List Run) → All (λ r. 1 ≤ r.count) rs → All (λ r. 1 ≤ r.count) (with_first b rs)
with_first_some b [] each = All-cons (λ (r : Run). 1 ≤ r.count) (record { start = b; count = 1 }) [] (omega arith) each
with_first_some b (r ∷ rest) each =
    let P : Run → Type 0 = λ x. 1 ≤ x.count in
    elim (b + 1 == r.start) as (λ t. All P (cond t (record { start = b; count = r.count + 1 } ∷ rest) (record { start = b; count = 1 } ∷ r ∷ rest))) [
      | true ↦ All-cons P (record { start = b; count = r.count + 1 }) rest (omega arith) (All-tail P r rest each)
      | false ↦ All-cons P (record { start = b; count = 1 }) (r ∷ rest) (omega arith) each
    ]

-- each of the shortest runs has a block
pub runs_have_blocks : (bs : List ℕ) → All (λ r. 1 ≤ r.count) (runs_of bs)
runs_have_blocks [] = All-nil (λ (r : Run). 1 ≤ r.count)
runs_have_blocks (b ∷ rest) = with_first_some b (runs_of rest) (runs_have_blocks rest)
