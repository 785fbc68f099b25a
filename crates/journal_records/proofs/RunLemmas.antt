-- The runs of a Store record, as they are read.
use Rattle.std.proofs.Common.{◌≡◌, ℕ, ◌+◌, ◌-◌, ◌*◌, ◌<◌, ◌≤◌, Bool, true, false, ◌||◌, cond, nat_eq, nat_lt, List, [], ◌∷◌, ◌++◌, length, drop, Option, Some, None, Err, refl, sym, ap, ◌∙◌, subst, arith, append_assoc}
use Rattle.std.proofs.lemmas.Bool.{ne_eqb, le-ltb, lt-ltb}
use Rattle.extents.specs.declared.run_list.Run.{Run}
use Rattle.extents.specs.Runs.{run_blocks, blocks_of}
use Rattle.extents.specs.FreeSet.{is_free, one_if, AllFree, HasUsed, Marks, without}
use Rattle.extents.specs.declared.free_map.UseFault.{UseFault}
use Rattle.extents.specs.declared.free_map.UseFault.TheVariants.{OutOfRange, InUse}
use Rattle.extents.specs.FreeSet as flags
use Rattle.extents.specs.FreeLaws.{uses_cons, one_free_without, length_without}
use Rattle.journal_layout.specs.Soundness.{uses}
use Rattle.journal_layout.specs.SpareLaws.{uses-append, uses_within, run_holds, apart_passed, apart_passes}
use Rattle.journal_layout.specs.Reading.{runs_at, store_runs}
use Rattle.journal_layout.specs.Checks.{is_adjoining, is_overlapping, is_bad_run, first_bad_run, block_count}
use Rattle.journal_records.specs.Taken.{Accounts, AreTaken}
use Rattle.journal_records.proofs.ByteLemmas.{run_at, runs_step}

-- the two counts of a block in a list are the same
pub uses_same : (k : ℕ) (blocks : List ℕ) → uses k blocks ≡ flags.uses blocks k
uses_same k [] = refl
uses_same k (b ∷ rest) = ap (λ n. one_if (nat_eq b k) + n) (uses_same k rest) ∙ sym (uses_cons b rest k)

or_true : (t : Bool) → (t || true) ≡ true
or_true true = refl
or_true false = refl

-- What a refused and an accepted run are.

pub bad_range : (limit : ℕ) (used : List ℕ) (end : Option ℕ) (r : Run) → limit < r.start + r.count → is_bad_run limit used end r ≡ true
bad_range limit used end r past =
    ap (λ t. (t || is_adjoining end r) || is_overlapping used r) (ap (λ t. nat_eq r.count 0 || t) (lt-ltb limit (r.start + r.count) past) ∙ or_true (nat_eq r.count 0))

pub overlaps : (used : List ℕ) (old : List Bool) (r : Run) → Accounts used old → r.start + r.count ≤ length old → HasUsed old r → is_overlapping used r ≡ true
overlaps used old r accounts within has = of (is_overlapping used r) refl
  where
    of : (t : Bool) → is_overlapping used r ≡ t → is_overlapping used r ≡ true
    of true e = e
    of false e =
        let inside = uses_within has.block r.start r.count has.from has.below in
        let apart : uses has.block used ≡ 0 = apart_passed used (run_blocks r) e has.block (omega (arith, inside)) in
        let free : one_if (is_free old has.block) ≡ 0 = ap one_if has.used in
        let below : has.block < length old = (let b = has.below in omega arith) in
        let one : one_if (nat_lt has.block (length old)) ≡ 1 = ap one_if (lt-ltb has.block (length old) below) in
        absurd (omega (arith, accounts has.block, apart, free, one))

pub bad_use : (limit : ℕ) (used : List ℕ) (end : Option ℕ) (r : Run) → is_overlapping used r ≡ true → is_bad_run limit used end r ≡ true
bad_use limit used end r over =
    let first = (nat_eq r.count 0 || nat_lt limit (r.start + r.count)) || is_adjoining end r in
    ap (λ t. first || t) over ∙ or_true first

pub refused : (used : List ℕ) (old : List Bool) (end : Option ℕ) (r : Run) (e : UseFault) (new : List Bool) → Marks old r (Err e) new → Accounts used old → is_bad_run (length old) used end r ≡ true
refused used old end r OutOfRange new marks accounts = bad_range (length old) used end r marks.0
refused used old end r InUse new marks accounts = bad_use (length old) used end r (overlaps used old r accounts marks.0 marks.1)

spared : (used : List ℕ) (old : List Bool) (r : Run) → Accounts used old → AllFree old r → is_overlapping used r ≡ false
spared used old r accounts free = apart_passes used (run_blocks r) (λ k some.
    let inside = run_holds k r.start r.count some in
    let one : one_if (is_free old k) ≡ 1 = ap one_if (free k inside.0 inside.1) in
    let most : one_if (nat_lt k (length old)) ≤ 1 = elim (nat_lt k (length old)) as (λ t. one_if t ≤ 1) [ true ↦ omega arith | false ↦ omega arith ] in
    omega (arith, accounts k, one, most))

pub good : (used : List ℕ) (old : List Bool) (end : Option ℕ) (r : Run) → Accounts used old → (r.count ≡ 0 → ⊥) → r.start + r.count ≤ length old → is_adjoining end r ≡ false → AllFree old r
    → is_bad_run (length old) used end r ≡ false
good used old end r accounts some within apart free =
    ap (λ t. ((t || nat_lt (length old) (r.start + r.count)) || is_adjoining end r) || is_overlapping used r) (ne_eqb r.count 0 some)
    ∙ ap (λ t. (t || is_adjoining end r) || is_overlapping used r) (le-ltb (length old) (r.start + r.count) within)
    ∙ ap (λ t. t || is_overlapping used r) apart
    ∙ spared used old r accounts free

-- with the blocks of a run in use
pub accounts_more : (used : List ℕ) (old : List Bool) (r : Run) → Accounts used old → AllFree old r → Accounts (used ++ run_blocks r) (without old r)
accounts_more used old r accounts free k =
    let step = one_free_without old r free k in
    let same = uses_same k (run_blocks r) in
    let joined = uses-append k used (run_blocks r) in
    let long : one_if (nat_lt k (length (without old r))) ≡ one_if (nat_lt k (length old)) = ap (λ n. one_if (nat_lt k n)) (length_without old r) in
    omega (arith, accounts k, step, same, joined, long)

-- The runs that are left from an index on.
abbrev pub runs_left : List ℕ → ℕ → ℕ → List Run
runs_left rest n index = runs_at (drop (48 + 8 * index) rest) (n - index)

left_step : (rest : List ℕ) (n index : ℕ) → index < n → runs_left rest n index ≡ run_at rest (48 + 8 * index) ∷ runs_left rest n (index + 1)
left_step rest n index below =
    let p = 48 + 8 * index in
    let e : p + 8 ≡ 48 + 8 * (index + 1) = omega arith in
    let f : n - index - 1 ≡ n - (index + 1) = omega arith in
    runs_step p (n - index) rest (omega arith)
    ∙ ap (λ k. run_at rest p ∷ runs_at (drop k rest) (n - index - 1)) e
    ∙ ap (λ k. run_at rest p ∷ runs_at (drop (48 + 8 * (index + 1)) rest) k) f

-- What has been read of the runs up to an index, where these blocks were in use before.
pub record AreSoFar (limit : ℕ) (used rest : List ℕ) (n index : ℕ) (end : Option ℕ) (blocks : List ℕ) (count : ℕ) (now : List Bool) : Type 0 where
  pub fault : first_bad_run limit (used ++ blocks) end (48 + 8 * index) (runs_left rest n index) ≡ first_bad_run limit used None 48 (store_runs rest)
  pub all : blocks ++ blocks_of (runs_left rest n index) ≡ blocks_of (store_runs rest)
  pub number : count + block_count (runs_left rest n index) ≡ block_count (store_runs rest)
  pub accounts : Accounts (used ++ blocks) now

append_none : (xs : List ℕ) → xs ++ [] ≡ xs
append_none [] = refl
append_none (x ∷ xs) = ap (λ (ys : List ℕ). x ∷ ys) (append_none xs)

pub so_far_bad : (limit : ℕ) (used rest : List ℕ) (n index : ℕ) (end : Option ℕ) (blocks : List ℕ) (count : ℕ) (now : List Bool)
    → AreSoFar limit used rest n index end blocks count now → index < n → is_bad_run limit (used ++ blocks) end (run_at rest (48 + 8 * index)) ≡ true
    → first_bad_run limit used None 48 (store_runs rest) ≡ Some (48 + 8 * index)
so_far_bad limit used rest n index end blocks count now are below bad =
    let p = 48 + 8 * index in
    let r = run_at rest p in
    sym are.fault ∙ ap (first_bad_run limit (used ++ blocks) end p) (left_step rest n index below)
    ∙ ap (λ t. cond t (Some p) (first_bad_run limit ((used ++ blocks) ++ run_blocks r) (Some (r.start + r.count)) (p + 8) (runs_left rest n (index + 1)))) bad

pub so_far_next : (limit : ℕ) (used rest : List ℕ) (n index : ℕ) (end : Option ℕ) (blocks : List ℕ) (count : ℕ) (old now : List Bool)
    → AreSoFar limit used rest n index end blocks count old → index < n → is_bad_run limit (used ++ blocks) end (run_at rest (48 + 8 * index)) ≡ false
    → Accounts ((used ++ blocks) ++ run_blocks (run_at rest (48 + 8 * index))) now
    → AreSoFar limit used rest n (index + 1) (Some ((run_at rest (48 + 8 * index)).start + (run_at rest (48 + 8 * index)).count)) (blocks ++ run_blocks (run_at rest (48 + 8 * index))) (count + (run_at rest (48 + 8 * index)).count) now
so_far_next limit used rest n index end blocks count old now are below fine accounts =
    let p = 48 + 8 * index in
    let r = run_at rest p in
    let more = runs_left rest n (index + 1) in
    let step = left_step rest n index below in
    let e : 48 + 8 * (index + 1) ≡ p + 8 = omega arith in
    record {
      fault =
          ap (λ (l : List ℕ). first_bad_run limit l (Some (r.start + r.count)) (48 + 8 * (index + 1)) more) (sym (append_assoc used blocks (run_blocks r)))
          ∙ ap (λ k. first_bad_run limit ((used ++ blocks) ++ run_blocks r) (Some (r.start + r.count)) k more) e
          ∙ ap (λ t. cond t (Some p) (first_bad_run limit ((used ++ blocks) ++ run_blocks r) (Some (r.start + r.count)) (p + 8) more)) (sym fine)
          ∙ ap (first_bad_run limit (used ++ blocks) end p) (sym step)
          ∙ are.fault;
      all = append_assoc blocks (run_blocks r) (blocks_of more) ∙ ap (λ (l : List Run). blocks ++ blocks_of l) (sym step) ∙ are.all;
      number = (let c = ap block_count step in let d = are.number in omega (arith, c, d));
      accounts = subst (λ (l : List ℕ). Accounts l now) (append_assoc used blocks (run_blocks r)) accounts;
    }

pub so_far_end : (limit : ℕ) (used rest : List ℕ) (n index : ℕ) (end : Option ℕ) (blocks : List ℕ) (count : ℕ) (now : List Bool)
    → AreSoFar limit used rest n index end blocks count now → n ≤ index
    → (first_bad_run limit used None 48 (store_runs rest) ≡ None) × AreTaken used rest blocks count now
so_far_end limit used rest n index end blocks count now are past =
    let e : n - index ≡ 0 = omega arith in
    let none : runs_left rest n index ≡ [] = ap (runs_at (drop (48 + 8 * index) rest)) e in (
      sym are.fault ∙ ap (first_bad_run limit (used ++ blocks) end (48 + 8 * index)) none,
      record {
        all = sym (append_none blocks) ∙ ap (λ (l : List Run). blocks ++ blocks_of l) (sym none) ∙ are.all;
        number = (let c = ap block_count none in let d = are.number in omega (arith, c, d));
        accounts = are.accounts;
      },
    )

-- the same where the run, the blocks and their number are known by equations
pub so_far_step : (limit : ℕ) (used rest : List ℕ) (n index : ℕ) (end : Option ℕ) (blocks : List ℕ) (count : ℕ) (old now : List Bool) (r : Run) (more : List ℕ) (sum : ℕ)
    → AreSoFar limit used rest n index end blocks count old → index < n → r ≡ run_at rest (48 + 8 * index) → more ≡ blocks ++ run_blocks r → sum ≡ count + r.count
    → is_bad_run limit (used ++ blocks) end r ≡ false → Accounts ((used ++ blocks) ++ run_blocks r) now
    → AreSoFar limit used rest n (index + 1) (Some (r.start + r.count)) more sum now
so_far_step limit used rest n index end blocks count old now r more sum are below is joined added fine accounts =
    let s = run_at rest (48 + 8 * index) in
    let next = so_far_next limit used rest n index end blocks count old now are below
    (ap (is_bad_run limit (used ++ blocks) end) (sym is) ∙ fine)
    (subst (λ (x : Run). Accounts ((used ++ blocks) ++ run_blocks x) now) is accounts) in
    let back : AreSoFar limit used rest n (index + 1) (Some (r.start + r.count)) (blocks ++ run_blocks r) (count + r.count) now =
    subst (λ (x : Run). AreSoFar limit used rest n (index + 1) (Some (x.start + x.count)) (blocks ++ run_blocks x) (count + x.count) now) (sym is) next in
    let with_sum : AreSoFar limit used rest n (index + 1) (Some (r.start + r.count)) (blocks ++ run_blocks r) sum now =
    subst (λ (k : ℕ). AreSoFar limit used rest n (index + 1) (Some (r.start + r.count)) (blocks ++ run_blocks r) k now) (sym added) back in
    subst (λ (l : List ℕ). AreSoFar limit used rest n (index + 1) (Some (r.start + r.count)) l sum now) (sym joined) with_sum
