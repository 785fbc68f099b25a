-- Blocks and names, counted.
use Rattle.std.proofs.Common.{◌≡◌, inl, inr, ℕ, zero, suc, ◌+◌, ◌<◌, ◌≤◌, Bool, true, false, cond, List, [], ◌∷◌, ◌++◌, length, refl, ap, ◌∙◌, arith}
use Rattle.std.specs.Prelude.{nat_lt}
use Rattle.std.proofs.lemmas.List.{length-append, append-nil}
use Rattle.std.specs.List.{range_with_len}
use Rattle.std.proofs.lemmas.List.FromFn.{length-range_with_len}
use Rattle.std.proofs.lemmas.List.Sums.{sum_by-cons}
use Rattle.std.proofs.lemmas.Bool.{cases_lt, lt-ltb, le-ltb}
use Rattle.extents.specs.Runs.{run_blocks, blocks_of, runs_of}
use Rattle.extents.specs.declared.run_list.Run.{Run}
use Rattle.extents.specs.RunLaws.{blocks_of_runs}
use Rattle.extents.specs.FreeSet.{is_free, free_count, uses, one_if, with_runs, NoneFree, AreUsed, Takes}
use Rattle.extents.specs.FreeLaws.{used_runs, length_without, length_with, marked_one, marked_count, given_one, given_count, count_some, uses_cons, uses_append, used_taken, no_runs}
use Rattle.journal_layout.specs.Soundness.{uses as uses_in}
use Rattle.intake.specs.Balance.{AreHeld, Balances}

pub one_if_le : (t : Bool) → one_if t ≤ 1
one_if_le true = omega arith
one_if_le false = omega arith

pub not_free : (t : Bool) → one_if t ≡ 0 → t ≡ false
not_free true e = absurd (omega (arith, e))
not_free false e = refl

pub in_range : (k n : ℕ) → 0 < one_if (nat_lt k n) → k < n
in_range k n some = elim (cases_lt k n) as (λ _. k < n) [ inl low ↦ low | inr high ↦ absurd (let e : nat_lt k n ≡ false = le-ltb k n high in let f : one_if (nat_lt k n) ≡ 0 = ap one_if e in omega (arith, f, some)) ]

-- blocks that are held may be given back
pub held_used : (flags : List Bool) (held : List ℕ) → AreHeld flags held → AreUsed flags (runs_of held)
held_used flags held are = used_runs flags held
    (λ k some. (let h = are k in (in_range k (length flags) (omega (arith, h, some)), not_free (is_free flags k) (omega (arith, h, some, one_if_le (nat_lt k (length flags)))))))
    (λ k. let h = are k in omega (arith, h, one_if_le (nat_lt k (length flags))))

-- and then they are free
pub given : (flags new : List Bool) (held : List ℕ) → AreHeld flags held → new ≡ with_runs flags (runs_of held) → Balances flags held new []
given flags new held are is =
    let used = held_used flags held are in
    let back = blocks_of_runs held in
    record {
      long = ap length is ∙ length_with flags (blocks_of (runs_of held));
      each = λ k. (let g = given_one flags (runs_of held) used k in let e = ap (λ f. one_if (is_free f k)) is in let f = ap (λ bs. uses bs k) back in omega (arith, g, e, f));
      all = (let g = given_count flags (runs_of held) used in let e = ap free_count is in let f = ap length back in omega (arith, g, e, f));
    }

pub none_held : (flags : List Bool) → AreHeld flags []
none_held flags k = elim (cases_lt k (length flags)) as (λ _. one_if (is_free flags k) + uses [] k ≤ one_if (nat_lt k (length flags))) [
  | inl low ↦ (let e = ap one_if (lt-ltb k (length flags) low) in omega (arith, e, one_if_le (is_free flags k)))
  | inr high ↦ (let e : is_free flags k ≡ false = past flags k high in let f = ap one_if e in omega (arith, f))
]
  where
    past : (xs : List Bool) (j : ℕ) → length xs ≤ j → is_free xs j ≡ false
    past [] j le = refl
    past (x ∷ xs) zero le = absurd (omega arith)
    past (x ∷ xs) (suc j) le = past xs j (omega arith)

-- a block is taken
pub taken_one : (flags new : List Bool) (run : Run) (held : List ℕ) → Takes flags 1 run new → Balances flags held new (held ++ run_blocks run)
taken_one flags new run held t =
    record {
      long = ap length t.taken ∙ length_without flags run;
      each = λ k. (let m = marked_one flags new run t.free t.taken k in let a = uses_append held (run_blocks run) k in omega (arith, m, a));
      all = (let m = marked_count flags new run t.within t.free t.taken in omega (arith, m, length_both));
    }
  where
    count_is : run.count ≡ 1
    count_is = let a = t.some in let b = t.at_most in omega arith

    length_both : length (held ++ run_blocks run) ≡ length held + run.count
    length_both = omega (arith, length-append held (run_blocks run), length-range_with_len run.start run.count)

pub some_free : (flags new : List Bool) (run : Run) → Takes flags 1 run new → 0 < free_count flags
some_free flags new run t = let a = t.some in count_some flags run.start (t.free run.start (omega arith) (omega arith))

pub none_free : (flags : List Bool) → NoneFree flags → free_count flags ≡ 0
none_free [] none = refl
none_free (f ∷ rest) none =
    let here : f ≡ false = none 0 in
    let more = none_free rest (λ k. none (suc k)) in
    let s = sum_by-cons (λ (t : Bool). cond t 1 0) f rest in
    let e : one_if f ≡ 0 = ap one_if here in
    omega (arith, s, e, more)

-- the two ways to count uses of a block
pub uses_same : (k : ℕ) (blocks : List ℕ) → uses_in k blocks ≡ uses blocks k
uses_same k [] = refl
uses_same k (b ∷ rest) = (let s = uses_cons b rest k in let m = uses_same k rest in omega (arith, s, m))

pub balance_then : (a b c : List Bool) (x y z : List ℕ) → Balances a x b y → Balances b y c z → Balances a x c z
balance_then a b c x y z first second = record {
  long = second.long ∙ first.long;
  each = λ k. second.each k ∙ first.each k;
  all = second.all ∙ first.all;
}

pub still_held : (a b : List Bool) (x y : List ℕ) → AreHeld a x → Balances a x b y → AreHeld b y
still_held a b x y held bal k = (let h = held k in let e = bal.each k in let f = ap (λ n. one_if (nat_lt k n)) bal.long in omega (arith, h, e, f))

-- a block that was taken and given back
pub returned : (flags taken new : List Bool) (run : Run) (held : List ℕ) → Takes flags 1 run taken → new ≡ with_runs taken (run ∷ []) → Balances flags held new held
returned flags taken new run held t is =
    let first = taken_one flags taken run held t in
    let used = used_taken flags taken [] 1 run (no_runs flags) t in
    let nil = append-nil (run_blocks run) in
    record {
      long = ap length is ∙ length_with taken (blocks_of (run ∷ [])) ∙ first.long;
      each = λ k. (let a = first.each k in let b = uses_append held (run_blocks run) k in let e = given_one taken (run ∷ []) used k in
          let f = ap (λ fs. one_if (is_free fs k)) is in let n = ap (λ bs. uses bs k) nil in omega (arith, a, b, e, f, n));
      all = (let a = first.all in let b = length-append held (run_blocks run) in let e = given_count taken (run ∷ []) used in
          let f = ap free_count is in let n = ap length nil in omega (arith, a, b, e, f, n));
    }

pub taken_in_use : (flags taken : List Bool) (run : Run) → Takes flags 1 run taken → AreUsed taken (run ∷ [])
taken_in_use flags taken run t = used_taken flags taken [] 1 run (no_runs flags) t

-- a run of one block
pub one_block : (flags taken : List Bool) (run : Run) → Takes flags 1 run taken → run_blocks run ≡ run.start ∷ []
one_block flags taken run t = (let a = t.some in let b = t.at_most in let e : run.count ≡ 1 = omega arith in ap (range_with_len run.start) e)

pub first_free : (flags taken : List Bool) (run : Run) → Takes flags 1 run taken → is_free flags run.start ≡ true
first_free flags taken run t = (let a = t.some in t.free run.start (omega arith) (omega arith))

-- a free block is none of those that are held
pub not_held : (flags : List Bool) (held : List ℕ) (k : ℕ) → AreHeld flags held → is_free flags k ≡ true → uses held k ≡ 0
not_held flags held k are free = (let h = are k in let e = ap one_if free in omega (arith, h, e, one_if_le (nat_lt k (length flags))))
