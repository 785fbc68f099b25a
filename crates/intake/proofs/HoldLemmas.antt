-- How the blocks of cases are marked as used.
use Rattle.std.proofs.Common.{◌≡◌, cond, ℕ, zero, suc, Option, None, ◌+◌, ◌<◌, ◌≤◌, ◌-◌, Bool, true, false, List, [], ◌∷◌, ◌++◌, length, get_or, take, drop, replicate, refl, sym, ap, ◌∙◌, subst, arith, Result, Ok, Err}
use Rattle.std.specs.Prelude.{nat_lt}
use Rattle.std.specs.Result.{IsOk}
use Rattle.std.specs.List.{All}
use Rattle.std.proofs.lemmas.List.{append-nil, drop_more, length-append, take-append-drop, take_more}
use Rattle.std.proofs.lemmas.List.FromFn.{length-range_with_len}
use Rattle.std.proofs.lemmas.List.Elements.{All-cons, All-get_or, All-nil}
use Rattle.std.proofs.lemmas.List.Sums.{sum_by-cons}
use Rattle.extents.specs.declared.run_list.Run.{Run}
use Rattle.extents.specs.declared.free_map.UseFault.TheVariants.{OutOfRange, InUse}
use Rattle.extents.specs.declared.free_map.UseFault.{UseFault}
use Rattle.extents.specs.Runs.{run_blocks, blocks_of, runs_of}
use Rattle.extents.specs.RunLaws.{blocks_of_runs, runs_have_blocks}
use Rattle.extents.specs.FreeSet.{is_free, uses, one_if, Marks}
use Rattle.extents.specs.FreeLaws.{uses_append, uses_inside, free_below, length_without, marked_one, marked_count}
use Rattle.journal_layout.specs.Case.{Case}
use Rattle.journal_layout.specs.LiveCounts.{blocks_of-append}
use Rattle.extents.specs.FreeSet.{with_runs, free_count}
use Rattle.std.proofs.lemmas.Bool.{lt-ltb}
use Rattle.journal_layout.specs.Folding.{used_blocks}
use Rattle.journal_layout.specs.LiveCounts.{case_uses_same, used_length}
use Rattle.journal_records.specs.Kept.{IsSpareMap}
use Rattle.intake.proofs.CountLemmas.{given, uses_same}
use Rattle.intake.specs.Balance.{AreFree, AreHeld, Balances}
use Rattle.intake.specs.Parts.{StreamParts}
use Rattle.intake.specs.Sound.{IsArchiveSound, IsFineIfOpen, LeaveFree, stream_uses, stream_blocks, streams_named}
use Rattle.disk_model.specs.declared.disk.Disk as disk
use Rattle.journal_layout.specs.declared.shape.Shape.{Shape}
use Rattle.journal_layout.specs.Live.{AreLive}
use Rattle.journal_layout.specs.LiveCounts.{live_named}
use Rattle.journal_layout.specs.StandLaws.{stands_limits}
use Rattle.case_journal.specs.Journaled.{Journaled}
use Rattle.intake.specs.Guarding.{Guards}
use Rattle.case_journal.specs.Viewing.{ShowsOpening}

one_true : (t : Bool) → 1 ≤ one_if t → t ≡ true
one_true true e = refl
one_true false e = absurd (omega arith)

-- The run at index i of runs of free blocks, those before it marked as used.
module _ (old flags : List Bool) (runs : List Run) (i : ℕ) (d : Run) (within : i < length runs) (some : All (λ (r : Run). 1 ≤ r.count) runs)
    (free : AreFree old (blocks_of runs)) (so_far : Balances old [] flags (blocks_of (take i runs))) where
  more : blocks_of (take (i + 1) runs) ≡ blocks_of (take i runs) ++ run_blocks (get_or runs i d)
  more =
      ap blocks_of (take_more runs i d within) ∙ blocks_of-append (take i runs) (get_or runs i d ∷ [])
      ∙ ap (λ (bs : List ℕ). blocks_of (take i runs) ++ bs) (append-nil (run_blocks (get_or runs i d)))

  split : blocks_of runs ≡ blocks_of (take i runs) ++ (run_blocks (get_or runs i d) ++ blocks_of (drop (i + 1) runs))
  split =
      ap blocks_of (sym (take-append-drop i runs)) ∙ blocks_of-append (take i runs) (drop i runs)
      ∙ ap (λ (rs : List Run). blocks_of (take i runs) ++ blocks_of rs) (drop_more runs i d within)

  uses_split : (k : ℕ) → uses (blocks_of (take i runs)) k + uses (run_blocks (get_or runs i d)) k ≤ uses (blocks_of runs) k
  uses_split k =
      omega (
        arith,
        ap (λ bs. uses bs k) split,
        uses_append (blocks_of (take i runs)) (run_blocks (get_or runs i d) ++ blocks_of (drop (i + 1) runs)) k,
        uses_append (run_blocks (get_or runs i d)) (blocks_of (drop (i + 1) runs)) k,
      )

  here_free : (k : ℕ) → (get_or runs i d).start ≤ k → k < (get_or runs i d).start + (get_or runs i d).count → is_free flags k ≡ true
  here_free k from below =
      let one = uses_inside (get_or runs i d) k from below in
      let s = uses_split k in
      let f = free k in
      let b = so_far.each k in
      one_true (is_free flags k) (omega (arith, one, s, f, b))

  pub some_blocks : 1 ≤ (get_or runs i d).count
  some_blocks = All-get_or (λ (r : Run). 1 ≤ r.count) runs i d within some

  here_within : (get_or runs i d).start + (get_or runs i d).count ≤ length flags
  here_within =
      let one = some_blocks in
      let last : ℕ = (get_or runs i d).start + (get_or runs i d).count - 1 in
      let low = free_below flags last (here_free last (omega arith) (omega arith)) in
      omega arith

  pub never_refused : (new : List Bool) (r : Result (Unit {0}) UseFault) → Marks flags (get_or runs i d) r new → IsOk r
  never_refused new (Ok u) marks = refl
  never_refused new (Err OutOfRange) marks = absurd (let w = here_within in let m = marks.0 in omega (arith, w, m))
  never_refused new (Err InUse) marks = absurd (let h = marks.1 in let f = here_free h.block h.from h.below in let u = h.used in let e : true ≡ false = sym f ∙ u in cc)

  held_more : (new : List Bool) (u : Unit {0}) → Marks flags (get_or runs i d) (Ok u) new → Balances old [] new (blocks_of (take (i + 1) runs))
  held_more new u marks = record {
    long = ap length marks.2 ∙ length_without flags (get_or runs i d) ∙ so_far.long;
    each = λ k. (let m = marked_one flags new (get_or runs i d) marks.1 marks.2 k in
        let a = uses_append (blocks_of (take i runs)) (run_blocks (get_or runs i d)) k in
        let e = ap (λ bs. uses bs k) more in let b = so_far.each k in omega (arith, m, a, e, b));
    all = (let m = marked_count flags new (get_or runs i d) marks.0 marks.1 marks.2 in
        let a = length-append (blocks_of (take i runs)) (run_blocks (get_or runs i d)) in
        let l = length-range_with_len (get_or runs i d).start (get_or runs i d).count in
        let e = ap length more in let b = so_far.all in omega (arith, m, a, l, e, b));
  }

  pub marked_more : (new : List Bool) (r : Result (Unit {0}) UseFault) → Marks flags (get_or runs i d) r new → Balances old [] new (blocks_of (take (i + 1) runs))
  marked_more new (Ok u) marks = held_more new u marks
  marked_more new (Err OutOfRange) marks = absurd (let w = here_within in let m = marks.0 in omega (arith, w, m))
  marked_more new (Err InUse) marks = absurd (let h = marks.1 in let f = here_free h.block h.from h.below in let u = h.used in let e : true ≡ false = sym f ∙ u in cc)

-- the runs of free blocks are runs of free blocks
pub runs_free : (flags : List Bool) (blocks : List ℕ) (runs : List Run) → runs ≡ runs_of blocks → AreFree flags blocks → AreFree flags (blocks_of runs)
runs_free flags blocks runs is free = subst (AreFree flags) (sym (ap blocks_of is ∙ blocks_of_runs blocks)) free

pub runs_some : (blocks : List ℕ) (runs : List Run) → runs ≡ runs_of blocks → All (λ (r : Run). 1 ≤ r.count) runs
runs_some blocks runs is = subst (All (λ (r : Run). 1 ≤ r.count)) (sym is) (runs_have_blocks blocks)

all_free : (xs : List Bool) → ((k : ℕ) → k < length xs → is_free xs k ≡ true) → free_count xs ≡ length xs
all_free [] all = refl
all_free (f ∷ rest) all =
    let here : f ≡ true = all 0 (omega arith) in
    let more : free_count rest ≡ length rest = all_free rest (λ k below. all (suc k) (omega (arith, below))) in
    let s = sum_by-cons (λ (t : Bool). cond t 1 0) f rest in
    let e : one_if f ≡ 1 = ap one_if here in
    omega (arith, s, e, more)

-- what the cases leave free, counted
pub spare_left : (blocks : ℕ) (cases : List Case) (flags : List Bool) → IsSpareMap blocks cases flags → LeaveFree blocks cases flags
spare_left blocks cases flags spare = record {
  long = spare.size;
  once = λ k. (let a = spare.accounts k in let u = case_uses_same k cases in let l = ap (λ (n : ℕ). one_if (nat_lt k n)) spare.size in omega (arith, a, u, l));
  total =
      (let used = used_blocks cases in
      let back = with_runs flags (runs_of used) in
      let held : AreHeld flags used = λ k. (let a = spare.accounts k in let u = uses_same k used in omega (arith, a, u)) in
      let bal = given flags back used held refl in
      let all = all_free back (λ k below. one_true (is_free back k)
      (let e = bal.each k in let a = spare.accounts k in let u = uses_same k used in let l = bal.long in
      let one = ap one_if (lt-ltb k (length flags) (omega (arith, l, below))) in omega (arith, e, a, u, one))) in
      let n = used_length cases in let f = bal.all in let l = bal.long in let z = spare.size in omega (arith, all, n, f, l, z));
}

none_fine : (most n : ℕ) → All (IsFineIfOpen most) (replicate n None)
none_fine most zero = All-nil (IsFineIfOpen most)
none_fine most (suc n) = All-cons (IsFineIfOpen most) None (replicate n None) tt (none_fine most n)

-- an archive that was just opened
pub opened_sound : {D : Type 0} (g : disk.Ghosts D) (d d' : D) (j : Journaled) (most : ℕ) (shape : Shape) (flags : List Bool) (cases : List Case) (streams : List (Option StreamParts))
    → ShowsOpening g d (Ok j) → Guards g d' j → AreLive j.standing.shape.data_blocks j.standing.cases j.standing.next → j.stopped ≡ false
    → shape ≡ j.standing.shape → cases ≡ j.standing.cases → IsSpareMap shape.data_blocks cases flags → streams ≡ replicate 8 None → IsArchiveSound g d' j most flags streams false
opened_sound g d d' j most shape flags cases streams shows keeps live on same are leave none =
    subst (λ (x : List (Option StreamParts)). IsArchiveSound g d' j most flags x false) (sym none) (record {
      shape = stands_limits shows.shown j.standing shows.gives;
      slots = refl;
      runs = λ _. record {
        journal = on;
        keeps = keeps;
        cases = live;
        streams_fine = none_fine most 8;
        blocks = free.long;
        once = λ k. (let o = free.once k in let z : stream_uses (replicate 8 None) k ≡ 0 = refl in omega (arith, o, z));
        total = (let t = free.total in let z : stream_blocks (replicate 8 None) ≡ 0 = refl in omega (arith, t, z));
        named = λ name. (let n = live_named j.standing.shape.data_blocks j.standing.cases j.standing.next live name in
            let z : streams_named (replicate 8 None) name ≡ 0 = refl in omega (arith, n, z));
      };
      none = λ off. absurd (cc);
      doubts = keeps.keeps.doubts;
    })
  where
    free : LeaveFree j.standing.shape.data_blocks j.standing.cases flags
    free = spare_left j.standing.shape.data_blocks j.standing.cases flags (subst (λ (s : Shape). IsSpareMap s.data_blocks j.standing.cases flags) same (subst (λ (cs : List Case). IsSpareMap shape.data_blocks cs flags) are leave))
