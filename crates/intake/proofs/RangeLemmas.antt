-- The ranges in which an image lies, run by run.
use Rattle.std.proofs.Common.{◌≡◌, ℕ, zero, suc, ◌+◌, ◌-◌, ◌*◌, ◌<◌, ◌≤◌, min, List, [], ◌∷◌, ◌++◌, length, get_or, take, drop, refl, sym, ap, ◌∙◌, ⊎_elim, subst, arith, IsTrue, Option, Some, Bool, false}
use Rattle.std.proofs.lemmas.Bool.{cases_lt}
use Rattle.std.proofs.lemmas.Grind.{flat_map-append}
use Rattle.std.proofs.lemmas.List.{append-nil, length-append, take-take, take_all, length-take}
use Rattle.std.proofs.lemmas.List.Elements.{All-nil, All-cons, All-head, All-tail, All-append, All-get_or, All-take}
use Rattle.std.proofs.lemmas.List.FromFn.{length-range_with_len}
use Rattle.std.proofs.lemmas.List.Sums.{sum_by-append}
use Rattle.disk_model.specs.Places.{part}
use Rattle.disk_model.specs.PartLaws.{part_length}
use Rattle.disk_model.specs.declared.disk.Disk as disk
use Rattle.extents.specs.RunLaws.{blocks_of_runs}
use Rattle.extents.specs.Runs.{run_blocks, blocks_of, runs_of}
use Rattle.extents.specs.declared.run_list.Run.{Run}
use Rattle.journal_layout.specs.Case.{Case}
use Rattle.journal_layout.specs.Layout.{disk_length}
use Rattle.journal_layout.specs.Soundness.{case_numbered}
use Rattle.journal_layout.specs.declared.shape.Shape.{Shape}
use Rattle.case_journal.specs.Journaled.{Journaled}
use Rattle.intake.specs.Blocks.{block_start, block_bytes, joined}
use Rattle.intake.specs.Parts.{StreamParts}
use Rattle.intake.specs.Ranges.{CoversRuns, Locates, IsFrontOfRun, AreWithin, bytes_in}
use Rattle.intake.specs.Reading.{LieWithin, LiesIn}
use Rattle.intake.specs.declared.ranges.ByteRange.{ByteRange}
use Rattle.intake.proofs.ImageLemmas.{has_case, bytes_of_case}
use Rattle.intake.proofs.ReadLemmas.{run_bytes, blocks_more, count_more}

-- the first n of two lists one behind the other
pub take_over : {X : Type 0} (n : ℕ) (xs ys : List X) → take n (xs ++ ys) ≡ take n xs ++ take (n - length xs) ys
take_over zero [] ys = refl
take_over zero (x ∷ xs) ys = let e : 0 - suc (length xs) ≡ 0 = omega arith in ap (λ k. take k ys) (sym e)
take_over (suc n) [] ys = let e : suc n - 0 ≡ suc n = omega arith in ap (λ k. take k ys) (sym e)
take_over (suc n) (x ∷ xs) ys =
    let e : suc n - suc (length xs) ≡ n - length xs = omega arith in
    ap (λ l. x ∷ l) (take_over n xs ys ∙ ap (λ k. take n xs ++ take k ys) (sym e))

none_taken : (n : ℕ) → take {A = ℕ} n [] ≡ []
none_taken zero = refl
none_taken (suc n) = refl

-- a front of a part
part_front : (b : List ℕ) (p n m : ℕ) → part b p (min n m) ≡ take n (part b p m)
unfolding part
part_front b p n m =
    ⊎_elim
    (λ below. let e : min n m ≡ n = omega arith in ap (λ k. take k (drop p b)) e ∙ sym (take-take n m (drop p b) (omega arith)))
    (λ above.
    let e : min n m ≡ m = omega arith in
    ap (λ k. take k (drop p b)) e
    ∙ sym (take_all n (take m (drop p b)) (omega (arith, length-take m (drop p b)))))
    (cases_lt n m)

-- a run has as many bytes as its blocks
pub run_long : (shape : Shape) (b : List ℕ) (r : Run) → length b ≡ disk_length shape → r.start + r.count ≤ shape.data_blocks → length (joined shape b (run_blocks r)) ≡ 4096 * r.count
run_long shape b r whole within =
    ap length (sym (run_bytes shape b r.start r.count))
    ∙ part_length b (block_start shape r.start) (4096 * r.count) (omega (arith, whole, within))

pub joined_long : (shape : Shape) (b : List ℕ) (runs : List Run) → length b ≡ disk_length shape → LieWithin shape.data_blocks runs → length (joined shape b (blocks_of runs)) ≡ 4096 * length (blocks_of runs)
joined_long shape b [] whole within = refl
joined_long shape b (r ∷ rest) whole within =
    let P : Run → Type 0 = λ x. x.start + x.count ≤ shape.data_blocks in
    let here = run_long shape b r whole (All-head P r rest within) in
    let behind = joined_long shape b rest whole (All-tail P r rest within) in
    let all = ap length (flat_map-append (block_bytes shape b) (run_blocks r) (blocks_of rest)) in
    let parts = length-append (joined shape b (run_blocks r)) (joined shape b (blocks_of rest)) in
    omega (arith, here, behind, all, parts, length-append (run_blocks r) (blocks_of rest), length-range_with_len r.start r.count)

-- the bytes of a front of a run
front_bytes : (shape : Shape) (b : List ℕ) (r : Run) (most : ℕ) (range : ByteRange) → IsFrontOfRun shape r most range → part b range.start range.length ≡ take most (joined shape b (run_blocks r))
front_bytes shape b r most range is =
    ap (λ p. part b p range.length) is.0
    ∙ ap (part b (block_start shape r.start)) is.1
    ∙ part_front b (block_start shape r.start) most (4096 * r.count)
    ∙ ap (take most) (run_bytes shape b r.start r.count)

-- The ranges of the first n runs are there, and so many bytes are left.
pub record FrontCovered (shape : Shape) (runs : List Run) (len : ℕ) (ranges : List ByteRange) (left n : ℕ) : Type 0 where
  pub covers : CoversRuns shape (take n runs) len ranges
  pub missing : left ≡ len - 4096 * length (blocks_of (take n runs))

-- none at first
pub none_covered : (shape : Shape) (runs : List Run) (len : ℕ) → FrontCovered shape runs len [] len 0
none_covered shape runs len = record {
  covers = record {
    within = All-nil (λ (r : ByteRange). r.start + r.length ≤ disk_length shape);
    bytes = λ b whole. sym (none_taken len);
    count = omega arith;
  };
  missing = omega arith;
}

-- one more
pub one_more_covered : (shape : Shape) (runs : List Run) (len : ℕ) (ranges : List ByteRange) (left left' i : ℕ) (range : ByteRange) (r : Run) → FrontCovered shape runs len ranges left i → i < length runs
    → LieWithin shape.data_blocks runs → IsFrontOfRun shape (get_or runs i r) left range → left' ≡ left - range.length → FrontCovered shape runs len (ranges ++ range ∷ []) left' (i + 1)
one_more_covered shape runs len ranges left left' i range r so_far below within is less = record {
  covers = record {
    within = All-append P ranges (range ∷ []) so_far.covers.within (All-cons P range [] ends (All-nil P));
    bytes = λ b whole.
        let long = joined_long shape b (take i runs) whole (All-take (λ (x : Run). x.start + x.count ≤ shape.data_blocks) i runs within) in
        flat_map-append (λ (x : ByteRange). part b x.start x.length) ranges (range ∷ [])
        ∙ ap (λ x. x ++ bytes_in b (range ∷ [])) (so_far.covers.bytes b whole)
        ∙ ap (λ x. take len (joined shape b (blocks_of (take i runs))) ++ x)
        (append-nil (part b range.start range.length)
        ∙ front_bytes shape b here left range is
        ∙ ap (λ k. take k (joined shape b (run_blocks here))) (so_far.missing ∙ ap (λ k. len - k) (sym long)))
        ∙ sym (take_over len (joined shape b (blocks_of (take i runs))) (joined shape b (run_blocks here)))
        ∙ ap (take len) (sym (ap (joined shape b) (blocks_more runs i r below) ∙ flat_map-append (block_bytes shape b) (blocks_of (take i runs)) (run_blocks here)));
    count = omega (arith, sum_by-append (λ (x : ByteRange). x.length) ranges (range ∷ []), so_far.covers.count, so_far.missing, is.1, more);
  };
  missing = omega (arith, so_far.missing, is.1, more, less);
}
  where
    here : Run
    here = get_or runs i r

    P : ByteRange → Type 0
    P x = x.start + x.length ≤ disk_length shape

    more : length (blocks_of (take (i + 1) runs)) ≡ length (blocks_of (take i runs)) + here.count
    more = count_more runs i r below

    ends : range.start + range.length ≤ disk_length shape
    ends = let w = All-get_or (λ (x : Run). x.start + x.count ≤ shape.data_blocks) runs i r below within in omega (arith, is.0, is.1, w)

-- and all at last
pub all_covered : (shape : Shape) (runs : List Run) (len : ℕ) (ranges : List ByteRange) (left n : ℕ) → FrontCovered shape runs len ranges left n → length runs ≤ n → CoversRuns shape runs len ranges
all_covered shape runs len ranges left n so_far past =
    subst (λ (x : List Run). CoversRuns shape x len ranges) (take_all n runs past) so_far.covers

-- so they are where the image of a case lies
pub located : {D : Type 0} (g : disk.Ghosts D) (d : D) (j : Journaled) (most : ℕ) (streams : List (Option StreamParts)) (b : Bool) (seq : ℕ) (c : Case) (ranges : List ByteRange)
    → b ≡ false → Some c ≡ case_numbered seq j.standing.cases → LiesIn j.standing.shape.data_blocks c.blocks c.len → CoversRuns j.standing.shape (runs_of c.blocks) c.len ranges
    → g.size d ≡ disk_length j.standing.shape → (IsTrue (g.is_honest d) → length (g.seen d) ≡ g.size d)
    → Locates g (record { disk = d; journal = j; limit = most; streams = streams; stopped = b }) seq ranges
located g d j most streams b seq c ranges on is lies covers size whole = record {
  found = c;
  has = has_case g.seen d d j most streams streams b b seq c on is;
  within = subst (λ (n : ℕ). AreWithin n ranges) (sym size) covers.within;
  count = (let enough = lies.enough in let same = ap length (blocks_of_runs c.blocks) in omega (arith, covers.count, enough, same));
  bytes = λ honest.
      bytes_of_case g.seen d d j most streams streams b b seq c is
      ∙ ap (λ (x : List ℕ). Some x)
      (sym (covers.bytes (g.seen d) (whole honest ∙ size) ∙ ap (λ (bs : List ℕ). take c.len (joined j.standing.shape (g.seen d) bs)) (blocks_of_runs c.blocks)));
  places = λ b long. covers.bytes b (long ∙ size) ∙ ap (λ (bs : List ℕ). take c.len (joined j.standing.shape b bs)) (blocks_of_runs c.blocks);
}
