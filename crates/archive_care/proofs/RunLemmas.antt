-- The bytes of runs and of cases, one more at a time.
use Rattle.std.proofs.Common.{◌≡◌, ℕ, zero, suc, ◌+◌, ◌*◌, ◌<◌, ◌≤◌, List, [], ◌∷◌, ◌++◌, length, map, get_or, take, drop, ap, ◌∙◌, arith}
use Rattle.std.specs.List.{range_with_len}
use Rattle.std.proofs.lemmas.Grind.{flat_map-append}
use Rattle.std.proofs.lemmas.List.{append-nil, length-append, take_more, take-append-drop}
use Rattle.std.proofs.lemmas.List.FromFn.{length-range_with_len}
use Rattle.disk_model.specs.Places.{part}
use Rattle.disk_model.specs.PartLaws.{part_is, part_split}
use Rattle.extents.specs.Runs.{run_blocks, blocks_of}
use Rattle.extents.specs.declared.run_list.Run.{Run}
use Rattle.intake.specs.Blocks.{block_start, block_bytes, joined}
use Rattle.journal_layout.specs.Case.{Case, case_of}
use Rattle.journal_layout.specs.Folding.{used_blocks}
use Rattle.journal_layout.specs.LiveCounts.{blocks_of-append}
use Rattle.journal_layout.specs.LiveLaws.{used-append}
use Rattle.journal_layout.specs.declared.entry.Entry.{Entry}
use Rattle.journal_layout.specs.declared.shape.Shape.{Shape}
use Rattle.archive_care.proofs.PlaceLemmas.{cases_more, used_push}

-- the blocks of a run lie one after another, so its bytes are theirs joined
pub run_bytes : (shape : Shape) (bytes : List ℕ) (start count : ℕ) → part bytes (block_start shape start) (4096 * count) ≡ joined shape bytes (range_with_len start count)
run_bytes shape bytes start zero = let e : 4096 * zero ≡ 0 = omega arith in ap (part bytes (block_start shape start)) e ∙ part_is bytes (block_start shape start) 0
run_bytes shape bytes start (suc count) =
    let e : 4096 * suc count ≡ 4096 + 4096 * count = omega arith in
    let next : block_start shape start + 4096 ≡ block_start shape (start + 1) = omega arith in
    ap (part bytes (block_start shape start)) e
    ∙ part_split bytes (block_start shape start) 4096 (4096 * count)
    ∙ ap (λ (p : ℕ). block_bytes shape bytes start ++ part bytes p (4096 * count)) next
    ∙ ap (λ (x : List ℕ). block_bytes shape bytes start ++ x) (run_bytes shape bytes (start + 1) count)

-- the blocks of the first runs
pub blocks_more : (runs : List Run) (i : ℕ) (r : Run) → i < length runs → blocks_of (take (i + 1) runs) ≡ blocks_of (take i runs) ++ run_blocks (get_or runs i r)
blocks_more runs i r below =
    ap blocks_of (take_more runs i r below)
    ∙ blocks_of-append (take i runs) (get_or runs i r ∷ [])
    ∙ ap (λ (x : List ℕ). blocks_of (take i runs) ++ x) (append-nil (run_blocks (get_or runs i r)))

pub count_more : (runs : List Run) (i : ℕ) (r : Run) → i < length runs → length (blocks_of (take (i + 1) runs)) ≡ length (blocks_of (take i runs)) + (get_or runs i r).count
count_more runs i r below =
    ap length (blocks_more runs i r below)
    ∙ length-append (blocks_of (take i runs)) (run_blocks (get_or runs i r))
    ∙ ap (λ (n : ℕ). length (blocks_of (take i runs)) + n) (length-range_with_len (get_or runs i r).start (get_or runs i r).count)

-- they are no more than all
pub count_within : (runs : List Run) (i : ℕ) (r : Run) → i < length runs → length (blocks_of (take i runs)) + (get_or runs i r).count ≤ length (blocks_of runs)
count_within runs i r below =
    let whole = ap (λ (l : List Run). length (blocks_of l)) (take-append-drop (i + 1) runs) in
    let parts = ap length (blocks_of-append (take (i + 1) runs) (drop (i + 1) runs)) ∙ length-append (blocks_of (take (i + 1) runs)) (blocks_of (drop (i + 1) runs)) in
    omega (arith, count_more runs i r below, whole, parts)

-- the bytes of one more
pub joined_more : (shape : Shape) (b : List ℕ) (runs : List Run) (i : ℕ) (r : Run) → i < length runs
    → joined shape b (blocks_of (take (i + 1) runs)) ≡ joined shape b (blocks_of (take i runs)) ++ joined shape b (run_blocks (get_or runs i r))
joined_more shape b runs i r below =
    ap (joined shape b) (blocks_more runs i r below) ∙ flat_map-append (block_bytes shape b) (blocks_of (take i runs)) (run_blocks (get_or runs i r))

-- the same of cases
pub images_more : (shape : Shape) (b : List ℕ) (es : List Entry) (i : ℕ) (e : Entry) → i < length es → e ≡ get_or es i e
    → joined shape b (used_blocks (map case_of (take (i + 1) es))) ≡ joined shape b (used_blocks (map case_of (take i es))) ++ joined shape b e.runs
images_more shape b es i e below is =
    let front = map case_of (take i es) in
    ap (λ (l : List Case). joined shape b (used_blocks l)) (cases_more es i e below is)
    ∙ ap (joined shape b) (used-append front (case_of e ∷ []) ∙ ap (λ (l : List ℕ). used_blocks front ++ l) (append-nil e.runs))
    ∙ flat_map-append (block_bytes shape b) (used_blocks front) e.runs

pub blocks_used_more : (es : List Entry) (i : ℕ) (e : Entry) → i < length es → e ≡ get_or es i e
    → length (used_blocks (map case_of (take (i + 1) es))) ≡ length (used_blocks (map case_of (take i es))) + length e.runs
blocks_used_more es i e below is = ap (λ (l : List Case). length (used_blocks l)) (cases_more es i e below is) ∙ used_push (map case_of (take i es)) (case_of e)
