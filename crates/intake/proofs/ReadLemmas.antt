-- The bytes of runs, as they are read.
use Rattle.std.proofs.Common.{◌≡◌, ℕ, zero, suc, ◌+◌, ◌*◌, ◌<◌, List, [], ◌∷◌, ◌++◌, length, get_or, take, ap, ◌∙◌, arith}
use Rattle.std.specs.List.{range_with_len}
use Rattle.std.proofs.lemmas.List.{append-nil, length-append, take_more}
use Rattle.std.proofs.lemmas.List.FromFn.{length-range_with_len}
use Rattle.disk_model.specs.Places.{part}
use Rattle.disk_model.specs.PartLaws.{part_is, part_split}
use Rattle.extents.specs.RunLaws.{blocks_of_runs}
use Rattle.extents.specs.Runs.{run_blocks, blocks_of, runs_of}
use Rattle.extents.specs.declared.run_list.Run.{Run}
use Rattle.journal_layout.specs.LiveCounts.{blocks_of-append}
use Rattle.journal_layout.specs.declared.shape.Shape.{Shape}
use Rattle.intake.specs.Blocks.{block_start, block_bytes, joined}

-- the blocks of a run lie one behind another, so its bytes are theirs joined
pub run_bytes : (shape : Shape) (bytes : List ℕ) (start count : ℕ) → part bytes (block_start shape start) (4096 * count) ≡ joined shape bytes (range_with_len start count)
run_bytes shape bytes start zero = let e : 4096 * zero ≡ 0 = omega arith in ap (part bytes (block_start shape start)) e ∙ part_is bytes (block_start shape start) 0
run_bytes shape bytes start (suc count) =
    let e : 4096 * suc count ≡ 4096 + 4096 * count = omega arith in
    let next : block_start shape start + 4096 ≡ block_start shape (start + 1) = omega arith in
    ap (part bytes (block_start shape start)) e
    ∙ part_split bytes (block_start shape start) 4096 (4096 * count)
    ∙ ap (λ (p : ℕ). block_bytes shape bytes start ++ part bytes p (4096 * count)) next
    ∙ ap (λ (x : List ℕ). block_bytes shape bytes start ++ x) (run_bytes shape bytes (start + 1) count)

-- the runs of blocks have these blocks again
pub blocks_back : (runs : List Run) (blocks : List ℕ) → runs ≡ runs_of blocks → blocks_of runs ≡ blocks
blocks_back runs blocks is = ap blocks_of is ∙ blocks_of_runs blocks

-- the blocks of the first runs
pub blocks_more : (runs : List Run) (i : ℕ) (r : Run) → i < length runs → blocks_of (take (i + 1) runs) ≡ blocks_of (take i runs) ++ run_blocks (get_or runs i r)
blocks_more runs i r below =
    ap blocks_of (take_more runs i r below)
    ∙ blocks_of-append (take i runs) (get_or runs i r ∷ [])
    ∙ ap (λ (x : List ℕ). blocks_of (take i runs) ++ x) (append-nil (run_blocks (get_or runs i r)))

pub count_more : (runs : List Run) (i : ℕ) (r : Run) → i < length runs → length (blocks_of (take (i + 1) runs)) ≡ length (blocks_of (take i runs)) + (get_or runs i r).count
count_more runs i r below =
    ap length (blocks_more runs i r below)
    ∙ length-append (blocks_of (take i runs)) (run_blocks (get_or runs i r))
    ∙ ap (λ (n : ℕ). length (blocks_of (take i runs)) + n) (length-range_with_len (get_or runs i r).start (get_or runs i r).count)
