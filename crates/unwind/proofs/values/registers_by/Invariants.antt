use Rattle.std.proofs.Common.{◌≡◌, ℕ, ◌<◌, List, length, get_or, None}
use Rattle.seen_memory.specs.Seen.{IsImageOf, space_by}
use Rattle.unwind.specs.Values.{register_by}
use Rattle.unwind.proofs.values.registers_by.Given as goal

-- the registers up to the column
abbrev pub invariant-loop-column : goal.invariant-loop-column
invariant-loop-column l =
    (length l.values ≡ 32) × ((image : List ℕ) → IsImageOf l.memory image → (k : ℕ) → k < l.column → get_or l.values k None ≡ register_by (space_by l.memory image) l.registers l.cfa l.row k)
