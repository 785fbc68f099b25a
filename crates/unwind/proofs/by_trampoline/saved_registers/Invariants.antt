use Rattle.std.proofs.Common.{◌≡◌, ℕ, ◌<◌, List, length, get_or, None}
use Rattle.seen_memory.specs.Seen.{IsImageOf, space_by}
use Rattle.unwind.specs.ByTrampoline.{saved_register}
use Rattle.unwind.proofs.by_trampoline.saved_registers.Given as goal

-- the registers up to the column
abbrev pub invariant-loop-column : goal.invariant-loop-column
invariant-loop-column l =
    (length l.registers ≡ 32) × ((image : List ℕ) → IsImageOf l.memory image → (k : ℕ) → k < l.column → get_or l.registers k None ≡ saved_register (space_by l.memory image) l.stack k)
