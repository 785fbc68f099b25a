-- The registers of a frame by their numbers (RISC-V ELF psABI, "DWARF Register Numbers"): 0 to 31 are x0 to x31. Of each its
-- value, if that is known.
use Rattle.std.specs.Prelude.{ℕ, nat_lt, if◌then◌else◌, List, slice_set, slice_index_or, Option, None}

abbrev pub Registers : Type 0
Registers = List (Option ℕ)

-- x1, the return address
abbrev pub ra : ℕ
ra = 1

-- x2, the stack pointer
abbrev pub sp : ℕ
sp = 2

-- the known value of a register: nothing is known of one that is not among them
unfoldable pub known : Registers → ℕ → Option ℕ
known rs c = if nat_lt c 32 then slice_index_or rs c None else None

-- the same registers, but that one is not known
unfoldable pub without : Registers → ℕ → Registers
without rs c = if nat_lt c 32 then slice_set rs c None else rs
