-- Values of registers by the rules of a row (DWARF 5, 6.4.1). Sums are modulo 2^64.
use Rattle.std.specs.Prelude.{ℕ, ◌+◌, ◌%◌, ◌^◌, ◌==◌, if◌then◌else◌, Bool, true, false, map, Option, None, Some, Result, Ok, Err}
use Rattle.std.specs.Option.{option_map}
use Rattle.std.specs.List.{range_with_len}
use Rattle.address_space.specs.Source.{Space, word_at}
use Rattle.unwind.specs.Rows.{rule_of}
use Rattle.unwind.specs.declared.rows.Cfa.{Cfa}
use Rattle.unwind.specs.declared.rows.Row.{Row}
use Rattle.unwind.specs.declared.rows.Rule.{Rule}
use Rattle.unwind.specs.declared.rows.Rule.TheVariants.{Undefined, Same, Offset, Value, Register, Expression}
use Rattle.unwind.specs.Reasons.{checked}
use Rattle.unwind.specs.Registers.{Registers, known}
use Rattle.unwind.specs.declared.faults.Stop.{Stop}
use Rattle.unwind.specs.declared.faults.Stop.TheVariants as stops

-- the word of eight bytes at an address, if all of them are there
abbrev pub word : Space → ℕ → Option ℕ
word space a = word_at space a 8

-- the value that column c has in the caller by a rule
abbrev pub value_by : Space → Registers → ℕ → ℕ → Rule → Option ℕ
value_by space rs cfa c Undefined = None
value_by space rs cfa c Same = known rs c
value_by space rs cfa c (Offset n) = word space ((cfa + n) % 2 ^ 64)
value_by space rs cfa c (Value n) = Some ((cfa + n) % 2 ^ 64)
value_by space rs cfa c (Register d) = known rs d
value_by space rs cfa c Expression = None

-- by the rule that a row has for it; x0 is 0
abbrev pub register_by : Space → Registers → ℕ → Row → ℕ → Option ℕ
register_by space rs cfa row c = if c == 0 then Some 0 else value_by space rs cfa c (rule_of row.rules c)

unfoldable pub registers_by : Space → Registers → ℕ → Row → Registers
registers_by space rs cfa row = map (register_by space rs cfa row) (range_with_len 0 32)

-- the CFA: a register, which is to be known, and an offset
abbrev pub cfa_from : Registers → Cfa → Option ℕ
cfa_from rs cfa = option_map (λ n. (n + cfa.offset) % 2 ^ 64) (known rs cfa.column)

unfoldable pub cfa_by : Registers → Cfa → Result ℕ Stop
cfa_by rs cfa = if cfa.expression then Err stops.Expression else checked (cfa_from rs cfa) stops.Undefined (λ a. Ok a)

-- why a value is not known by a rule
abbrev pub unknown_by : Rule → Stop
unknown_by (Offset n) = stops.Unreadable
unknown_by Expression = stops.Expression
unknown_by _ = stops.Undefined

abbrev pub is_undefined : Rule → Bool
is_undefined Undefined = true
is_undefined _ = false
