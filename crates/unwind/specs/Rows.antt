-- A row of the table that call frame instructions describe (DWARF 5, 6.4.1): the rule of the Canonical Frame Address, and a
-- rule for each column. Columns 0 to 31 are x0 to x31 (RISC-V ELF psABI, "DWARF Register Numbers"); others are not kept.
use Rattle.std.specs.Prelude.{ℕ, ◌==◌, ◌&&◌, ◌||◌, nat_lt, nat_le, if◌then◌else◌, Bool, false, List, map, slice_set, slice_index_or}
use Rattle.std.specs.List.{range_with_len}
use Rattle.unwind.specs.declared.rows.Row.{Row}
use Rattle.unwind.specs.declared.rows.Rule.{Rule}
use Rattle.unwind.specs.declared.rows.Rule.TheVariants as rules

-- a rule instead of that of a column, if it is one of those that are kept
unfoldable pub set_rule : List Rule → ℕ → Rule → List Rule
set_rule rs c rule = if nat_lt c 32 then slice_set rs c rule else rs

-- the rule of a column, undefined if none is kept
unfoldable pub rule_of : List Rule → ℕ → Rule
rule_of rs c = if nat_lt c 32 then slice_index_or rs c rules.Undefined else rules.Undefined

-- The registers that a call keeps: s0 to s11 (x8, x9, x18 to x27), gp and tp (x3, x4) and, since nothing has changed it
-- yet, ra (x1). sp (x2) is the CFA in the caller. The others need not be kept (psABI, "Integer Register Convention").
abbrev pub is_kept : ℕ → Bool
is_kept c = c == 1 || c == 3 || c == 4 || c == 8 || c == 9 || (nat_le 18 c && nat_le c 27)

abbrev pub first_rule : ℕ → Rule
first_rule c = if is_kept c then rules.Same else (if c == 2 then rules.Value 0 else rules.Undefined)

abbrev pub first_rules : List Rule
first_rules = map first_rule (range_with_len 0 32)

-- The row before the first instruction of a CIE with this return address register, which holds the return address too.
unfoldable pub first_row : ℕ → Row
first_row column = record {
  cfa = record { column = 2; offset = 0; expression = false };
  rules = set_rule first_rules column rules.Same;
}

-- a row with another rule for a column, or with another rule for the CFA
abbrev pub with_rule : Row → ℕ → Rule → Row
with_rule row c rule = record { cfa = row.cfa; rules = set_rule row.rules c rule }

abbrev pub with_cfa : Row → ℕ → ℕ → Bool → Row
with_cfa row c offset expression = record {
  cfa = record { column = c; offset = offset; expression = expression };
  rules = row.rules;
}
