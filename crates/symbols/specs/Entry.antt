-- The functions of a symbol table (System V gABI, "Symbol Table"). An entry has 24 bytes.
use Rattle.std.specs.Prelude.{ℕ, ◌+◌, ◌*◌, ◌/◌, ◌%◌, ◌==◌, ◌&&◌, not, if◌then◌else◌, Bool, List, length, map, filter}
use Rattle.std.specs.List.{range_with_len}
use Rattle.elf_view.specs.Field.{field}
use Rattle.symbols.specs.declared.functions.Function.{Function}

-- the fields of entry i of the table in these bytes
abbrev pub st_name : List ℕ → ℕ → ℕ
st_name d i = field d (24 * i) 4

abbrev pub st_info : List ℕ → ℕ → ℕ
st_info d i = field d (24 * i + 4) 1

abbrev pub st_shndx : List ℕ → ℕ → ℕ
st_shndx d i = field d (24 * i + 6) 2

abbrev pub st_value : List ℕ → ℕ → ℕ
st_value d i = field d (24 * i + 8) 8

abbrev pub st_size : List ℕ → ℕ → ℕ
st_size d i = field d (24 * i + 16) 8

-- ELF64_ST_TYPE and ELF64_ST_BIND
abbrev pub symbol_type : List ℕ → ℕ → ℕ
symbol_type d i = st_info d i % 16

abbrev pub symbol_binding : List ℕ → ℕ → ℕ
symbol_binding d i = st_info d i / 16

-- entry i is an STT_FUNC (2) that is defined: its section is not SHN_UNDEF (0)
unfoldable pub is_function : List ℕ → ℕ → Bool
is_function d i = symbol_type d i == 2 && not (st_shndx d i == 0)

-- the rank of a binding: STB_GLOBAL (1), STB_WEAK (2), STB_LOCAL (0), any other
abbrev pub rank_of : ℕ → ℕ
rank_of b = if b == 1 then 0 else (if b == 2 then 1 else (if b == 0 then 2 else 3))

unfoldable pub function_at : List ℕ → ℕ → Function
function_at d i = record {
  index = i;
  name = st_name d i;
  rank = rank_of (symbol_binding d i);
  value = st_value d i;
  size = st_size d i;
}

abbrev pub entry_count : List ℕ → ℕ
entry_count d = length d / 24

-- the functions among the n entries from number i on
abbrev pub functions_between : List ℕ → ℕ → ℕ → List Function
functions_between d i n = map (function_at d) (filter (is_function d) (range_with_len i n))

-- the functions of the table, in its order
abbrev pub functions_of : List ℕ → List Function
functions_of d = functions_between d 0 (entry_count d)
