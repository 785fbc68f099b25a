-- The names of the fields in the System V gABI ("ELF Header", "Section Header", "Symbol Table").
use Rattle.std.specs.Prelude.{ℕ, Bool, true, false, List, codes}
use Rattle.symbols.specs.declared.faults.SymbolField.{SymbolField}
use Rattle.symbols.specs.declared.faults.SymbolField.TheVariants.{EShentsize, EShoff, ShEntsize, ShSize, ShOffset, ShLink, StName}

abbrev pub symbol_field_name : SymbolField → List ℕ
symbol_field_name EShentsize = codes "e_shentsize"
symbol_field_name EShoff = codes "e_shoff"
symbol_field_name ShEntsize = codes "sh_entsize"
symbol_field_name ShSize = codes "sh_size"
symbol_field_name ShOffset = codes "sh_offset"
symbol_field_name ShLink = codes "sh_link"
symbol_field_name StName = codes "st_name"

-- the field is one of a section header or of a symbol, of which there may be many
abbrev pub has_index : SymbolField → Bool
has_index EShentsize = false
has_index EShoff = false
has_index _ = true
