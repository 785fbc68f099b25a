-- The function of an executable that an address belongs to.
use Rattle.std.specs.Prelude.{ℕ, List, [], ◌∷◌, ◌++◌, Option, None, Some, Result, Ok, Err, codes, if◌then◌else◌}
use Rattle.std.specs.Option.{option_map, option_or}
use Rattle.script_words.specs.Printing.{shown, hexadecimal}
use Rattle.elf_view.specs.Sound.{first_fault}
use Rattle.elf_view.specs.declared.faults.Want.TheVariants.{Exec}
use Rattle.symbols.specs.FieldNames.{symbol_field_name, has_index}
use Rattle.symbols.specs.Names.{SymbolView, symbol_in}
use Rattle.symbols.specs.SymbolTable as table
use Rattle.symbols.specs.declared.faults.SymbolFault.{SymbolFault}
use Rattle.image_replies.specs.Reasons.{elf_reason, indexed}
use Rattle.memory_replies.specs.Words.{hex_word}

-- a fault of the file header, by the field's name; one of a section or a symbol, by its number too
abbrev pub symbol_reason : SymbolFault → List ℕ
symbol_reason fault =
    if has_index fault.«field» then indexed (symbol_field_name fault.«field») fault.index else symbol_field_name fault.«field»

-- the text of the first fault of an executable's headers, or else of its symbol table
unfoldable pub executable_fault : List ℕ → Option (List ℕ)
executable_fault b = option_or (option_map elf_reason (first_fault Exec b)) (option_map symbol_reason (table.first_fault b))

-- `NAME VALUE SIZE`
abbrev pub symbol_line : SymbolView → List ℕ
symbol_line s = shown s.name ++ (32 ∷ [] ++ (hex_word s.value ++ (hexadecimal s.size ++ 10 ∷ [])))

-- the line of the function that was found, if there is one
abbrev pub found_answer : Option SymbolView → Result (List ℕ) (List ℕ)
found_answer None = Err (codes "NoSymbol")
found_answer (Some s) = Ok (symbol_line s)

abbrev pub answer_unless : Option (List ℕ) → Result (List ℕ) (List ℕ) → Result (List ℕ) (List ℕ)
answer_unless None answer = answer
answer_unless (Some reason) answer = Err reason

-- `symbol`: the function of an executable that an address belongs to
unfoldable pub symbol_answer : List ℕ → ℕ → Result (List ℕ) (List ℕ)
symbol_answer b v = answer_unless (executable_fault b) (found_answer (symbol_in b v))
