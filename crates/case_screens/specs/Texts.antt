-- The small texts of a screen.
use Rattle.std.specs.Prelude.{ℕ, ◌-◌, ◌==◌, ◌&&◌, ◌||◌, Bool, nat_lt, if◌then◌else◌, List, [], ◌∷◌, ◌++◌, length, take, slice_index, codes, decimal}
use Rattle.std.specs.List.{flat_map}
use Rattle.std.specs.Str.{bytes_eq}
use Rattle.script_words.specs.Printing.{shown, shown_byte}
use Rattle.case_screens.specs.Reasons.{Reason, named}

-- the text before a line that continues the one above it
abbrev pub margin : List ℕ
margin = codes "          "

-- a line's label at the first of its rows, and nothing at the others
abbrev pub label_at : List ℕ → ℕ → List ℕ
label_at label k = if k == 0 then label else margin

-- a byte of a text for people: a space is one, all else prints as a script prints it
abbrev pub plain_byte : ℕ → List ℕ
plain_byte c = if c == 32 then 32 ∷ [] else shown_byte c

-- a text without the space that may end it
abbrev pub without_space : List ℕ → List ℕ
without_space text = if nat_lt 0 (length text) && slice_index text (length text - 1) == 32 then take (length text - 1) text else text

-- a text for people; `-`, if it is empty
abbrev pub plain_text : List ℕ → List ℕ
plain_text [] = codes "-"
plain_text (c ∷ cs) = flat_map plain_byte (without_space (c ∷ cs))

-- how many more there are than are shown
abbrev pub more_words : ℕ → List ℕ
more_words n = codes ".. and " ++ (decimal n ++ codes " more")

-- a name as a script prints it: its first 256 bytes, and how many more it has
abbrev pub name_text : List ℕ → List ℕ
name_text name = if nat_lt 256 (length name) then shown (take 256 name) ++ more_words (length name - 256) else shown name

-- a line that says how many more there are, behind that label
abbrev pub rest_line : List ℕ → ℕ → List ℕ
rest_line label n = label ++ (more_words n ++ 10 ∷ [])

-- the same if more than that many are shown
abbrev pub rest_after : List ℕ → ℕ → ℕ → List ℕ
rest_after label most n = if nat_lt most n then rest_line label (n - most) else []

-- the fields by which a file belongs to another machine
abbrev pub is_of_another_machine : List ℕ → Bool
is_of_another_machine name = bytes_eq name (codes "e_machine") || (bytes_eq name (codes "EI_CLASS") || bytes_eq name (codes "EI_DATA"))

-- why something is not shown
abbrev pub refusal_text : Reason → List ℕ
refusal_text r =
    if bytes_eq r.name (codes "Missing") then codes "not in the core"
    else (if bytes_eq r.name (codes "NoThread") then codes "the core has no thread"
    else (if bytes_eq r.name (codes "Magic") then codes "no ELF file"
    else (if is_of_another_machine r.name then codes "of another machine: " ++ named r.name r.index
    else codes "damaged: " ++ named r.name r.index)))

-- a line that says why something is not shown
abbrev pub refused_line : List ℕ → Reason → List ℕ
refused_line label r = label ++ (refusal_text r ++ 10 ∷ [])
