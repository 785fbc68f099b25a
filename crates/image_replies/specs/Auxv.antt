-- The reply to `auxv`: the auxiliary vector of a process (getauxval(3)), from its first NT_AUXV, up to AT_NULL.
use Rattle.std.specs.Prelude.{ℕ, ◌==◌, List, [], ◌∷◌, ◌++◌, Option, None, Some, Result, codes, decimal, if◌then◌else◌}
use Rattle.std.specs.List.{flat_map}
use Rattle.core_notes.specs.Descriptor.{pairs_of}
use Rattle.core_notes.specs.Typed.{first_desc}
use Rattle.core_notes.specs.declared.auxiliary.AuxvPair.{AuxvPair}
use Rattle.script_words.specs.Printing.{hexadecimal}
use Rattle.image_replies.specs.Lines.{in_core, if_there}

-- the types that have a name, without AT_
abbrev pub auxv_names : List (ℕ × List ℕ)
auxv_names =
    (3, codes "PHDR") ∷ (4, codes "PHENT") ∷ (5, codes "PHNUM") ∷ (6, codes "PAGESZ") ∷ (7, codes "BASE")
    ∷ (8, codes "FLAGS") ∷ (9, codes "ENTRY") ∷ (11, codes "UID") ∷ (12, codes "EUID") ∷ (13, codes "GID")
    ∷ (14, codes "EGID") ∷ (15, codes "PLATFORM") ∷ (16, codes "HWCAP") ∷ (17, codes "CLKTCK") ∷ (23, codes "SECURE")
    ∷ (25, codes "RANDOM") ∷ (26, codes "HWCAP2") ∷ (31, codes "EXECFN") ∷ (33, codes "SYSINFO_EHDR") ∷ []

-- the name of a type in a table
abbrev pub name_beside : ℕ → List (ℕ × List ℕ) → Option (List ℕ)
name_beside kind [] = None
name_beside kind (row ∷ rows) = if row.0 == kind then Some row.1 else name_beside kind rows

unfoldable pub auxv_name : ℕ → Option (List ℕ)
auxv_name kind = name_beside kind auxv_names

-- a name, else the number
abbrev pub name_or_number : Option (List ℕ) → ℕ → List ℕ
name_or_number None number = decimal number
name_or_number (Some name) number = name

-- `NAME h`, or the type's number for NAME
abbrev pub pair_line : AuxvPair → List ℕ
pair_line pair = name_or_number (auxv_name pair.kind) pair.kind ++ (32 ∷ [] ++ (hexadecimal pair.value ++ 10 ∷ []))

abbrev pub pair_lines : List ℕ → List ℕ
pair_lines d = flat_map pair_line (pairs_of d)

abbrev pub auxv_answer : List ℕ → Result (List ℕ) (List ℕ)
auxv_answer b = in_core b (λ notes. if_there (first_desc 6 notes) pair_lines)
