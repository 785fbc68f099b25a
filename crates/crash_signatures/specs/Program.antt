-- The program that crashed.
use Rattle.std.specs.Prelude.{ℕ, Bool, false, List, [], ◌∷◌, ◌++◌, take, Option, None, Some, option_map, if◌then◌else◌}
use Rattle.std.specs.Char.{is_ascii_digit}
use Rattle.crash_signatures.specs.Names.{without_deleted}

-- the facts about the program that a core and its case give
pub record ProgramSaid : Type 0 where
  pub entry : Option (List ℕ)
  pub process : Option (List ℕ)
  pub template : Option (List ℕ)
  pub case_name : List ℕ

-- a byte of a name: `#` for the first digit of a number, and nothing for the others
abbrev pub shown : Bool → ℕ → List ℕ
shown is_behind b = if is_ascii_digit b then (if is_behind then [] else 35 ∷ []) else b ∷ []

-- a name with `#` for each number in it, by whether a digit is before it
abbrev pub without_numbers : Bool → List ℕ → List ℕ
without_numbers is_behind [] = []
without_numbers is_behind (b ∷ bs) = shown is_behind b ++ without_numbers (is_ascii_digit b) bs

-- the first name, if it is known and not empty, and else the other
abbrev pub or_other : Option (List ℕ) → Option (List ℕ) → Option (List ℕ)
or_other None other = other
or_other (Some []) other = other
or_other (Some (b ∷ bs)) other = Some (b ∷ bs)

abbrev pub process_name : ProgramSaid → Option (List ℕ)
process_name f = or_other f.process (or_other f.template None)

-- the path at the entry, else the process's name, else the program in the case's name
abbrev pub known_name : ProgramSaid → Option (List ℕ)
known_name f = or_other (option_map without_deleted f.entry) (process_name f)

abbrev pub or_case : List ℕ → Option (List ℕ) → List ℕ
or_case name None = without_numbers false (take 256 name)
or_case name (Some known) = known

-- the program of a core
abbrev pub program_of : ProgramSaid → List ℕ
program_of f = or_case f.case_name (known_name f)
