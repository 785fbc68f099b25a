-- The bytes of an archive, with the first ones replaced.
use Rattle.std.specs.Prelude.{ℕ, Bool, true, false, List, ◌++◌, drop, length}

abbrev pub fronted : List ℕ → List ℕ → List ℕ
fronted front b = front ++ drop (length front) b

-- the byte of a flag
abbrev pub flag_byte : Bool → ℕ
flag_byte true = 1
flag_byte false = 0
