-- The registers of RISC-V 64 by number and by name (the RISC-V psABI, "Integer Register Convention"), and the places where a
-- thread's state holds them. Numbers 0 to 31 are x0 to x31, and 32 is pc.
use Rattle.std.specs.Prelude.{ℕ, ◌==◌, if◌then◌else◌, List, [], ◌∷◌, Option, None, Some, position, codes}
use Rattle.std.specs.Option.{option_or, option_map_or}
use Rattle.std.specs.Str.{bytes_eq}
use Rattle.core_notes.specs.Descriptor.{pr_reg}

-- the names in the psABI, by number
abbrev pub abi_names : List (List ℕ)
abi_names =
    codes "zero" ∷ codes "ra" ∷ codes "sp" ∷ codes "gp" ∷ codes "tp" ∷ codes "t0" ∷ codes "t1" ∷ codes "t2"
    ∷ codes "s0" ∷ codes "s1" ∷ codes "a0" ∷ codes "a1" ∷ codes "a2" ∷ codes "a3" ∷ codes "a4" ∷ codes "a5"
    ∷ codes "a6" ∷ codes "a7" ∷ codes "s2" ∷ codes "s3" ∷ codes "s4" ∷ codes "s5" ∷ codes "s6" ∷ codes "s7"
    ∷ codes "s8" ∷ codes "s9" ∷ codes "s10" ∷ codes "s11" ∷ codes "t3" ∷ codes "t4" ∷ codes "t5" ∷ codes "t6"
    ∷ codes "pc" ∷ []

-- the plain names, by number
abbrev pub plain_names : List (List ℕ)
plain_names =
    codes "x0" ∷ codes "x1" ∷ codes "x2" ∷ codes "x3" ∷ codes "x4" ∷ codes "x5" ∷ codes "x6" ∷ codes "x7"
    ∷ codes "x8" ∷ codes "x9" ∷ codes "x10" ∷ codes "x11" ∷ codes "x12" ∷ codes "x13" ∷ codes "x14" ∷ codes "x15"
    ∷ codes "x16" ∷ codes "x17" ∷ codes "x18" ∷ codes "x19" ∷ codes "x20" ∷ codes "x21" ∷ codes "x22" ∷ codes "x23"
    ∷ codes "x24" ∷ codes "x25" ∷ codes "x26" ∷ codes "x27" ∷ codes "x28" ∷ codes "x29" ∷ codes "x30" ∷ codes "x31"
    ∷ []

abbrev pub place_of : List ℕ → List (List ℕ) → Option ℕ
place_of name names = position (λ n. bytes_eq n name) names

-- the register of a name: fp is s0
unfoldable pub register_named : List ℕ → Option ℕ
register_named name =
    if bytes_eq name (codes "fp") then Some 8 else option_or (place_of name abi_names) (place_of name plain_names)

-- the word of a thread's state that holds a register: x0 is not stored, pc is word 0
abbrev pub word_of : ℕ → Option ℕ
word_of number = if number == 0 then None else (if number == 32 then Some 0 else Some number)

-- and the register that a word holds
abbrev pub number_of_word : ℕ → ℕ
number_of_word word = if word == 0 then 32 else word

-- a register in a thread's state: x0 is zero
abbrev pub register_in : List ℕ → ℕ → ℕ
register_in desc number = option_map_or (pr_reg desc) (word_of number) 0
