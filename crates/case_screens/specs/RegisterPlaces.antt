-- Addresses by registers: the names are those of the RISC-V psABI, "Integer Register Convention".
use Rattle.std.specs.Prelude.{ℕ, ◌+◌, ◌%◌, ◌^◌, ◌==◌, List, drop, take, position, Option, None, Some}
use Rattle.std.specs.Option.{option_and_then, option_map}
use Rattle.script_words.specs.Number.{number_of}
use Rattle.thread_regs.specs.Register.{register_in, register_named}

-- the number of a register, and how many bytes past the address in it
pub record Place : Type 0 where
  pub register : ℕ
  pub past : ℕ

-- the place of the first plus sign in a word
abbrev pub plus_in : List ℕ → Option ℕ
plus_in word = position (λ c. c == 43) word

-- a register, and a number behind it
abbrev pub past_register : Option ℕ → ℕ → Option Place
past_register None past = None
past_register (Some register) past = Some (record { register = register; past = past })

-- the same, if the number is one
abbrev pub past_by : Option ℕ → Option ℕ → Option Place
past_by register None = None
past_by register (Some past) = past_register register past

-- by the place of the plus sign
abbrev pub place_by : Option ℕ → List ℕ → Option Place
place_by None word = past_register (register_named word) 0
place_by (Some at) word = past_by (register_named (take at word)) (number_of (drop 1 (drop at word)))

-- `REG`, or `REG+N`
abbrev pub place_in : List ℕ → Option Place
place_in word = place_by (plus_in word) word

-- the address, by a thread's state: past the last one it goes on with 0
abbrev pub address_in : List ℕ → Place → ℕ
address_in desc place = (register_in desc place.register + place.past) % 2 ^ 64
