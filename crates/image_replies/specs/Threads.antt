-- The replies to `threads` and `regs`: the threads of a core, in the order of their NT_PRSTATUS notes (core(5)), and the
-- registers of one (the RISC-V psABI, "Integer Register Convention").
use Rattle.std.specs.Prelude.{ℕ, List, [], ◌∷◌, ◌++◌, Option, None, Some, Result, Ok, Err, codes, slice_get}
use Rattle.std.specs.Fmt.{signed_decimal}
use Rattle.std.specs.List.{flat_map, range_with_len}
use Rattle.core_notes.specs.Descriptor.{pr_cursig, pr_reg, status_pid}
use Rattle.core_notes.specs.Typed.{all_descs}
use Rattle.thread_regs.specs.Register.{abi_names, number_of_word}
use Rattle.script_words.specs.Printing.{hexadecimal}
use Rattle.image_replies.specs.Lines.{number_word, numbered_lines, in_core}

-- `I TID SIGNAL PC`, of a thread's state
abbrev pub thread_line : ℕ → List ℕ → List ℕ
thread_line i d =
    number_word i ++ (signed_decimal (status_pid d) ++ (32 ∷ [] ++ (signed_decimal (pr_cursig d) ++ (32 ∷ []
    ++ (hexadecimal (pr_reg d 0) ++ 10 ∷ [])))))

abbrev pub thread_lines : List (List ℕ) → List ℕ
thread_lines descs = numbered_lines thread_line 0 descs

abbrev pub threads_answer : List ℕ → Result (List ℕ) (List ℕ)
threads_answer b = in_core b (λ notes. Ok (thread_lines (all_descs 1 notes)))

abbrev pub name_or_nothing : Option (List ℕ) → List ℕ
name_or_nothing None = []
name_or_nothing (Some name) = name

-- the name in the psABI of the register that a word of a thread's state holds
unfoldable pub register_name : ℕ → List ℕ
register_name word = name_or_nothing (slice_get abi_names (number_of_word word))

-- `NAME h`
abbrev pub register_line : List ℕ → ℕ → List ℕ
register_line d word = register_name word ++ (32 ∷ [] ++ (hexadecimal (pr_reg d word) ++ 10 ∷ []))

-- a line for each of n words from one on
unfoldable pub register_lines_from : List ℕ → ℕ → ℕ → List ℕ
register_lines_from d word n = flat_map (register_line d) (range_with_len word n)

-- the 32 words of pr_reg, in order
abbrev pub register_lines : List ℕ → List ℕ
register_lines d = register_lines_from d 0 32

-- the registers of a thread, if it is there
abbrev pub registers_of : Option (List ℕ) → Result (List ℕ) (List ℕ)
registers_of None = Err (codes "NoThread")
registers_of (Some d) = Ok (register_lines d)

abbrev pub regs_answer : List ℕ → ℕ → Result (List ℕ) (List ℕ)
regs_answer b thread = in_core b (λ notes. registers_of (slice_get (all_descs 1 notes) thread))
