-- The reply to `process`: the state and the names of a process, from its first NT_PRPSINFO (core(5)).
use Rattle.std.specs.Prelude.{ℕ, List, [], ◌∷◌, ◌++◌, Result, codes, decimal, slice_index}
use Rattle.std.specs.Fmt.{signed_decimal}
use Rattle.core_notes.specs.Descriptor.{pr_nice, pr_flag, pr_uid, pr_gid, pr_fname, pr_psargs, process_pid, process_ppid, process_pgrp, process_sid}
use Rattle.core_notes.specs.Typed.{first_desc}
use Rattle.script_words.specs.Printing.{hexadecimal, shown}
use Rattle.image_replies.specs.Lines.{in_core, if_there}

-- `pid P ppid P pgrp P sid P`
abbrev pub numbers_line : List ℕ → List ℕ
numbers_line d =
    codes "pid " ++ (signed_decimal (process_pid d) ++ (codes " ppid " ++ (signed_decimal (process_ppid d)
    ++ (codes " pgrp " ++ (signed_decimal (process_pgrp d) ++ (codes " sid " ++ (signed_decimal (process_sid d) ++ 10 ∷ [])))))))

-- `uid U gid G`
abbrev pub owner_line : List ℕ → List ℕ
owner_line d = codes "uid " ++ (decimal (pr_uid d) ++ (codes " gid " ++ (decimal (pr_gid d) ++ 10 ∷ [])))

-- `state S SNAME zomb Z nice I flag h`, pr_state, pr_sname and pr_zomb being the first three bytes
abbrev pub state_line : List ℕ → List ℕ
state_line d =
    codes "state " ++ (decimal (slice_index d 0) ++ (32 ∷ [] ++ (shown (slice_index d 1 ∷ [])
    ++ (codes " zomb " ++ (decimal (slice_index d 2) ++ (codes " nice " ++ (signed_decimal (pr_nice d)
    ++ (codes " flag " ++ (hexadecimal (pr_flag d) ++ 10 ∷ [])))))))))

-- `name TEXT`
abbrev pub name_line : List ℕ → List ℕ
name_line d = codes "name " ++ (shown (pr_fname d) ++ 10 ∷ [])

-- `args TEXT`
abbrev pub words_line : List ℕ → List ℕ
words_line d = codes "args " ++ (shown (pr_psargs d) ++ 10 ∷ [])

abbrev pub process_lines : List ℕ → List ℕ
process_lines d = numbers_line d ++ (owner_line d ++ (state_line d ++ (name_line d ++ words_line d)))

abbrev pub process_answer : List ℕ → Result (List ℕ) (List ℕ)
process_answer b = in_core b (λ notes. if_there (first_desc 3 notes) process_lines)
