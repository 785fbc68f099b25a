-- The process of a core, by its first NT_PRPSINFO (elf_prpsinfo, core(5)).
use Rattle.std.specs.Prelude.{ℕ, List, [], ◌∷◌, ◌++◌, Result, Ok, Err, codes, decimal}
use Rattle.std.specs.Fmt.{signed_decimal}
use Rattle.core_notes.specs.Descriptor.{pr_fname, pr_psargs, pr_uid, process_pid, process_ppid}
use Rattle.case_screens.specs.Reasons.{Reason}
use Rattle.case_screens.specs.Texts.{plain_text, refused_line}

-- a command line; or the name, if that is empty
abbrev pub command_text : List ℕ → List ℕ → List ℕ
command_text [] fname = plain_text fname
command_text (c ∷ cs) fname = plain_text (c ∷ cs)

abbrev pub process_line : List ℕ → List ℕ
process_line d =
    codes "process   " ++ (signed_decimal (process_pid d) ++ (codes " (parent " ++ (signed_decimal (process_ppid d) ++ (codes "), user "
    ++ (decimal (pr_uid d) ++ (codes ", " ++ (command_text (pr_psargs d) (pr_fname d) ++ 10 ∷ [])))))))

-- by its descriptor, or why there is no descriptor
abbrev pub process_text : Result (List ℕ) Reason → List ℕ
process_text (Ok d) = process_line d
process_text (Err r) = refused_line (codes "process   ") r
