-- The reply to `signal`: the signal that a process met, from its first NT_SIGINFO (sigaction(2), signal(7)).
use Rattle.std.specs.Prelude.{ℕ, ℤ, List, [], ◌∷◌, ◌++◌, Option, None, Some, Result, codes, decimal}
use Rattle.std.specs.Fmt.{signed_decimal}
use Rattle.core_notes.specs.Descriptor.{si_signo, si_errno, si_code, si_pid, si_uid, si_addr}
use Rattle.core_notes.specs.Typed.{first_desc}
use Rattle.thread_regs.specs.SignalNames.{name_of_signal}
use Rattle.script_words.specs.Printing.{hexadecimal}
use Rattle.image_replies.specs.Lines.{in_core, if_there}

-- a signal's name without SIG, else `-`
abbrev pub name_or_dash : Option (List ℕ) → List ℕ
name_or_dash None = codes "-"
name_or_dash (Some name) = name

-- `signo S NAME errno E code C`
abbrev pub cause_line : List ℕ → List ℕ
cause_line d =
    codes "signo " ++ (signed_decimal (si_signo d) ++ (32 ∷ [] ++ (name_or_dash (name_of_signal (si_signo d))
    ++ (codes " errno " ++ (signed_decimal (si_errno d) ++ (codes " code " ++ (signed_decimal (si_code d) ++ 10 ∷ [])))))))

-- `pid P uid U`, if the core gives the sender
abbrev pub sender_line : Option ℤ → Option ℕ → List ℕ
sender_line None user = []
sender_line (Some process) None = []
sender_line (Some process) (Some user) =
    codes "pid " ++ (signed_decimal process ++ (codes " uid " ++ (decimal user ++ 10 ∷ [])))

-- `addr h`, if the core gives an address
abbrev pub address_line : Option ℕ → List ℕ
address_line None = []
address_line (Some address) = codes "addr " ++ (hexadecimal address ++ 10 ∷ [])

abbrev pub signal_lines : List ℕ → List ℕ
signal_lines d = cause_line d ++ (sender_line (si_pid d) (si_uid d) ++ address_line (si_addr d))

abbrev pub signal_answer : List ℕ → Result (List ℕ) (List ℕ)
signal_answer b = in_core b (λ notes. if_there (first_desc 0x53494749 notes) signal_lines)
