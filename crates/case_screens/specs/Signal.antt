-- The signal that ended a process, by its first NT_SIGINFO (sigaction(2), signal(7)).
use Rattle.std.specs.Prelude.{ℕ, ℤ, List, [], ◌∷◌, ◌++◌, Option, None, Some, Result, Ok, Err, codes, decimal}
use Rattle.std.specs.Fmt.{signed_decimal}
use Rattle.core_notes.specs.Descriptor.{si_addr, si_code, si_pid, si_signo, si_uid}
use Rattle.script_words.specs.Printing.{hexadecimal}
use Rattle.thread_regs.specs.SignalNames.{name_of_signal}
use Rattle.case_tables.specs.Cells.{signal_text}
use Rattle.case_screens.specs.Codes.{CodeView, code_of_signal, sent_code}
use Rattle.case_screens.specs.Reasons.{Reason}
use Rattle.case_screens.specs.Texts.{refusal_text}

-- a signal by its name, or by its number if it has no name
abbrev pub signal_word : Option (List ℕ) → ℤ → List ℕ
signal_word (Some name) signo = codes "SIG" ++ name
signal_word None signo = signed_decimal signo

-- who sent it
abbrev pub sender_text : Option ℤ → Option ℕ → List ℕ
sender_text None user = []
sender_text (Some process) None = []
sender_text (Some process) (Some user) = codes ", sent by process " ++ (signed_decimal process ++ (codes " of user " ++ decimal user))

-- the address that was met
abbrev pub met_text : Option ℕ → List ℕ
met_text None = []
met_text (Some address) = codes ", address " ++ hexadecimal address

-- a code that any signal may have, or its number
abbrev pub sent_word : Option (List ℕ) → ℤ → List ℕ
sent_word (Some name) code = name
sent_word None code = codes "code " ++ signed_decimal code

abbrev pub address_text : Option ℕ → List ℕ
address_text None = []
address_text (Some address) = hexadecimal address

-- a code of this signal, with the address; or a code that any signal may have, with who sent it, or the address
abbrev pub code_text : Option CodeView → List ℕ → List ℕ
code_text (Some c) d = c.name ++ (codes ": " ++ (c.before ++ (address_text (si_addr d) ++ c.after)))
code_text None d = sent_word (sent_code (si_code d)) (si_code d) ++ (sender_text (si_pid d) (si_uid d) ++ met_text (si_addr d))

abbrev pub cause_text : List ℕ → List ℕ
cause_text d = signal_word (name_of_signal (si_signo d)) (si_signo d) ++ (codes ", " ++ code_text (code_of_signal (si_signo d) (si_code d)) d)

-- by its descriptor; without one, by the facts of the case, and why
abbrev pub met_or_kept : ℕ → Result (List ℕ) Reason → List ℕ
met_or_kept signal (Ok d) = cause_text d
met_or_kept signal (Err r) = signal_text signal ++ (codes ", " ++ refusal_text r)

abbrev pub signal_line : ℕ → Result (List ℕ) Reason → List ℕ
signal_line signal r = codes "signal    " ++ (met_or_kept signal r ++ 10 ∷ [])
