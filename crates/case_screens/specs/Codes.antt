-- The codes of signals (sigaction(2), si_code), by the numbers of signal(7).
use Rattle.std.specs.Prelude.{ℕ, ℤ, pos, negsuc, if◌then◌else◌, List, [], Option, None, Some, codes}
use Rattle.std.specs.Ordering.{int_eq}

-- a code: its name, and its meaning, before the address and after it
pub record CodeView : Type 0 where
  pub name : List ℕ
  pub before : List ℕ
  pub after : List ℕ

abbrev pub code_view : List ℕ → List ℕ → List ℕ → Option CodeView
code_view name before after = Some (record { name = name; before = before; after = after })

abbrev pub segv_code : ℤ → Option CodeView
segv_code code =
    if int_eq code (pos 1) then code_view (codes "SEGV_MAPERR") (codes "address ") (codes " is not mapped")
    else (if int_eq code (pos 2) then code_view (codes "SEGV_ACCERR") (codes "no permission for address ") []
    else None)

abbrev pub bus_code : ℤ → Option CodeView
bus_code code =
    if int_eq code (pos 1) then code_view (codes "BUS_ADRALN") (codes "address ") (codes " is misaligned")
    else (if int_eq code (pos 2) then code_view (codes "BUS_ADRERR") (codes "nothing is at address ") []
    else (if int_eq code (pos 3) then code_view (codes "BUS_OBJERR") (codes "a hardware error at address ") []
    else None))

abbrev pub ill_code : ℤ → Option CodeView
ill_code code =
    if int_eq code (pos 1) then code_view (codes "ILL_ILLOPC") (codes "an illegal opcode at ") []
    else (if int_eq code (pos 2) then code_view (codes "ILL_ILLOPN") (codes "an illegal operand at ") []
    else (if int_eq code (pos 4) then code_view (codes "ILL_ILLTRP") (codes "an illegal trap at ") []
    else (if int_eq code (pos 5) then code_view (codes "ILL_PRVOPC") (codes "a privileged opcode at ") []
    else None)))

abbrev pub fpe_code : ℤ → Option CodeView
fpe_code code =
    if int_eq code (pos 1) then code_view (codes "FPE_INTDIV") (codes "an integer divided by zero at ") []
    else (if int_eq code (pos 2) then code_view (codes "FPE_INTOVF") (codes "an integer overflow at ") []
    else (if int_eq code (pos 3) then code_view (codes "FPE_FLTDIV") (codes "a number divided by zero at ") []
    else (if int_eq code (pos 7) then code_view (codes "FPE_FLTINV") (codes "an invalid operation at ") []
    else None)))

abbrev pub trap_code : ℤ → Option CodeView
trap_code code =
    if int_eq code (pos 1) then code_view (codes "TRAP_BRKPT") (codes "a breakpoint at ") []
    else (if int_eq code (pos 2) then code_view (codes "TRAP_TRACE") (codes "a trace step at ") []
    else None)

-- of SIGSEGV, SIGBUS, SIGILL, SIGFPE and SIGTRAP
abbrev pub code_of_signal : ℤ → ℤ → Option CodeView
code_of_signal signo code =
    if int_eq signo (pos 11) then segv_code code
    else (if int_eq signo (pos 7) then bus_code code
    else (if int_eq signo (pos 4) then ill_code code
    else (if int_eq signo (pos 8) then fpe_code code
    else (if int_eq signo (pos 5) then trap_code code
    else None))))

-- the codes that any signal may have
abbrev pub sent_code : ℤ → Option (List ℕ)
sent_code code =
    if int_eq code (pos 0) then Some (codes "SI_USER")
    else (if int_eq code (negsuc 0) then Some (codes "SI_QUEUE")
    else (if int_eq code (negsuc 5) then Some (codes "SI_TKILL")
    else (if int_eq code (pos 128) then Some (codes "SI_KERNEL")
    else None)))
