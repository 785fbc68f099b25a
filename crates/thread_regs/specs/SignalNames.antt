-- The names of Linux's signals 1 to 31 (signal(7)), without SIG.
use Rattle.std.specs.Prelude.{ℕ, zero, suc, List, [], ◌∷◌, Option, None, ℤ, pos, negsuc, codes, slice_get}

abbrev pub signal_names : List (List ℕ)
signal_names =
    codes "HUP" ∷ codes "INT" ∷ codes "QUIT" ∷ codes "ILL" ∷ codes "TRAP" ∷ codes "ABRT" ∷ codes "BUS" ∷ codes "FPE"
    ∷ codes "KILL" ∷ codes "USR1" ∷ codes "SEGV" ∷ codes "USR2" ∷ codes "PIPE" ∷ codes "ALRM" ∷ codes "TERM"
    ∷ codes "STKFLT" ∷ codes "CHLD" ∷ codes "CONT" ∷ codes "STOP" ∷ codes "TSTP" ∷ codes "TTIN" ∷ codes "TTOU"
    ∷ codes "URG" ∷ codes "XCPU" ∷ codes "XFSZ" ∷ codes "VTALRM" ∷ codes "PROF" ∷ codes "WINCH" ∷ codes "IO"
    ∷ codes "PWR" ∷ codes "SYS" ∷ []

-- signal 1 is the first of them
abbrev pub numbered_name : ℕ → Option (List ℕ)
numbered_name zero = None
numbered_name (suc n) = slice_get signal_names n

abbrev pub name_of_signal : ℤ → Option (List ℕ)
name_of_signal (pos n) = numbered_name n
name_of_signal (negsuc n) = None
