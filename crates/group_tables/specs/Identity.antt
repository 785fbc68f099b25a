-- The name of a group, which keepers agree on that have the same executables.
use Rattle.std.specs.Prelude.{ℕ, Bool, List, [], ◌∷◌, ◌++◌, take, codes, if◌then◌else◌}
use Rattle.std.specs.List.{flat_map}
use Rattle.script_words.specs.Hex.{hex_of}
use Rattle.script_words.specs.Printing.{shown}
use Rattle.sha2.specs.Sha256.{sha256}
use Rattle.case_tables.specs.Cells.{signal_text}
use Rattle.crash_signatures.specs.Words.{WordSaid}
use Rattle.group_tables.specs.Values.{CrashSaid}
use Rattle.group_tables.specs.Words.{word_text}

abbrev pub word_lines : List WordSaid → List ℕ
word_lines ws = flat_map (λ w. word_text w ++ 10 ∷ []) ws

abbrev pub missing_line : Bool → List ℕ
missing_line is_missing = if is_missing then codes "..\n" else []

-- The lines of a crash: its program, its signal, each word of its signature, and two dots if frames are missing; each as the table
-- prints it.
abbrev pub crash_lines : CrashSaid → List ℕ
crash_lines c =
    shown c.program ++ (10 ∷ [] ++ (signal_text c.signal ++ (10 ∷ []
    ++ (word_lines c.signature.words ++ missing_line c.signature.is_missing))))

-- the first 16 hexadecimal digits of their SHA-256 (FIPS 180-4)
abbrev pub group_name : CrashSaid → List ℕ
group_name c = hex_of (take 8 (sha256 (crash_lines c)))
