-- The notes for people although the program ends with status 0.
use Rattle.std.specs.Prelude.{◌≡◌, ◌⊎◌, ℕ, Bool, true, false, List, [], ◌∷◌, ◌++◌, String, codes, string_bytes, if◌then◌else◌}
use Rattle.std.specs.List.{list_any}
use Rattle.std.specs.Io.KnownBytes.{Appends}
use Rattle.std.specs.Str.{bytes_eq}
use Rattle.script_streams.specs.declared.streams.Output as output

-- the command makes a file, or a directory
abbrev pub makes_file : List ℕ → Bool
makes_file command =
    if bytes_eq command (codes "format") then true else
    if bytes_eq command (codes "extract") then true else
    if bytes_eq command (codes "copy") then true else
    if bytes_eq command (codes "resize") then true else
    if bytes_eq command (codes "salvage") then true else bytes_eq command (codes "unpack")

-- the command looks whether an archive is sound
abbrev pub checks_archive : List ℕ → Bool
checks_archive command = if bytes_eq command (codes "check") then true else bytes_eq command (codes "handle")

-- the command shows times
abbrev pub shows_times : List ℕ → Bool
shows_times command =
    if bytes_eq command (codes "list") then true else
    if bytes_eq command (codes "search") then true else
    if bytes_eq command (codes "groups") then true else bytes_eq command (codes "info")

-- the subject of a note, if there is one, by the command: the case that is stored,
-- the archive that is looked at, the directory of the file that is made, or the zone of the times that are shown
abbrev pub subject_of : List ℕ → List ℕ
subject_of command =
    if bytes_eq command (codes "store") then codes "case " else
    if checks_archive command then codes "archive " else
    if makes_file command then codes "directory " else
    if shows_times command then codes "time zone " else []

abbrev pub subject : {Z : Type 0} → List (String Z) → List ℕ
subject [] = []
subject (word ∷ words) = subject_of (string_bytes word)

-- the words ask `handle` to check
abbrev pub asks_to_check : {Z : Type 0} → List (String Z) → Bool
asks_to_check words = list_any (λ word. bytes_eq (string_bytes word) (codes "--check")) words

-- the words ask for the times of this machine's zone
abbrev pub asks_for_local : {Z : Type 0} → List (String Z) → Bool
asks_for_local words = list_any (λ word. bytes_eq (string_bytes word) (codes "--local")) words

-- nothing is noted of other commands, nor of a core that `handle` stores
abbrev pub may_note_of : {Z : Type 0} → List ℕ → List (String Z) → Bool
may_note_of command words =
    if bytes_eq command (codes "store") then true else
    if bytes_eq command (codes "check") then true else
    if bytes_eq command (codes "handle") then asks_to_check words else
    if shows_times command then asks_for_local words else makes_file command

abbrev pub may_note : {Z : Type 0} → List (String Z) → Bool
may_note [] = false
may_note (word ∷ words) = may_note_of (string_bytes word) (word ∷ words)

-- the subject of a second note, if there is one, by the command: the file system of the archive that is made or looked at, the spool of the
-- case that is stored, or the case that is unpacked; the others have no second note
abbrev pub second_subject_of : List ℕ → List ℕ
second_subject_of command =
    if bytes_eq command (codes "format") then codes "file system " else
    if bytes_eq command (codes "check") then codes "file system " else
    if bytes_eq command (codes "store") then codes "spool " else
    if bytes_eq command (codes "unpack") then codes "case " else []

abbrev pub second_subject : {Z : Type 0} → List (String Z) → List ℕ
second_subject [] = []
second_subject (word ∷ words) = second_subject_of (string_bytes word)

-- the line of a note
abbrev pub note_line : List ℕ → List ℕ → List ℕ
note_line on note = ((codes "corekeep: " ++ on) ++ note) ++ 10 ∷ []

-- Nothing is written, or the line of a note on this, or a front of it.
abbrev pub IsQuietButForANote : List ℕ → {E : Type 0} → output.Ghosts E → E → E → Type 0
IsQuietButForANote on {E} g old new =
    (new ≡ old) ⊎ ((note : List ℕ) × (front : List ℕ) × (rest : List ℕ) × (note_line on note ≡ front ++ rest) × Appends (g.taken old) (g.taken new) front)

-- The same, and then the same of a note on this, unless a second note is on nothing.
abbrev pub IsQuietButForNotes : List ℕ → List ℕ → {E : Type 0} → output.Ghosts E → E → E → Type 0
IsQuietButForNotes on second {E} g old new =
    (between : E) × IsQuietButForANote on g old between × IsQuietButForANote second g between new × (second ≡ [] → new ≡ between)

-- The same, whatever the words are.
abbrev pub IsQuietButForSomeNotes : {E : Type 0} → output.Ghosts E → E → E → Type 0
IsQuietButForSomeNotes {E} g old new = (command : List ℕ) × IsQuietButForNotes (subject_of command) (second_subject_of command) g old new
