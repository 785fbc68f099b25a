-- The screen of an archive.
use Rattle.std.specs.Prelude.{ℕ, ◌==◌, if◌then◌else◌, List, [], ◌∷◌, ◌++◌, codes, decimal}
use Rattle.case_tables.specs.Sizes.{size_text}
use Rattle.case_tables.specs.Times.{time_in}
use Rattle.case_tables.specs.declared.zones.Zone.{Zone}
use Rattle.case_tables.specs.DayBars.{days_text}
use Rattle.case_tables.specs.declared.archive_screen.ArchiveFacts.{ArchiveFacts}

-- a number of things that a word names: the word has an s unless there is one
abbrev pub counted_text : ℕ → List ℕ → List ℕ
counted_text count word = decimal count ++ (word ++ (if count == 1 then [] else codes "s"))

abbrev pub layout_text : ArchiveFacts → List ℕ
layout_text a = codes "layout    version " ++ (decimal a.version ++ (codes ", " ++ (size_text a.length ++ 10 ∷ [])))

abbrev pub data_text : ArchiveFacts → List ℕ
data_text a = codes "data      " ++ (counted_text a.data_blocks (codes " block") ++ (codes " of 4096 bytes, " ++ (decimal a.free_blocks ++ (codes " free" ++ 10 ∷ []))))

abbrev pub journal_text : ArchiveFacts → List ℕ
journal_text a = codes "journal   " ++ (decimal a.used ++ (codes " of " ++ (decimal a.half ++ (codes " bytes of a half in use" ++ 10 ∷ []))))

abbrev pub cases_text : ArchiveFacts → List ℕ
cases_text a =
    codes "cases     " ++ (counted_text a.cores (codes " core") ++ (codes ", " ++ (counted_text a.executables (codes " executable") ++ (codes ", "
    ++ (decimal a.pinned ++ (codes " pinned" ++ 10 ∷ []))))))

abbrev pub times_text : Zone → ArchiveFacts → List ℕ
times_text zone a = codes "cores     oldest " ++ (time_in zone a.oldest ++ (codes ", newest " ++ (time_in zone a.newest ++ 10 ∷ [])))

abbrev pub numbers_text : ArchiveFacts → List ℕ
numbers_text a = codes "numbers   " ++ (decimal a.last_number ++ (codes " is the highest that was given" ++ 10 ∷ []))

abbrev pub archive_text : Zone → ArchiveFacts → List ℕ
archive_text zone a = layout_text a ++ (data_text a ++ (journal_text a ++ (cases_text a ++ (times_text zone a ++ (numbers_text a ++ days_text a.newest a.days)))))
