-- The counters of outcomes, their names and their order.
use Rattle.std.specs.Prelude.{ℕ, ◌+◌, List, [], ◌∷◌, ◌++◌, Option, None, Some, codes, if◌then◌else◌}
use Rattle.std.specs.Str.{bytes_eq}
use Rattle.handler_files.specs.declared.counters.Counter.{Counter}
use Rattle.handler_files.specs.declared.counters.Counter.TheVariants.{Stored, Cut, Kept, Dropped, Lost}
use Rattle.handler_files.specs.declared.reasons.Reason.{Reason}
use Rattle.handler_files.specs.declared.reasons.Reason.TheVariants.{Busy, File, Disk, Stopped, Damaged, NotAnArchive, UnknownVersion, OldVersion, SpaceFull, JournalFull, NumbersSpent, OutOfMemory, TooLong, Short, Burst, Limit, NameTaken, NulByte, Empty, BadLine, Other}

-- the reason that the log has as this word
abbrev pub reason_of : List ℕ → Reason
reason_of word =
    if bytes_eq word (codes "Busy") then Busy
    else (if bytes_eq word (codes "File") then File
    else (if bytes_eq word (codes "Disk") then Disk
    else (if bytes_eq word (codes "Stopped") then Stopped
    else (if bytes_eq word (codes "Damaged") then Damaged
    else (if bytes_eq word (codes "NotAnArchive") then NotAnArchive
    else (if bytes_eq word (codes "UnknownVersion") then UnknownVersion
    else (if bytes_eq word (codes "OldVersion") then OldVersion
    else (if bytes_eq word (codes "SpaceFull") then SpaceFull
    else (if bytes_eq word (codes "JournalFull") then JournalFull
    else (if bytes_eq word (codes "NumbersSpent") then NumbersSpent
    else (if bytes_eq word (codes "OutOfMemory") then OutOfMemory
    else (if bytes_eq word (codes "TooLong") then TooLong
    else (if bytes_eq word (codes "Short") then Short
    else (if bytes_eq word (codes "Burst") then Burst
    else (if bytes_eq word (codes "Limit") then Limit
    else (if bytes_eq word (codes "NameTaken") then NameTaken
    else (if bytes_eq word (codes "NulByte") then NulByte
    else (if bytes_eq word (codes "Empty") then Empty
    else (if bytes_eq word (codes "BadLine") then BadLine
    else Other)))))))))))))))))))

-- the word that the log has
abbrev pub reason_word : Reason → List ℕ
reason_word Busy = codes "Busy"
reason_word File = codes "File"
reason_word Disk = codes "Disk"
reason_word Stopped = codes "Stopped"
reason_word Damaged = codes "Damaged"
reason_word NotAnArchive = codes "NotAnArchive"
reason_word UnknownVersion = codes "UnknownVersion"
reason_word OldVersion = codes "OldVersion"
reason_word SpaceFull = codes "SpaceFull"
reason_word JournalFull = codes "JournalFull"
reason_word NumbersSpent = codes "NumbersSpent"
reason_word OutOfMemory = codes "OutOfMemory"
reason_word TooLong = codes "TooLong"
reason_word Short = codes "Short"
reason_word Burst = codes "Burst"
reason_word Limit = codes "Limit"
reason_word NameTaken = codes "NameTaken"
reason_word NulByte = codes "NulByte"
reason_word Empty = codes "Empty"
reason_word BadLine = codes "BadLine"
reason_word Other = codes "Other"

-- the outcome of the core, in a word
abbrev pub outcome_word : Counter → List ℕ
outcome_word Stored = codes "stored"
outcome_word Cut = codes "cut"
outcome_word Kept = codes "kept"
outcome_word Dropped = codes "dropped"
outcome_word (Lost reason) = codes "lost"

-- the reason, if it is lost
abbrev pub reason_if_lost : Counter → Option Reason
reason_if_lost (Lost reason) = Some reason
reason_if_lost _ = None

abbrev pub reason_behind : Option Reason → List ℕ
reason_behind None = []
reason_behind (Some reason) = codes " " ++ reason_word reason

-- the name of a counter: a lost core's has the reason too
unfoldable pub name : Counter → List ℕ
name counter = outcome_word counter ++ reason_behind (reason_if_lost counter)

-- all counters, in the order of the file
unfoldable pub counters : List Counter
counters = Stored ∷ Cut ∷ Kept ∷ Dropped ∷ Lost Busy ∷ Lost File ∷ Lost Disk ∷ Lost Stopped ∷ Lost Damaged ∷ Lost NotAnArchive ∷ Lost UnknownVersion ∷ Lost OldVersion ∷ Lost SpaceFull ∷ Lost JournalFull ∷ Lost NumbersSpent ∷ Lost OutOfMemory ∷ Lost TooLong ∷ Lost Short ∷ Lost Burst ∷ Lost Limit ∷ Lost NameTaken ∷ Lost NulByte ∷ Lost Empty ∷ Lost BadLine ∷ Lost Other ∷ []

-- the place of a counter in that order
abbrev pub reason_place : Reason → ℕ
reason_place Busy = 4
reason_place File = 5
reason_place Disk = 6
reason_place Stopped = 7
reason_place Damaged = 8
reason_place NotAnArchive = 9
reason_place UnknownVersion = 10
reason_place OldVersion = 11
reason_place SpaceFull = 12
reason_place JournalFull = 13
reason_place NumbersSpent = 14
reason_place OutOfMemory = 15
reason_place TooLong = 16
reason_place Short = 17
reason_place Burst = 18
reason_place Limit = 19
reason_place NameTaken = 20
reason_place NulByte = 21
reason_place Empty = 22
reason_place BadLine = 23
reason_place Other = 24

abbrev pub place : Counter → ℕ
place Stored = 0
place Cut = 1
place Kept = 2
place Dropped = 3
place (Lost reason) = reason_place reason
