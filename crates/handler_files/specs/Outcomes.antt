-- The outcome of a core, by the reason of its refusal.
use Rattle.std.specs.Prelude.{ℕ, Bool, ◌||◌, List, codes, if◌then◌else◌}
use Rattle.std.specs.Str.{bytes_eq}
use Rattle.handler_files.specs.declared.outcomes.Outcome.{Outcome}
use Rattle.handler_files.specs.declared.outcomes.Outcome.TheVariants.{Busy, File, Disk, Damaged, NotAnArchive, Version, Full, Spent, NameTaken, OutOfMemory, Unknown, TooLong, Short, TooLarge, Burst, Limit, Name}

-- the archive is full: while no case may go, or whichever cases go
abbrev pub full : Bool → Outcome
full makes_room = if makes_room then TooLarge else Full

-- the reason's first word is looked up, and one that isn't here is unknown
abbrev pub outcome_of : List ℕ → Bool → Outcome
outcome_of reason makes_room =
    if bytes_eq reason (codes "Busy") then Busy
    else (if bytes_eq reason (codes "File") then File
    else (if bytes_eq reason (codes "Disk") || bytes_eq reason (codes "Stopped") then Disk
    else (if bytes_eq reason (codes "Damaged") then Damaged
    else (if bytes_eq reason (codes "NotAnArchive") then NotAnArchive
    else (if bytes_eq reason (codes "UnknownVersion") || bytes_eq reason (codes "OldVersion") then Version
    else (if bytes_eq reason (codes "SpaceFull") || bytes_eq reason (codes "JournalFull") then full makes_room
    else (if bytes_eq reason (codes "NumbersSpent") then Spent
    else (if bytes_eq reason (codes "OutOfMemory") then OutOfMemory
    else (if bytes_eq reason (codes "TooLong") then TooLong
    else (if bytes_eq reason (codes "Short") then Short
    else (if bytes_eq reason (codes "Burst") then Burst
    else (if bytes_eq reason (codes "Limit") then Limit
    else (if bytes_eq reason (codes "NameTaken") then NameTaken
    else (if bytes_eq reason (codes "NulByte") || (bytes_eq reason (codes "Empty") || bytes_eq reason (codes "BadLine")) then Name
    else Unknown))))))))))))))
