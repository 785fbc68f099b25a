-- Which files stay in the spool after a core was to be stored.
use Rattle.handler_files.specs.declared.outcomes.Outcome.{Outcome}
use Rattle.handler_files.specs.declared.outcomes.Outcome.TheVariants.{Stored, Busy, File, Disk, Damaged, NotAnArchive, Version, Full, Spent, NameTaken, OutOfMemory, Unknown, TooLong, Short, TooLarge, Burst, Limit, Name}
use Rattle.handler_files.specs.declared.fate.Fate.{Fate}
use Rattle.handler_files.specs.declared.fate.Fate.TheVariants.{Stay, Go}

-- A core that is stored is removed, and a core that is refused for good too. One whose refusal may pass stays.
abbrev pub spools : Outcome → Fate
spools Stored = Go
spools Busy = Stay
spools File = Stay
spools Disk = Stay
spools Damaged = Stay
spools NotAnArchive = Stay
spools Version = Stay
spools Full = Stay
spools Spent = Stay
spools NameTaken = Stay
spools OutOfMemory = Stay
spools Unknown = Stay
spools TooLong = Go
spools Short = Go
spools TooLarge = Go
spools Burst = Go
spools Limit = Go
spools Name = Go

-- A refusal for good: its reason is in the core or in its words, and no archive takes it.
pub data NeverPasses : Outcome → Type 0 where
  too_long : NeverPasses TooLong
  short : NeverPasses Short
  too_large : NeverPasses TooLarge
  burst : NeverPasses Burst
  limit : NeverPasses Limit
  name : NeverPasses Name

-- A refusal that may pass: another process lets the archive go, or somebody mends it, makes room in it, or starts a newer program; or it is
-- stored under another name.
pub data MayPass : Outcome → Type 0 where
  busy : MayPass Busy
  file : MayPass File
  disk : MayPass Disk
  damaged : MayPass Damaged
  no_archive : MayPass NotAnArchive
  version : MayPass Version
  full : MayPass Full
  spent : MayPass Spent
  name_taken : MayPass NameTaken
  no_memory : MayPass OutOfMemory
  unknown : MayPass Unknown
