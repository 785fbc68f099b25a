-- An open journal as contracts see it.
use Rattle.std.specs.Prelude.{Bool, true, false}
use Rattle.journal_layout.specs.Record.{Record}
use Rattle.journal_layout.specs.Standing.{Standing}
use Rattle.journal_layout.specs.Rewriting.{appended}

pub record Journaled : Type 0 where
  pub standing : Standing
  -- whether a disk fault has stopped it
  pub stopped : Bool

-- a journal that runs
abbrev pub running : Standing → Journaled
running s = record { standing = s; stopped = false }

-- the same journal, stopped by a disk fault
abbrev pub halted : Journaled → Journaled
halted j = record j { stopped = true }

-- the same after one record more
abbrev pub after_append : Journaled → Record → Journaled
after_append j r = running (appended j.standing r)
