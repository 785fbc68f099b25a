-- The promises about a core that is taken into a file.
use Rattle.std.specs.Prelude.{◌≡◌, ◌≤◌, ◌+◌, ◌⊎◌, nat_lt, nat_le, ℕ, Bool, true, false, List, ◌++◌, length, take, Option, Some, None, Result, Ok, Err, if◌then◌else◌}
use Rattle.std.specs.Io.KnownBytes.{Consumes}
use Rattle.whole_files.specs.declared.facts.FileFacts.{FileFacts}
use Rattle.whole_files.specs.Whole.{IsUnnamed, IsWhole, EndsSo}
use Rattle.handler_files.specs.declared.reception.NotSpooled.{NotSpooled}
use Rattle.handler_files.specs.declared.reception.NotSpooled.TheVariants.{File, Unread, Unwritten, Full, Unsynced, Name}
use Rattle.handler_files.specs.declared.reception.Unspooled.{Unspooled}
use Rattle.handler_files.specs.declared.reception.Room.{Room}

-- how many bytes are read at most
abbrev pub ceiling_by : ℕ → Option ℕ → ℕ
ceiling_by most None = most
ceiling_by most (Some left) = if nat_lt left most then left + 1 else most

abbrev pub ceiling_of : Room → ℕ
ceiling_of room = ceiling_by room.most room.left

-- so many bytes fit
abbrev pub fits : Option ℕ → ℕ → Bool
fits None n = true
fits (Some left) n = nat_le n left

abbrev pub has_room : Room → ℕ → Bool
has_room room n = fits room.left n

-- The facts about the file after a core is not in the spool for this reason: it
-- was made here and has no name but PATH.part, or they are those of `give_name`.
abbrev pub LeftSo : NotSpooled → FileFacts → Type 0
LeftSo (File fault) f = IsUnnamed f
LeftSo Unread f = IsUnnamed f
LeftSo (Unwritten fault) f = IsUnnamed f
LeftSo Full f = IsUnnamed f
LeftSo Unsynced f = IsUnnamed f
LeftSo (Name fault) f = EndsSo false (Err fault) f

-- It is whole under its name, and was synced before it got it; or it is not in the spool.
abbrev pub TakenSo : Result ℕ Unspooled → FileFacts → Type 0
TakenSo (Ok n) f = IsWhole false f
TakenSo (Err u) f = LeftSo u.why f

-- Of the bytes xs of a stream the file has the first n. These are all, or as many as are wanted of a core; and they fit.
pub record IsTakenFrom (xs : List ℕ) (n : ℕ) (room : Room) (left : Option (List ℕ)) : Type 0 where
  pub count : n ≤ length xs
  pub rest : Consumes (Some xs) left (take n xs)
  pub fits : has_room room n ≡ true
  pub most : (n ≡ length xs) ⊎ (n ≡ ceiling_of room)

-- Of the bytes xs of a stream the file has the first n. Then come those that are held, and then those that are still to come.
pub record IsLeftFrom (xs : List ℕ) (n : ℕ) (held : List ℕ) (left : Option (List ℕ)) : Type 0 where
  pub count : n ≤ length xs
  pub rest : Consumes (Some xs) left (take n xs ++ held)
