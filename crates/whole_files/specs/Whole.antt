-- The promises about a file that is made.
use Rattle.std.specs.Prelude.{◌≡◌, Bool, true, false, ◌&&◌, Result, Ok, Err}
use Rattle.whole_files.specs.declared.facts.FileFacts.{FileFacts}
use Rattle.whole_files.specs.declared.faults.NameFault.{NameFault}
use Rattle.whole_files.specs.declared.faults.NameFault.TheVariants.{Unnamed, Exchanged, Named}

-- It was made here, and has no name but PATH.part.
pub record IsUnnamed (f : FileFacts) : Type 0 where
  pub made : f.is_made ≡ true
  pub unnamed : f.is_named ≡ false
  pub replaced : f.has_replaced ≡ false

-- It was made here, has no name but PATH.part, and no sync of it has failed.
pub record IsMade (f : FileFacts) : Type 0 where
  pub part : IsUnnamed f
  pub good : f.has_failed_sync ≡ false

-- It was made so, and all that was written is durable.
pub record IsWritten (f : FileFacts) : Type 0 where
  pub made : IsMade f
  pub synced : f.is_synced ≡ true

-- It was made here, and synced before it got the name PATH. It has not changed since, and PATH.part is not left to it. Whether another file
-- lost the name by it is known.
pub record IsNamed (takes_place : Bool) (f : FileFacts) : Type 0 where
  pub made : f.is_made ≡ true
  pub synced : f.is_synced ≡ true
  pub named : f.is_named ≡ true
  pub gone : f.is_let_go ≡ true
  pub replaced : f.has_replaced ≡ takes_place

-- It has its name, the name is durable, and PATH was seen to name it after that.
pub record IsWhole (takes_place : Bool) (f : FileFacts) : Type 0 where
  pub name : IsNamed takes_place f
  pub durable : f.is_durable ≡ true
  pub there : f.looks.is_at_path ≡ true

-- It has no name, and no file lost its own by it.
pub record IsGone (f : FileFacts) : Type 0 where
  pub unnamed : f.is_named ≡ false
  pub gone : f.is_let_go ≡ true
  pub replaced : f.has_replaced ≡ false

-- Another file was seen under one of its names. PATH.part is not left to it, and no file lost its own name by it, unless it has taken its place.
pub record IsExchanged (takes_place : Bool) (f : FileFacts) : Type 0 where
  pub gone : f.is_let_go ≡ true
  pub replaced : f.has_replaced ≡ (f.is_named && takes_place)

-- The facts about a file after the attempt to give it its name, with or without replacing another file.
abbrev pub EndsSo : Bool → Result (Unit {0}) NameFault → FileFacts → Type 0
EndsSo takes_place (Ok u) f = IsWhole takes_place f
EndsSo takes_place (Err (Unnamed fault)) f = IsGone f
EndsSo takes_place (Err Exchanged) f = IsExchanged takes_place f
EndsSo takes_place (Err (Named number)) f = IsNamed takes_place f

-- The same after the rename that replaces another file. If that was not made, the file has no name but PATH.part.
abbrev pub IsRenamedSo : Result (Unit {0}) NameFault → FileFacts → Type 0
IsRenamedSo (Ok u) f = IsNamed true f
IsRenamedSo (Err (Unnamed fault)) f = IsUnnamed f
IsRenamedSo (Err Exchanged) f = IsUnnamed f
IsRenamedSo (Err (Named number)) f = ⊥
