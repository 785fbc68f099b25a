-- How the lock of the file under PATH.part is had.
use Rattle.std.specs.Prelude.{Bool, if◌then◌else◌, Option, Some, None}
use Rattle.disk_model.specs.declared.held_facts.Hold.{Hold}
use Rattle.disk_model.specs.declared.held_facts.Hold.TheVariants.{Alone}
use Rattle.disk_model.specs.declared.open_file.OpenFile.{OpenFile}

-- how that of a file is had, if it is open
abbrev pub lock_of : Option OpenFile → Option Hold
lock_of None = None
lock_of (Some file) = file.facts.lock

-- alone exactly if it was taken
abbrev pub alone_if : Bool → Option Hold
alone_if taken = if taken then Some Alone else None
