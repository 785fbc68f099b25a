-- The facts about a file as a disk.
use Rattle.disk_model.specs.declared.raw_file.RawFile.{RawFile}
use Rattle.disk_model.specs.declared.held_file.HeldFile as held

-- the file
abbrev pub file_of : {F : Type 0} {g : held.Ghosts F} → RawFile F g → F
file_of d = d.file
