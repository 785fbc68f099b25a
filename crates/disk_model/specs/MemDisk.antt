-- The content of a disk in memory.
use Rattle.disk_model.specs.Notes.{Held, held}
use Rattle.disk_model.specs.declared.mem_disk.MemDisk.{MemDisk}

-- its bytes, as its writes and syncs left them
abbrev pub held_by : MemDisk → Held
held_by m = held m.first.items m.notes.items
