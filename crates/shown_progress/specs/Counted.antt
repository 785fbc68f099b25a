-- The facts about a disk whose reads are counted: the disk below.
use Rattle.shown_progress.specs.declared.counted_disk.CountedDisk.{CountedDisk}

module _ {D W : Type 0} where
  abbrev pub disk_below : CountedDisk D W → D
  disk_below d = d.disk
