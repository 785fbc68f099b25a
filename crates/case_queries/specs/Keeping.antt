-- The executables that stay with an image that is kept.
use Rattle.std.specs.Prelude.{map, Option, None, Some, Ok, Vec}
use Rattle.std.specs.Global.{Global}
use Rattle.disk_model.specs.declared.disk.Disk as disk
use Rattle.intake.specs.Parts.{Parts}
use Rattle.case_queries.specs.Collecting.{Collects}
use Rattle.case_queries.specs.CollectingWords.{executable_view, read_as}
use Rattle.case_queries.specs.declared.collect_executables.StoredExecutable.{StoredExecutable}
use Rattle.case_queries.specs.declared.kept_image.KeptImage.{KeptImage}

-- Kept executables are a possible result of reading those cases here, with no byte read and nothing changed.
abbrev pub StayCollected : {D : Type 0} → disk.Ghosts D → Parts D → Option (Vec StoredExecutable Global) → Type 0
StayCollected g a None = Unit {0}
StayCollected g a (Some v) = Collects g a (map read_as v.items) (Ok (map executable_view v.items)) a

-- the executables that are kept with an image stay too
abbrev pub AreKept : {D : Type 0} → disk.Ghosts D → Parts D → Option KeptImage → Type 0
AreKept g a None = Unit {0}
AreKept g a (Some k) = StayCollected g a k.executables
