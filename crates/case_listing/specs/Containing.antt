-- Whether an image has bytes somewhere.
use Rattle.std.specs.Prelude.{◌≡◌, ◌==◌, ℕ, Bool, false, not, List, length}
use Rattle.disk_model.specs.declared.disk.Disk as disk
use Rattle.intake.specs.Parts.{Parts}
use Rattle.windowed_search.specs.Places.{places}
use Rattle.case_queries.specs.Fronts.{ReadsFront}

-- The first bytes of the image of a case are read, and it is known whether these have the wanted bytes. If they have not, they are all of its
-- bytes.
pub record SeesWhether {D : Type 0} (g : disk.Ghosts D) (old : Parts D) (seq size : ℕ) (sought : List ℕ) (has : Bool) (new : Parts D) : Type 0 where
  pub front : List ℕ
  pub reads : ReadsFront g old seq front new
  pub says : has ≡ not (length (places sought 0 front) == 0)
  pub whole : has ≡ false → length front ≡ size
