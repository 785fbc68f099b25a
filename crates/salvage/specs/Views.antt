-- The known facts of an archive's bytes that are shown as a disk.
use Rattle.std.specs.Prelude.{List, Option, ℕ}
use Rattle.salvage.specs.declared.fronted.Fronted.{Fronted}
use Rattle.salvage.specs.declared.restored.Restored.{Restored}
use Rattle.salvage.specs.declared.shown.Patch.{Patch}
use Rattle.salvage.specs.declared.shown.Shown.{Shown}
use Rattle.salvage.specs.declared.source.Source as source
use Rattle.salvage.specs.declared.stretched.Stretched.{Stretched}

module _ {S : Type 0} {g : source.Ghosts S} where
  abbrev pub source_of : Shown S g → S
  source_of v = v.source.now

  abbrev pub patch_of : Shown S g → Option Patch
  patch_of v = v.patch

  -- the source with its first bytes replaced
  abbrev pub under : Fronted S g → S
  under f = f.source.now

  abbrev pub front_of : Fronted S g → List ℕ
  front_of f = f.front.now

  -- the source of which so many bytes are shown
  abbrev pub beneath : Stretched S g → S
  beneath s = s.source.now

  abbrev pub length_of : Stretched S g → ℕ
  length_of s = s.length

  -- the source of which so many bytes are shown, with another front
  abbrev pub restored_of : Restored S g → S
  restored_of r = r.source.now

  abbrev pub front_in : Restored S g → List ℕ
  front_in r = r.front.now

  abbrev pub count_in : Restored S g → ℕ
  count_in r = r.count
