-- The code's record of the contents that are unpacked.
use Rattle.std.specs.Prelude.{◌≡◌, is_some, map}
use Rattle.std.specs.List.{list_any}
use Rattle.case_unpacking.specs.PlaceViews.{file_said, place_said}
use Rattle.case_unpacking.specs.Places.{ArePlaces}
use Rattle.case_unpacking.specs.declared.gdb_commands.Unpacked.{Unpacked}
use Rattle.case_info.specs.Unpacking.{name_kept, unpacked_view}
use Rattle.case_info.specs.declared.unpacked_files.UnpackedFile.{UnpackedFile}
use Rattle.case_info.specs.declared.unpacking.Unpacking.{Unpacking}
use Rattle.case_unpacking.specs.Contents.{at_index, but_index, files_said, program_at}
use Rattle.case_unpacking.specs.declared.contents.Placed.{Placed}

-- The files for which an executable is used, each at its place; which of them is the program, and the places of the others.
pub record IsPlaced (u : Unpacking) (p : Placed) : Type 0 where
  pub files : map file_said p.named.items ≡ files_said (map unpacked_view u.files.items)
  pub places : ArePlaces (map file_said p.named.items) (map place_said p.places.items)
  pub program : p.program ≡ program_at p.named.items (name_kept u.program)
  pub others : p.others.items ≡ but_index p.places.items p.program

-- The facts about them that a debugger needs.
pub record IsDescribed (p : Placed) (u : Unpacking) (d : Unpacked) : Type 0 where
  pub program : d.program ≡ at_index p.places.items p.program
  pub others : d.others.now ≡ p.others.items
  pub core : d.has_core ≡ u.is_core
  pub debug : d.has_debug ≡ list_any (λ (f : UnpackedFile). is_some f.debug) u.files.items
