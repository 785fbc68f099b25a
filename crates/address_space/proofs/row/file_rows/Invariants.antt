use Rattle.std.proofs.Common.{◌≡◌, ◌++◌, ◌<◌, ◌^◌, All, map, length}
use Rattle.core_notes.specs.declared.file_list.FileMap.{FileMap}
use Rattle.core_notes.specs.FileWords.{file_view, files_left}
use Rattle.address_space.specs.Disjoint.{file_extent, taking_from}
use Rattle.address_space.specs.ScanWords.{row_view}
use Rattle.address_space.proofs.row.file_rows.Given as goal

-- those that have addresses are the ones that were put in and those that are left
abbrev pub invariant-loop-file : goal.invariant-loop-file
invariant-loop-file l = record {
  maps : map file_view l.maps.items ++ files_left l.files ≡ files_left l.initial.files;
  fits : All (λ (f : FileMap). f.past < 2 ^ 64) l.maps.items;
  rows : map row_view l.rows.items ++ taking_from (length l.maps.items) (map file_extent (files_left l.files)) ≡ taking_from 0 (map file_extent (files_left l.initial.files));
}
