use Rattle.std.proofs.Common.{◌≡◌, find}
use Rattle.core_notes.specs.FileList.{is_mapping}
use Rattle.core_notes.specs.FileWords.{files_left}
use Rattle.core_crashes.proofs.notes.map_among.Given as goal

-- the first of all is the first of those that are left
abbrev pub invariant-loop-map : goal.invariant-loop-map
invariant-loop-map l = find (is_mapping l.address) (files_left l.fn.maps) ≡ find (is_mapping l.address) (files_left l.rest)
