use Rattle.std.proofs.Common.{◌≡◌}
use Rattle.std.specs.Prelude.{find}
use Rattle.core_notes.specs.FileList.{is_mapping}
use Rattle.core_notes.specs.FileWords.{files_left}
use Rattle.case_screens.proofs.frames.map_at.Given as goal

-- what is left has the first such file
abbrev pub invariant-loop-map : goal.invariant-loop-map
invariant-loop-map l = find (is_mapping l.address) (files_left l.rest) ≡ find (is_mapping l.address) (files_left l.fn.maps)
