use Rattle.std.proofs.Common.{◌≡◌, drop, find, map}
use Rattle.build_replies.specs.Mapped.{build_view}
use Rattle.core_crashes.specs.Crashes.{is_of_path}
use Rattle.core_crashes.proofs.place.build_id_of.Given as goal

-- the first of all is the first of those that are left
abbrev pub invariant-loop-row : goal.invariant-loop-row
invariant-loop-row l = find (is_of_path l.path) (map build_view l.builds) ≡ find (is_of_path l.path) (map build_view (drop l.row-index l.builds))
