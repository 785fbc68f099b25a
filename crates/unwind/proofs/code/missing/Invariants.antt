use Rattle.std.proofs.Common.{◌≡◌, drop, find, map}
use Rattle.address_space.specs.Source.{is_named}
use Rattle.address_space.specs.SpaceWords.{attached_view}
use Rattle.unwind.proofs.code.missing.Given as goal

-- the first of all is the first of those that are left
abbrev pub invariant-loop-other : goal.invariant-loop-other
invariant-loop-other l =
    find (is_named l.path) (map attached_view l.others) ≡ find (is_named l.path) (map attached_view (drop l.other-index l.others))
