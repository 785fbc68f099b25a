use Rattle.std.proofs.Common.{◌≡◌, map, take}
use Rattle.address_space.specs.SpaceWords.{attached_view}
use Rattle.build_replies.specs.NameWords.{debug_names, name_bytes}
use Rattle.build_replies.proofs.stored_names.debug_names.Given as goal

-- those of the executables that went by
abbrev pub invariant-loop-executable : goal.invariant-loop-executable
invariant-loop-executable l = map name_bytes l.names.items ≡ debug_names (map attached_view (take l.executable-index l.used))
