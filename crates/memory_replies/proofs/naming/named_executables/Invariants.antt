use Rattle.std.proofs.Common.{◌≡◌, map, take}
use Rattle.address_space.specs.SpaceWords.{attached_view}
use Rattle.memory_replies.specs.Naming.{named_files}
use Rattle.memory_replies.specs.NamingWords.{named_file}
use Rattle.memory_replies.proofs.naming.named_executables.Given as goal

-- those that went by
abbrev pub invariant-loop-executable : goal.invariant-loop-executable
invariant-loop-executable l = map named_file l.named.items ≡ named_files (map attached_view (take l.executable-index l.executables)) (map attached_view l.debugs)
