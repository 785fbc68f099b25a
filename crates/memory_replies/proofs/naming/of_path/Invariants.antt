use Rattle.std.proofs.Common.{◌≡◌, drop, find, map}
use Rattle.memory_replies.specs.Naming.{has_path}
use Rattle.memory_replies.specs.NamingWords.{named_file}
use Rattle.memory_replies.proofs.naming.of_path.Given as goal

-- the first of all is the first of those that are left
abbrev pub invariant-loop-executable : goal.invariant-loop-executable
invariant-loop-executable l = find (has_path l.path) (map named_file l.named) ≡ find (has_path l.path) (map named_file (drop l.executable-index l.named))
