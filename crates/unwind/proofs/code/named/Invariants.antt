use Rattle.std.proofs.Common.{◌≡◌, drop, find, map}
use Rattle.unwind.specs.Code.{has_path}
use Rattle.unwind.specs.Words.{executable_view}
use Rattle.unwind.proofs.code.named.Given as goal

-- the first of all is the first of those that are left
abbrev pub invariant-loop-executable : goal.invariant-loop-executable
invariant-loop-executable l =
    find (has_path l.path) (map executable_view l.executables) ≡ find (has_path l.path) (map executable_view (drop l.executable-index l.executables))
