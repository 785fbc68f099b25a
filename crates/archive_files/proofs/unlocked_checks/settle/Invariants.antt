use Rattle.std.proofs.Common.{◌≡◌, map, take}
use Rattle.intake.specs.Parts.{state_of}
use Rattle.archive_files.specs.UnlockedChecks.{settled}
use Rattle.archive_files.specs.UnlockedFinding.{has_number}
use Rattle.archive_files.proofs.unlocked_checks.settle.Given as goal

abbrev pub invariant-loop-case : goal.invariant-loop-case
invariant-loop-case g l = l.told.items ≡ map (settled (has_number (state_of l.fn.archive))) (take l.case-index l.cases)
