use Rattle.std.proofs.Common.{◌≡◌, take, drop}
use Rattle.fair_share.specs.Owners.{before_number}
use Rattle.fair_share.proofs.OwnerLemmas.{behind}
use Rattle.fair_share.proofs.owners.before_number.Given as goal

abbrev pub invariant-loop-at : goal.invariant-loop-at
invariant-loop-at l = before_number l.name ≡ behind (take l.at l.name) (before_number (drop l.at l.name))
