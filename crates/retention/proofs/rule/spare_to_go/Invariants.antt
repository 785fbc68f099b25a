use Rattle.std.proofs.Common.{◌≡◌, ◌+◌, ◌<◌, ◌≤◌, ◌++◌, ℕ, List, false, drop}
use Rattle.retention.specs.declared.Brief.{Brief}
use Rattle.retention.specs.Rule.{stays, spare_count, holds_after}
use Rattle.retention.specs.Counting.{TotalsAre}
use Rattle.retention.proofs.rule.spare_to_go.Given as goal

abbrev pub invariant-loop-case : goal.invariant-loop-case
invariant-loop-case l = record {
  front : List Brief;
  link : (m : ℕ) → stays l.policy (l.count + m) l.cases ≡ front ++ stays l.policy m (drop l.case-index l.cases);
  totals : TotalsAre l.left (stays l.policy l.count l.cases);
  spare : l.count + spare_count l.policy (drop l.case-index l.cases) ≡ spare_count l.policy l.cases;
  fewer_fail : (n : ℕ) → n < l.count → holds_after l.policy l.cases n ≡ false;
  few : l.count ≤ l.case-index;
}
