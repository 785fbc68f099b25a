use Rattle.std.proofs.Common.{◌≡◌, ◌+◌, ◌*◌, ◌≤◌, drop, length, sum_by}
use Rattle.retention.specs.Rule.{stays, bytes_in}
use Rattle.retention.proofs.rule.totals_without_old.Given as goal

abbrev pub invariant-loop-case : goal.invariant-loop-case
invariant-loop-case l = record {
  count : l.totals.count + length (stays l.policy 0 (drop l.case-index l.cases)) ≡ length (stays l.policy 0 l.cases);
  bytes : l.totals.bytes + sum_by bytes_in (stays l.policy 0 (drop l.case-index l.cases)) ≡ sum_by bytes_in (stays l.policy 0 l.cases);
  few : l.totals.count ≤ l.case-index;
  small : l.totals.bytes ≤ l.case-index * 18446744073709551615;
}
