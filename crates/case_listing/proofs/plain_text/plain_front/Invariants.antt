use Rattle.std.proofs.Common.{◌≡◌, ◌<◌, ◌≤◌, ◌++◌, ◌-◌, drop, take, length}
use Rattle.case_listing.specs.PlainText.{plain_of}
use Rattle.case_listing.proofs.plain_text.plain_front.Given as goal

abbrev pub invariant-loop-count : goal.invariant-loop-count
invariant-loop-count l = record {
  some : 0 < l.count;
  within : l.count ≤ length l.text;
  plain : plain_of l.text ≡ take l.count l.text ++ plain_of (drop l.count l.text);
}

abbrev pub decreases-loop-count : goal.decreases-loop-count
decreases-loop-count l = length l.text - l.count
