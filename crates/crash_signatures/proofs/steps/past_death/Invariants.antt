use Rattle.std.proofs.Common.{◌≡◌, ◌≤◌, length, map}
use Rattle.crash_signatures.specs.Steps.{past_death}
use Rattle.crash_signatures.specs.WordViews.{said}
use Rattle.crash_signatures.proofs.StepLemmas.{past_in}
use Rattle.crash_signatures.proofs.steps.past_death.Given as goal

abbrev pub invariant-loop-past : goal.invariant-loop-past
invariant-loop-past l = record {
  value : past_death (map said l.words) ≡ past_in l.past (map said l.words);
  within : l.past ≤ length l.words;
}

abbrev pub decreases-loop-past : goal.decreases-loop-past
decreases-loop-past l = l.past
