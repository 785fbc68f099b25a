use Rattle.std.proofs.Common.{◌≡◌, ◌≤◌, ◌+◌, ◌-◌, length}
use Rattle.address_space.specs.Source.{Space}
use Rattle.windowed_search.specs.Runs.{values_from}
use Rattle.windowed_search.specs.TextWords.{HasTexts}
use Rattle.windowed_search.proofs.memory_texts.MemoryTexts.feed.Given as goal

abbrev pub invariant-loop-at : goal.invariant-loop-at
invariant-loop-at l = record {
  within : l.at ≤ length l.values;
  least : l.self.least ≡ l.initial.self.least;
  address : l.self.address ≡ l.initial.self.address + l.at;
  texts : (space : Space) → HasTexts space l.initial.self → values_from space l.initial.self.address (length l.values) ≡ l.values → HasTexts space l.self;
}

abbrev pub decreases-loop-at : goal.decreases-loop-at
decreases-loop-at l = length l.values - l.at
