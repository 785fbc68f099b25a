use Rattle.std.proofs.Common.{◌≡◌, ◌≤◌, ℕ, ◌-◌, ◌^◌, List}
use Rattle.address_space.specs.SpaceWords.{core_of, space_of}
use Rattle.address_space.specs.StretchesWords.{AreLeftWithin, front_of, pieces_left_in}
use Rattle.address_space.specs.Whole.{IsFrontOf, space_in}
use Rattle.windowed_search.proofs.PlanLemmas.{LeadTo}
use Rattle.windowed_search.proofs.steps.steps_of.Given as goal

-- the steps so far tell of the stretches that went by
abbrev pub invariant-loop-stretch : goal.invariant-loop-stretch
invariant-loop-stretch l = record {
  can_next : goal.iterator-loop-stretch.can_next l.stretch-iterator;
  is_finite : goal.iterator-loop-stretch.is_finite l.stretch-iterator;
  front : front_of l.stretch-iterator ≡ core_of l.space;
  size : l.stretch-iterator.size ≡ l.size;
  at : l.at ≤ l.size;
  within : AreLeftWithin 0 l.size l.stretch-iterator;
  led : (image : List ℕ) → IsFrontOf (core_of l.space) l.size image
      → LeadTo image (space_in image (space_of l.space)) (2 ^ 64 - 1) l.steps.items l.at (pieces_left_in image l.stretch-iterator);
}
