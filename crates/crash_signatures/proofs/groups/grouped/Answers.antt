use Rattle.std.proofs.Common.{List, map, ap, subst, ◌∙◌, rules}
use Rattle.std.specs.List.Sorted.{IsPermutation}
use Rattle.std.proofs.lemmas.List.Sorted.{IsNonDecreasingBy-from_sort_by_key, IsPermutation-map}
use Rattle.crash_signatures.specs.Grouping.{group_said, grouped_members}
use Rattle.crash_signatures.specs.Groups.{GroupSaid, rank}
use Rattle.crash_signatures.proofs.GroupLemmas.{ranks}
use Rattle.crash_signatures.proofs.groups.grouped.Goals as goal

pub returns : goal.returns
returns c = record {
  whole = subst (λ (l : List GroupSaid). IsPermutation l (map group_said c.sort_unstable_by_key.new.self.items))
      (c.in_ok-groups.ensures ∙ ap grouped_members (c.as_slice.ensures.value ∙ c.in_ok-members.ensures)) (IsPermutation-map group_said _ _ c.sort_unstable_by_key.ensures.permutation);
  order = ranks c.sort_unstable_by_key.new.self.items (IsNonDecreasingBy-from_sort_by_key (λ g. rank (group_said g)) _ c.sort_unstable_by_key.ensures.sorted (λ a r q k. search rules));
}
