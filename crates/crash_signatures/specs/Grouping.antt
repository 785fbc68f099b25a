-- The groups of cores.
use Rattle.std.specs.Prelude.{ℕ, true, false, List, filter, map}
use Rattle.std.specs.List.Sorted.{IsNonDecreasingBy, IsPermutation}
use Rattle.crash_signatures.specs.Groups.{GroupSaid, is_in, members, rank, signatures}
use Rattle.crash_signatures.specs.declared.groups.Core.{Core}
use Rattle.crash_signatures.specs.declared.groups.Group.{Group}
use Rattle.crash_signatures.specs.declared.groups.Member.{Member}

abbrev pub group_said : Group → GroupSaid
group_said g = record { signature = g.signature; cases = g.cases.items; perhaps = g.perhaps.items }

-- the group of a signature
abbrev pub group_with : List Member → ℕ → GroupSaid
group_with ms signature = record {
  signature = signature;
  cases = map (λ m. m.number) (filter (is_in signature false) ms);
  perhaps = map (λ m. m.number) (filter (is_in signature true) ms);
}

abbrev pub grouped_members : List Member → List GroupSaid
grouped_members ms = map (group_with ms) (signatures ms)

-- These are the groups of the cores, in their order.
pub record IsGrouping (cores : List Core) (groups : List GroupSaid) : Type 0 where
  pub whole : IsPermutation (grouped_members (members cores)) groups
  pub order : IsNonDecreasingBy rank groups
