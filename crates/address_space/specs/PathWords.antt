-- The meaning of the code's table of paths.
use Rattle.std.specs.Prelude.{◌≡◌, ℕ, List, Option}
use Rattle.std.specs.BTreeMap.{get_by}
use Rattle.std.specs.Cmp.Lexicographic.{slice_cmp}
use Rattle.std.specs.Option.{option_map}
use Rattle.std.specs.Ordering.{nat_cmp}
use Rattle.address_space.specs.Source.{ExecutableView, first_from, is_named}
use Rattle.address_space.specs.declared.by_path.ByPath.{ByPath}

-- the number of a path, if the table has it
abbrev pub number_in : ByPath → List ℕ → Option ℕ
number_in p name = get_by (λ k. slice_cmp nat_cmp name k.now) p.numbers

-- the number of each path is that of the first executable that has it, and the table has no other paths
abbrev pub AreNumbered : ByPath → List ExecutableView → Type 0
AreNumbered p all = (name : List ℕ) → number_in p name ≡ option_map (λ (e : ℕ × ExecutableView). e.0) (first_from (is_named name) 0 all)
