-- The values of addresses in a row.
use Rattle.std.proofs.Common.{◌≡◌, ℕ, suc, ◌+◌, List, [], ◌++◌, Option, None, Some, refl, ap}
use Rattle.std.specs.List.{cons_option, filter_map, range_with_len}
use Rattle.address_space.specs.Source.{Space, value_at}
use Rattle.memory_replies.specs.Texts.{value_list, values_between}

one_first : (o : Option ℕ) (xs : List ℕ) → cons_option o xs ≡ value_list o ++ xs
one_first None xs = refl
one_first (Some x) xs = refl

-- the first value, and those after it
pub values_step : (space : Space) (a n : ℕ) → values_between space a (suc n) ≡ value_list (value_at space a) ++ values_between space (a + 1) n
unfolding values_between
values_step space a n = one_first (value_at space a) (filter_map (value_at space) (range_with_len (a + 1) n))

pub no_values : (space : Space) (a n : ℕ) → n ≡ 0 → values_between space a n ≡ []
unfolding values_between
no_values space a n is = ap (λ m. filter_map (value_at space) (range_with_len a m)) is
