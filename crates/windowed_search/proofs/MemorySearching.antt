-- A search of a memory, step by step.
use Rattle.std.proofs.Common.{◌≡◌, ◌<◌, ℕ, ◌+◌, List, [], ◌++◌, length, filter, None, refl, sym, ap, ◌∙◌, arith}
use Rattle.std.proofs.lemmas.List.{append-nil, length-append}
use Rattle.std.specs.List.{range_with_len}
use Rattle.address_space.specs.Source.{Space, value_at}
use Rattle.address_space.specs.Occurrence.{occurs}
use Rattle.windowed_search.specs.MemoryWords.{HasSearched, needle_of}
use Rattle.windowed_search.specs.Places.{places}
use Rattle.windowed_search.specs.Runs.{values_from}
use Rattle.windowed_search.specs.SearchWords.{WasFed}
use Rattle.windowed_search.specs.declared.memory_search.MemorySearch.{MemorySearch}
use Rattle.windowed_search.proofs.Values.{filter_below, no_value, none_occurs, run_told, values_split}

-- no address yet
pub at_first : (space : Space) (m : MemorySearch) → m.address ≡ 0 → m.found.items ≡ [] → WasFed m.search 0 [] → HasSearched space m
unfolding values_from places
at_first space m address found fed = record { base = 0; run = []; joined = sym address; values = refl; fed = fed; told = found }

-- addresses that have values
pub more_values : (space : Space) (m n : MemorySearch) (xs : List ℕ) → HasSearched space m → needle_of n ≡ needle_of m → n.address ≡ m.address + length xs → values_from space m.address (length xs) ≡ xs
    → ((base : ℕ) (run : List ℕ) → WasFed m.search base run → WasFed n.search base (run ++ xs))
    → ((base : ℕ) (run before : List ℕ) → WasFed m.search base run → m.found.items ≡ before ++ places (needle_of m) base run → n.found.items ≡ before ++ places (needle_of m) base (run ++ xs))
    → HasSearched space n
more_values space m n xs so_far same address values fed found =
    let base = so_far.base in
    let run = so_far.run in
    let long = length-append run xs in
    let before = so_far.joined in
    record {
      base = base;
      run = run ++ xs;
      joined = omega (arith, address, before, long);
      values =
          ap (values_from space base) long
          ∙ values_split space base (length run) (length xs)
          ∙ ap (λ x. x ++ values_from space (base + length run) (length xs)) so_far.values
          ∙ ap (λ a. run ++ values_from space a (length xs)) before
          ∙ ap (λ x. run ++ x) values;
      fed = fed base run so_far.fed;
      told =
          found base run (filter (occurs space (needle_of m)) (range_with_len 0 base)) so_far.fed so_far.told
          ∙ ap (λ needle. filter (occurs space needle) (range_with_len 0 base) ++ places needle base (run ++ xs)) (sym same);
    }

-- those below the next, if that has no value
pub all_below : (space : Space) (m : MemorySearch) → HasSearched space m → value_at space m.address ≡ None → m.found.items ≡ filter (occurs space (needle_of m)) (range_with_len 0 m.address)
all_below space m so_far none =
    so_far.told
    ∙ run_told space (needle_of m) so_far.base so_far.run so_far.values (ap (value_at space) so_far.joined ∙ none)
    ∙ ap (λ a. filter (occurs space (needle_of m)) (range_with_len 0 a)) so_far.joined

-- addresses that have none
pub no_values : (space : Space) (m n : MemorySearch) (count : ℕ) → 0 < length (needle_of m) → 0 < count → HasSearched space m → needle_of n ≡ needle_of m → n.address ≡ m.address + count → n.found ≡ m.found
    → values_from space m.address count ≡ [] → WasFed n.search n.address [] → HasSearched space n
unfolding values_from places
no_values space m n count some more so_far same address found none fed =
    let value = no_value space count m.address none m.address (omega arith) (omega (arith, more)) in
    record {
      base = n.address;
      run = [];
      joined = omega arith;
      values = refl;
      fed = fed;
      told =
          ap (λ v. v.items) found
          ∙ all_below space m so_far value
          ∙ sym (append-nil _)
          ∙ ap (λ x. filter (occurs space (needle_of m)) (range_with_len 0 m.address) ++ x) (sym (none_occurs space (needle_of m) m.address count some none))
          ∙ sym (filter_below (occurs space (needle_of m)) m.address count)
          ∙ ap (λ a. filter (occurs space (needle_of m)) (range_with_len 0 a)) (sym address)
          ∙ ap (λ needle. filter (occurs space needle) (range_with_len 0 n.address)) (sym same)
          ∙ sym (append-nil _);
    }
