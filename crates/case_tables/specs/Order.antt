-- In which order a list shows its cases.
use Rattle.std.specs.Prelude.{◌≡◌, ℕ, ◌+◌, ◌*◌, ◌^◌, List}
use Rattle.std.specs.Cmp.Lexicographic.{slice_cmp}
use Rattle.std.specs.Ordering.{nat_cmp}
use Rattle.std.specs.List.Sorted.{IsNonDecreasingBy, IsPermutation, IsSortedByKey}
use Rattle.journal_layout.specs.Case.{Case}
use Rattle.case_tables.specs.declared.order.Order.{Order}
use Rattle.case_tables.specs.declared.order.Order.TheVariants.{Number, Time, Size, Name}

-- by a number, and cases with the same one by their own numbers
abbrev pub rank : ℕ → ℕ → ℕ
rank n seq = n * 2 ^ 32 + seq

-- Cases as they are shown: as they stand, or all of them by their times, sizes or names.
abbrev pub IsShown : Order → List Case → List Case → Type 0
IsShown Number cases shown = shown ≡ cases
IsShown Time cases shown = IsPermutation cases shown × IsNonDecreasingBy (λ c. rank c.origin.time c.seq) shown
IsShown Size cases shown = IsPermutation cases shown × IsNonDecreasingBy (λ c. rank c.len c.seq) shown
IsShown Name cases shown = IsPermutation cases shown × IsSortedByKey (λ c. c.origin.name) (slice_cmp nat_cmp) shown
