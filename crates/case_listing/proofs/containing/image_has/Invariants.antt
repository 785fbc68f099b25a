use Rattle.std.proofs.Common.{◌≡◌, ◌+◌, ◌-◌, ◌≤◌, ℕ, List, length}
use Rattle.windowed_search.specs.Places.{places}
use Rattle.windowed_search.specs.SearchWords.{WasFed}
use Rattle.case_queries.specs.Fronts.{ReadsFront}
use Rattle.case_listing.proofs.containing.image_has.Given as goal

-- The bytes so far are the first ones of the image, and their places are found.
abbrev pub invariant-loop-at : goal.invariant-loop-at
invariant-loop-at g l =
    (fed : List ℕ) × (length fed ≡ l.at) × ReadsFront g.D.Disk l.fn.archive l.seq fed l.archive × WasFed l.search 0 fed
    × (l.found.items ≡ places l.sought 0 fed) × (l.at ≤ l.size) × (l.search.needle.now ≡ l.sought)
    × (l.search.first + length l.search.tail.items ≡ l.at)

abbrev pub decreases-loop-at : goal.decreases-loop-at
decreases-loop-at g l = l.size - l.at
