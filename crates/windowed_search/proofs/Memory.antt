-- The places in a memory are those in the values of its addresses.
use Rattle.std.proofs.Common.{◌≡◌, ℕ, ◌+◌, ◌&&◌, eqb, cond, List, [], ◌∷◌, length, filter, refl, ap, ◌∙◌}
use Rattle.std.specs.List.{range_with_len}
use Rattle.address_space.specs.Source.{Space}
use Rattle.address_space.specs.Occurrence.{is_value, occurs}
use Rattle.windowed_search.specs.Places.{begins, places}
use Rattle.windowed_search.specs.Runs.{IsRunOf}

occurs_here : (space : Space) (ns xs : List ℕ) (a : ℕ) → IsRunOf space a xs → occurs space ns a ≡ begins ns xs
unfolding occurs begins
occurs_here space [] xs a run = refl
occurs_here space (n ∷ ns) [] a run = ap (λ o. is_value n o && occurs space ns (a + 1)) run
occurs_here space (n ∷ ns) (x ∷ xs) a run =
    ap (λ o. is_value n o && occurs space ns (a + 1)) run.0 ∙ ap (λ t. eqb x n && t) (occurs_here space ns xs (a + 1) run.1)

pub places_here : (space : Space) (needle xs : List ℕ) (a : ℕ) → IsRunOf space a xs → filter (occurs space needle) (range_with_len a (length xs)) ≡ places needle a xs
unfolding places
places_here space needle [] a run = refl
places_here space needle (x ∷ xs) a run =
    ap (λ t. cond t (a ∷ filter (occurs space needle) (range_with_len (a + 1) (length xs))) (filter (occurs space needle) (range_with_len (a + 1) (length xs)))) (occurs_here space needle (x ∷ xs) a run)
    ∙ ap (λ p. cond (begins needle (x ∷ xs)) (a ∷ p) p) (places_here space needle xs (a + 1) run.1)
