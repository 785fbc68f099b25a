-- What is made of one element more.
use Rattle.std.proofs.Common.{◌≡◌, ℕ, ◌+◌, ◌<◌, List, [], ◌∷◌, ◌++◌, get_or, length, map, take, Option, sym, ap, ◌∙◌}
use Rattle.std.proofs.lemmas.Grind.{flat_map-append}
use Rattle.std.proofs.lemmas.List.{append-nil, map_more}
use Rattle.std.proofs.lemmas.List.Elements.{filter_map-append}
use Rattle.std.specs.List.{filter_map, flat_map}

module _ {X Y : Type 0} (f : X → Y) (xs : List X) (i : ℕ) (x : X) (below : i < length xs) (is : x ≡ get_or xs i x) where
  one_more : map f (take (i + 1) xs) ≡ map f (take i xs) ++ f x ∷ []
  one_more = map_more f xs i x below ∙ ap (λ (y : X). map f (take i xs) ++ f y ∷ []) (sym is)

  pub filter_map_more : {Z : Type 0} (h : Y → Option Z) → filter_map h (map f (take (i + 1) xs)) ≡ filter_map h (map f (take i xs)) ++ filter_map h (f x ∷ [])
  filter_map_more h = ap (filter_map h) one_more ∙ filter_map-append h (map f (take i xs)) (f x ∷ [])

  pub text_more : {Z : Type 0} (h : Y → List Z) → flat_map h (map f (take (i + 1) xs)) ≡ flat_map h (map f (take i xs)) ++ h (f x)
  text_more h =
      ap (flat_map h) one_more ∙ flat_map-append h (map f (take i xs)) (f x ∷ [])
      ∙ ap (λ t. flat_map h (map f (take i xs)) ++ t) (append-nil (h (f x)))
