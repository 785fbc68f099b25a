-- What is made of a list, one after the other.
use Rattle.std.proofs.Common.{◌≡◌, ◌<◌, ◌+◌, ℕ, List, ◌∷◌, [], ◌++◌, length, get_or, map, take, ap, sym, ◌∙◌}
use Rattle.std.proofs.lemmas.List.{map-append, map_more}

-- one more is made
pub one_more : {A B C : Type 0} (f : A → C) (g : B → C) (made new : List A) (x : A) (all : List B) (i : ℕ) (d : B) → i < length all → new ≡ made ++ x ∷ []
    → map f made ≡ map g (take i all) → f x ≡ g (get_or all i d) → map f new ≡ map g (take (i + 1) all)
one_more f g made new x all i d lt pushed held same =
    ap (map f) pushed ∙ (map-append f made (x ∷ []) ∙ (ap (λ t. t ++ f x ∷ []) held ∙ (ap (λ y. map g (take i all) ++ y ∷ []) same ∙ sym (map_more g all i d lt))))
