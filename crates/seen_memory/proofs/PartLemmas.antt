-- Parts one by one.
use Rattle.std.proofs.Common.{◌≡◌, ◌<◌, ℕ, zero, suc, ◌+◌, List, [], ◌∷◌, length, drop, get_or, sym, ap, subst, ◌∙◌, arith}
use Rattle.std.proofs.Math.Seq.{drop-cons}
use Rattle.seen_memory.specs.Parts.{HasParts, IsBeside, IsOutside, IsPartOf}
use Rattle.seen_memory.specs.declared.part.Part.{Part}

-- the next part, and those after it
one_left : (ps : List Part) (i : ℕ) (d : Part) → i < length ps → drop i ps ≡ get_or ps i d ∷ drop (i + 1) ps
one_left ps i d h = let next : suc i ≡ i + 1 = omega arith in drop-cons ps i d h ∙ ap (λ n. get_or ps i d ∷ drop n ps) next

pub beside_then : (place : ℕ) (ps : List Part) (i : ℕ) (d : Part) → i < length ps → IsOutside place (get_or ps i d) → (IsBeside place (drop i ps) → IsBeside place ps) → IsBeside place (drop (i + 1) ps) → IsBeside place ps
beside_then place ps i d h outside all rest = all (subst (IsBeside place) (sym (one_left ps i d h)) (outside, rest))

pub has_here : (image : List ℕ) (ps : List Part) (i : ℕ) (d : Part) → i < length ps → HasParts image (drop i ps) → IsPartOf image (get_or ps i d).at (get_or ps i d).bytes.now
has_here image ps i d h has = (subst (HasParts image) (one_left ps i d h) has).0

has_more : (image : List ℕ) (ps : List Part) (i : ℕ) → HasParts image (drop i ps) → HasParts image (drop (suc i) ps)
has_more image [] zero has = has
has_more image [] (suc i) has = has
has_more image (p ∷ ps) zero has = has.1
has_more image (p ∷ ps) (suc i) has = has_more image ps i has

pub has_rest : (image : List ℕ) (ps : List Part) (i : ℕ) → HasParts image (drop i ps) → HasParts image (drop (i + 1) ps)
has_rest image ps i has = let next : suc i ≡ i + 1 = omega arith in subst (λ n. HasParts image (drop n ps)) next (has_more image ps i has)
