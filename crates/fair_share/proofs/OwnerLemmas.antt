-- Where a name's last part begins.
use Rattle.std.proofs.Common.{◌≡◌, ℕ, zero, suc, ◌+◌, ◌-◌, ◌≤◌, Bool, true, false, cond, List, [], ◌∷◌, ◌++◌, length, take, drop, Option, None, Some, option_map, refl, sym, ap, subst, ◌∙◌, arith}
use Rattle.std.proofs.lemmas.Bool.{false≢true}
use Rattle.std.proofs.lemmas.List.{append-nil, length-drop, take_all}
use Rattle.fair_share.specs.Owners.{before_number, is_last_part}

-- what is found in the rest, with the first bytes before it
abbrev pub behind : List ℕ → Option (List ℕ) → Option (List ℕ)
behind first found = option_map (λ (front : List ℕ). first ++ front) found

pub behind_none : (found : Option (List ℕ)) → behind [] found ≡ found
behind_none None = refl
behind_none (Some front) = refl

behind_one : (b : ℕ) (first : List ℕ) (found : Option (List ℕ)) → behind (b ∷ first) found ≡ option_map (λ (l : List ℕ). b ∷ l) (behind first found)
behind_one b first None = refl
behind_one b first (Some front) = refl

-- the last part begins here
here : (text : List ℕ) → is_last_part text ≡ true → before_number text ≡ Some []
here [] is = absurd (false≢true is)
here (b ∷ bs) is = ap (λ (t : Bool). cond t (Some []) (option_map (λ (l : List ℕ). b ∷ l) (before_number bs))) is

-- or it does not
later : (b : ℕ) (bs : List ℕ) → is_last_part (b ∷ bs) ≡ false → before_number (b ∷ bs) ≡ option_map (λ (l : List ℕ). b ∷ l) (before_number bs)
later b bs not = ap (λ (t : Bool). cond t (Some []) (option_map (λ (l : List ℕ). b ∷ l) (before_number bs))) not

step : (name : List ℕ) (at : ℕ) → is_last_part (drop at name) ≡ false → behind (take at name) (before_number (drop at name)) ≡ behind (take (suc at) name) (before_number (drop (suc at) name))
step [] zero not = refl
step [] (suc n) not = refl
step (b ∷ bs) zero not =
    behind_none (before_number (b ∷ bs)) ∙ later b bs not ∙ ap (option_map (λ (l : List ℕ). b ∷ l)) (sym (behind_none (before_number bs))) ∙ sym (behind_one b [] (before_number bs))
step (b ∷ bs) (suc n) not =
    behind_one b (take n bs) (before_number (drop n bs)) ∙ ap (option_map (λ (l : List ℕ). b ∷ l)) (step bs n not) ∙ sym (behind_one b (take (suc n) bs) (before_number (drop (suc n) bs)))

-- the loop's steps
pub part_first : (name : List ℕ) → before_number name ≡ behind (take 0 name) (before_number (drop 0 name))
part_first name = sym (behind_none (before_number name))

pub part_later : (name : List ℕ) (at : ℕ) → before_number name ≡ behind (take at name) (before_number (drop at name)) → is_last_part (drop at name) ≡ false
    → before_number name ≡ behind (take (at + 1) name) (before_number (drop (at + 1) name))
part_later name at so_far not =
    let e : suc at ≡ at + 1 = omega arith in
    subst (λ (n : ℕ). before_number name ≡ behind (take n name) (before_number (drop n name))) e (so_far ∙ step name at not)

pub part_here : (name : List ℕ) (at : ℕ) → before_number name ≡ behind (take at name) (before_number (drop at name)) → is_last_part (drop at name) ≡ true → Some (take at name) ≡ before_number name
part_here name at so_far is = sym (so_far ∙ ap (behind (take at name)) (here (drop at name) is) ∙ ap Some (append-nil (take at name)))

nothing_left : (name : List ℕ) (n : ℕ) → length name ≤ n → drop n name ≡ []
nothing_left [] zero all = refl
nothing_left [] (suc n) all = refl
nothing_left (b ∷ bs) zero all = absurd (omega (arith, all))
nothing_left (b ∷ bs) (suc n) all = nothing_left bs n (omega (arith, all))

pub part_never : (name : List ℕ) (at : ℕ) → before_number name ≡ behind (take at name) (before_number (drop at name)) → length name ≤ at → None ≡ before_number name
part_never name at so_far all = sym (so_far ∙ ap (λ (rest : List ℕ). behind (take at name) (before_number rest)) (nothing_left name at all))

-- the rest from a place on, cut to its length
pub rest_whole : (name : List ℕ) (at : ℕ) → take (length name - at) (drop at name) ≡ drop at name
rest_whole name at = let e = length-drop at name in take_all (length name - at) (drop at name) (omega (arith, e))
