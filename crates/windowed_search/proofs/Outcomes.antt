-- What a search can't have found, and a plan can't tell.
use Rattle.std.proofs.Common.{◌≡◌, ◌<◌, ◌≤◌, ℕ, zero, suc, ◌+◌, ◌-◌, ◌^◌, ◌&&◌, cond, Bool, true, false, List, [], ◌∷◌, ◌++◌, length, filter, map, refl, sym, ap, subst, ◌∙◌, arith, append_assoc}
use Rattle.std.proofs.lemmas.Bool.{cond-true, eq-eqb}
use Rattle.std.specs.List.{AllByRecursion, Contains, range_with_len}
use Rattle.address_space.specs.Coverage.{IsText}
use Rattle.address_space.specs.Occurrence.{begins_text, is_long, text_from, text_len}
use Rattle.address_space.specs.Source.{Space}
use Rattle.address_space.proofs.Coverings.{is_text}
use Rattle.windowed_search.specs.Places.{MatchesAcrossAreFound, begins, places}
use Rattle.windowed_search.specs.Runs.{values_from}
use Rattle.windowed_search.specs.StepWords.{Leads, PlansTellTheValues, bytes_of, count_of, place_after, told_by}
use Rattle.windowed_search.specs.TextWords.{TextsAreWhole}
use Rattle.windowed_search.specs.declared.steps.Step.{Step}
use Rattle.windowed_search.proofs.Values.{values_split}

begins_itself : (ns rest : List ℕ) → begins ns (ns ++ rest) ≡ true
unfolding begins
begins_itself [] rest = refl
begins_itself (n ∷ ns) rest = ap (λ t. t && begins ns (ns ++ rest)) (eq-eqb n n refl) ∙ begins_itself ns rest

-- one that comes later
later : (t : Bool) (a b : ℕ) (ps : List ℕ) → Contains ps b → Contains (cond t (a ∷ ps) ps) b
later true a b ps there = (suc there.0, omega (arith, there.1), there.2)
later false a b ps there = there

here : (n : ℕ) (ns rest : List ℕ) (a : ℕ) → Contains (places (n ∷ ns) a ((n ∷ ns) ++ rest)) a
unfolding places
here n ns rest a =
    let more = places (n ∷ ns) (a + 1) (ns ++ rest) in
    subst (λ (ps : List ℕ). Contains ps a) (sym (cond-true (begins (n ∷ ns) (n ∷ (ns ++ rest))) (a ∷ more) more (begins_itself (n ∷ ns) rest))) (0, omega arith, refl)

found : (needle before rest : List ℕ) (a : ℕ) → 0 < length needle → Contains (places needle a (before ++ (needle ++ rest))) (a + length before)
unfolding places
found [] before rest a some = absurd (omega (arith, some))
found (n ∷ ns) [] rest a some = let same : a ≡ a + 0 = omega arith in subst (Contains (places (n ∷ ns) a ((n ∷ ns) ++ rest))) same (here n ns rest a)
found (n ∷ ns) (x ∷ before) rest a some =
    let next : a + 1 + length before ≡ a + suc (length before) = omega arith in
    let all = before ++ ((n ∷ ns) ++ rest) in
    later (begins (n ∷ ns) (x ∷ all)) a (a + suc (length before)) (places (n ∷ ns) (a + 1) all)
    (subst (Contains (places (n ∷ ns) (a + 1) all)) next (found (n ∷ ns) before rest (a + 1) some))

pub across : MatchesAcrossAreFound
across left right before behind a some =
    let same : before ++ ((left ++ right) ++ behind) ≡ (before ++ left) ++ (right ++ behind) = ap (λ (l : List ℕ). before ++ l) (append_assoc left right behind) ∙ sym (append_assoc before left (right ++ behind)) in
    subst (λ (l : List ℕ). Contains (places (left ++ right) a l) (a + length before)) same (found (left ++ right) before behind a some)

-- the steps tell what lies between their addresses
no_values : (space : Space) (a n : ℕ) → n ≡ 0 → values_from space a n ≡ []
unfolding values_from
no_values space a n is = ap (values_from space a) is

printing : (image : List ℕ) (space : Space) (steps : List Step) (p a q b : ℕ) → Leads image space p a steps q b → (a ≤ b) × (told_by image p steps ≡ values_from space a (b - a))
printing image space [] p a q b leads = let same = leads.1 in (omega (arith, same), sym (no_values space a (b - a) (omega (arith, same))))
printing image space (s ∷ ss) p a q b leads =
    let rest = printing image space ss (place_after p s) (a + count_of s) q b leads.2 in
    let low = rest.0 in
    let whole : count_of s + (b - (a + count_of s)) ≡ b - a = omega (arith, low) in (
      omega (arith, low),
      ap (λ (l : List ℕ). bytes_of image p s ++ l) rest.1 ∙ ap (λ (l : List ℕ). l ++ values_from space (a + count_of s) (b - (a + count_of s))) (sym leads.0)
          ∙ sym (values_split space a (count_of s) (b - (a + count_of s))) ∙ ap (values_from space a) whole,
    )

printing_all : (image : List ℕ) (space : Space) (steps : List Step) (q b : ℕ) → Leads image space 0 0 steps q b → told_by image 0 steps ≡ values_from space 0 b
printing_all image space steps q b leads = let all : b - 0 ≡ b = omega arith in (printing image space steps 0 0 q b leads).1 ∙ ap (values_from space 0) all

pub told : PlansTellTheValues
told image space steps way = printing_all image space steps way.0 (2 ^ 64 - 1) way.1

-- each text before an address is whole
one_more : (space : Space) (a : ℕ) (more : List (ℕ × ℕ)) (u : Bool) → IsText space a (text_len space a (2 ^ 64 - a)) → AllByRecursion (λ (x : ℕ × ℕ). IsText space x.0 x.1) more
    → AllByRecursion (λ (x : ℕ × ℕ). IsText space x.0 x.1) (cond u (text_from space a ∷ more) more)
one_more space a more true is rest = (is, rest)
one_more space a more false is rest = rest

texts_more : (space : Space) (least a : ℕ) (later : List ℕ) (t : Bool) → a < 2 ^ 64 → begins_text space a ≡ t
    → AllByRecursion (λ (x : ℕ × ℕ). IsText space x.0 x.1) (filter (is_long least) (map (text_from space) later))
    → AllByRecursion (λ (x : ℕ × ℕ). IsText space x.0 x.1) (filter (is_long least) (map (text_from space) (cond t (a ∷ later) later)))
texts_more space least a later true low is rest = one_more space a (filter (is_long least) (map (text_from space) later)) (is_long least (text_from space a)) (is_text space a low is) rest
texts_more space least a later false low is rest = rest

texts_whole : (space : Space) (least n a : ℕ) → a + n ≤ 2 ^ 64 → AllByRecursion (λ (x : ℕ × ℕ). IsText space x.0 x.1) (filter (is_long least) (map (text_from space) (filter (begins_text space) (range_with_len a n))))
texts_whole space least zero a within = tt
texts_whole space least (suc n) a within =
    texts_more space least a (filter (begins_text space) (range_with_len (a + 1) n)) (begins_text space a) (omega (arith, within)) refl
    (texts_whole space least n (a + 1) (omega (arith, within)))

pub whole : TextsAreWhole
whole space least past t low are =
    subst (λ (xs : List (ℕ × ℕ)). AllByRecursion (λ (x : ℕ × ℕ). IsText space x.0 x.1) xs) (sym are.told) (texts_whole space least past 0 (omega (arith, low)))
