-- Groups, each where its first member is.
use Rattle.std.proofs.Common.{◌≡◌, ℕ, ◌+◌, ◌<◌, ◌≤◌, ◌==◌, Bool, true, false, not, ◌||◌, cond, List, [], ◌∷◌, ◌++◌, get_or, length, map, take, refl, sym, ap, subst, ◌∙◌, arith}
use Rattle.std.proofs.lemmas.Bool.{eq-eqb, eqb-false, eqb-true, ne_eqb}
use Rattle.std.proofs.lemmas.List.{append-nil, get_or-map, length-map, map-append}
use Rattle.std.proofs.lemmas.List.Elements.{filter-append}
use Rattle.std.specs.List.{filter, list_any, slice_index_or}
use Rattle.std.specs.List.Sorted.{IsNonDecreasingBy}
use Rattle.crash_signatures.specs.Grouping.{group_said, group_with}
use Rattle.crash_signatures.specs.Groups.{GroupSaid, rank, signatures}
use Rattle.crash_signatures.specs.declared.groups.Group.{Group}
use Rattle.crash_signatures.specs.declared.groups.Member.{Member}
use Rattle.crash_signatures.proofs.SliceLemmas.{take_one_more}

eqb_sym : (a b : ℕ) → (a == b) ≡ (b == a)
eqb_sym a b = by (a == b) refl
  where
    by : (t : Bool) → (a == b) ≡ t → t ≡ (b == a)
    by true same = sym (eq-eqb b a (sym (eqb-true a b same)))
    by false differ = sym (ne_eqb b a (λ is. eqb-false a b differ (sym is)))

-- of another group than this member's
abbrev pub is_other : Member → ℕ → Bool
is_other m s = not (s == m.group)

or_true : (a : Bool) → (a || true) ≡ true
or_true true = refl
or_true false = refl

or_false : (a : Bool) → (a || false) ≡ a
or_false true = refl
or_false false = refl

-- the signatures of one member more
pub signatures_more : (ms : List Member) (m : Member) → signatures (ms ++ m ∷ []) ≡ cond (list_any (λ x. x.group == m.group) ms) (signatures ms) (signatures ms ++ m.group ∷ [])
signatures_more [] m = refl
signatures_more (x ∷ xs) m = ap (λ (l : List ℕ). x.group ∷ filter (is_other x) l) (signatures_more xs m) ∙ by (list_any (λ y. y.group == m.group) xs)
  where
    which : (b : Bool) → x.group ∷ (filter (is_other x) (signatures xs) ++ cond (not b) (m.group ∷ []) []) ≡ cond b (x.group ∷ filter (is_other x) (signatures xs)) (x.group ∷ filter (is_other x) (signatures xs) ++ m.group ∷ [])
    which true = ap (λ (l : List ℕ). x.group ∷ l) (append-nil (filter (is_other x) (signatures xs)))
    which false = refl

    last : (b : Bool) → (m.group == x.group) ≡ b → x.group ∷ (filter (is_other x) (signatures xs) ++ filter (is_other x) (m.group ∷ [])) ≡ cond b (x.group ∷ filter (is_other x) (signatures xs)) (x.group ∷ filter (is_other x) (signatures xs) ++ m.group ∷ [])
    last b is =
        ap (λ (t : Bool). x.group ∷ (filter (is_other x) (signatures xs) ++ cond (not t) (m.group ∷ []) [])) is ∙ which b

    by : (t : Bool) → x.group ∷ filter (is_other x) (cond t (signatures xs) (signatures xs ++ m.group ∷ []))
        ≡ cond ((x.group == m.group) || t) (x.group ∷ filter (is_other x) (signatures xs)) (x.group ∷ filter (is_other x) (signatures xs) ++ m.group ∷ [])
    by true = sym (ap (λ (t : Bool). cond t (x.group ∷ filter (is_other x) (signatures xs)) (x.group ∷ filter (is_other x) (signatures xs) ++ m.group ∷ [])) (or_true (x.group == m.group)))
    by false =
        ap (λ (l : List ℕ). x.group ∷ l) (filter-append (is_other x) (signatures xs) (m.group ∷ []))
        ∙ last (m.group == x.group) refl
        ∙ ap (λ (t : Bool). cond t (x.group ∷ filter (is_other x) (signatures xs)) (x.group ∷ filter (is_other x) (signatures xs) ++ m.group ∷ [])) (eqb_sym m.group x.group ∙ sym (or_false (x.group == m.group)))

module _ (ms : List Member) (at s : ℕ) (below : at < length ms) (is : (d : Member) → s ≡ (get_or ms at d).group) where
  any_member : Member
  any_member = record { number = 0; group = s; is_perhaps = false }

  with_group : Bool → ℕ → List ℕ
  with_group t g = cond t (signatures (take at ms)) (signatures (take at ms) ++ g ∷ [])

  more : (t : Bool) → t ≡ list_any (λ x. x.group == s) (take at ms) → signatures (take (at + 1) ms) ≡ with_group t s
  unfolding with_group
  more t has =
      ap signatures (take_one_more ms at any_member below) ∙ signatures_more (take at ms) (get_or ms at any_member)
      ∙ sym (ap (λ (g : ℕ). cond (list_any (λ x. x.group == g) (take at ms)) (signatures (take at ms)) (signatures (take at ms) ++ g ∷ [])) (is any_member))
      ∙ ap (λ (b : Bool). cond b (signatures (take at ms)) (signatures (take at ms) ++ s ∷ [])) (sym has)

  pub known_group : (groups : List GroupSaid) (t : Bool) → t ≡ list_any (λ x. x.group == s) (take at ms) → t ≡ true → groups ≡ map (group_with ms) (signatures (take at ms))
      → groups ≡ map (group_with ms) (signatures (take (at + 1) ms))
  unfolding with_group
  known_group groups t has yes_has so_far =
      so_far ∙ ap (map (group_with ms)) (sym (more t has ∙ ap (λ (b : Bool). cond b (signatures (take at ms)) (signatures (take at ms) ++ s ∷ [])) yes_has))

  pub new_group : (old new : List Group) (g : Group) (t : Bool) → t ≡ list_any (λ x. x.group == s) (take at ms) → t ≡ false → map group_said old ≡ map (group_with ms) (signatures (take at ms))
      → group_said g ≡ group_with ms s → new ≡ old ++ g ∷ [] → map group_said new ≡ map (group_with ms) (signatures (take (at + 1) ms))
  unfolding with_group
  new_group old new g t has not_has so_far its longer =
      ap (map group_said) longer ∙ map-append group_said old (g ∷ []) ∙ ap (λ (l : List GroupSaid). l ++ group_said g ∷ []) so_far
      ∙ ap (λ (x : GroupSaid). map (group_with ms) (signatures (take at ms)) ++ x ∷ []) its
      ∙ sym (ap (map (group_with ms)) (more t has ∙ ap (λ (b : Bool). cond b (signatures (take at ms)) (signatures (take at ms) ++ s ∷ [])) not_has)
      ∙ map-append (group_with ms) (signatures (take at ms)) (s ∷ []))

pub ranks : (gs : List Group) → IsNonDecreasingBy (λ g. rank (group_said g)) gs → IsNonDecreasingBy rank (map group_said gs)
ranks [] rising i j d up below = absurd (omega (arith, below))
ranks (g ∷ gs) rising i j d up below =
    let l = length-map (g ∷ gs) group_said in
    let low : i < length (g ∷ gs) = omega (arith, up, below, l) in
    let high : j < length (g ∷ gs) = omega (arith, below, l) in
    let a : rank (slice_index_or (map group_said (g ∷ gs)) i d) ≡ rank (group_said (slice_index_or (g ∷ gs) i g)) = ap rank (get_or-map group_said (g ∷ gs) i g d low) in
    let b : rank (slice_index_or (map group_said (g ∷ gs)) j d) ≡ rank (group_said (slice_index_or (g ∷ gs) j g)) = ap rank (get_or-map group_said (g ∷ gs) j g d high) in
    let up_to = rising i j g up high in
    subst (λ (n : ℕ). n ≤ rank (slice_index_or (map group_said (g ∷ gs)) j d)) (sym a) (subst (λ (n : ℕ). rank (group_said (slice_index_or (g ∷ gs) i g)) ≤ n) (sym b) up_to)
