-- One label more.
use Rattle.std.proofs.Common.{◌≡◌, ℕ, ◌+◌, ◌<◌, ◌==◌, Bool, true, false, not, ◌&&◌, ◌||◌, cond, List, [], ◌∷◌, ◌++◌, get_or, length, map, take, refl, sym, ap, ◌∙◌, filter, arith}
use Rattle.std.proofs.lemmas.Bool.{eq-eqb, eqb-false, eqb-true, ne_eqb}
use Rattle.std.proofs.lemmas.List.{append-nil, get_or-map, length-map, take-map, take_more}
use Rattle.std.proofs.lemmas.List.Elements.{filter-append}
use Rattle.std.specs.List.{list_any}
use Rattle.std.specs.Str.{bytes_eq}
use Rattle.group_tables.specs.Summary.{is_label, is_no_label, label_of, labels, once}
use Rattle.group_tables.specs.Values.{member_said}
use Rattle.group_tables.specs.declared.rows.GroupMember.{GroupMember}

eqb_sym : (a b : ℕ) → (a == b) ≡ (b == a)
eqb_sym a b = by (a == b) refl
  where
    by : (t : Bool) → (a == b) ≡ t → t ≡ (b == a)
    by true same = sym (eq-eqb b a (sym (eqb-true a b same)))
    by false differ = sym (ne_eqb b a (λ is. eqb-false a b differ (sym is)))

bytes_sym : (a b : List ℕ) → bytes_eq a b ≡ bytes_eq b a
bytes_sym [] [] = refl
bytes_sym [] (y ∷ ys) = refl
bytes_sym (x ∷ xs) [] = refl
bytes_sym (x ∷ xs) (y ∷ ys) = ap (λ (t : Bool). t && bytes_eq xs ys) (eqb_sym x y) ∙ ap (λ (t : Bool). (y == x) && t) (bytes_sym xs ys)

-- another text than this one
abbrev pub is_other : List ℕ → List ℕ → Bool
is_other t u = not (bytes_eq u t)

or_true : (a : Bool) → (a || true) ≡ true
or_true true = refl
or_true false = refl

or_false : (a : Bool) → (a || false) ≡ a
or_false true = refl
or_false false = refl

-- each text once, of one text more
once_more : (ts : List (List ℕ)) (t : List ℕ) → once (ts ++ t ∷ []) ≡ cond (list_any (λ u. bytes_eq u t) ts) (once ts) (once ts ++ t ∷ [])
once_more [] t = refl
once_more (x ∷ xs) t = ap (λ (l : List (List ℕ)). x ∷ filter (is_other x) l) (once_more xs t) ∙ by (list_any (λ u. bytes_eq u t) xs)
  where
    which : (b : Bool) → x ∷ (filter (is_other x) (once xs) ++ cond (not b) (t ∷ []) []) ≡ cond b (x ∷ filter (is_other x) (once xs)) (x ∷ filter (is_other x) (once xs) ++ t ∷ [])
    which true = ap (λ (l : List (List ℕ)). x ∷ l) (append-nil (filter (is_other x) (once xs)))
    which false = refl

    last : (b : Bool) → bytes_eq t x ≡ b → x ∷ (filter (is_other x) (once xs) ++ filter (is_other x) (t ∷ [])) ≡ cond b (x ∷ filter (is_other x) (once xs)) (x ∷ filter (is_other x) (once xs) ++ t ∷ [])
    last b is =
        ap (λ (s : Bool). x ∷ (filter (is_other x) (once xs) ++ cond (not s) (t ∷ []) [])) is ∙ which b

    by : (s : Bool) → x ∷ filter (is_other x) (cond s (once xs) (once xs ++ t ∷ []))
        ≡ cond (bytes_eq x t || s) (x ∷ filter (is_other x) (once xs)) (x ∷ filter (is_other x) (once xs) ++ t ∷ [])
    by true = sym (ap (λ (s : Bool). cond s (x ∷ filter (is_other x) (once xs)) (x ∷ filter (is_other x) (once xs) ++ t ∷ [])) (or_true (bytes_eq x t)))
    by false =
        ap (λ (l : List (List ℕ)). x ∷ l) (filter-append (is_other x) (once xs) (t ∷ []))
        ∙ last (bytes_eq t x) refl
        ∙ ap (λ (s : Bool). cond s (x ∷ filter (is_other x) (once xs)) (x ∷ filter (is_other x) (once xs) ++ t ∷ [])) (bytes_sym t x ∙ sym (or_false (bytes_eq x t)))

-- the label of one of these cores
pub label_read : (ms : List GroupMember) (at : ℕ) (m : GroupMember) → at < length ms → (get_or ms at m).case.now.label.items ≡ get_or (map label_of (map member_said ms)) at []
label_read ms at m below =
    sym (get_or-map label_of (map member_said ms) at (member_said m) [] (omega (arith, below, length-map ms member_said))
    ∙ ap label_of (get_or-map member_said ms at m (member_said m) below))

-- whether one of these has the label
any_said : (t : List ℕ) (ms : List GroupMember) → list_any (λ (m : GroupMember). bytes_eq m.case.now.label.items t) ms ≡ list_any (λ u. bytes_eq u t) (map label_of (map member_said ms))
any_said t [] = refl
any_said t (m ∷ ms) = ap (λ (s : Bool). bytes_eq m.case.now.label.items t || s) (any_said t ms)

-- those that are not empty, of one text more
some_more : (b : Bool) (t : List ℕ) (ls : List (List ℕ)) → filter is_label (cond b ls (ls ++ t ∷ [])) ≡ cond (b || is_no_label t) (filter is_label ls) (filter is_label ls ++ t ∷ [])
some_more true t ls = refl
some_more false t ls = filter-append is_label ls (t ∷ []) ∙ by (is_no_label t)
  where
    by : (e : Bool) → filter is_label ls ++ cond (not e) (t ∷ []) [] ≡ cond e (filter is_label ls) (filter is_label ls ++ t ∷ [])
    by true = append-nil (filter is_label ls)
    by false = refl

-- the labels of these cores
abbrev pub all_labels : List GroupMember → List (List ℕ)
all_labels ms = map label_of (map member_said ms)

-- those of the first cores
first_labels : (n : ℕ) (ms : List GroupMember) → all_labels (take n ms) ≡ take n (all_labels ms)
first_labels n ms = ap (map label_of) (sym (take-map member_said n ms)) ∙ sym (take-map label_of n (map member_said ms))

module _ (ms : List GroupMember) (at : ℕ) (l : List ℕ) (below : at < length ms) (is : l ≡ get_or (all_labels ms) at []) where
  -- whether a core before it has its label
  abbrev pub is_met : Bool
  is_met = list_any (λ (m : GroupMember). bytes_eq m.case.now.label.items l) (take at ms)

  abbrev pub before : List (List ℕ)
  before = labels (map member_said (take at ms))

  abbrev pub after : List (List ℕ)
  after = labels (map member_said (take (at + 1) ms))

  one_label_more : all_labels (take (at + 1) ms) ≡ all_labels (take at ms) ++ l ∷ []
  one_label_more =
      let long : at < length (all_labels ms) = omega (arith, below, length-map ms member_said, length-map (map member_said ms) label_of) in
      first_labels (at + 1) ms ∙ take_more (all_labels ms) at [] long
      ∙ ap (λ (t : List ℕ). take at (all_labels ms) ++ t ∷ []) (sym is)
      ∙ ap (λ (ts : List (List ℕ)). ts ++ l ∷ []) (sym (first_labels at ms))

  -- the labels of one core more
  labels_more : after ≡ cond (is_met || is_no_label l) before (before ++ l ∷ [])
  labels_more =
      ap (λ (ts : List (List ℕ)). filter is_label (once ts)) one_label_more
      ∙ ap (filter is_label) (once_more (all_labels (take at ms)) l)
      ∙ some_more (list_any (λ u. bytes_eq u l) (all_labels (take at ms))) l (once (all_labels (take at ms)))
      ∙ ap (λ (s : Bool). cond (s || is_no_label l) before (before ++ l ∷ [])) (sym (any_said l (take at ms)))

  -- the core has no label, or one that was met
  pub old_label : (found : List (List ℕ)) (r : Bool) → r ≡ (is_met || is_no_label l) → r ≡ true → found ≡ before → found ≡ after
  old_label found r is_old old so_far = so_far ∙ sym (labels_more ∙ ap (λ (s : Bool). cond s before (before ++ l ∷ [])) (sym is_old ∙ old))

  -- it has a new one
  pub new_label : (found new : List (List ℕ)) (r : Bool) → r ≡ (is_met || is_no_label l) → r ≡ false → found ≡ before → new ≡ found ++ l ∷ [] → new ≡ after
  new_label found new r is_old fresh so_far longer =
      longer ∙ ap (λ (ts : List (List ℕ)). ts ++ l ∷ []) so_far ∙ sym (labels_more ∙ ap (λ (s : Bool). cond s before (before ++ l ∷ [])) (sym is_old ∙ fresh))
