-- A script is cut into items and an ending in one way, and each text is such a script.
use Rattle.std.proofs.Common.{◌≡◌, ◌⊎◌, inl, inr, ⊎_elim, ℕ, zero, suc, ◌<◌, ◌≤◌, List, [], ◌∷◌, ◌++◌, length, refl, sym, ap, ◌∙◌, arith, append_assoc}
use Rattle.std.proofs.lemmas.Bool.{cases_eq, cases_lt}
use Rattle.std.proofs.lemmas.List.{length-append, length-take-le, length-drop, take-append-drop}
use Rattle.std.specs.Prelude.{take, drop}
use Rattle.std.specs.List.{flat_map, AllByRecursion}
use Rattle.script_streams.specs.Lines.{IsLine}
use Rattle.inspector_cli.specs.Cuts.{IsBrokenOff}
use Rattle.script_lines.specs.Said.{said, raw_length}
use Rattle.inspector_cli.specs.Session.{Item, IsItem, spelled, Ending, complete, last_line, cut_part, IsEnding, ending_text}

tails : (c d : ℕ) (xs ys : List ℕ) → c ∷ xs ≡ d ∷ ys → xs ≡ ys
tails c d xs ys e = cc

grown : (c d : ℕ) (a b xs ys x y : List ℕ) → c ∷ xs ≡ d ∷ ys → (a ≡ b) × (x ≡ y) → (c ∷ a ≡ d ∷ b) × (x ≡ y)
grown c d a b xs ys x y e parts = let front : c ∷ a ≡ d ∷ b = cc (e, parts.0) in (front, parts.1)

-- texts whose fronts are equally long are equal front by front
halves : (a b x y : List ℕ) → length a ≡ length b → a ++ x ≡ b ++ y → (a ≡ b) × (x ≡ y)
halves [] [] x y long e = (refl, e)
halves [] (d ∷ ds) x y long e = absurd (omega (arith, long))
halves (c ∷ cs) [] x y long e = absurd (omega (arith, long))
halves (c ∷ cs) (d ∷ ds) x y long e =
    grown c d cs ds (cs ++ x) (ds ++ y) x y e (halves cs ds x y (omega (arith, long)) (tails c d (cs ++ x) (ds ++ y) e))

-- bytes that are too few hold no others that are enough
too_few : (raw whole rest : List ℕ) (m n : ℕ) → length raw < m → m ≡ n → length whole ≡ n → raw ≡ whole ++ rest → ⊥
too_few raw whole rest m n few same enough is =
    let sum = ap length is ∙ length-append whole rest in omega (arith, few, same, enough, sum)

-- what stands behind the newline of an item
behind : (i : Item) (more rest : List ℕ) → spelled i ++ more ++ rest ≡ i.line ++ 10 ∷ (i.raw ++ (more ++ rest))
behind i more rest = append_assoc (spelled i) more rest ∙ append_assoc i.line (10 ∷ i.raw) (more ++ rest)

same_item : (i j : Item) → i.line ≡ j.line → i.raw ≡ j.raw → i ≡ j
same_item i j line raw =
    let a : i ≡ record { line = j.line; raw = i.raw } = ap (λ (x : List ℕ). record { line = x; raw = i.raw }) line in
    let b : record { line = j.line; raw = i.raw } ≡ j = ap (λ (x : List ℕ). record { line = j.line; raw = x }) raw in
    a ∙ b

same_items : (i j : Item) (is js : List Item) (e f : Ending) → i ≡ j → (is ≡ js) × (e ≡ f) → (i ∷ is ≡ j ∷ js) × (e ≡ f)
same_items i j is js e f same rest = let all : i ∷ is ≡ j ∷ js = cc (same, rest.0) in (all, rest.1)

-- a text has one first line, and a line has no newline
abbrev pub HasOneFirstLine : Type 0
HasOneFirstLine = (line other rest others : List ℕ) → IsLine line → IsLine other → line ++ 10 ∷ rest ≡ other ++ 10 ∷ others → (line ≡ other) × (rest ≡ others)

abbrev pub HasNoNewline : Type 0
HasNoNewline = (line front rest : List ℕ) → IsLine line → line ≡ front ++ 10 ∷ rest → ⊥

module _ (first : HasOneFirstLine) (last : HasNoNewline) where
  one_ending : (e f : Ending) → IsEnding e → IsEnding f → ending_text e ≡ ending_text f → e ≡ f
  one_ending complete complete a b is = refl
  one_ending complete (last_line line) a b is = let none = ap length is in absurd (omega (arith, none, b.1))
  one_ending complete (cut_part line raw) a b is = absurd (last [] line raw tt is)
  one_ending (last_line line) complete a b is = let none = ap length is in absurd (omega (arith, none, a.1))
  one_ending (last_line line) (last_line other) a b is = ap last_line is
  one_ending (last_line line) (cut_part other raw) a b is = absurd (last line other raw a.0 is)
  one_ending (cut_part line raw) complete a b is = absurd (last [] line raw tt (sym is))
  one_ending (cut_part line raw) (last_line other) a b is = absurd (last other line raw b.0 (sym is))
  one_ending (cut_part line raw) (cut_part other more) a b is = let same = first line other raw more a.0 b.0 is in cc (same.0, same.1)

  -- no item stands in the text of an ending
  no_item : (e : Ending) (i : Item) (rest : List ℕ) → IsEnding e → IsItem i → ending_text e ≡ i.line ++ 10 ∷ (i.raw ++ rest) → ⊥
  no_item complete i rest ends item is = last [] i.line (i.raw ++ rest) tt is
  no_item (last_line line) i rest ends item is = last line i.line (i.raw ++ rest) ends.0 is
  no_item (cut_part line raw) i rest ends item is =
      let same = first line i.line raw (i.raw ++ rest) ends.0 item.line is in
      too_few raw i.raw rest (raw_length (said line)) (raw_length (said i.line)) ends.1 (ap (λ (x : List ℕ). raw_length (said x)) same.0) item.raw same.1

  -- the first items are the same, and what stands behind them
  one_item : (i j : Item) (rest others : List ℕ) → IsItem i → IsItem j → i.line ++ 10 ∷ (i.raw ++ rest) ≡ j.line ++ 10 ∷ (j.raw ++ others) → (i ≡ j) × (rest ≡ others)
  one_item i j rest others item other is =
      let same = first i.line j.line (i.raw ++ rest) (j.raw ++ others) item.line other.line is in
      let parts = halves i.raw j.raw rest others (item.raw ∙ ap (λ (x : List ℕ). raw_length (said x)) same.0 ∙ sym other.raw) same.1 in
      (same_item i j same.0 parts.0, parts.1)

  pub one_cut : (items others : List Item) (e f : Ending) → AllByRecursion IsItem items → AllByRecursion IsItem others → IsEnding e → IsEnding f
      → flat_map spelled items ++ ending_text e ≡ flat_map spelled others ++ ending_text f → (items ≡ others) × (e ≡ f)
  one_cut [] [] e f each all a b is = (refl, one_ending e f a b is)
  one_cut [] (j ∷ js) e f each all a b is = absurd (no_item e j (flat_map spelled js ++ ending_text f) a all.0 (is ∙ behind j (flat_map spelled js) (ending_text f)))
  one_cut (i ∷ is) [] e f each all a b same = absurd (no_item f i (flat_map spelled is ++ ending_text e) b each.0 (sym same ∙ behind i (flat_map spelled is) (ending_text e)))
  one_cut (i ∷ is) (j ∷ js) e f each all a b same =
      let heads = one_item i j (flat_map spelled is ++ ending_text e) (flat_map spelled js ++ ending_text f) each.0 all.0
      (sym (behind i (flat_map spelled is) (ending_text e)) ∙ same ∙ behind j (flat_map spelled js) (ending_text f)) in
      same_items i j is js e f heads.0 (one_cut is js e f each.1 all.1 a b heads.1)

abbrev pub IsCut : List ℕ → Type 0
IsCut text = (items : List Item) × (ending : Ending) × AllByRecursion IsItem items × IsEnding ending × (text ≡ flat_map spelled items ++ ending_text ending)

-- a text is one line, or has a first one
abbrev pub IsOneOrMore : List ℕ → Type 0
IsOneOrMore text = IsLine text ⊎ ((line : List ℕ) × (rest : List ℕ) × IsLine line × (text ≡ line ++ 10 ∷ rest))

one_or_more : (text : List ℕ) → IsOneOrMore text
one_or_more [] = inl tt
one_or_more (c ∷ cs) =
    ⊎_elim
    (λ newline. inr ([], cs, tt, ap (λ (x : ℕ). x ∷ cs) newline))
    (λ other. ⊎_elim (λ line. inl (other, line)) (λ more. inr (c ∷ more.0, more.1, (other, more.2), ap (λ (x : List ℕ). c ∷ x) more.3)) (one_or_more cs))
    (cases_eq c 10)

-- what is broken off is the text of an ending
of_line : (rest : List ℕ) → IsLine rest → (e : Ending) × IsEnding e × (rest ≡ ending_text e)
of_line [] line = (complete, tt, refl)
of_line (c ∷ cs) line = (last_line (c ∷ cs), (line, omega arith), refl)

as_ending : (rest : List ℕ) → IsBrokenOff rest → (e : Ending) × IsEnding e × (rest ≡ ending_text e)
as_ending rest broken = ⊎_elim (λ line. of_line rest line) (λ cut. (cut_part cut.0 cut.1, (cut.3, cut.4), cut.2)) broken

pub one_front : HasOneFirstLine → HasNoNewline → (items others : List Item) (rest other : List ℕ) → AllByRecursion IsItem items → AllByRecursion IsItem others → IsBrokenOff rest → IsBrokenOff other
    → flat_map spelled items ++ rest ≡ flat_map spelled others ++ other → (items ≡ others) × (rest ≡ other)
one_front first last items others rest other each all broken off is =
    let e = as_ending rest broken in
    let f = as_ending other off in
    let cut = one_cut first last items others e.0 f.0 each all e.1 f.1
    (sym (ap (λ (x : List ℕ). flat_map spelled items ++ x) e.2) ∙ is ∙ ap (λ (x : List ℕ). flat_map spelled others ++ x) f.2) in
    (cut.0, e.2 ∙ ap ending_text cut.1 ∙ sym f.2)

-- a text without a newline is an ending
one_line : (text : List ℕ) → IsLine text → IsCut text
one_line [] line = ([], complete, tt, tt, refl)
one_line (c ∷ cs) line = ([], last_line (c ∷ cs), tt, (line, omega arith), refl)

-- a line with its bytes behind it is an item
item_first : (text line rest : List ℕ) → IsLine line → text ≡ line ++ 10 ∷ rest → raw_length (said line) ≤ length rest → IsCut (drop (raw_length (said line)) rest) → IsCut text
item_first text line rest one is long more =
    let n : ℕ = raw_length (said line) in
    let i : Item = record { line = line; raw = take n rest } in
    let whole : rest ≡ take n rest ++ (flat_map spelled more.0 ++ ending_text more.1) = sym (take-append-drop n rest) ∙ ap (λ (x : List ℕ). take n rest ++ x) more.4 in (
      i ∷ more.0,
      more.1,
      (record { line = one; raw = length-take-le n rest long }, more.2),
      more.3,
      is ∙ ap (λ (x : List ℕ). line ++ 10 ∷ x) whole ∙ sym (behind i (flat_map spelled more.0) (ending_text more.1)),
    )

fewer_left : (n k : ℕ) (text line rest : List ℕ) → text ≡ line ++ 10 ∷ rest → length text < suc n → length (drop k rest) < n
fewer_left n k text line rest is low =
    let all = ap length is ∙ length-append line (10 ∷ rest) in let left = length-drop k rest in omega (arith, all, left, low)

-- a text that has a first line has a cut, if each shorter one has
more_lines : (n : ℕ) (text line rest : List ℕ) → length text < suc n → ((shorter : List ℕ) → length shorter < n → IsCut shorter) → IsLine line → text ≡ line ++ 10 ∷ rest → IsCut text
more_lines n text line rest low shorter one is =
    ⊎_elim
    (λ few. ([], cut_part line rest, tt, (one, few), is))
    (λ enough.
    item_first text line rest one is enough
    (shorter (drop (raw_length (said line)) rest) (fewer_left n (raw_length (said line)) text line rest is low)))
    (cases_lt (length rest) (raw_length (said line)))

-- a text of fewer bytes than that has a cut
cut_below : (n : ℕ) (text : List ℕ) → length text < n → IsCut text
cut_below zero text low = absurd (omega (arith, low))
cut_below (suc n) text low =
    ⊎_elim (λ line. one_line text line) (λ more. more_lines n text more.0 more.1 low (cut_below n) more.2 more.3) (one_or_more text)

pub some_cut : (text : List ℕ) → IsCut text
some_cut text = cut_below (suc (length text)) text (omega arith)
