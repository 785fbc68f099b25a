-- One case more in a table.
use Rattle.std.proofs.Common.{◌≡◌, ℕ, ◌+◌, ◌<◌, max, List, [], ◌∷◌, ◌++◌, length, take, map, get_or, drop, Option, sym, ap, ◌∙◌, arith}
use Rattle.std.proofs.lemmas.List.{flat_map_more, take_more, map-append, drop-map, length-map}
use Rattle.std.specs.List.{flat_map}
use Rattle.journal_layout.specs.Case.{Case}
use Rattle.case_tables.specs.declared.columns.Column.{Column}
use Rattle.case_tables.specs.declared.zones.Zone.{Zone}
use Rattle.case_tables.specs.Cells.{cell, heading}
use Rattle.case_tables.specs.Table.{greatest, width}
use Rattle.case_tables.specs.Wanted.{last_of, skipped}

greatest_more : (ns : List ℕ) (n : ℕ) → greatest (ns ++ n ∷ []) ≡ max (greatest ns) n
greatest_more [] n = omega arith
greatest_more (m ∷ ns) n = omega (arith, greatest_more ns n)

pub width_more : {E : Type 0} (z : Zone) (k : Column) (f : E → Case) (es : List E) (i : ℕ) (e : E) → i < length es
    → width z k (map f (take (i + 1) es)) ≡ max (width z k (map f (take i es))) (length (cell z k (f (get_or es i e))))
width_more z k f es i e within =
    let more = ap (map f) (take_more es i e within) ∙ map-append f (take i es) (get_or es i e ∷ []) in
    let lengths = ap (map (λ c. length (cell z k c))) more ∙ map-append (λ c. length (cell z k c)) (map f (take i es)) (f (get_or es i e) ∷ []) in
    let most = ap greatest lengths ∙ greatest_more (map (λ c. length (cell z k c)) (map f (take i es))) (length (cell z k (f (get_or es i e)))) in
    ap (max (length (heading k))) most ∙ omega arith

-- the last of what is made of each are what is made of the last
pub last_made : {A B : Type 0} (f : A → B) (last : Option ℕ) (xs : List A) → map f (last_of last xs) ≡ last_of last (map f xs)
last_made f last xs = sym (drop-map f (skipped last (length xs)) xs) ∙ ap (λ n. drop (skipped last n) (map f xs)) (sym (length-map xs f))

-- the text of one more row
pub row_more : {E Y : Type 0} (text : Y → List ℕ) (f : E → Y) (es : List E) (i : ℕ) (e : E) → i < length es
    → flat_map text (map f (take i es)) ++ text (f (get_or es i e)) ≡ flat_map text (map f (take (i + 1) es))
row_more text f es i e within =
    flat_map_more text [] (map f (take i es)) (f (get_or es i e))
    ∙ ap (flat_map text) (sym (ap (map f) (take_more es i e within) ∙ map-append f (take i es) (get_or es i e ∷ [])))
