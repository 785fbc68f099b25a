-- The places of units, and the lines of which a table has no directory.
use Rattle.std.proofs.Common.{◌≡◌, ◌≤◌, ◌+◌, ◌-◌, ◌==◌, ◌||◌, ℕ, zero, suc, Bool, true, false, cond, leb, ltb, List, [], ◌∷◌, ◌++◌, Option, Some, None, Result, Ok, Err, length, take, drop, refl, ap, ◌∙◌, sym, subst, append_assoc, arith}
use Rattle.std.proofs.lemmas.Bool.{leb-true, leb-false}
use Rattle.std.proofs.lemmas.List.{drop-drop, drop_all, length-drop}
use Rattle.std.proofs.lemmas.Option.{same_Some}
use Rattle.std.specs.Option.{option_and_then, option_map, option_or}
use Rattle.elf_view.specs.Field.{field}
use Rattle.line_tables.specs.Chain.{and_then}
use Rattle.line_tables.specs.Entries.{EntryView, ListView, nth}
use Rattle.line_tables.specs.Files.{PathView, path, is_absolute, with_slash, text_of, listed_path, numbered_path, path_of, file_entry, file_path}
use Rattle.line_tables.specs.Finding.{TablesView, PlaceView, LineView, header_of, table_of, table_in, place, place_by, first_place, first_fault, relative_to, line_by, line_of, answer, units_of, line_at, within}
use Rattle.line_tables.specs.Grammar.{ArePlaced}
use Rattle.line_tables.specs.Header.{HeaderView}
use Rattle.line_tables.specs.Rows.{rows_of}
use Rattle.line_tables.specs.Sequences.{sequences_in, row_among}
use Rattle.line_tables.specs.Texts.{number, split}
use Rattle.line_tables.specs.Units.{UnitView, if_whole, framed, unit_of, behind_unit, place_behind, units_from, units_in}
use Rattle.line_tables.specs.declared.faults.LineFault.{LineFault}
use Rattle.line_tables.specs.declared.faults.LineField.{LineField}
use Rattle.line_tables.specs.declared.faults.NoLine.{NoLine}
use Rattle.line_tables.specs.declared.faults.NoLine.TheVariants.{Uncovered}
use Rattle.line_tables.specs.declared.registers.Row.{Row}
use Rattle.line_tables.proofs.UnitPlaces.{behind_fewer, units_next, units_end}

-- the last bytes of others
abbrev IsRest : List ℕ → List ℕ → Type 0
IsRest bytes rest = (k : ℕ) × (rest ≡ drop k bytes)

cut_rest : {A : Type 0} (w : ℕ) (bytes : List ℕ) (x : A) (t : Bool) (p : A × List ℕ) → cond t (Some (x, drop w bytes)) None ≡ Some p → p.1 ≡ drop w bytes
cut_rest w bytes x false p h = cc
cut_rest w bytes x true p h = sym (ap (λ q. q.1) (same_Some _ _ h))

number_rest : (w : ℕ) (bytes : List ℕ) (p : ℕ × List ℕ) → number w bytes ≡ Some p → p.1 ≡ drop w bytes
unfolding number
number_rest w bytes p h = cut_rest w bytes (field bytes 0 w) (leb w (length bytes)) p h

split_rest : (n : ℕ) (bytes : List ℕ) (p : List ℕ × List ℕ) → split n bytes ≡ Some p → p.1 ≡ drop n bytes
unfolding split
split_rest n bytes p h = cut_rest n bytes (take n bytes) (leb n (length bytes)) p h

whole_rest : (n : ℕ × List ℕ) (t : Bool) (p : List ℕ × List ℕ) → cond t (split n.0 n.1) None ≡ Some p → p.1 ≡ drop n.0 n.1
whole_rest n true p h = split_rest n.0 n.1 p h
whole_rest n false p h = cc

framed_rest : (bytes : List ℕ) (o : Option (ℕ × List ℕ)) (p : List ℕ × List ℕ) → number 4 bytes ≡ o → option_and_then if_whole o ≡ Some p → IsRest bytes p.1
framed_rest bytes None p is h = cc
framed_rest bytes (Some n) p is h =
    (4 + n.0, whole_rest n (ltb n.0 0xfffffff0) p h ∙ ap (drop n.0) (number_rest 4 bytes n is) ∙ drop-drop n.0 4 bytes)

behind_by : (bytes : List ℕ) (o : Option (List ℕ × List ℕ)) → ((p : List ℕ × List ℕ) → o ≡ Some p → IsRest bytes p.1) → IsRest bytes (behind_unit o)
behind_by bytes None f = (length bytes, sym (drop_all (length bytes) bytes (omega arith)))
behind_by bytes (Some p) f = f p refl

behind_rest : (bytes : List ℕ) → IsRest bytes (behind_unit (framed bytes))
unfolding framed
behind_rest bytes = behind_by bytes (framed bytes) (λ p. framed_rest bytes (number 4 bytes) p refl)

-- the last bytes are those after as many as there are more in all
rest_by : (bytes : List ℕ) (k : ℕ) (t : Bool) → leb k (length bytes) ≡ t → drop k bytes ≡ drop (length bytes - length (drop k bytes)) bytes
rest_by bytes k true is =
    let within = leb-true k (length bytes) is in
    let same : k ≡ length bytes - length (drop k bytes) = omega (arith, length-drop k bytes, within) in ap (λ m. drop m bytes) same
rest_by bytes k false is =
    let past = leb-false k (length bytes) is in
    let none : length (drop k bytes) ≡ 0 = omega (arith, length-drop k bytes, past) in
    drop_all k bytes (omega (arith, past)) ∙ sym (drop_all (length bytes - length (drop k bytes)) bytes (omega (arith, none)))

rest_from : (bytes rest : List ℕ) → IsRest bytes rest → rest ≡ drop (length bytes - length rest) bytes
rest_from bytes rest r =
    r.1 ∙ rest_by bytes r.0 (leb r.0 (length bytes)) refl ∙ ap (λ q. drop (length bytes - length q) bytes) (sym r.1)

behind_placed : (p : ℕ) (section bytes : List ℕ) → bytes ≡ drop p section → behind_unit (framed bytes) ≡ drop (place_behind p bytes) section
behind_placed p section bytes is =
    rest_from bytes (behind_unit (framed bytes)) (behind_rest bytes)
    ∙ ap (drop (length bytes - length (behind_unit (framed bytes)))) is
    ∙ drop-drop (length bytes - length (behind_unit (framed bytes))) p section

placed_by : (n i p : ℕ) (section bytes : List ℕ) → bytes ≡ drop p section → length bytes ≤ n → ArePlaced section (units_from i p bytes)
placed_by n i p section [] is few = subst (ArePlaced section) (sym (units_end i p [] refl)) tt
placed_by zero i p section (x ∷ xs) is few = absurd (omega arith)
placed_by (suc n) i p section (x ∷ xs) is few =
    let less = behind_fewer (x ∷ xs) (omega arith) in
    subst (ArePlaced section) (sym (units_next i p (x ∷ xs) (omega arith))) (ap (λ b. unit_of i p (framed b)) is, placed_by n (i + 1) (place_behind p (x ∷ xs)) section (behind_unit (framed (x ∷ xs))) (behind_placed p section (x ∷ xs) is) (omega arith))

pub placed : (section : List ℕ) → ArePlaced section (units_in section)
placed section = placed_by (length section) 0 0 section section refl (omega arith)

-- a row of an address is in the table at its place
table_row : (p : ℕ) (h : HeaderView) (o : Option Row) (q : PlaceView) → option_map (place p h) o ≡ Some q → q.table ≡ p
table_row p h None q is = cc
table_row p h (Some row) q is = sym (ap (λ (z : PlaceView). z.table) (same_Some _ _ is))

table_rows : (v p : ℕ) (h : HeaderView) (s : Result (List (List Row)) LineField) (q : PlaceView) → place_by v (and_then s (λ ss. Ok (table_of p h ss))) ≡ Some q → q.table ≡ p
table_rows v p h (Ok ss) q is = table_row p h (row_among v ss) q is
table_rows v p h (Err f) q is = cc

table_by : (v p : ℕ) (r : Result HeaderView LineField) (q : PlaceView) → place_by v (and_then r (λ h. and_then (sequences_in (rows_of h)) (λ ss. Ok (table_of p h ss)))) ≡ Some q → q.table ≡ p
table_by v p (Ok h) q is = table_rows v p h (sequences_in (rows_of h)) q is
table_by v p (Err f) q is = cc

table_is : (t : TablesView) (v : ℕ) (u : UnitView) (q : PlaceView) → place_by v (table_in t u) ≡ Some q → q.table ≡ u.place
unfolding table_in
table_is t v u q is = table_by v u.place (header_of t u) q is

-- the unit at a place has the row
abbrev HasRow : TablesView → ℕ → PlaceView → ℕ → ℕ → Type 0
HasRow t v q p i = place_by v (table_in t (unit_of i p (framed (drop p t.debug_line)))) ≡ Some q

row_of_unit : (t : TablesView) (v : ℕ) (u : UnitView) (q : PlaceView) → u ≡ unit_of u.index u.place (framed (drop u.place t.debug_line)) → place_by v (table_in t u) ≡ Some q → HasRow t v q q.table u.index
row_of_unit t v u q at is =
    ap (λ p. place_by v (table_in t (unit_of u.index p (framed (drop p t.debug_line))))) (table_is t v u q is)
    ∙ ap (λ w. place_by v (table_in t w)) (sym at)
    ∙ is

found_by : (t : TablesView) (v : ℕ) (u : UnitView) (q : PlaceView) (o rest : Option PlaceView) → u ≡ unit_of u.index u.place (framed (drop u.place t.debug_line)) → place_by v (table_in t u) ≡ o → (rest ≡ Some q → (i : ℕ) × HasRow t v q q.table i) → option_or o rest ≡ Some q → (i : ℕ) × HasRow t v q q.table i
found_by t v u q None rest at is more h = more h
found_by t v u q (Some r) rest at is more h = (u.index, row_of_unit t v u q at (is ∙ h))

found_among : (t : TablesView) (v : ℕ) (us : List UnitView) (q : PlaceView) → ArePlaced t.debug_line us → first_place t v us ≡ Some q → (i : ℕ) × HasRow t v q q.table i
unfolding first_place
found_among t v [] q at h = cc
found_among t v (u ∷ us) q at h =
    found_by t v u q (place_by v (table_in t u)) (first_place t v us) at.0 refl (found_among t v us q at.1) h

-- a line is that of a row
answer_row : (o : Option PlaceView) (f : Option LineFault) (l : LineView) → answer o f ≡ Ok l → (q : PlaceView) × (o ≡ Some q) × (line_of q ≡ Ok l)
answer_row (Some q) f l h = (q, refl, h)
answer_row None (Some f) l h = cc
answer_row None None l h = cc

line_row : (t : TablesView) (v : ℕ) (l : LineView) → line_at t v ≡ Ok l → (q : PlaceView) × (first_place t v (units_of t) ≡ Some q) × (line_of q ≡ Ok l)
unfolding line_at
line_row t v l h = answer_row (first_place t v (units_of t)) (first_fault t (units_of t)) l h

-- what is known of a line that has the place of its table
record InCompilation (q : PlaceView) (l : LineView) (p : ℕ) : Type 0 where
  path : PathView
  is : file_path q.header q.row.file ≡ Some path
  file : l.file ≡ path
  table : relative_to q path ≡ Some p

same_line : (l m : LineView) → ◌≡◌ {A = Result LineView NoLine} (Ok l) (Ok m) → l ≡ m
same_line l m h = cc

line_path : (q : PlaceView) (l : LineView) (p : ℕ) (o : Option PathView) → file_path q.header q.row.file ≡ o → line_by q o ≡ Ok l → l.table ≡ Some p → InCompilation q l p
line_path q l p None is h table = cc
line_path q l p (Some f) is h table =
    let same = same_line _ l h in
    record { path = f; is = is; file = sym (ap (λ (m : LineView). m.file) same); table = ap (λ (m : LineView). m.table) same ∙ table }

line_some : (q : PlaceView) (l : LineView) (p : ℕ) (t : Bool) → cond t (Err Uncovered) (line_by q (file_path q.header q.row.file)) ≡ Ok l → l.table ≡ Some p → InCompilation q l p
line_some q l p true h table = cc
line_some q l p false h table = line_path q l p (file_path q.header q.row.file) refl h table

in_compilation : (q : PlaceView) (l : LineView) (p : ℕ) → line_of q ≡ Ok l → l.table ≡ Some p → InCompilation q l p
unfolding line_of
in_compilation q l p h table = line_some q l p (q.row.line == 0) h table

relative_by : (a b : Bool) (x p : ℕ) → cond (a || b) None (Some x) ≡ Some p → (a ≡ false) × (x ≡ p)
relative_by true b x p h = cc
relative_by false true x p h = cc
relative_by false false x p h = (refl, same_Some _ _ h)

relative : (q : PlaceView) (f : PathView) (p : ℕ) → relative_to q f ≡ Some p → ((q.header.version == 5) ≡ false) × (q.table ≡ p)
relative q f p h = relative_by (q.header.version == 5) (is_absolute (text_of f)) q.table p h

pub line_table : (t : TablesView) (v : ℕ) (l : LineView) (p : ℕ) → line_at t v ≡ Ok l → l.table ≡ Some p
    → (i : ℕ) × (found : PlaceView) × (place_by v (table_in t (unit_of i p (framed (drop p t.debug_line)))) ≡ Some found) × (line_of found ≡ Ok l)
line_table t v l p h table =
    let row = line_row t v l h in
    let of = in_compilation row.0 l p row.2 table in
    let at = found_among t v (units_of t) row.0 (placed t.debug_line) row.1 in
    let same = (relative row.0 of.path p of.table).1 in
    (at.0, row.0, subst (λ x. HasRow t v row.0 x at.0) same at.1, row.2)

-- the path of a name in a directory of versions 2 to 4 has no base
listed_nth : (text : List ℕ) (o : Option EntryView) (f : PathView) → option_map (λ (d : EntryView). path [] d.text text) o ≡ Some f → f.base ≡ []
listed_nth text None f h = cc
listed_nth text (Some d) f h = sym (ap (λ (g : PathView). g.base) (same_Some _ _ h))

alone_base : (text : List ℕ) (f : PathView) → Some (path [] [] text) ≡ Some f → f.base ≡ []
alone_base text f h = sym (ap (λ (g : PathView). g.base) (same_Some _ _ h))

listed_by : (text : List ℕ) (t : Bool) (o : Option EntryView) (f : PathView) → cond t (Some (path [] [] text)) (option_map (λ (d : EntryView). path [] d.text text) o) ≡ Some f → f.base ≡ []
listed_by text true o f h = alone_base text f h
listed_by text false o f h = listed_nth text o f h

listed_base : (l : ListView) (e : EntryView) (f : PathView) → listed_path l e ≡ Some f → f.base ≡ []
unfolding listed_path
listed_base l e f h = listed_by e.text (e.folder == 0) (nth l (e.folder - 1)) f h

base_by : (text : List ℕ) (a b c : Bool) (numbered listed : Option PathView) (f : PathView) → c ≡ false → (listed ≡ Some f → f.base ≡ []) → cond a None (cond b (Some (path [] [] text)) (cond c numbered listed)) ≡ Some f → f.base ≡ []
base_by text true b c numbered listed f early more h = cc
base_by text false true c numbered listed f early more h = alone_base text f h
base_by text false false true numbered listed f early more h = cc
base_by text false false false numbered listed f early more h = more h

path_base : (h : HeaderView) (o : Option EntryView) (f : PathView) → (h.version == 5) ≡ false → option_and_then (path_of h) o ≡ Some f → f.base ≡ []
unfolding path_of
path_base h None f early is = cc
path_base h (Some e) f early is =
    base_by e.text (length e.text == 0) (is_absolute e.text) (h.version == 5) (numbered_path h.lists.directories e) (listed_path h.lists.directories e) f early (listed_base h.lists.directories e f) is

file_base : (h : HeaderView) (n : ℕ) (f : PathView) → (h.version == 5) ≡ false → file_path h n ≡ Some f → f.base ≡ []
unfolding file_path
file_base h n f early is = path_base h (file_entry h n) f early is

within_by : (directory : List ℕ) (f : PathView) → f.base ≡ [] → text_of (path directory f.directory f.name) ≡ with_slash directory ++ text_of f
within_by directory f none =
    append_assoc (with_slash directory) (with_slash f.directory) f.name
    ∙ ap (λ base. with_slash directory ++ (with_slash base ++ with_slash f.directory ++ f.name)) (sym none)

pub line_within : (t : TablesView) (v : ℕ) (l : LineView) (p : ℕ) (directory : List ℕ) → line_at t v ≡ Ok l → l.table ≡ Some p → text_of (within directory l).file ≡ with_slash directory ++ text_of l.file
line_within t v l p directory h table =
    let row = line_row t v l h in
    let of = in_compilation row.0 l p row.2 table in
    let early = (relative row.0 of.path p of.table).0 in
    within_by directory l.file (ap (λ (f : PathView). f.base) of.file ∙ file_base row.0.header row.0.row.file of.path early of.is)
