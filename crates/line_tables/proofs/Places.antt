-- Units, one by one: their rows, and their faults.
use Rattle.std.proofs.Common.{◌≡◌, ◌≢◌, ◌-◌, ℕ, zero, suc, List, [], ◌∷◌, Option, Some, None, Result, Ok, Err, refl, ap, ◌∙◌, sym, arith}
use Rattle.std.specs.Option.{option_map, option_or}
use Rattle.std.specs.Prelude.{slice_get}
use Rattle.line_tables.specs.Chain.{and_then}
use Rattle.line_tables.specs.Entries.{EntryView}
use Rattle.line_tables.specs.Files.{added_by, with_entry, added_among}
use Rattle.line_tables.specs.Finding.{TablesView, PlaceView, LineView, header_of, table_of, table_in, place, place_among, place_by, place_in, first_place, fault_by, first_fault, line_of, answer}
use Rattle.line_tables.specs.Header.{HeaderView}
use Rattle.line_tables.specs.Instructions.{StepView}
use Rattle.line_tables.specs.Rows.{rows_of}
use Rattle.line_tables.specs.Sequences.{sequences_in, row_among, row_in}
use Rattle.line_tables.specs.Units.{UnitView}
use Rattle.line_tables.specs.declared.faults.LineFault.{LineFault}
use Rattle.line_tables.specs.declared.faults.LineField.{LineField}
use Rattle.line_tables.specs.declared.faults.NoLine.{NoLine}
use Rattle.line_tables.specs.declared.registers.Row.{Row}

pub place_missing : (t : TablesView) (v : ℕ) (u : UnitView) (f : LineField) → Err f ≡ header_of t u → Err f ≡ place_in t v u
unfolding table_in
place_missing t v u f is =
    ap (λ r. and_then (and_then r (λ (h : HeaderView). and_then (sequences_in (rows_of h)) (λ ss. Ok (table_of u.place h ss)))) (λ table. Ok (place_among v table))) is

rows_by : (v p : ℕ) (h : HeaderView) (q : Result (List (List Row)) LineField) → and_then (and_then q (λ ss. Ok (row_among v ss))) (λ o. Ok (option_map (place p h) o)) ≡ and_then (and_then q (λ ss. Ok (table_of p h ss))) (λ table. Ok (place_among v table))
rows_by v p h (Ok ss) = refl
rows_by v p h (Err f) = refl

pub place_found : (t : TablesView) (v : ℕ) (u : UnitView) (h : HeaderView) (r : Result (Option Row) LineField) → Ok h ≡ header_of t u → r ≡ row_in v (rows_of h) → and_then r (λ o. Ok (option_map (place u.place h) o)) ≡ place_in t v u
unfolding table_in
place_found t v u h r is at =
    ap (λ q. and_then q (λ o. Ok (option_map (place u.place h) o))) at
    ∙ rows_by v u.place h (sequences_in (rows_of h))
    ∙ ap (λ s. and_then (and_then s (λ (h : HeaderView). and_then (sequences_in (rows_of h)) (λ ss. Ok (table_of u.place h ss)))) (λ table. Ok (place_among v table))) is

same_ok : (o p : Option PlaceView) → ◌≡◌ {A = Result (Option PlaceView) LineField} (Ok o) (Ok p) → o ≡ p
same_ok o p h = cc

fault_is : (f e : LineField) → ◌≡◌ {A = Result (Option PlaceView) LineField} (Err f) (Err e) → f ≡ e
fault_is f e h = cc

or_or : (a b c : Option LineFault) → option_or a (option_or b c) ≡ option_or (option_or a b) c
or_or None b c = refl
or_or (Some x) b c = refl

-- what is answered of units, with a fault of those before
abbrev pub answer_of : TablesView → ℕ → Option LineFault → List UnitView → Result LineView NoLine
answer_of t v fault us = answer (first_place t v us) (option_or fault (first_fault t us))

pub unit_found : (t : TablesView) (v : ℕ) (fault : Option LineFault) (us rest : List UnitView) (u : UnitView) (p : PlaceView) → us ≡ u ∷ rest → Some p ≡ place_by v (table_in t u) → answer_of t v fault us ≡ line_of p
unfolding first_place
unit_found t v fault us rest u p is at =
    ap (answer_of t v fault) is
    ∙ ap (λ o. answer (option_or o (first_place t v rest)) (option_or fault (first_fault t (u ∷ rest)))) (sym at)

pub unit_passed : (t : TablesView) (v : ℕ) (fault new f : Option LineFault) (us rest : List UnitView) (u : UnitView) → us ≡ u ∷ rest → None ≡ place_by v (table_in t u) → f ≡ fault_by u.index (table_in t u) → new ≡ option_or fault f → answer_of t v fault us ≡ answer_of t v new rest
unfolding first_place first_fault
unit_passed t v fault new f us rest u is at because joins =
    ap (answer_of t v fault) is
    ∙ ap (λ o. answer (option_or o (first_place t v rest)) (option_or fault (option_or (fault_by u.index (table_in t u)) (first_fault t rest)))) (sym at)
    ∙ ap (λ q. answer (first_place t v rest) (option_or fault (option_or q (first_fault t rest)))) (sym because)
    ∙ ap (answer (first_place t v rest)) (or_or fault f (first_fault t rest))
    ∙ ap (λ q. answer (first_place t v rest) (option_or q (first_fault t rest))) (sym joins)

or_none : (o : Option LineFault) → option_or o None ≡ o
or_none None = refl
or_none (Some x) = refl

pub unit_none : (t : TablesView) (v : ℕ) (fault : Option LineFault) (us : List UnitView) → us ≡ [] → answer_of t v fault us ≡ answer None fault
unfolding first_place first_fault
unit_none t v fault us is = ap (answer_of t v fault) is ∙ ap (answer None) (or_none fault)

-- the file names that steps add, one by one
pub added_step : (ss rest : List (Result StepView LineField)) (t : Result StepView LineField) (o : Option EntryView) → ss ≡ t ∷ rest → o ≡ added_by t → added_among ss ≡ with_entry o (added_among rest)
unfolding added_among
added_step ss rest t o is at = ap added_among is ∙ ap (λ q. with_entry q (added_among rest)) (sym at)

pub added_none : (ss : List (Result StepView LineField)) (n : ℕ) → ss ≡ [] → slice_get (added_among ss) n ≡ None
unfolding added_among
added_none ss n is = ap (λ q. slice_get (added_among q) n) is

pub get_first : (n : ℕ) (e : EntryView) (es : List EntryView) → n ≡ 0 → slice_get (e ∷ es) n ≡ Some e
get_first n e es is = ap (slice_get (e ∷ es)) is

pub get_next : (n : ℕ) (e : EntryView) (es : List EntryView) → n ≢ 0 → slice_get (e ∷ es) n ≡ slice_get es (n - 1)
get_next zero e es some = absurd (some refl)
get_next (suc n) e es some =
    let less : n ≡ suc n - 1 = omega arith in ap (slice_get es) less
