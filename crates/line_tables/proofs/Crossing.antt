-- A sequence that covers an address has a row of it; the row of an address is that of the first sequence, or of those after it.
use Rattle.std.proofs.Common.{◌≡◌, ◌<◌, ◌≤◌, ◌&&◌, ℕ, Bool, true, false, cond, leb, ltb, eqb, not, List, [], ◌∷◌, Option, Some, None, Result, Ok, Err, find, length, refl, ap, ◌∙◌, sym, arith}
use Rattle.std.proofs.lemmas.Bool.{false≢true, and_parts, leb-true, ltb-true, ltb-false, le-leb}
use Rattle.std.proofs.lemmas.Option.{same_Some}
use Rattle.std.specs.Option.{option_and_then, option_or}
use Rattle.line_tables.specs.Chain.{and_then}
use Rattle.line_tables.specs.Sequences.{before, alone, sequences_in, last_address, covers, crosses, row_at, row_among, row_in}
use Rattle.line_tables.specs.Cutting.{first_sequence, behind_sequence, sequence_fault, covered_row, cut_by, cut}
use Rattle.line_tables.specs.declared.faults.LineField.{LineField}
use Rattle.line_tables.specs.declared.registers.Row.{Row}

-- there is a row
abbrev pub HasRow : Option Row → Type 0
HasRow o = (r : Row) × (o ≡ Some r)

step_by : (v : ℕ) (r q : Row) (o : Option Row) (t : Bool) → (t ≡ false → HasRow o) → HasRow (cond t (Some r) o)
step_by v r q o true f = (r, refl)
step_by v r q o false f = f refl

-- at r or after it, and not before q
not_crossed : (v : ℕ) (r q : Row) (t : Bool) → r.address ≤ v → ltb v q.address ≡ t → crosses v r q ≡ false → q.address ≤ v
not_crossed v r q true le is h = absurd (false≢true (sym h ∙ (ap (λ t. t && ltb v q.address) (le-leb r.address v le) ∙ is)))
not_crossed v r q false le is h = ltb-false v q.address is

pub row_found : (v : ℕ) (r : Row) (s : List Row) → r.address ≤ v → v < last_address (r ∷ s) → HasRow (row_at v (r ∷ s))
unfolding row_at last_address
row_found v r [] le lt = absurd (omega arith)
row_found v r (q ∷ s) le lt =
    step_by v r q (row_at v (q ∷ s)) (crosses v r q) (λ h. row_found v q s (not_crossed v r q (ltb v q.address) le refl h) lt)

pub step_crosses : (v : ℕ) (s : List Row) → covers v s ≡ true → HasRow (row_at v s)
step_crosses v [] h = cc
step_crosses v (r ∷ s) h =
    let parts = and_parts (not (eqb r.address 0) && leb r.address v) (ltb v (last_address (r ∷ s))) h in
    let begins = and_parts (not (eqb r.address 0)) (leb r.address v) parts.0 in
    row_found v r s (leb-true r.address v begins.1) (ltb-true v (last_address (r ∷ s)) parts.1)

among_by : (v : ℕ) (s : List Row) (ss : List (List Row)) (t : Bool) (o : Option Row) → covers v s ≡ t → row_at v s ≡ o → (t ≡ true → HasRow o) → option_and_then (row_at v) (cond t (Some s) (find (covers v) ss)) ≡ option_or (cond t o None) (row_among v ss)
among_by v s ss false o is at f = refl
among_by v s ss true None is at f =
    let some = f refl in cc
among_by v s ss true (Some r) is at f = at

-- the row among sequences is that of the first, or among the others
pub among_step : (v : ℕ) (s : List Row) (ss : List (List Row)) → row_among v (s ∷ ss) ≡ option_or (covered_row v s) (row_among v ss)
among_step v s ss = among_by v s ss (covers v s) (row_at v s) refl refl (step_crosses v s)

before_by : (r : Row) (s : List Row) (q : Result (List (List Row)) LineField) → and_then (and_then q (λ ss. Ok (s ∷ ss))) (before r) ≡ and_then q (λ ss. Ok ((r ∷ s) ∷ ss))
before_by r s (Ok ss) = refl
before_by r s (Err f) = refl

-- the first sequence and the others
sequences_by : (r : Row) (rs : List (Result Row LineField)) (t : Bool) → r.end_sequence ≡ t → cond t None (sequence_fault rs) ≡ None → (sequence_fault rs ≡ None → sequences_in rs ≡ and_then (sequences_in (behind_sequence rs)) (λ ss. Ok (first_sequence rs ∷ ss))) → and_then (sequences_in rs) (cond t (alone r) (before r)) ≡ and_then (sequences_in (cond t rs (behind_sequence rs))) (λ ss. Ok ((r ∷ cond t [] (first_sequence rs)) ∷ ss))
sequences_by r rs true is h f = refl
sequences_by r rs false is h f = ap (λ q. and_then q (before r)) (f h) ∙ before_by r (first_sequence rs) (sequences_in (behind_sequence rs))

sequences_step : (rs : List (Result Row LineField)) → sequence_fault rs ≡ None → sequences_in rs ≡ and_then (sequences_in (behind_sequence rs)) (λ ss. Ok (first_sequence rs ∷ ss))
unfolding sequences_in sequence_fault behind_sequence first_sequence
sequences_step [] h = cc
sequences_step (Err f ∷ rs) h = cc
sequences_step (Ok r ∷ rs) h = sequences_by r rs r.end_sequence refl h (sequences_step rs)

fault_by : (r : Row) (rs : List (Result Row LineField)) (f : LineField) (t : Bool) → cond t None (sequence_fault rs) ≡ Some f → (sequence_fault rs ≡ Some f → and_then (sequences_in rs) (before r) ≡ Err f) → and_then (sequences_in rs) (cond t (alone r) (before r)) ≡ Err f
fault_by r rs f true h g = cc
fault_by r rs f false h g = g h

-- a sequence that is at fault, with a row before it or without
before_fault : (r : Row) (rs : List (Result Row LineField)) (f : LineField) → sequence_fault rs ≡ Some f → and_then (sequences_in rs) (before r) ≡ Err f
unfolding sequences_in sequence_fault
before_fault r [] f h = ap (λ e. Err e) (same_Some _ _ h)
before_fault r (Err e ∷ rs) f h = ap (λ e. Err e) (same_Some _ _ h)
before_fault r (Ok q ∷ rs) f h = ap (λ s. and_then s (before r)) (fault_by q rs f q.end_sequence h (before_fault q rs f))

sequences_fault : (r : Row) (rs : List (Result Row LineField)) (f : LineField) → sequence_fault (Ok r ∷ rs) ≡ Some f → sequences_in (Ok r ∷ rs) ≡ Err f
unfolding sequences_in sequence_fault
sequences_fault r rs f h = fault_by r rs f r.end_sequence h (before_fault r rs f)

-- the row so far, or that of the rows that are left
abbrev pub with_found : Option Row → Result (Option Row) LineField → Result (Option Row) LineField
with_found o r = and_then r (λ p. Ok (option_or o p))

pub found_end : (v : ℕ) (rs : List (Result Row LineField)) (found : Option Row) → rs ≡ [] → with_found found (row_in v rs) ≡ Ok found
unfolding sequences_in
found_end v rs None is = ap (λ q. with_found None (row_in v q)) is
found_end v rs (Some r) is = ap (λ q. with_found (Some r) (row_in v q)) is

pub found_fault : (v : ℕ) (rs rest : List (Result Row LineField)) (found : Option Row) (f : LineField) → rs ≡ Err f ∷ rest → with_found found (row_in v rs) ≡ Err f
unfolding sequences_in
found_fault v rs rest found f is = ap (λ q. with_found found (row_in v q)) is

abbrev Cut : Type 0
Cut = Result (Option Row × List (Result Row LineField)) LineField

same_fault : (e f : LineField) → ◌≡◌ {A = Cut} (Err e) (Err f) → e ≡ f
same_fault e f h = cc

cut_fault_by : (v : ℕ) (rs : List (Result Row LineField)) (f : LineField) (o : Option LineField) → sequence_fault rs ≡ o → cut_by v rs o ≡ Err f → sequence_fault rs ≡ Some f
cut_fault_by v rs f None is h = cc
cut_fault_by v rs f (Some e) is h =
    let same : e ≡ f = same_fault e f h in is ∙ ap (λ x. Some x) same

pub found_cut_fault : (v : ℕ) (r : Row) (rs more : List (Result Row LineField)) (found : Option Row) (f : LineField) → rs ≡ Ok r ∷ more → Err f ≡ cut v (Ok r ∷ more) → with_found found (row_in v rs) ≡ Err f
unfolding cut
found_cut_fault v r rs more found f is h =
    ap (λ q. with_found found (row_in v q)) is
    ∙ ap (λ s. with_found found (and_then s (λ ss. Ok (row_among v ss)))) (sequences_fault r more f (cut_fault_by v (Ok r ∷ more) f (sequence_fault (Ok r ∷ more)) refl (sym h)))

same_pair : (p q : Option Row × List (Result Row LineField)) → ◌≡◌ {A = Cut} (Ok p) (Ok q) → p ≡ q
same_pair p q h = cc

same_cut : (o : Option Row) (p : Option Row) (rest behind : List (Result Row LineField)) → ◌≡◌ {A = Cut} (Ok (o, rest)) (Ok (p, behind)) → (o ≡ p) × (rest ≡ behind)
same_cut o p rest behind h =
    let same = same_pair (o, rest) (p, behind) h in (ap (λ q. q.0) same, ap (λ q. q.1) same)

cut_whole_by : (v : ℕ) (rs rest : List (Result Row LineField)) (o : Option Row) (q : Option LineField) → sequence_fault rs ≡ q → cut_by v rs q ≡ Ok (o, rest) → (sequence_fault rs ≡ None) × (o ≡ covered_row v (first_sequence rs)) × (rest ≡ behind_sequence rs)
cut_whole_by v rs rest o (Some f) is h = cc
cut_whole_by v rs rest o None is h =
    let same = same_cut o (covered_row v (first_sequence rs)) rest (behind_sequence rs) (sym h) in (is, same.0, same.1)

or_or : (a b c : Option Row) → option_or a (option_or b c) ≡ option_or (option_or a b) c
or_or None b c = refl
or_or (Some x) b c = refl

found_by : (v : ℕ) (s : List Row) (found : Option Row) (q : Result (List (List Row)) LineField) → with_found found (and_then (and_then q (λ ss. Ok (s ∷ ss))) (λ ss. Ok (row_among v ss))) ≡ with_found (option_or found (covered_row v s)) (and_then q (λ ss. Ok (row_among v ss)))
found_by v s found (Err f) = refl
found_by v s found (Ok ss) =
    ap (λ o. Ok (option_or found o)) (among_step v s ss) ∙ ap (λ o. Ok o) (or_or found (covered_row v s) (row_among v ss))

pub found_on : (v : ℕ) (r : Row) (rs more rest : List (Result Row LineField)) (found o : Option Row) → rs ≡ Ok r ∷ more → Ok (o, rest) ≡ cut v (Ok r ∷ more) → with_found found (row_in v rs) ≡ with_found (option_or found o) (row_in v rest)
unfolding cut
found_on v r rs more rest found o is h =
    let all : List (Result Row LineField) = Ok r ∷ more in
    let whole = cut_whole_by v all rest o (sequence_fault all) refl (sym h) in
    ap (λ q. with_found found (row_in v q)) is
    ∙ ap (λ s. with_found found (and_then s (λ ss. Ok (row_among v ss)))) (sequences_step all whole.0)
    ∙ found_by v (first_sequence all) found (sequences_in (behind_sequence all))
    ∙ ap (λ p. with_found (option_or found p) (row_in v (behind_sequence all))) (sym whole.1)
    ∙ ap (λ q. with_found (option_or found o) (row_in v q)) (sym whole.2)

behind_by : (rs : List (Result Row LineField)) (t : Bool) → length (behind_sequence rs) ≤ length rs → length (cond t rs (behind_sequence rs)) ≤ length rs
behind_by rs true h = omega arith
behind_by rs false h = h

behind_less : (rs : List (Result Row LineField)) → length (behind_sequence rs) ≤ length rs
unfolding behind_sequence
behind_less [] = omega arith
behind_less (Err f ∷ rs) = omega arith
behind_less (Ok r ∷ rs) =
    let less = behind_by rs r.end_sequence (behind_less rs) in omega arith

-- a sequence takes a row at least
pub cut_fewer : (v : ℕ) (r : Row) (more rest : List (Result Row LineField)) (o : Option Row) → Ok (o, rest) ≡ cut v (Ok r ∷ more) → length rest ≤ length more
unfolding cut behind_sequence
cut_fewer v r more rest o h =
    let all : List (Result Row LineField) = Ok r ∷ more in
    let whole = cut_whole_by v all rest o (sequence_fault all) refl (sym h) in
    let size = ap length whole.2 in
    let less = behind_by more r.end_sequence (behind_less more) in omega arith
