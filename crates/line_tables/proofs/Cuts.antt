-- Sequences, one by one.
use Rattle.std.proofs.Common.{◌≡◌, ℕ, Bool, true, false, cond, not, List, [], ◌∷◌, Option, Some, None, Result, Ok, Err, refl, ap, ◌∙◌, sym}
use Rattle.std.proofs.lemmas.Bool.{false≢true}
use Rattle.std.specs.Option.{option_or}
use Rattle.line_tables.specs.Sequences.{first_address, last_address, spans, crosses, row_at}
use Rattle.line_tables.specs.Cutting.{first_sequence, behind_sequence, sequence_fault, covered_row, crossed, cut_by, cut}
use Rattle.line_tables.specs.declared.faults.LineField.{LineField}
use Rattle.line_tables.specs.declared.faults.LineField.TheVariants as fields
use Rattle.line_tables.specs.declared.registers.Row.{Row}

-- one row more of a sequence that has not ended
abbrev pub rows_with : Row → List (Result Row LineField) → List (Result Row LineField)
rows_with r rs = Ok r ∷ rs

pub going : (t : Bool) → not t ≡ true → t ≡ false
going true h = absurd (false≢true h)
going false h = refl

pub ended : (t : Bool) → not t ≡ false → t ≡ true
ended true h = refl
ended false h = absurd (false≢true (sym h))

pub fault_step : (r : Row) (rs : List (Result Row LineField)) → r.end_sequence ≡ false → sequence_fault (rows_with r rs) ≡ sequence_fault rs
unfolding sequence_fault
fault_step r rs h = ap (λ t. cond t None (sequence_fault rs)) h

pub fault_none : (r : Row) (rs : List (Result Row LineField)) → r.end_sequence ≡ true → sequence_fault (rows_with r rs) ≡ None
unfolding sequence_fault
fault_none r rs h = ap (λ t. cond t None (sequence_fault rs)) h

pub behind_step : (r : Row) (rs : List (Result Row LineField)) → r.end_sequence ≡ false → behind_sequence (rows_with r rs) ≡ behind_sequence rs
unfolding behind_sequence
behind_step r rs h = ap (λ t. cond t rs (behind_sequence rs)) h

pub behind_end : (r : Row) (rs : List (Result Row LineField)) → r.end_sequence ≡ true → behind_sequence (rows_with r rs) ≡ rs
unfolding behind_sequence
behind_end r rs h = ap (λ t. cond t rs (behind_sequence rs)) h

pub first_step : (r : Row) (rs : List (Result Row LineField)) → r.end_sequence ≡ false → first_sequence (rows_with r rs) ≡ r ∷ first_sequence rs
unfolding first_sequence
first_step r rs h = ap (λ t. r ∷ cond t [] (first_sequence rs)) h

pub first_end : (r : Row) (rs : List (Result Row LineField)) → r.end_sequence ≡ true → first_sequence (rows_with r rs) ≡ r ∷ []
unfolding first_sequence
first_end r rs h = ap (λ t. r ∷ cond t [] (first_sequence rs)) h

-- a sequence begins with its first row
abbrev pub tail_of : Row → List (Result Row LineField) → List Row
tail_of q rs = cond q.end_sequence [] (first_sequence rs)

first_is : (q : Row) (rs : List (Result Row LineField)) → first_sequence (rows_with q rs) ≡ q ∷ tail_of q rs
unfolding first_sequence
first_is q rs = refl

last_two : (r q : Row) (s : List Row) → last_address (r ∷ q ∷ s) ≡ last_address (q ∷ s)
unfolding last_address
last_two r q s = refl

row_two : (v : ℕ) (r q : Row) (s : List Row) → row_at v (r ∷ q ∷ s) ≡ cond (crosses v r q) (Some r) (row_at v (q ∷ s))
unfolding row_at
row_two v r q s = refl

pub last_step : (r q : Row) (rs : List (Result Row LineField)) → r.end_sequence ≡ false → last_address (first_sequence (rows_with r (rows_with q rs))) ≡ last_address (first_sequence (rows_with q rs))
last_step r q rs h =
    ap last_address (first_step r (rows_with q rs) h ∙ ap (λ s. r ∷ s) (first_is q rs))
    ∙ last_two r q (tail_of q rs) ∙ ap last_address (sym (first_is q rs))

or_by : (t : Bool) (found o : Option Row) (r : Row) → option_or found (cond t (Some r) o) ≡ option_or (option_or found (cond t (Some r) None)) o
or_by true None o r = refl
or_by false None o r = refl
or_by t (Some x) o r = refl

pub row_step : (v : ℕ) (found : Option Row) (r q : Row) (rs : List (Result Row LineField)) → r.end_sequence ≡ false → option_or found (row_at v (first_sequence (rows_with r (rows_with q rs)))) ≡ option_or (crossed v found r q) (row_at v (first_sequence (rows_with q rs)))
row_step v found r q rs h =
    ap (λ s. option_or found (row_at v s)) (first_step r (rows_with q rs) h ∙ ap (λ s. r ∷ s) (first_is q rs))
    ∙ ap (option_or found) (row_two v r q (tail_of q rs))
    ∙ or_by (crosses v r q) found (row_at v (q ∷ tail_of q rs)) r
    ∙ ap (λ s. option_or (crossed v found r q) (row_at v s)) (sym (first_is q rs))

-- What was read of the first sequence of some rows, up to the first of those that are left: the row of v is the one that was found, or that
-- of the rest.
pub record IsRead (v : ℕ) (all : List (Result Row LineField)) (found : Option Row) (left : List (Result Row LineField)) : Type 0 where
  pub fault : sequence_fault all ≡ sequence_fault left
  pub behind : behind_sequence all ≡ behind_sequence left
  pub last : last_address (first_sequence all) ≡ last_address (first_sequence left)
  pub row : row_at v (first_sequence all) ≡ option_or found (row_at v (first_sequence left))

pub read_on : (v : ℕ) (all ls rest : List (Result Row LineField)) (found new : Option Row) (r q : Row) → IsRead v all found (rows_with r ls) → ls ≡ rows_with q rest → r.end_sequence ≡ false → new ≡ crossed v found r q → IsRead v all new (rows_with q rest)
read_on v all ls rest found new r q read is h at =
    let to = ap (rows_with r) is in
    record {
      fault = read.fault ∙ fault_step r ls h ∙ ap sequence_fault is;
      behind = read.behind ∙ behind_step r ls h ∙ ap behind_sequence is;
      last = read.last ∙ ap (λ rs. last_address (first_sequence rs)) to ∙ last_step r q rest h;
      row = read.row ∙ ap (λ rs. option_or found (row_at v (first_sequence rs))) to ∙ row_step v found r q rest h ∙ ap (λ o. option_or o (row_at v (first_sequence (rows_with q rest)))) (sym at);
    }

cut_fault : (v : ℕ) (rs : List (Result Row LineField)) (f : LineField) → sequence_fault rs ≡ Some f → cut v rs ≡ Err f
unfolding cut
cut_fault v rs f h = ap (cut_by v rs) h

fault_first : (rs rest : List (Result Row LineField)) (f : LineField) → rs ≡ Err f ∷ rest → sequence_fault rs ≡ Some f
unfolding sequence_fault
fault_first rs rest f is = ap sequence_fault is

fault_end : (rs : List (Result Row LineField)) → rs ≡ [] → sequence_fault rs ≡ Some fields.EndSequence
unfolding sequence_fault
fault_end rs is = ap sequence_fault is

pub read_stop : (v : ℕ) (all ls rest : List (Result Row LineField)) (found : Option Row) (r : Row) (f : LineField) → IsRead v all found (rows_with r ls) → r.end_sequence ≡ false → ls ≡ Err f ∷ rest → cut v all ≡ Err f
read_stop v all ls rest found r f read h is = cut_fault v all f (read.fault ∙ fault_step r ls h ∙ fault_first ls rest f is)

pub read_short : (v : ℕ) (all ls : List (Result Row LineField)) (found : Option Row) (r : Row) → IsRead v all found (rows_with r ls) → r.end_sequence ≡ false → ls ≡ [] → cut v all ≡ Err fields.EndSequence
read_short v all ls found r read h is = cut_fault v all fields.EndSequence (read.fault ∙ fault_step r ls h ∙ fault_end ls is)

or_none : (o : Option Row) → option_or o None ≡ o
or_none None = refl
or_none (Some x) = refl

row_one : (v : ℕ) (r : Row) → row_at v (r ∷ []) ≡ None
unfolding row_at
row_one v r = refl

last_one : (r : Row) → last_address (r ∷ []) ≡ r.address
unfolding last_address
last_one r = refl

first_begins : (r : Row) (rs : List (Result Row LineField)) → first_address (first_sequence (rows_with r rs)) ≡ r.address
unfolding first_sequence
first_begins r rs = refl

cut_whole : (v : ℕ) (rs : List (Result Row LineField)) → sequence_fault rs ≡ None → cut v rs ≡ Ok (covered_row v (first_sequence rs), behind_sequence rs)
unfolding cut
cut_whole v rs h = ap (cut_by v rs) h

pub read_whole : (v : ℕ) (begin r : Row) (more ls : List (Result Row LineField)) (found : Option Row) → IsRead v (rows_with begin more) found (rows_with r ls) → r.end_sequence ≡ true → cut v (rows_with begin more) ≡ Ok (cond (spans v begin.address r.address) found None, ls)
read_whole v begin r more ls found read h =
    let all = rows_with begin more in
    let end = first_end r ls h in
    let row : row_at v (first_sequence all) ≡ found = read.row ∙ ap (λ s. option_or found (row_at v s)) end ∙ ap (option_or found) (row_one v r) ∙ or_none found in
    let last : last_address (first_sequence all) ≡ r.address = read.last ∙ ap last_address end ∙ last_one r in
    cut_whole v all (read.fault ∙ fault_none r ls h)
    ∙ ap (λ o. Ok (cond (spans v (first_address (first_sequence all)) (last_address (first_sequence all))) o None, behind_sequence all)) row
    ∙ ap (λ a. Ok (cond (spans v a (last_address (first_sequence all))) found None, behind_sequence all)) (first_begins begin more)
    ∙ ap (λ a. Ok (cond (spans v begin.address a) found None, behind_sequence all)) last
    ∙ ap (λ rest. Ok (cond (spans v begin.address r.address) found None, rest)) (read.behind ∙ behind_end r ls h)
