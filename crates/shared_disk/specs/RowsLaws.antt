-- Laws of two rows of records whose bytes are the same as far as one of them goes: one of them begins the other.
use Rattle.std.proofs.Common.{◌≡◌, ◌⊎◌, inl, inr, ⊎_elim, suc, zero, ℕ, ◌+◌, ◌-◌, ◌^◌, ◌<◌, ◌≤◌, List, [], ◌∷◌, ◌++◌, length, take, drop, slice_index, refl, sym, ap, ◌∙◌, subst, arith}
use Rattle.std.proofs.lemmas.List.{drop-take, length-drop, get_or-drop, get_or-take, ext_get_or, length-take-le}
use Rattle.disk_model.specs.Places.{part}
use Rattle.disk_model.specs.PartLaws.{part_length, part_place}
use Rattle.journal_layout.specs.declared.shape.Shape.{Shape}
use Rattle.journal_layout.specs.declared.shape.Half.{Half}
use Rattle.journal_layout.specs.Layout.{field, half_start, half_length}
use Rattle.journal_layout.specs.Record.{Record, record_size}
use Rattle.journal_layout.specs.SpellLaws.{record_some, prints_length, as_spelled}
use Rattle.journal_layout.specs.ByteLaws.{field-drop}
use Rattle.journal_layout.specs.Folding.{Folded, after, sizes}
use Rattle.journal_layout.specs.Stands.{StandsFirst, StandInRow, records_area}
use Rattle.journal_layout.specs.RowLaws.{first_same}
use Rattle.journal_layout.specs.RecordLaws.{one_record, opened_first}

-- bytes of lists that begin alike, behind their first n
rest_same : (n q : ℕ) (b c : List ℕ) → n ≤ q → take q c ≡ take q b → take (q - n) (drop n c) ≡ take (q - n) (drop n b)
rest_same n q b c low same =
    let e : q ≡ n + (q - n) = omega arith in
    sym (drop-take n (q - n) c) ∙ ap (λ (k : ℕ). drop n (take k c)) (sym e) ∙ ap (drop n) same
    ∙ ap (λ (k : ℕ). drop n (take k b)) e ∙ drop-take n (q - n) b

-- the second list is the first one, and maybe more
abbrev pub Extends : List Record → List Record → Type 0
Extends rs ss = (more : List Record) × (ss ≡ rs ++ more)

extends_front : (r : Record) (rs ss : List Record) → Extends rs ss → Extends (r ∷ rs) (r ∷ ss)
extends_front r rs ss e = (e.0, ap (λ (l : List Record). r ∷ l) e.1)

pub rows_meet : (limit q : ℕ) (b c : List ℕ) (f : Folded) (rs ss : List Record) → limit ≤ 16777216 → length b ≤ 2 ^ 32 → length c ≡ length b → take q c ≡ take q b
    → (sizes rs ≤ q) ⊎ (sizes ss ≤ q) → StandInRow limit b f rs → StandInRow limit c f ss → Extends rs ss ⊎ Extends ss rs
rows_meet limit q b c f [] ss low short long same reach one two = inl (ss, refl)
rows_meet limit q b c f (r ∷ rs) [] low short long same reach one two = inr (r ∷ rs, refl)
rows_meet limit q b c f (r ∷ rs) (s ∷ ss) low short long same reach one two =
    let e : r ≡ s =
    ⊎_elim
    (λ first. one_record limit c f f r s low (omega (arith, long, short)) (first_same limit q b c f r long (omega (arith, first)) same one.0) two.0)
    (λ second. one_record limit b f f r s low short one.0 (first_same limit q c b f s (sym long) (omega (arith, second)) (sym same) two.0))
    reach in
    let size : record_size s ≡ record_size r = ap record_size (sym e) in
    let moved : StandInRow limit (drop (record_size r) c) (after r f) ss = subst (λ (x : Record). StandInRow limit (drop (record_size x) c) (after x f) ss) (sym e) two.1 in
    let n = record_size r in
    let inside : n ≤ q = ⊎_elim (λ first. omega (arith, first)) (λ second. omega (arith, second, size)) reach in
    let further : (sizes rs ≤ q - n) ⊎ (sizes ss ≤ q - n) = ⊎_elim (λ first. inl (omega (arith, first))) (λ second. inr (omega (arith, second, size))) reach in
    let x = length-drop n b in
    let y = length-drop n c in
    let deeper = rows_meet limit (q - n) (drop n b) (drop n c) (after r f) rs ss low (omega (arith, x, short)) (omega (arith, x, y, long)) (rest_same n q b c inside same) further one.1 moved in
    ⊎_elim
    (λ longer. inl (subst (λ (z : Record). Extends (r ∷ rs) (z ∷ ss)) e (extends_front r rs ss longer)))
    (λ longer. inr (subst (λ (z : Record). Extends (z ∷ ss) (r ∷ rs)) e (extends_front r ss rs longer)))
    deeper

-- the gate of a record in a row is open
pub row_gate : (limit : ℕ) (bytes : List ℕ) (f : Folded) (rs : List Record) (r : Record) (more : List Record) → StandInRow limit bytes f (rs ++ r ∷ more) → slice_index bytes (sizes rs) ≡ 165
row_gate limit bytes f [] r more row = opened_first limit bytes f r row.0
row_gate limit bytes f (s ∷ rest) r more row =
    sym (get_or-drop (record_size s) bytes (sizes rest) 0) ∙ row_gate limit (drop (record_size s) bytes) (after s f) rest r more row.1

pub sizes_append : (rs ss : List Record) → sizes (rs ++ ss) ≡ sizes rs + sizes ss
sizes_append [] ss = omega arith
sizes_append (r ∷ rs) ss = let e = sizes_append rs ss in omega (arith, e)

-- a list of records with no bytes is empty
pub sizes_none : (rs : List Record) → sizes rs ≡ 0 → rs ≡ []
sizes_none [] e = refl
sizes_none (r ∷ rs) e = let some = record_some r in absurd (omega (arith, e, some))

-- a row that ends after the start of a record contains that record
pub next_boundary : (ps : List Record) (q : Record) (qs rs more : List Record) → ps ++ q ∷ qs ≡ rs ++ more → sizes ps < sizes rs → sizes ps + record_size q ≤ sizes rs
next_boundary [] q qs [] more e less = absurd (omega (arith, less))
next_boundary [] q qs (r ∷ rs) more e less =
    let same : q ≡ r = cc in
    let size = ap record_size same in
    omega (arith, size)
next_boundary (p ∷ ps) q qs [] more e less = absurd (omega (arith, less))
next_boundary (p ∷ ps) q qs (r ∷ rs) more e less =
    let same : p ≡ r = cc in
    let rest : ps ++ q ∷ qs ≡ rs ++ more = cc in
    let size = ap record_size same in
    let deeper = next_boundary ps q qs rs more rest (omega (arith, less, size)) in
    omega (arith, size, deeper)

-- The bytes of a half after its header start alike if the half does.
pub area_agrees : (b c : List ℕ) (shape : Shape) (half : Half) (n : ℕ) → half_start shape half + half_length shape ≤ length b → length c ≡ length b → n + 32 ≤ half_length shape
    → ((p : ℕ) → half_start shape half + 32 ≤ p → p < half_start shape half + 32 + n → slice_index c p ≡ slice_index b p)
    → take n (records_area c shape half) ≡ take n (records_area b shape half)
area_agrees b c shape half n lies long within same =
    let start = half_start shape half in
    let x = part_length b (start + 32) (half_length shape - 32) (omega (arith, lies, within)) in
    let y = part_length c (start + 32) (half_length shape - 32) (omega (arith, lies, within, long)) in
    let one = length-take-le n (records_area b shape half) (omega (arith, x, within)) in
    let two = length-take-le n (records_area c shape half) (omega (arith, y, within)) in
    ext_get_or 0 (take n (records_area c shape half)) (take n (records_area b shape half)) (two ∙ sym one)
    (λ k below.
    let low : k < n = omega (arith, below, two) in
    get_or-take n (records_area c shape half) k 0 low
    ∙ part_place c (start + 32) (half_length shape - 32) k 0 (omega (arith, low, within))
    ∙ same (start + 32 + k) (omega arith) (omega (arith, low))
    ∙ sym (part_place b (start + 32) (half_length shape - 32) k 0 (omega (arith, low, within)))
    ∙ sym (get_or-take n (records_area b shape half) k 0 low))

-- parts are the same if their places are
pub part_by_places : (b c : List ℕ) (p n : ℕ) → p + n ≤ length b → length c ≡ length b → ((k : ℕ) → k < n → slice_index c (p + k) ≡ slice_index b (p + k)) → part c p n ≡ part b p n
part_by_places b c p n within long same =
    let first = part_length c p n (omega (arith, within, long)) in
    let second = part_length b p n within in
    ext_get_or 0 (part c p n) (part b p n) (first ∙ sym second)
    (λ k below. let low : k < n = omega (arith, below, first) in part_place c p n k 0 low ∙ same k low ∙ sym (part_place b p n k 0 low))

-- a number depends on its bytes
pub field_by_places : (b c : List ℕ) (p q w : ℕ) → ((k : ℕ) → k < w → slice_index b (p + k) ≡ slice_index c (q + k)) → field b p w ≡ field c q w
field_by_places b c p q zero same = refl
field_by_places b c p q (suc w) same =
    let here : slice_index b p ≡ slice_index c q = ap (slice_index b) (let e : p ≡ p + 0 = omega arith in e) ∙ same 0 (omega arith) ∙ ap (slice_index c) (let e : q + 0 ≡ q = omega arith in e) in
    let rest : field b (suc p) w ≡ field c (suc q) w =
    field_by_places b c (suc p) (suc q) w
    (λ k below.
    let one : suc p + k ≡ p + suc k = omega arith in
    let two : q + suc k ≡ suc q + k = omega arith in
    ap (slice_index b) one ∙ same (suc k) (omega (arith, below)) ∙ ap (slice_index c) two) in
    rw (here, rest) refl

-- a record in a row has the length that its bytes give
first_length : (limit : ℕ) (bytes : List ℕ) (f : Folded) (r : Record) → length bytes ≤ 2 ^ 32 → StandsFirst limit bytes f r → field bytes 4 4 ≡ record_size r
first_length limit bytes f r short first =
    let in_half = first.in_half in
    ap (λ (l : List ℕ). field l 4 4) (as_spelled r bytes first.spelled) ∙ prints_length r (drop (record_size r) bytes) (omega (arith, in_half, short))

pub row_length : (limit : ℕ) (bytes : List ℕ) (f : Folded) (rs : List Record) (r : Record) (more : List Record) → length bytes ≤ 2 ^ 32 → StandInRow limit bytes f (rs ++ r ∷ more)
    → field bytes (sizes rs + 4) 4 ≡ record_size r
row_length limit bytes f [] r more short row = first_length limit bytes f r short row.0
row_length limit bytes f (s ∷ rest) r more short row =
    let x = length-drop (record_size s) bytes in
    let e : record_size s + sizes rest + 4 ≡ record_size s + (sizes rest + 4) = omega arith in
    ap (λ (p : ℕ). field bytes p 4) e
    ∙ sym (field-drop bytes (record_size s) (sizes rest + 4) 4)
    ∙ row_length limit (drop (record_size s) bytes) (after s f) rest r more (omega (arith, x, short)) row.1
