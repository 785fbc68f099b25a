-- Laws of records in a row.
use Rattle.std.proofs.Common.{◌≡◌, ℕ, ◌+◌, ◌-◌, ◌<◌, ◌≤◌, List, [], ◌∷◌, ◌++◌, length, take, drop, Option, Some, refl, sym, ap, ◌∙◌, arith}
use Rattle.std.proofs.lemmas.List.{drop-drop, drop-take, take-take, length-drop}
use Rattle.journal_layout.specs.Record.{Record, record_size}
use Rattle.journal_layout.specs.Folding.{Folded, after, replayed, sizes, last_from}
use Rattle.journal_layout.specs.Stands.{StandsFirst, StandInRow}

-- the meaning of a row with one more record, and its bytes
pub replayed_push : (rs : List Record) (r : Record) (f : Folded) → replayed (rs ++ r ∷ []) f ≡ after r (replayed rs f)
replayed_push [] r f = refl
replayed_push (s ∷ rest) r f = replayed_push rest r (after s f)

pub sizes_push : (rs : List Record) (r : Record) → sizes (rs ++ r ∷ []) ≡ sizes rs + record_size r
sizes_push [] r = omega arith
sizes_push (s ∷ rest) r = omega (arith, sizes_push rest r)

-- and that record begins behind them
pub last_push : (rs : List Record) (r : Record) (at : ℕ) (last : Option ℕ) → last_from (rs ++ r ∷ []) at last ≡ Some (at + sizes rs)
last_push [] r at last = ap Some (omega arith)
last_push (s ∷ rest) r at last = last_push rest r (at + record_size s) (Some at) ∙ ap Some (omega arith)

-- a record after a row makes it longer
pub row_push : (limit : ℕ) (bytes : List ℕ) (f : Folded) (rs : List Record) (r : Record)
    → StandInRow limit bytes f rs → StandsFirst limit (drop (sizes rs) bytes) (replayed rs f) r → StandInRow limit bytes f (rs ++ r ∷ [])
row_push limit bytes f [] r row last = (last, tt)
row_push limit bytes f (s ∷ rest) r row last =
    let moved = rw (← drop-drop (sizes rest) (record_size s) bytes) at last in
    (row.0, row_push limit (drop (record_size s) bytes) (after s f) rest r row.1 moved)

-- the first bytes of lists that begin alike
front_same : (n q : ℕ) (b c : List ℕ) → n ≤ q → take q c ≡ take q b → take n c ≡ take n b
front_same n q b c low same = sym (take-take n q c low) ∙ ap (take n) same ∙ take-take n q b low

-- the bytes after them
rest_same : (n q : ℕ) (b c : List ℕ) → n ≤ q → take q c ≡ take q b → take (q - n) (drop n c) ≡ take (q - n) (drop n b)
rest_same n q b c low same =
    let e : q ≡ n + (q - n) = omega arith in
    sym (drop-take n (q - n) c) ∙ ap (λ (k : ℕ). drop n (take k c)) (sym e) ∙ ap (drop n) same
    ∙ ap (λ (k : ℕ). drop n (take k b)) e ∙ drop-take n (q - n) b

-- a record depends on its bytes alone
pub first_same : (limit q : ℕ) (b c : List ℕ) (f : Folded) (r : Record)
    → length c ≡ length b → record_size r ≤ q → take q c ≡ take q b → StandsFirst limit b f r → StandsFirst limit c f r
first_same limit q b c f r long low same first = record {
  spelled = front_same (record_size r) q b c low same ∙ first.spelled;
  in_half = (let enough = first.in_half in omega arith);
  sound = first.sound;
}

-- a row depends on its bytes alone
pub row_same : (limit q : ℕ) (b c : List ℕ) (f : Folded) (rs : List Record)
    → length c ≡ length b → sizes rs ≤ q → take q c ≡ take q b → StandInRow limit b f rs → StandInRow limit c f rs
row_same limit q b c f [] long low same row = tt
row_same limit q b c f (r ∷ rest) long low same row =
    let n = record_size r in (
      first_same limit q b c f r long (omega arith) same row.0,
      row_same limit (q - n) (drop n b) (drop n c) (after r f) rest (omega (arith, length-drop n b, length-drop n c)) (omega arith)
          (rest_same n q b c (omega arith) same) row.1,
    )

-- a row ends within its bytes, and leaves room for a gate if there are bytes at all
pub row_in_half : (limit : ℕ) (bytes : List ℕ) (f : Folded) (rs : List Record) → 0 < length bytes → StandInRow limit bytes f rs → sizes rs + 1 ≤ length bytes
row_in_half limit bytes f [] some row = omega arith
row_in_half limit bytes f (r ∷ rest) some row =
    let enough = row.0.in_half in
    let len = length-drop (record_size r) bytes in
    omega (arith, row_in_half limit (drop (record_size r) bytes) (after r f) rest (omega arith) row.1)
