-- Laws of the fields and the zeros in a record's bytes.
use Rattle.std.proofs.Common.{◌≡◌, ℕ, zero, suc, ◌+◌, ◌-◌, ◌*◌, ◌<◌, ◌≤◌, cond, List, ◌∷◌, length, take, drop, get_or, Some, None, refl, sym, ap, ◌∙◌, arith, drop-cons}
use Rattle.std.proofs.lemmas.Bool.{eq-eqb, ne_eqb}
use Rattle.std.proofs.lemmas.List.{get_or-drop, drop-drop}
use Rattle.byteorder.specs.Endian.{little_from}
use Rattle.disk_model.specs.Places.{part}
use Rattle.extents.specs.declared.run_list.Run.{Run}
use Rattle.journal_layout.specs.Layout.{field}
use Rattle.journal_layout.specs.Reading.{seqs_at, runs_at}
use Rattle.journal_layout.specs.Checks.{first_set}

-- a number in the bytes after place p
from_dropped : (i p w : ℕ) (bytes : List ℕ) → little_from i w (drop p bytes) ≡ little_from (p + i) w bytes
from_dropped i p zero bytes = refl
from_dropped i p (suc w) bytes =
    let e : p + suc i ≡ suc (p + i) = omega arith in
    let rest : little_from (suc i) w (drop p bytes) ≡ little_from (suc (p + i)) w bytes = from_dropped (suc i) p w bytes ∙ ap (λ k. little_from k w bytes) e in
    ap (λ a. a + 256 * little_from (suc i) w (drop p bytes)) (get_or-drop p bytes i 0) ∙ ap (λ b. get_or bytes (p + i) 0 + 256 * b) rest

-- the first of some numbers, and those after it
pub seqs_step : (p n : ℕ) (bytes : List ℕ) → 0 < n → seqs_at (drop p bytes) n ≡ field bytes p 4 ∷ seqs_at (drop (p + 4) bytes) (n - 1)
seqs_step p zero bytes some = absurd (omega arith)
seqs_step p (suc n) bytes some =
    let e : suc n - 1 ≡ n = omega arith in
    let f : p + 0 ≡ p = omega arith in
    ap (λ k. k ∷ seqs_at (drop 4 (drop p bytes)) n) (from_dropped 0 p 4 bytes ∙ ap (λ k. field bytes k 4) f)
    ∙ ap (λ (bs : List ℕ). field bytes p 4 ∷ seqs_at bs n) (drop-drop 4 p bytes)
    ∙ ap (λ k. field bytes p 4 ∷ seqs_at (drop (p + 4) bytes) k) (sym e)

-- the run at place p
abbrev pub run_at : List ℕ → ℕ → Run
run_at bytes p = record { start = field bytes p 4; count = field bytes (p + 4) 4 }

pub runs_step : (p n : ℕ) (bytes : List ℕ) → 0 < n → runs_at (drop p bytes) n ≡ run_at bytes p ∷ runs_at (drop (p + 8) bytes) (n - 1)
runs_step p zero bytes some = absurd (omega arith)
runs_step p (suc n) bytes some =
    let e : suc n - 1 ≡ n = omega arith in
    let f : p + 0 ≡ p = omega arith in
    let first : record { start = field (drop p bytes) 0 4; count = field (drop p bytes) 4 4 } ≡ run_at bytes p =
    ap (λ k. let r : Run = record { start = k; count = field (drop p bytes) 4 4 } in r) (from_dropped 0 p 4 bytes ∙ ap (λ k. field bytes k 4) f)
    ∙ ap (λ k. let r : Run = record { start = field bytes p 4; count = k } in r) (from_dropped 4 p 4 bytes) in
    ap (λ (r : Run). r ∷ runs_at (drop 8 (drop p bytes)) n) first
    ∙ ap (λ (bs : List ℕ). run_at bytes p ∷ runs_at bs n) (drop-drop 8 p bytes)
    ∙ ap (λ k. run_at bytes p ∷ runs_at (drop (p + 8) bytes) k) (sym e)

-- the first byte of a part, and those after it
pub part_step : (p n : ℕ) (bytes : List ℕ) → p < length bytes → part bytes p (suc n) ≡ get_or bytes p 0 ∷ part bytes (p + 1) n
unfolding part
part_step p n bytes within =
    let e : p + 1 ≡ suc p = omega arith in
    ap (take (suc n)) (drop-cons bytes p 0 within) ∙ ap (λ k. get_or bytes p 0 ∷ take n (drop k bytes)) (sym e)

zeros_step : (p end : ℕ) (bytes : List ℕ) → p < end → end ≤ length bytes → first_set p (part bytes p (end - p)) ≡ first_set p (get_or bytes p 0 ∷ part bytes (p + 1) (end - (p + 1)))
zeros_step p end bytes below within =
    let e : end - p ≡ suc (end - (p + 1)) = omega arith in
    ap (λ n. first_set p (part bytes p n)) e ∙ ap (first_set p) (part_step p (end - (p + 1)) bytes (omega arith))

pub zeros_set : (p end : ℕ) (bytes : List ℕ) → p < end → end ≤ length bytes → (get_or bytes p 0 ≡ 0 → ⊥) → first_set p (part bytes p (end - p)) ≡ Some p
zeros_set p end bytes below within set =
    zeros_step p end bytes below within
    ∙ ap (λ t. cond t (first_set (p + 1) (part bytes (p + 1) (end - (p + 1)))) (Some p)) (ne_eqb (get_or bytes p 0) 0 set)

pub zeros_more : (p end : ℕ) (bytes : List ℕ) → p < end → end ≤ length bytes → get_or bytes p 0 ≡ 0 → first_set p (part bytes p (end - p)) ≡ first_set (p + 1) (part bytes (p + 1) (end - (p + 1)))
zeros_more p end bytes below within none =
    zeros_step p end bytes below within
    ∙ ap (λ t. cond t (first_set (p + 1) (part bytes (p + 1) (end - (p + 1)))) (Some p)) (eq-eqb (get_or bytes p 0) 0 none)

pub zeros_end : (p end : ℕ) (bytes : List ℕ) → end ≤ p → first_set p (part bytes p (end - p)) ≡ None
unfolding part
zeros_end p end bytes past =
    let e : end - p ≡ zero = omega arith in
    ap (λ n. first_set p (take n (drop p bytes))) e
