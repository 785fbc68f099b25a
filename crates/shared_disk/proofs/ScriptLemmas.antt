-- A read byte by byte.
use Rattle.std.proofs.Common.{◌≡◌, ⊎_elim, ℕ, ◌+◌, ◌<◌, ◌≤◌, List, set, length, slice_index, sym, ap, ◌∙◌, arith}
use Rattle.std.proofs.lemmas.Bool.{cases_lt}
use Rattle.std.proofs.lemmas.List.{get_or-set_same, get_or-set_other}
use Rattle.shared_disk.specs.History.{moment}
use Rattle.shared_disk.specs.Rows.{rows}

-- these are the first bytes of what was read from moment i to moment j
abbrev pub AreFirst : List (List ℕ) → ℕ → ℕ → ℕ → List ℕ → ℕ → Type 0
AreFirst moments i j at bytes k = (n : ℕ) → n < k → (m : ℕ) × (i ≤ m) × (m ≤ j) × (slice_index bytes n ≡ slice_index (moment moments m) (at + n))

pub one_more : (moments : List (List ℕ)) (i j l at : ℕ) (bytes : List ℕ) (k byte : ℕ) → AreFirst moments i j at bytes k → i ≤ j → j ≤ l → k < length bytes → byte ≡ slice_index (moment moments j) (at + k)
    → AreFirst moments i l at (set bytes k byte) (k + 1)
one_more moments i j l at bytes k byte first le later within is n below =
    ⊎_elim
    (λ before.
    let r = first n before in
    let high = r.2 in
    (r.0, r.1, omega (arith, high, later), get_or-set_other bytes k n byte 0 (λ e. omega (arith, e, before)) ∙ r.3))
    (λ from.
    let here : n ≡ k = omega (arith, from, below) in
    (j, le, later, ap (λ (p : ℕ). slice_index (set bytes k byte) p) here ∙ get_or-set_same bytes k byte 0 within ∙ is ∙ ap (λ (p : ℕ). slice_index (moment moments j) (at + p)) (sym here)))
    (cases_lt n k)

pub script_byte : (n m size long : ℕ) (bytes first : List ℕ) (k at byte : ℕ) → n ≡ m → size ≡ long → bytes ≡ first → byte ≡ slice_index (moment (rows n size bytes) k) at
    → byte ≡ slice_index (moment (rows m long first) k) at
script_byte n m size long bytes first k at byte same_count same_size same_bytes is =
    is
    ∙ ap (λ (x : ℕ). slice_index (moment (rows x size bytes) k) at) same_count
    ∙ ap (λ (x : ℕ). slice_index (moment (rows m x bytes) k) at) same_size
    ∙ ap (λ (x : List ℕ). slice_index (moment (rows m long x) k) at) same_bytes
