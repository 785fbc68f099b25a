-- The bytes of each moment of such a disk, and those that a read of it gives.
use Rattle.std.proofs.Common.{◌≡◌, ⊎_elim, ℕ, zero, suc, ◌+◌, ◌-◌, ◌*◌, ◌%◌, ◌<◌, ◌≤◌, List, set, take, drop, length, slice_index, sym, ap, subst, ◌∙◌, arith}
use Rattle.std.proofs.lemmas.Bool.{cases_lt}
use Rattle.std.proofs.lemmas.List.{drop-drop, get_or-set_same, get_or-set_other}
use Rattle.shared_disk.specs.History.{moment}
use Rattle.shared_disk.specs.Rows.{rows, row_long}
use Rattle.shared_disk.specs.Meanwhile.{EndsWith, IsHeld}
use Rattle.shared_disk.specs.Scripted.{span, span_all, span_ends, span_has}

module _ (count size : ℕ) (bytes : List ℕ) (seen next : ℕ) (whole : count * size ≡ length bytes) (order : seen ≤ next) (low : next < count) where
  pub row_size : length (moment (rows count size bytes) seen) ≡ size
  row_size = row_long count size bytes seen whole (omega (arith, order, low))

  pub held_size : (c : List ℕ) → IsHeld (span (rows count size bytes) seen (next - seen)) c → length c ≡ size
  held_size c held =
      span_all (λ (l : List ℕ). length l ≡ size) (rows count size bytes) seen (next - seen)
      (λ n within. row_long count size bytes (seen + n) whole (omega (arith, within, order, low))) c held

-- the place of the bytes of a moment
pub row_is : (count size : ℕ) (bytes : List ℕ) (k : ℕ) → k < count → take size (drop (k * size) bytes) ≡ moment (rows count size bytes) k
row_is zero size bytes k low = absurd (omega (arith, low))
row_is (suc n) size bytes zero low =
    let none : zero * size ≡ 0 = grind arith in
    ap (λ (p : ℕ). take size (drop p bytes)) none
row_is (suc n) size bytes (suc k) low =
    let more : suc k * size ≡ size + k * size = grind arith in
    ap (λ (p : ℕ). take size (drop p bytes)) more
    ∙ ap (take size) (sym (drop-drop (k * size) size bytes))
    ∙ row_is n size (drop size bytes) k (omega (arith, low))

module _ (count size : ℕ) (bytes : List ℕ) (seen next : ℕ) (order : seen ≤ next) (count2 size2 : ℕ) (bytes2 : List ℕ) (seen2 : ℕ)
    (same_count : count2 ≡ count) (same_size : size2 ≡ size) (same_bytes : bytes2 ≡ bytes) (is : seen2 ≡ next) where
  same_moment : moment (rows count size bytes) next ≡ moment (rows count2 size2 bytes2) seen2
  same_moment =
      ap (moment (rows count size bytes)) (sym is)
      ∙ ap (λ (n : ℕ). moment (rows n size bytes) seen2) (sym same_count)
      ∙ ap (λ (n : ℕ). moment (rows count2 n bytes) seen2) (sym same_size)
      ∙ ap (λ (l : List ℕ). moment (rows count2 size2 l) seen2) (sym same_bytes)

  -- the next look sees the last of the lists that are held until then
  pub next_seen : EndsWith (span (rows count size bytes) seen (next - seen)) (moment (rows count2 size2 bytes2) seen2)
  next_seen =
      let last : seen + (next - seen) ≡ next = omega (arith, order) in
      subst (λ (c : List ℕ). EndsWith (span (rows count size bytes) seen (next - seen)) c) (ap (moment (rows count size bytes)) last ∙ same_moment)
      (span_ends (rows count size bytes) seen (next - seen))

-- the bytes that the next look sees are as long as the disk
pub row_fits : (count size : ℕ) (bytes : List ℕ) (next : ℕ) → count * size ≡ length bytes → next < count → (count2 size2 : ℕ) (bytes2 : List ℕ) (seen2 : ℕ) (row : List ℕ)
    → count2 ≡ count → size2 ≡ size → bytes2 ≡ bytes → seen2 ≡ next → row ≡ moment (rows count2 size2 bytes2) seen2 → length row ≡ size
row_fits count size bytes next whole low count2 size2 bytes2 seen2 row same_count same_size same_bytes is here =
    let low2 : seen2 < count2 = omega (arith, same_count, is, low) in
    let whole2 : count2 * size2 ≡ length bytes2 =
    ap (λ (n : ℕ). n * size2) same_count ∙ ap (λ (n : ℕ). count * n) same_size ∙ whole ∙ ap length (sym same_bytes) in
    ap length here ∙ row_long count2 size2 bytes2 seen2 whole2 low2 ∙ same_size

-- the first k of these bytes are held at their places, from place `at` on
abbrev pub AreFirst : List (List ℕ) → ℕ → List ℕ → ℕ → Type 0
AreFirst lists at bytes k = (n : ℕ) → n < k → (c : List ℕ) × IsHeld lists c × (slice_index bytes n ≡ slice_index c (at + n))

-- one byte more
pub first_more : (lists : List (List ℕ)) (at : ℕ) (bytes : List ℕ) (k byte : ℕ) (c : List ℕ) → AreFirst lists at bytes k → k < length bytes → IsHeld lists c → byte ≡ slice_index c (at + k)
    → AreFirst lists at (set bytes k byte) (k + 1)
first_more lists at bytes k byte c first within held is n below =
    ⊎_elim
    (λ before.
    let r = first n before in
    (r.0, r.1, get_or-set_other bytes k n byte 0 (λ e. omega (arith, e, before)) ∙ r.2))
    (λ from.
    let here : n ≡ k = omega (arith, from, below) in
    (c, held, ap (λ (p : ℕ). slice_index (set bytes k byte) p) here ∙ get_or-set_same bytes k byte 0 within ∙ is ∙ ap (λ (p : ℕ). slice_index c (at + p)) (sym here)))
    (cases_lt n k)
