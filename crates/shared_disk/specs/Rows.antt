-- Lists of bytes of one length, one after the other.
use Rattle.std.proofs.Common.{◌≡◌, ℕ, zero, suc, ◌+◌, ◌-◌, ◌*◌, ◌<◌, List, [], ◌∷◌, length, take, drop, slice_index, refl, ap, ◌∙◌, arith, length-drop}
use Rattle.std.proofs.lemmas.List.{get_or-take, get_or-drop, length-take-le}
use Rattle.disk_model.specs.Places.{AreBytes}
use Rattle.disk_model.specs.PlaceLaws.{take_bytes, drop_bytes}
use Rattle.shared_disk.specs.History.{moment}

-- the first n of them
abbrev pub rows : ℕ → ℕ → List ℕ → List (List ℕ)
rows zero long bytes = []
rows (suc n) long bytes = take long bytes ∷ rows n long (drop long bytes)

pub row_count : (n long : ℕ) (bytes : List ℕ) → length (rows n long bytes) ≡ n
row_count zero long bytes = refl
row_count (suc n) long bytes = ap suc (row_count n long (drop long bytes))

next_row : (k long : ℕ) → suc k * long ≡ long + k * long
next_row k long = grind arith

no_row : (long : ℕ) → zero * long ≡ 0
no_row long = grind arith

pub row_place : (n long : ℕ) (bytes : List ℕ) (k at : ℕ) → k < n → at < long → slice_index (moment (rows n long bytes) k) at ≡ slice_index bytes (k * long + at)
row_place zero long bytes k at low below = absurd (omega (arith, low))
row_place (suc n) long bytes zero at low below =
    let e = no_row long in
    let here : at ≡ zero * long + at = omega (arith, e) in
    get_or-take long bytes at 0 below ∙ ap (slice_index bytes) here
row_place (suc n) long bytes (suc k) at low below =
    let e = next_row k long in
    let here : long + (k * long + at) ≡ suc k * long + at = omega (arith, e) in
    row_place n long (drop long bytes) k at (omega (arith, low)) below ∙ get_or-drop long bytes (k * long + at) 0 ∙ ap (slice_index bytes) here

pub row_long : (n long : ℕ) (bytes : List ℕ) (k : ℕ) → n * long ≡ length bytes → k < n → length (moment (rows n long bytes) k) ≡ long
row_long zero long bytes k whole low = absurd (omega (arith, low))
row_long (suc n) long bytes zero whole low =
    let e = next_row n long in
    length-take-le long bytes (omega (arith, e, whole))
row_long (suc n) long bytes (suc k) whole low =
    let e = next_row n long in
    let d = length-drop long bytes in
    row_long n long (drop long bytes) k (omega (arith, e, d, whole)) (omega (arith, low))

pub row_within : (n long k at total : ℕ) → n * long ≡ total → k < n → at < long → k * long + at < total
row_within zero long k at total whole low below = absurd (omega (arith, low))
row_within (suc n) long zero at total whole low below =
    let e = next_row n long in
    let d = no_row long in
    omega (arith, e, d, whole, below)
row_within (suc n) long (suc k) at total whole low below =
    let e = next_row n long in
    let d = next_row k long in
    let deeper = row_within n long k at (total - long) (omega (arith, e, whole)) (omega (arith, low)) below in
    omega (arith, deeper, d, e, whole)

pub row_bytes : (n long : ℕ) (bytes : List ℕ) (k : ℕ) → AreBytes bytes → AreBytes (moment (rows n long bytes) k)
row_bytes zero long bytes k are = λ j. omega arith
row_bytes (suc n) long bytes zero are = take_bytes long bytes are
row_bytes (suc n) long bytes (suc k) are = row_bytes n long (drop long bytes) k (drop_bytes long bytes are)
