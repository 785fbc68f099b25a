-- Laws of the bytes of a file that are taken for those of an archive of another length.
use Rattle.std.proofs.Common.{◌≡◌, ◌⊎◌, inl, inr, ℕ, zero, suc, ◌+◌, ◌-◌, ◌<◌, ◌≤◌, List, [], ◌++◌, length, take, drop, replicate, sym, ap, ◌∙◌, arith, length-append, length-drop, length-take, min}
use Rattle.std.proofs.lemmas.Bool.{cases_lt}
use Rattle.std.proofs.lemmas.List.{drop-replicate, take-replicate, length-replicate}
use Rattle.disk_model.specs.Places.{AreBytes, part}
use Rattle.disk_model.specs.PlaceLaws.{take_bytes}
use Rattle.disk_model.specs.PartLaws.{part_is, part_part, part_split}
use Rattle.salvage.specs.FrontLaws.{fronted_bytes, part_first, part_other}
use Rattle.salvage.specs.Fronts.{fronted}
use Rattle.salvage.specs.Mending.{stretched}

pub stretched_length : (n : ℕ) (b : List ℕ) → length (stretched n b) ≡ n
stretched_length n b =
    let z : List ℕ = replicate n 0 in
    omega (arith, length-take n (fronted b z), length-append b (drop (length b) z), length-drop (length b) z, length-replicate {A = ℕ} n 0)

zeros_are_bytes : (n : ℕ) → AreBytes (replicate n 0)
zeros_are_bytes zero k = omega arith
zeros_are_bytes (suc n) zero = omega arith
zeros_are_bytes (suc n) (suc k) = zeros_are_bytes n k

pub stretched_bytes : (n : ℕ) (b : List ℕ) → AreBytes b → AreBytes (stretched n b)
stretched_bytes n b are = take_bytes n (fronted b (replicate n 0)) (fronted_bytes b (replicate n 0) are (zeros_are_bytes n))

module _ (n : ℕ) (b : List ℕ) (at m : ℕ) (within : at + m ≤ n) where
  uncut : part (stretched n b) at m ≡ part (fronted b (replicate n 0)) at m
  uncut =
      let e : 0 + at ≡ at = omega arith in
      ap (λ (l : List ℕ). part l at m) (sym (part_is (fronted b (replicate n 0)) 0 n))
      ∙ part_part (fronted b (replicate n 0)) 0 n at m within
      ∙ ap (λ (p : ℕ). part (fronted b (replicate n 0)) p m) e

  -- a part of the zeros
  zeros : (p k : ℕ) → p + k ≤ n → part (replicate n 0) p k ≡ replicate k 0
  zeros p k fits =
      part_is (replicate n 0) p k
      ∙ ap (take k) (drop-replicate p n 0)
      ∙ take-replicate k (n - p) 0 (omega (arith, fits))

  pub all_zeros : length b ≤ at → part (stretched n b) at m ≡ replicate m 0
  all_zeros behind = uncut ∙ part_other b (replicate n 0) at m behind ∙ zeros at m within

  pub all_there : at + m ≤ length b → part (stretched n b) at m ≡ part b at m
  all_there fits = uncut ∙ part_first b (replicate n 0) at m fits

-- a part that the bytes have at its front, and zeros behind
module _ (n : ℕ) (b : List ℕ) (at m there : ℕ) (within : at + m ≤ n) (fits : there ≤ m) where
  rest_zeros : (there ≡ m) ⊎ (length b ≤ at + there) → part (stretched n b) (at + there) (m - there) ≡ replicate (m - there) 0
  rest_zeros (inl all) =
      let z : m - there ≡ 0 = omega (arith, all) in
      ap (part (stretched n b) (at + there)) z ∙ part_is (stretched n b) (at + there) 0 ∙ ap (λ (k : ℕ). replicate k 0) (sym z)
  rest_zeros (inr ends) = all_zeros n b (at + there) (m - there) (omega (arith, within, fits)) ends

  some_there : at + there ≤ length b → (there ≡ m) ⊎ (length b ≤ at + there) → part (stretched n b) at m ≡ part b at there ++ replicate (m - there) 0
  some_there low which =
      let e : there + (m - there) ≡ m = omega (arith, fits) in
      ap (part (stretched n b) at) (sym e)
      ∙ part_split (stretched n b) at there (m - there)
      ∙ ap (λ (l : List ℕ). l ++ part (stretched n b) (at + there) (m - there)) (all_there n b at there (omega (arith, within, fits)) low)
      ∙ ap (λ (l : List ℕ). part b at there ++ l) (rest_zeros which)

-- a read from a place on gives the bytes that are there, and zeros after the last one
pub read_stretched : (n : ℕ) (b : List ℕ) (at m from there : ℕ) → at + m ≤ n → from ≡ min at (length b) → there ≡ min (length b - from) m
    → part (stretched n b) at m ≡ part b from there ++ replicate (m - there) 0
read_stretched n b at m from there within is_from is_there =
    elim (cases_lt at (length b)) as (λ _. part (stretched n b) at m ≡ part b from there ++ replicate (m - there) 0) [
      | inl below ↦ front below
      | inr past ↦ behind past
    ]
  where
    front : at < length b → part (stretched n b) at m ≡ part b from there ++ replicate (m - there) 0
    front below =
        let e : at ≡ from = omega (arith, is_from, below) in
        some_there n b at m there within (omega (arith, is_there)) (omega (arith, is_from, is_there, below)) (ends (cases_lt there m))
        ∙ ap (λ (p : ℕ). part b p there ++ replicate (m - there) 0) e
      where
        ends : (there < m) ⊎ (m ≤ there) → (there ≡ m) ⊎ (length b ≤ at + there)
        ends (inl less) = inr (omega (arith, is_from, is_there, below, less))
        ends (inr all) = inl (omega (arith, is_there, all))

    behind : length b ≤ at → part (stretched n b) at m ≡ part b from there ++ replicate (m - there) 0
    behind past =
        let none : there ≡ 0 = omega (arith, is_from, is_there, past) in
        let all : m ≡ m - there = omega (arith, none) in
        let zeros_there : part (stretched n b) at m ≡ replicate (m - there) 0 = all_zeros n b at m within past ∙ ap (λ (k : ℕ). replicate k 0) all in
        let nothing : [] ≡ part b from there = sym (ap (part b from) none ∙ part_is b from 0) in
        zeros_there ∙ ap (λ (l : List ℕ). l ++ replicate (m - there) 0) nothing
