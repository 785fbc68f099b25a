-- Bytes that were read, with gathered bytes laid over them.
use Rattle.std.proofs.Common.{◌≡◌, ◌⊎◌, inl, inr, ⊎_elim, ℕ, ◌+◌, ◌-◌, ◌<◌, ◌≤◌, min, List, ◌++◌, length, get_or, take, drop, sym, ◌∙◌, ap, arith, append_assoc, length-drop}
use Rattle.std.proofs.lemmas.List.{length-take-le, get_or-take, get_or-drop, drop-drop, ext_get_or}
use Rattle.std.proofs.lemmas.Bool.{cases_lt}
use Rattle.disk_model.specs.Places.{part, overwritten}
use Rattle.disk_model.specs.PlaceLaws.{overwritten_length, overwritten_outside}
use Rattle.disk_model.specs.PartLaws.{part_length, part_place, part_spared}
use Rattle.disk_model.specs.Gathering.{fronted}
use Rattle.disk_model.specs.GatheringLaws.{over_in, over_out}

-- Bytes over the front of others: those that there is room for, and then the rest of the others.
fronted_in : (y b : List ℕ) (j : ℕ) → j < length y → j < length b → get_or (fronted y b) j 0 ≡ get_or b j 0
fronted_in y b j room below =
    let m = min (length y) (length b) in
    let long : length (take m b) ≡ m = length-take-le m b (omega arith) in
    let same : j - 0 ≡ j = omega arith in
    over_in y 0 (take m b) j (omega (arith, long)) (omega arith) (omega (arith, long, room, below))
    ∙ ap (λ (i : ℕ). get_or (take m b) i 0) same
    ∙ get_or-take m b j 0 (omega (arith, room, below))

fronted_out : (y b : List ℕ) (j : ℕ) → length b ≤ j → get_or (fronted y b) j 0 ≡ get_or y j 0
fronted_out y b j past =
    let m = min (length y) (length b) in
    let long : length (take m b) ≡ m = length-take-le m b (omega arith) in
    over_out y 0 (take m b) j (omega (arith, long)) (inr (omega (arith, long, past)))

pub fronted_length : (y b : List ℕ) → length (fronted y b) ≡ length y
fronted_length y b =
    let m = min (length y) (length b) in
    let long : length (take m b) ≡ m = length-take-le m b (omega arith) in
    overwritten_length y 0 (take m b) (omega (arith, long))

-- a list that replaces a part of the same length
pub put_over : (x f : List ℕ) (at k : ℕ) → length f ≡ k → take at x ++ (f ++ drop k (drop at x)) ≡ overwritten x at f
put_over x f at k long =
    ap (λ (z : List ℕ). take at x ++ (f ++ z)) (drop-drop k at x ∙ ap (λ (j : ℕ). drop (at + j) x) (sym long))
    ∙ sym (append_assoc (take at x) f (drop (at + length f) x))

module _ (l : List ℕ) (place : ℕ) (b : List ℕ) (at n : ℕ) (within : at + n ≤ length l) (fits : place + length b ≤ length l) where
  abbrev over : List ℕ
  over = overwritten l place b

  over_long : length over ≡ length l
  over_long = overwritten_length l place b fits

  wanted : (k : ℕ) → k < n → get_or (part over at n) k 0 ≡ get_or over (at + k) 0
  wanted k below = part_place over at n k 0 below

  read : (k : ℕ) → k < n → get_or (part l at n) k 0 ≡ get_or l (at + k) 0
  read k below = part_place l at n k 0 below

  part_long : length (part l at n) ≡ n
  part_long = part_length l at n within

  over_part_long : length (part over at n) ≡ n
  over_part_long = part_length over at n (omega (arith, within, over_long))

  -- No byte that was read is gathered.
  pub laid_nothing : (at + n ≤ place) ⊎ (place + length b ≤ at) → part l at n ≡ part over at n
  laid_nothing outside = sym (part_spared place (length b) l over (overwritten_outside l place b fits) at n outside)

  -- The gathered bytes start within the range that was read.
  module _ (low : at ≤ place) (high : place - at < n) where
    abbrev skipped : ℕ
    skipped = place - at

    abbrev rest : List ℕ
    rest = drop skipped (part l at n)

    rest_long : length rest ≡ n - skipped
    rest_long = length-drop skipped (part l at n) ∙ ap (λ (x : ℕ). x - skipped) part_long

    laid_long : length (fronted rest b) ≡ n - skipped
    laid_long = fronted_length rest b ∙ rest_long

    fits_in : skipped + length (fronted rest b) ≤ length (part l at n)
    fits_in = omega (arith, laid_long, part_long, high)

    behind_it : (k : ℕ) → skipped ≤ k → k < n → get_or (fronted rest b) (k - skipped) 0 ≡ get_or over (at + k) 0
    behind_it k from below =
        let e : at + k - place ≡ k - skipped = omega (arith, low, from) in
        ⊎_elim
        (λ gathered.
        fronted_in rest b (k - skipped) (omega (arith, rest_long, from, below)) gathered
        ∙ ap (λ (j : ℕ). get_or b j 0) (sym e)
        ∙ sym (over_in l place b (at + k) fits (omega (arith, low, from)) (omega (arith, low, from, gathered))))
        (λ past.
        let back : skipped + (k - skipped) ≡ k = omega (arith, from) in
        fronted_out rest b (k - skipped) past
        ∙ get_or-drop skipped (part l at n) (k - skipped) 0
        ∙ ap (λ (j : ℕ). get_or (part l at n) j 0) back
        ∙ read k below
        ∙ sym (over_out l place b (at + k) fits (inr (omega (arith, low, from, past)))))
        (cases_lt (k - skipped) (length b))

    pub laid_within : overwritten (part l at n) skipped (fronted rest b) ≡ part over at n
    laid_within =
        let long = overwritten_length (part l at n) skipped (fronted rest b) fits_in in
        ext_get_or 0 (overwritten (part l at n) skipped (fronted rest b)) (part over at n)
        (long ∙ part_long ∙ sym over_part_long)
        (λ k within_it.
        let below : k < n = omega (arith, within_it, long, part_long) in
        ⊎_elim
        (λ before.
        over_out (part l at n) skipped (fronted rest b) k fits_in (inl before)
        ∙ read k below
        ∙ sym (over_out l place b (at + k) fits (inl (omega (arith, low, before))))
        ∙ sym (wanted k below))
        (λ from.
        over_in (part l at n) skipped (fronted rest b) k fits_in from (omega (arith, laid_long, from, below))
        ∙ behind_it k from below
        ∙ sym (wanted k below))
        (cases_lt k skipped))

  -- The range that was read starts within the gathered bytes.
  module _ (low : place ≤ at) (high : at - place < length b) where
    abbrev tail : List ℕ
    tail = drop (at - place) b

    tail_long : length tail ≡ length b - (at - place)
    tail_long = length-drop (at - place) b

    pub laid_from : fronted (part l at n) tail ≡ part over at n
    laid_from =
        ext_get_or 0 (fronted (part l at n) tail) (part over at n)
        (fronted_length (part l at n) tail ∙ part_long ∙ sym over_part_long)
        (λ k within_it.
        let below : k < n = omega (arith, within_it, fronted_length (part l at n) tail, part_long) in
        let e : at - place + k ≡ at + k - place = omega (arith, low) in
        ⊎_elim
        (λ gathered.
        fronted_in (part l at n) tail k (omega (arith, below, part_long)) gathered
        ∙ get_or-drop (at - place) b k 0
        ∙ ap (λ (j : ℕ). get_or b j 0) e
        ∙ sym (over_in l place b (at + k) fits (omega (arith, low)) (omega (arith, low, gathered, tail_long)))
        ∙ sym (wanted k below))
        (λ past.
        fronted_out (part l at n) tail k past
        ∙ read k below
        ∙ sym (over_out l place b (at + k) fits (inr (omega (arith, low, past, tail_long))))
        ∙ sym (wanted k below))
        (cases_lt k (length tail)))
