-- The entries of a symbol table, one by one.
use Rattle.std.proofs.Common.{◌≡◌, ◌<◌, ◌≤◌, ◌+◌, ◌-◌, ℕ, zero, suc, Bool, true, false, cond, List, [], ◌∷◌, Some, None, get_or, filter, find, refl, ap, ◌∙◌, arith}
use Rattle.std.specs.List.{range_with_len}
use Rattle.elf_view.specs.Field.{field}

-- a field of one byte is that byte
pub one_byte : (b : List ℕ) (p : ℕ) → get_or b p 0 ≡ field b p 1
unfolding field
one_byte b p = omega arith

-- the first of the numbers that are left
pub range_step : (i n : ℕ) → 0 < n → range_with_len i n ≡ i ∷ range_with_len (i + 1) (n - 1)
range_step i zero h = absurd (omega arith)
range_step i (suc n) h =
    let less : n ≡ suc n - 1 = omega arith in ap (λ m. i ∷ range_with_len (i + 1) m) less

-- one that fails leaves the others to be asked; one that passes is found
pub find_on : (p : ℕ → Bool) (i n : ℕ) → i < n → p i ≡ false → find p (range_with_len i (n - i)) ≡ find p (range_with_len (i + 1) (n - (i + 1)))
find_on p i n h fails =
    let some : 0 < n - i = omega arith in
    let less : n - i - 1 ≡ n - (i + 1) = omega arith in
    ap (find p) (range_step i (n - i) some)
    ∙ ap (λ t. cond t (Some i) (find p (range_with_len (i + 1) (n - i - 1)))) fails ∙ ap (λ m. find p (range_with_len (i + 1) m)) less

pub find_here : (p : ℕ → Bool) (i n : ℕ) → i < n → p i ≡ true → find p (range_with_len i (n - i)) ≡ Some i
find_here p i n h passes =
    let some : 0 < n - i = omega arith in
    ap (find p) (range_step i (n - i) some) ∙ ap (λ t. cond t (Some i) (find p (range_with_len (i + 1) (n - i - 1)))) passes

pub find_past : (p : ℕ → Bool) (i n : ℕ) → n ≤ i → find p (range_with_len i (n - i)) ≡ None
find_past p i n h =
    let none : n - i ≡ 0 = omega arith in ap (λ m. find p (range_with_len i m)) none

-- The first of those that pass, where there is one: the others come after it.
module _ (p : ℕ → Bool) where
  -- one that passes is the first; else the first is among the others
  here_or_later : (t : Bool) (i n k e : ℕ) → e ≡ i + suc n → i < e → k < e → cond t (Some i) (find p (range_with_len (i + 1) n)) ≡ Some k
      → (find p (range_with_len (i + 1) n) ≡ Some k → filter p (range_with_len (i + 1) n) ≡ k ∷ filter p (range_with_len (k + 1) (e - (k + 1))))
      → cond t (i ∷ filter p (range_with_len (i + 1) n)) (filter p (range_with_len (i + 1) n)) ≡ k ∷ filter p (range_with_len (k + 1) (e - (k + 1)))
  here_or_later true i n k e end below within h later =
      let same : i ≡ k = cc in
      let left : n ≡ e - (i + 1) = omega arith in
      ap (λ m. i ∷ filter p (range_with_len (i + 1) m)) left ∙ ap (λ j. j ∷ filter p (range_with_len (j + 1) (e - (j + 1)))) same
  here_or_later false i n k e end below within h later = later h

  pub found : (i n k e : ℕ) → e ≡ i + n → k < e → find p (range_with_len i n) ≡ Some k → filter p (range_with_len i n) ≡ k ∷ filter p (range_with_len (k + 1) (e - (k + 1)))
  found i zero k e end within h = cc
  found i (suc n) k e end within h =
      here_or_later (p i) i n k e end (omega arith) within h (λ later. found (i + 1) n k e (omega arith) within later)

  none_or_later : (t : Bool) (i : ℕ) (rest : List ℕ) → cond t (Some i) (find p rest) ≡ None → (find p rest ≡ None → filter p rest ≡ []) → cond t (i ∷ filter p rest) (filter p rest) ≡ []
  none_or_later true i rest h later = cc
  none_or_later false i rest h later = later h

  pub not_found : (xs : List ℕ) → find p xs ≡ None → filter p xs ≡ []
  not_found [] h = refl
  not_found (x ∷ xs) h = none_or_later (p x) x xs h (λ later. not_found xs later)

  -- there is none from the end on
  pub no_more : (n : ℕ) → filter p (range_with_len n (n - n)) ≡ []
  no_more n =
      let none : n - n ≡ 0 = omega arith in ap (λ m. filter p (range_with_len n m)) none
