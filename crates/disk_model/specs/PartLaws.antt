-- Laws of parts, and of lists that are the same outside a range.
use Rattle.std.proofs.Common.{◌≡◌, ◌⊎◌, inl, inr, ⊎_elim, ℕ, ◌+◌, ◌-◌, ◌<◌, ◌≤◌, min, List, ◌++◌, length, get_or, take, drop, refl, sym, ◌∙◌, ap, arith, append_assoc, length-drop}
use Rattle.std.proofs.Math.Seq.{take-add}
use Rattle.std.proofs.lemmas.List.{take_at, drop_at, take_all, take-take, drop-drop, drop-take, length-take, length-take-le, get_or-take, get_or-drop, ext_get_or, take-append-drop}
use Rattle.disk_model.specs.Places.{AreBytes, part, overwritten, SameOutside}
use Rattle.disk_model.specs.PlaceLaws.{take_bytes, drop_bytes}

-- the bytes of a part

pub part_is : (b : List ℕ) (p n : ℕ) → part b p n ≡ take n (drop p b)
unfolding part
part_is b p n = refl

pub part_length : (b : List ℕ) (p n : ℕ) → p + n ≤ length b → length (part b p n) ≡ n
unfolding part
part_length b p n within = length-take-le n (drop p b) (omega (arith, within, length-drop p b))

pub part_bytes : (b : List ℕ) (p n : ℕ) → AreBytes b → AreBytes (part b p n)
unfolding part
part_bytes b p n are = take_bytes n (drop p b) (drop_bytes p b are)

pub part_all : (b : List ℕ) → part b 0 (length b) ≡ b
unfolding part
part_all b = take_all (length b) b (omega arith)

pub part_place : (b : List ℕ) (p n k d : ℕ) → k < n → get_or (part b p n) k d ≡ get_or b (p + k) d
unfolding part
part_place b p n k d below = get_or-take n (drop p b) k d below ∙ get_or-drop p b k d

-- a part is a front of it and the rest after that
pub part_split : (b : List ℕ) (p n m : ℕ) → part b p (n + m) ≡ part b p n ++ part b (p + n) m
unfolding part
part_split b p n m = take-add n m (drop p b) ∙ ap (λ (l : List ℕ). take n (drop p b) ++ take m l) (drop-drop n p b)

-- a part of a part
pub part_part : (b : List ℕ) (p n q m : ℕ) → q + m ≤ n → part (part b p n) q m ≡ part b (p + q) m
unfolding part
part_part b p n q m within =
    sym (drop-take q m (take n (drop p b)))
    ∙ ap (drop q) (take-take (q + m) n (drop p b) within)
    ∙ drop-take q m (drop p b)
    ∙ ap (take m) (drop-drop q p b)

-- the list that was put there, and its parts
pub part_overwritten : (old : List ℕ) (at : ℕ) (bytes : List ℕ) → at + length bytes ≤ length old → part (overwritten old at bytes) at (length bytes) ≡ bytes
unfolding part
part_overwritten old at bytes within =
    ap (λ (l : List ℕ). take (length bytes) (drop at l)) (append_assoc (take at old) bytes (drop (at + length bytes) old))
    ∙ ap (take (length bytes)) (drop_at (take at old) (bytes ++ drop (at + length bytes) old) at (length-take-le at old (omega (arith, within))))
    ∙ take_at bytes (drop (at + length bytes) old) (length bytes) refl

pub part_within : (old : List ℕ) (at : ℕ) (bytes : List ℕ) (p n : ℕ) → at + length bytes ≤ length old → p + n ≤ length bytes
    → part (overwritten old at bytes) (at + p) n ≡ part bytes p n
part_within old at bytes p n within inside =
    sym (part_part (overwritten old at bytes) at (length bytes) p n inside)
    ∙ ap (λ (l : List ℕ). part l p n) (part_overwritten old at bytes within)

module _ (at n : ℕ) (old new : List ℕ) (same : SameOutside at n old new) where
  -- parts that lie outside the range
  pub part_before : (p m : ℕ) → p + m ≤ at → part new p m ≡ part old p m
  unfolding part
  part_before p m below =
      sym (drop-take p m new)
      ∙ ap (drop p) (sym (take-take (p + m) at new below) ∙ ap (take (p + m)) same.before ∙ take-take (p + m) at old below)
      ∙ drop-take p m old

  behind : (p : ℕ) (l : List ℕ) → at + n ≤ p → drop p l ≡ drop (p - (at + n)) (drop (at + n) l)
  behind p l above =
      let e : at + n + (p - (at + n)) ≡ p = omega (arith, above) in
      ap (λ (k : ℕ). drop k l) (sym e) ∙ sym (drop-drop (p - (at + n)) (at + n) l)

  pub part_after : (p m : ℕ) → at + n ≤ p → part new p m ≡ part old p m
  unfolding part
  part_after p m above =
      ap (take m) (behind p new above ∙ ap (drop (p - (at + n))) same.after ∙ sym (behind p old above))

  pub part_spared : (p m : ℕ) → (p + m ≤ at) ⊎ (at + n ≤ p) → part new p m ≡ part old p m
  part_spared p m outside = ⊎_elim (part_before p m) (part_after p m) outside

  -- places that lie outside the range
  pub place_before : (k d : ℕ) → k < at → get_or new k d ≡ get_or old k d
  place_before k d below = sym (get_or-take at new k d below) ∙ ap (λ (l : List ℕ). get_or l k d) same.before ∙ get_or-take at old k d below

  pub place_after : (k d : ℕ) → at + n ≤ k → get_or new k d ≡ get_or old k d
  place_after k d above =
      let e : at + n + (k - (at + n)) ≡ k = omega (arith, above) in
      let back : (l : List ℕ) → get_or l k d ≡ get_or (drop (at + n) l) (k - (at + n)) d = λ l. ap (λ (j : ℕ). get_or l j d) (sym e) ∙ sym (get_or-drop (at + n) l (k - (at + n)) d) in
      back new ∙ ap (λ (l : List ℕ). get_or l (k - (at + n)) d) same.after ∙ sym (back old)

  pub place_spared : (k d : ℕ) → (k < at) ⊎ (at + n ≤ k) → get_or new k d ≡ get_or old k d
  place_spared k d outside = ⊎_elim (place_before k d) (place_after k d) outside

  pub same_back : SameOutside at n new old
  same_back = record { same_length = sym same.same_length; before = sym same.before; after = sym same.after }

  front_from : (p : ℕ) → p ≤ at → take p new ≡ take p old
  front_from p le = sym (take-take p at new le) ∙ ap (take p) same.before ∙ take-take p at old le

  -- a range that holds the range
  pub widened : (p m : ℕ) → p ≤ at → at + n ≤ p + m → SameOutside p m old new
  widened p m low high = record {
    same_length = same.same_length;
    before = front_from p low;
    after = behind (p + m) new high ∙ ap (drop (p + m - (at + n))) same.after ∙ sym (behind (p + m) old high);
  }

-- one change after the other in the same range
pub same_twice : (at n : ℕ) (a b c : List ℕ) → SameOutside at n a b → SameOutside at n b c → SameOutside at n a c
same_twice at n a b c first second = record {
  same_length = second.same_length ∙ first.same_length;
  before = second.before ∙ first.before;
  after = second.after ∙ first.after;
}

-- lists that are the same at each place outside a range
pub same_by_places : (at n : ℕ) (old new : List ℕ) → length new ≡ length old → ((k : ℕ) → (k < at) ⊎ (at + n ≤ k) → get_or new k 0 ≡ get_or old k 0) → SameOutside at n old new
same_by_places at n old new long same = record {
  same_length = long;
  before = ext_get_or 0 (take at new) (take at old)
      (length-take at new ∙ ap (min at) long ∙ sym (length-take at old))
      (λ k below. let low : k < at = omega (arith, below, length-take at new) in get_or-take at new k 0 low ∙ same k (inl low) ∙ sym (get_or-take at old k 0 low));
  after = ext_get_or 0 (drop (at + n) new) (drop (at + n) old)
      (length-drop (at + n) new ∙ ap (λ (l : ℕ). l - (at + n)) long ∙ sym (length-drop (at + n) old))
      (λ k below. get_or-drop (at + n) new k 0 ∙ same (at + n + k) (inr (omega arith)) ∙ sym (get_or-drop (at + n) old k 0));
}

-- lists of one length with the same parts in two ranges that meet
pub same_all : (at n : ℕ) (old new : List ℕ) → SameOutside at n old new → part new at n ≡ part old at n → new ≡ old
unfolding part
same_all at n old new same inside =
    sym (take-append-drop at new)
    ∙ ap (λ (l : List ℕ). take at new ++ l) (rest new)
    ∙ ap (λ (l : List ℕ). l ++ (take n (drop at new) ++ drop (at + n) new)) same.before
    ∙ ap (λ (l : List ℕ). take at old ++ (l ++ drop (at + n) new)) inside
    ∙ ap (λ (l : List ℕ). take at old ++ (take n (drop at old) ++ l)) same.after
    ∙ ap (λ (l : List ℕ). take at old ++ l) (sym (rest old))
    ∙ take-append-drop at old
  where
    rest : (l : List ℕ) → drop at l ≡ take n (drop at l) ++ drop (at + n) l
    rest l = sym (take-append-drop n (drop at l)) ∙ ap (λ (m : List ℕ). take n (drop at l) ++ m) (drop-drop n at l)
