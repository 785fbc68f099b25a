-- Laws of ranges that nobody changes meanwhile.
use Rattle.std.proofs.Common.{◌≡◌, ◌⊎◌, inl, inr, ⊎_elim, ℕ, ◌+◌, ◌-◌, ◌<◌, ◌≤◌, ◌&&◌, ◌||◌, Bool, true, false, List, [], ◌∷◌, ◌++◌, length, get_or, take, drop, nat_le, refl, sym, ap, ◌∙◌, arith}
use Rattle.std.specs.Cmp.Lexicographic.{bytes_decides}
use Rattle.std.specs.Str.{bytes_eq}
use Rattle.std.proofs.lemmas.Bool.{and_from, false≢true, leb-true}
use Rattle.std.proofs.lemmas.List.{ext_get_or, take_at, drop_at, length-take}
use Rattle.std.proofs.Common.{length-drop}
use Rattle.disk_model.specs.Places.{part}
use Rattle.disk_model.specs.PartLaws.{part_is, part_length, part_place}
use Rattle.intake.specs.Ranges.{bytes_in}
use Rattle.intake.specs.declared.ranges.ByteRange.{ByteRange}
use Rattle.shared_disk.specs.Meanwhile.{IsHeld, AreHeld}
use Rattle.shared_disk.specs.Steady.{are_steady, holds_part, is_in_one}

pub both_first : (a b : Bool) → (a && b) ≡ true → a ≡ true
both_first true b e = refl
both_first false b e = e

pub both_second : (a b : Bool) → (a && b) ≡ true → b ≡ true
both_second true b e = e
both_second false b e = absurd (false≢true e)

one_of_two : (a b : Bool) → (a || b) ≡ true → (a ≡ true) ⊎ (b ≡ true)
one_of_two true b e = inl refl
one_of_two false b e = inr e

-- each of the lists has the same bytes there
steady_one : (ranges : List ByteRange) (first : List ℕ) (lists : List (List ℕ)) (c : List ℕ) → are_steady ranges first lists ≡ true → IsHeld lists c → bytes_in c ranges ≡ bytes_in first ranges
steady_one ranges first [] c steady held = absurd held
steady_one ranges first (b ∷ bs) c steady held =
    let here = both_first (bytes_eq (bytes_in b ranges) (bytes_in first ranges)) (are_steady ranges first bs) steady in
    let rest = both_second (bytes_eq (bytes_in b ranges) (bytes_in first ranges)) (are_steady ranges first bs) steady in
    ⊎_elim
    (λ is. ap (λ (x : List ℕ). bytes_in x ranges) is ∙ (bytes_decides (bytes_in b ranges) (bytes_in first ranges)).0 here)
    (λ there. steady_one ranges first bs c rest there)
    held

-- and if each has, they are steady
pub steady_from : (ranges : List ByteRange) (first : List ℕ) (lists : List (List ℕ)) → ((c : List ℕ) → IsHeld lists c → bytes_in c ranges ≡ bytes_in first ranges) → are_steady ranges first lists ≡ true
steady_from ranges first [] same = refl
steady_from ranges first (b ∷ bs) same =
    and_from (bytes_eq (bytes_in b ranges) (bytes_in first ranges)) (are_steady ranges first bs)
    ((bytes_decides (bytes_in b ranges) (bytes_in first ranges)).1 (same b (inl refl)))
    (steady_from ranges first bs (λ c held. same c (inr held)))

-- no range is steady
pub none_steady : (first : List ℕ) (lists : List (List ℕ)) → are_steady [] first lists ≡ true
none_steady first lists = steady_from [] first lists (λ c held. refl)

part_as_long : (b c : List ℕ) (at n : ℕ) → length b ≡ length c → length (part b at n) ≡ length (part c at n)
part_as_long b c at n same =
    ap length (part_is b at n) ∙ length-take n (drop at b) ∙ (let x = length-drop at b in let y = length-drop at c in let z = length-take n (drop at c) in omega (arith, x, y, z, same)) ∙ ap length (sym (part_is c at n))

-- two fronts of one length before two ends: the fronts are one, and the ends too
fronts_one : (a b x y : List ℕ) → length a ≡ length b → a ++ x ≡ b ++ y → a ≡ b
fronts_one a b x y long same = sym (take_at a x (length a) refl) ∙ ap (take (length a)) same ∙ ap (λ (k : ℕ). take k (b ++ y)) long ∙ take_at b y (length b) refl

ends_one : (a b x y : List ℕ) → length a ≡ length b → a ++ x ≡ b ++ y → x ≡ y
ends_one a b x y long same = sym (drop_at a x (length a) refl) ∙ ap (drop (length a)) same ∙ ap (λ (k : ℕ). drop k (b ++ y)) long ∙ drop_at b y (length b) refl

-- the range that holds a part
pub record IsHolder (ranges : List ByteRange) (b c : List ℕ) (at n : ℕ) : Type 0 where
  pub start : ℕ
  pub size : ℕ
  pub after : start ≤ at
  pub before : at + n ≤ start + size
  pub same : part b start size ≡ part c start size

pub holder : (ranges : List ByteRange) (b c : List ℕ) (at n : ℕ) → length b ≡ length c → bytes_in b ranges ≡ bytes_in c ranges → is_in_one ranges at n ≡ true → IsHolder ranges b c at n
holder [] b c at n long same in_one = absurd (false≢true in_one)
holder (r ∷ rs) b c at n long same in_one =
    let lengths = part_as_long b c r.start r.length long in
    ⊎_elim
    (λ here.
    let low : r.start ≤ at = leb-true r.start at (both_first (nat_le r.start at) (nat_le (at + n) (r.start + r.length)) here) in
    let high : at + n ≤ r.start + r.length = leb-true (at + n) (r.start + r.length) (both_second (nat_le r.start at) (nat_le (at + n) (r.start + r.length)) here) in
    record {
      start = r.start;
      size = r.length;
      after = omega (arith, low);
      before = omega (arith, high);
      same = fronts_one (part b r.start r.length) (part c r.start r.length) (bytes_in b rs) (bytes_in c rs) lengths same;
    })
    (λ there.
    let rest = holder rs b c at n long (ends_one (part b r.start r.length) (part c r.start r.length) (bytes_in b rs) (bytes_in c rs) lengths same) there in
    record { start = rest.start; size = rest.size; after = rest.after; before = rest.before; same = rest.same })
    (one_of_two (holds_part at n r) (is_in_one rs at n) in_one)

-- a place of a part that is the same
place_same : (ranges : List ByteRange) (b c : List ℕ) (at n k : ℕ) → IsHolder ranges b c at n → k < n → get_or b (at + k) 0 ≡ get_or c (at + k) 0
place_same ranges b c at n k h below =
    let after = h.after in
    let before = h.before in
    let e : h.start + (at + k - h.start) ≡ at + k = omega (arith, after) in
    let within : at + k - h.start < h.size = omega (arith, after, before, below) in
    ap (λ (j : ℕ). get_or b j 0) (sym e)
    ∙ sym (part_place b h.start h.size (at + k - h.start) 0 within)
    ∙ ap (λ (l : List ℕ). get_or l (at + k - h.start) 0) h.same
    ∙ part_place c h.start h.size (at + k - h.start) 0 within
    ∙ ap (λ (j : ℕ). get_or c j 0) e

-- A read of a range that is steady gives the bytes that the first list has there.
pub steady_read : (ranges : List ByteRange) (first : List ℕ) (lists : List (List ℕ)) (at : ℕ) (bytes : List ℕ) → ((c : List ℕ) → IsHeld lists c → length c ≡ length first) → at + length bytes ≤ length first
    → are_steady ranges first lists ≡ true → is_in_one ranges at (length bytes) ≡ true → AreHeld lists at bytes → bytes ≡ part first at (length bytes)
steady_read ranges first lists at bytes long within steady in_one held =
    ext_get_or 0 bytes (part first at (length bytes)) (sym (part_length first at (length bytes) within))
    (λ k below.
    let one = held k below in
    one.2
    ∙ place_same ranges one.0 first at (length bytes) k (holder ranges one.0 first at (length bytes) (long one.0 one.1) (steady_one ranges first lists one.0 steady one.1) in_one) below
    ∙ sym (part_place first at (length bytes) k 0 below))
