-- A stream that goes to a file, piece by piece.
use Rattle.std.proofs.Common.{◌≡◌, ◌⊎◌, ◌≤◌, ℕ, zero, suc, ◌+◌, true, List, [], ◌∷◌, ◌++◌, length, take, drop, Option, None, Some, inl, inr, refl, sym, ap, subst, ◌∙◌, append_assoc, arith}
use Rattle.std.proofs.KnownBytes.{Appends-trans, Consumes-trans}
use Rattle.std.proofs.lemmas.List.{length-append, take-append-drop}
use Rattle.std.specs.Io.KnownBytes.{Appends, Consumes, IsAtEnd}
use Rattle.handler_files.specs.Stream.{PassesOn, EndsAt, StepsTo}
use Rattle.handler_files.specs.Reception.{IsTakenFrom, ceiling_of, has_room}
use Rattle.handler_files.specs.declared.reception.Room.{Room}
use Rattle.handler_files.specs.declared.stream.End.{End}
use Rattle.handler_files.specs.declared.stream.End.TheVariants.{Whole, Most, Unread, Unwritten}

append_none : (xs : List ℕ) → xs ++ [] ≡ xs
append_none [] = refl
append_none (x ∷ xs) = ap (λ (l : List ℕ). x ∷ l) (append_none xs)

take_none : (k : ℕ) → take {A = ℕ} k [] ≡ []
take_none zero = refl
take_none (suc k) = refl

pub take_both : (n m : ℕ) (xs : List ℕ) → take (n + m) xs ≡ take n xs ++ take m (drop n xs)
take_both zero m xs = let e : zero + m ≡ m = omega arith in ap (λ (k : ℕ). take k xs) e
take_both (suc n) m [] = take_none (suc n + m) ∙ sym (take_none m)
take_both (suc n) m (x ∷ xs) =
    let e : suc n + m ≡ suc (n + m) = omega arith in
    ap (λ (k : ℕ). take k (x ∷ xs)) e ∙ ap (λ (l : List ℕ). x ∷ l) (take_both n m xs)

drop_seam : (n : ℕ) (xs ys : List ℕ) → n ≤ length xs → xs ≡ take n xs ++ ys → drop n xs ≡ ys
drop_seam zero xs ys le e = e
drop_seam (suc n) [] ys le e = absurd (omega (arith, le))
drop_seam (suc n) (x ∷ xs) ys le e = drop_seam n xs ys (omega (arith, le)) (ap (drop 1) e)

many : (n m : ℕ) (xs ys : List ℕ) → n ≤ length xs → drop n xs ≡ ys → m ≤ length ys → n + m ≤ length xs
many zero m xs ys le e more = let so : m ≤ length xs = subst (λ (l : List ℕ). m ≤ length l) (sym e) more in omega (arith, so)
many (suc n) m [] ys le e more = absurd (omega (arith, le))
many (suc n) m (x ∷ xs) ys le e more = let so = many n m xs ys (omega (arith, le)) e more in omega (arith, so)

none_left : (n : ℕ) (xs : List ℕ) → n ≤ length xs → drop n xs ≡ [] → n ≡ length xs
none_left zero [] le e = refl
none_left zero (x ∷ xs) le e = absurd (let l : length (x ∷ xs) ≡ 0 = ap (λ (l : List ℕ). length l) e in omega (arith, l))
none_left (suc n) [] le e = absurd (omega (arith, le))
none_left (suc n) (x ∷ xs) le e = let so = none_left n xs (omega (arith, le)) e in omega (arith, so)

ends_so : (n : ℕ) (xs ys : List ℕ) (most : ℕ) → n ≤ length xs → xs ≡ take n xs ++ ys → (ys ≡ []) ⊎ (n ≡ most) → (n ≡ length xs) ⊎ (n ≡ most)
ends_so n xs ys most le all (inl none) = inl (none_left n xs le (drop_seam n xs ys le all ∙ none))
ends_so n xs ys most le all (inr full) = inr full

-- a piece more
pub pass_both : (xs : List ℕ) (n m : ℕ) (c0 c1 c2 r1 r2 : Option (List ℕ)) (held : List ℕ) → PassesOn xs n c0 c1 [] r1
    → ((ys : List ℕ) → r1 ≡ Some ys → PassesOn ys m c1 c2 held r2) → PassesOn xs (n + m) c0 c2 held r2
pass_both xs n m c0 c1 c2 None r2 held first more = absurd first.rest
pass_both xs n m c0 c1 c2 (Some ys) r2 held first more =
    let next = more ys refl in
    let all : xs ≡ take n xs ++ ys = first.rest ∙ ap (λ (l : List ℕ). l ++ ys) (append_none (take n xs)) in
    let left : drop n xs ≡ ys = drop_seam n xs ys first.count all in
    let both : take (n + m) xs ≡ take n xs ++ take m ys = take_both n m xs ∙ ap (λ (l : List ℕ). take n xs ++ take m l) left in
    let sum : length (take n xs) + length (drop n xs) ≡ length xs = sym (length-append (take n xs) (drop n xs)) ∙ ap (λ (l : List ℕ). length l) (take-append-drop n xs) in
    let tail : length (drop n xs) ≡ length ys = ap (λ (l : List ℕ). length l) left in
    record {
      count = many n m xs ys first.count left next.count;
      written = subst (λ (l : List ℕ). Appends c0 c2 l) (sym both) (Appends-trans c0 c1 c2 (take n xs) (take m ys) first.written next.written);
      rest = subst (λ (l : List ℕ). Consumes (Some xs) r2 l) (sym (append_assoc (take n xs) (take m ys) held) ∙ ap (λ (l : List ℕ). l ++ held) (sym both))
          (Consumes-trans (Some xs) (Some ys) r2 (take n xs) (take m ys ++ held) all next.rest);
    }

-- how a step ends is how all ends
pub ends_at : (end : End) (k n most : ℕ) (held : List ℕ) (left : Option (List ℕ)) → StepsTo k (Some end) held left → EndsAt end n most held left
ends_at Whole k n most held left is = is
ends_at Most k n most held left is = absurd is
ends_at Unread k n most held left is = is
ends_at (Unwritten fault) k n most held left is = tt

-- all of a stream is in the file, or as much as is wanted
pub taken : (xs held : List ℕ) (n : ℕ) (room : Room) (c0 c1 left : Option (List ℕ)) → PassesOn xs n c0 c1 held left → held ≡ []
    → (IsAtEnd left) ⊎ (n ≡ ceiling_of room) → has_room room n ≡ true → IsTakenFrom xs n room left
taken xs held n room c0 c1 None on none ends fits = absurd on.rest
taken xs held n room c0 c1 (Some ys) on none ends fits =
    let all : xs ≡ take n xs ++ ys = on.rest ∙ ap (λ (l : List ℕ). (take n xs ++ l) ++ ys) none ∙ ap (λ (l : List ℕ). l ++ ys) (append_none (take n xs)) in
    record { count = on.count; rest = all; fits = fits; most = ends_so n xs ys (ceiling_of room) on.count all ends }
