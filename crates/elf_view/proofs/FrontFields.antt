-- Fields and parts of a front.
use Rattle.std.proofs.Common.{◌≡◌, ℕ, zero, suc, ◌+◌, ◌-◌, ◌*◌, ◌≤◌, List, take, drop, length, get_or, refl, ap, sym, ◌∙◌, subst, arith}
use Rattle.std.proofs.lemmas.List.{get_or-take, drop-take, take-take, length-take}
use Rattle.std.proofs.Math.Nat.{min-le_left, min-le_right}
use Rattle.elf_view.specs.Field.{field, part}

pub front_most : (n : ℕ) (b : List ℕ) → length (take n b) ≤ n
front_most n b = let P : ℕ → Type 0 = λ k. k ≤ n in subst P (sym (length-take n b)) (min-le_left n (length b))

pub front_short : (n : ℕ) (b : List ℕ) → length (take n b) ≤ length b
front_short n b = let P : ℕ → Type 0 = λ k. k ≤ length b in subst P (sym (length-take n b)) (min-le_right n (length b))

pub field_front : (n : ℕ) (b : List ℕ) (p w : ℕ) → p + w ≤ n → field (take n b) p w ≡ field b p w
unfolding field
field_front n b p zero h = refl
field_front n b p (suc w) h =
    ap (λ x. x + 256 * field (take n b) (p + 1) w) (get_or-take n b p 0 (omega arith))
    ∙ ap (λ y. get_or b p 0 + 256 * y) (field_front n b (p + 1) w (omega arith))

pub part_front : (n : ℕ) (b : List ℕ) (p m : ℕ) → p + m ≤ n → part (take n b) p m ≡ part b p m
part_front n b p m h =
    let whole : n ≡ p + (n - p) = omega arith in
    let short : m ≤ n - p = omega arith in
    ap (λ k. take m (drop p (take k b))) whole ∙ ap (take m) (drop-take p (n - p) b) ∙ take-take m (n - p) (drop p b) short

-- the same where it lies in the front
pub field_in : (n : ℕ) (b : List ℕ) (p w : ℕ) → p + w ≤ length (take n b) → field (take n b) p w ≡ field b p w
field_in n b p w h = let most = front_most n b in field_front n b p w (omega arith)

pub part_in : (n : ℕ) (b : List ℕ) (p m : ℕ) → p + m ≤ length (take n b) → part (take n b) p m ≡ part b p m
part_in n b p m h = let most = front_most n b in part_front n b p m (omega arith)
