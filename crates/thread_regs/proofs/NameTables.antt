-- Tables of names, as the code holds them and as lists.
use Rattle.std.proofs.Common.{◌≡◌, ◌<◌, ◌+◌, ◌-◌, ℕ, zero, suc, Bool, cond, not, ltb, List, [], ◌∷◌, Option, Some, None, length, map, get_or, refl, sym, ap, ◌∙◌, Bor, arith}
use Rattle.std.specs.Prelude.{position, slice_get}
use Rattle.std.specs.List.{prefix_len, position_or_len}
use Rattle.std.specs.Option.{option_map}
use Rattle.std.proofs.lemmas.Option.{slice_get-map, slice_get-get_or, slice_get_past}
use Rattle.std.proofs.lemmas.List.{length-map}
use Rattle.thread_regs.specs.SignalNames.{signal_names, numbered_name}

-- the name at a place of a table
pub read_at : (table : List (Bor (List ℕ))) (i : ℕ) (d : Bor (List ℕ)) → i < length table → Some (get_or table i d).now ≡ slice_get (map (λ (n : Bor (List ℕ)). n.now) table) i
read_at table i d h =
    sym (slice_get-map (λ (n : Bor (List ℕ)). n.now) table i ∙ ap (option_map (λ (n : Bor (List ℕ)). n.now)) (slice_get-get_or table i d h))

prefix_len-map : {A B : Type 0} → (f : A → B) (p : B → Bool) (xs : List A) → prefix_len p (map f xs) ≡ prefix_len (λ x. p (f x)) xs
prefix_len-map f p [] = refl
prefix_len-map f p (x ∷ xs) = ap (λ n. cond (p (f x)) (1 + n) 0) (prefix_len-map f p xs)

-- the first place in a table whose name passes
pub position-map : {A B : Type 0} → (f : A → B) (p : B → Bool) (xs : List A) → position (λ x. p (f x)) xs ≡ position p (map f xs)
position-map f p xs =
    let place = sym (prefix_len-map f (λ y. not (p y)) xs) in
    let len = sym (length-map xs f) in
    ap (λ n. cond (ltb n (length xs)) (Some n) None) place ∙ ap (λ m. cond (ltb (position_or_len p (map f xs)) m) (Some (position_or_len p (map f xs))) None) len

-- signals 1 to 31 are those of the table
pub named_signal : (number : ℕ) (o : Option (List ℕ)) → 0 < number → o ≡ slice_get signal_names (number - 1) → o ≡ numbered_name number
named_signal zero o h e = absurd (omega arith)
named_signal (suc n) o h e =
    let less : suc n - 1 ≡ n = omega arith in e ∙ ap (slice_get signal_names) less

pub no_signal : (number : ℕ) → 31 < number → None ≡ numbered_name number
no_signal zero h = absurd (omega arith)
no_signal (suc n) h = sym (slice_get_past signal_names n (omega arith))
