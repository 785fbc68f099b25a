-- Parts of names.
use Rattle.std.proofs.Common.{◌≡◌, ℕ, zero, suc, ◌+◌, ◌-◌, ◌<◌, ◌≤◌, ◌==◌, slice_index, Bool, true, false, not, ◌&&◌, cond, List, [], ◌∷◌, ◌++◌, length, take, drop, get_or, Option, None, Some, refl, sym, ap, subst, ◌∙◌, arith}
use Rattle.std.proofs.lemmas.Bool.{ltb-true, ltb-false}
use Rattle.std.proofs.lemmas.List.{append-nil, length-drop, take_all}
use Rattle.std.proofs.lemmas.List.Sums.{fails_before_first, suffix_len_is}
use Rattle.std.proofs.lemmas.List.Splits.{slice_split_first, slice_split_none}
use Rattle.std.specs.List.{before_first, list_all, position, position_or_len, slice_split, suffix_len}
use Rattle.std.specs.Prelude.{nat_lt}
use Rattle.memchr.specs.Find.{IsLastByte, is_byte}
use Rattle.crash_signatures.specs.Names.{before_addition, is_added, is_addition, is_dot, last_part, without_addition}

-- the rest from a place on, cut to its length
pub rest_whole : (name : List ℕ) (at : ℕ) → take (length name - at) (drop at name) ≡ drop at name
rest_whole name at = let e = length-drop at name in take_all (length name - at) (drop at name) (omega (arith, e))

-- the place of the first that passes, by whether there is one
placed : (t : Bool) (n at len : ℕ) → nat_lt n len ≡ t → ◌≡◌ {A = Option ℕ} (Some at) (cond t (Some n) None) → (n ≡ at) × (at < len)
placed true n at len less is = let e : n ≡ at = cc in let l = ltb-true n len less in (e, omega (arith, e, l))
placed false n at len less is = absurd cc

none_placed : (t : Bool) (n len : ℕ) → nat_lt n len ≡ t → ◌≡◌ {A = Option ℕ} None (cond t (Some n) None) → len ≤ n
none_placed true n len less is = absurd cc
none_placed false n len more is = ltb-false n len more

pub at_place : (parts : List ℕ) (at : ℕ) → Some at ≡ position is_dot parts → (position_or_len is_dot parts ≡ at) × (at < length parts)
at_place parts at is = placed (nat_lt (position_or_len is_dot parts) (length parts)) (position_or_len is_dot parts) at (length parts) refl is

pub part_at : (parts : List ℕ) (at : ℕ) → Some at ≡ position is_dot parts → take at parts ≡ before_first is_dot parts
part_at parts at is = ap (λ (n : ℕ). take n parts) (sym (at_place parts at is).0)

pub part_whole : (parts : List ℕ) → None ≡ position is_dot parts → parts ≡ before_first is_dot parts
part_whole parts is = sym (take_all (position_or_len is_dot parts) parts (none_placed (nat_lt (position_or_len is_dot parts) (length parts)) (position_or_len is_dot parts) (length parts) refl is))

pub parts_here : (parts : List ℕ) (at : ℕ) → Some at ≡ position is_dot parts → slice_split is_dot parts ≡ take at parts ∷ slice_split is_dot (drop (at + 1) parts)
parts_here parts at is =
    let p = at_place parts at is in
    slice_split_first is_dot parts 0 (let e = p.0 in let l = p.1 in omega (arith, e, l))
    ∙ ap (λ (n : ℕ). take n parts ∷ slice_split is_dot (drop (n + 1) parts)) p.0

pub parts_end : (parts : List ℕ) → None ≡ position is_dot parts → slice_split is_dot parts ≡ parts ∷ []
parts_end parts is =
    let all = none_placed (nat_lt (position_or_len is_dot parts) (length parts)) (position_or_len is_dot parts) (length parts) refl is in
    slice_split_none is_dot parts (λ k d below. fails_before_first is_dot parts k d (omega (arith, all, below)))

pub added_then : (parts : List ℕ) (at : ℕ) (b : Bool) → Some at ≡ position is_dot parts → is_added (take at parts) ≡ true
    → b ≡ list_all is_added (slice_split is_dot (take (length parts - (at + 1)) (drop (at + 1) parts))) → b ≡ list_all is_added (slice_split is_dot parts)
added_then parts at b is first others =
    others ∙ ap (λ (l : List ℕ). list_all is_added (slice_split is_dot l)) (rest_whole parts (at + 1))
    ∙ ap (λ (t : Bool). t && list_all is_added (slice_split is_dot (drop (at + 1) parts))) (sym first)
    ∙ sym (ap (list_all is_added) (parts_here parts at is))

pub added_else : (parts : List ℕ) (at : ℕ) (a : Bool) → Some at ≡ position is_dot parts → a ≡ is_added (take at parts) → a ≡ false → a ≡ list_all is_added (slice_split is_dot parts)
added_else parts at a is first not_added =
    not_added ∙ ap (λ (t : Bool). t && list_all is_added (slice_split is_dot (drop (at + 1) parts))) (sym not_added ∙ first)
    ∙ sym (ap (list_all is_added) (parts_here parts at is))

and_true : (a : Bool) → a ≡ a && true
and_true true = refl
and_true false = refl

pub added_end : (parts : List ℕ) (a : Bool) → None ≡ position is_dot parts → a ≡ is_added parts → a ≡ list_all is_added (slice_split is_dot parts)
added_end parts a is added = added ∙ and_true (is_added parts) ∙ sym (ap (list_all is_added) (parts_end parts is))

-- the first addition begins here, or later
here : (end : List ℕ) → is_addition end ≡ true → before_addition end ≡ []
here [] is = refl
here (b ∷ bs) is = ap (λ (t : Bool). cond t [] (b ∷ before_addition bs)) is

later : (b : ℕ) (bs : List ℕ) → is_addition (b ∷ bs) ≡ false → before_addition (b ∷ bs) ≡ b ∷ before_addition bs
later b bs not_here = ap (λ (t : Bool). cond t [] (b ∷ before_addition bs)) not_here

step : (name : List ℕ) (at : ℕ) → is_addition (drop at name) ≡ false → take at name ++ before_addition (drop at name) ≡ take (suc at) name ++ before_addition (drop (suc at) name)
step [] zero not_here = refl
step [] (suc n) not_here = refl
step (b ∷ bs) zero not_here = later b bs not_here
step (b ∷ bs) (suc n) not_here = ap (λ (l : List ℕ). b ∷ l) (step bs n not_here)

nothing_left : (name : List ℕ) (n : ℕ) → length name ≤ n → drop n name ≡ []
nothing_left [] zero all = refl
nothing_left [] (suc n) all = refl
nothing_left (b ∷ bs) zero all = absurd (omega (arith, all))
nothing_left (b ∷ bs) (suc n) all = nothing_left bs n (omega (arith, all))

pub first_stays : (name : List ℕ) → without_addition name ≡ take 1 name ++ before_addition (drop 1 name)
first_stays [] = refl
first_stays (b ∷ bs) = refl

pub added_later : (name : List ℕ) (at : ℕ) → without_addition name ≡ take at name ++ before_addition (drop at name) → is_addition (drop at name) ≡ false
    → without_addition name ≡ take (at + 1) name ++ before_addition (drop (at + 1) name)
added_later name at so_far not_here =
    let e : suc at ≡ at + 1 = omega arith in
    subst (λ (n : ℕ). without_addition name ≡ take n name ++ before_addition (drop n name)) e (so_far ∙ step name at not_here)

pub added_here : (name : List ℕ) (at : ℕ) → without_addition name ≡ take at name ++ before_addition (drop at name) → is_addition (drop at name) ≡ true → take at name ≡ without_addition name
added_here name at so_far is = sym (so_far ∙ ap (λ (l : List ℕ). take at name ++ l) (here (drop at name) is) ∙ append-nil (take at name))

pub added_never : (name : List ℕ) (at : ℕ) → without_addition name ≡ take at name ++ before_addition (drop at name) → length name ≤ at → name ≡ without_addition name
added_never name at so_far all =
    sym (so_far ∙ ap (λ (l : List ℕ). take at name ++ before_addition l) (nothing_left name at all) ∙ append-nil (take at name) ∙ take_all at name all)

no_slash : (t : Bool) → (t ≡ true → ⊥) → not t ≡ true
no_slash true is = absurd (is refl)
no_slash false is = refl

-- what follows the last slash
module _ (path : List ℕ) where
  behind_place : (n : ℕ) → n ≤ length path → suffix_len (λ b. not (b == 47)) path ≡ length path - n → last_part path ≡ drop n path
  behind_place n low is = ap (λ (k : ℕ). drop k path) (omega (arith, is, low))

  pub last_at : (at : ℕ) → IsLastByte (is_byte 47) path (Some at) → take (length path - (at + 1)) (drop (at + 1) path) ≡ last_part path
  last_at at is =
      let low : at + 1 ≤ length path = let l = is.0.high in omega (arith, l) in
      rest_whole path (at + 1)
      ∙ sym (behind_place (at + 1) low (suffix_len_is (λ b. not (b == 47)) path (at + 1) 0 low
      (λ k from below. no_slash (slice_index path k == 47) (is.0.after k (omega (arith, from)) below))
      (λ some. ap not (ap (λ (k : ℕ). get_or path k 0 == 47) (omega arith) ∙ is.1))))

  pub last_whole : IsLastByte (is_byte 47) path None → path ≡ last_part path
  last_whole is =
      sym (behind_place 0 (omega arith) (suffix_len_is (λ b. not (b == 47)) path 0 0 (omega arith)
      (λ k from below. no_slash (slice_index path k == 47) (is k (omega arith) below))
      (λ some. absurd (omega (arith, some)))))
