-- Why the turn of a cycle is the least.
use Rattle.std.proofs.Common.{◌≡◌, ℕ, zero, suc, ◌-◌, ◌<◌, ◌≤◌, Bool, true, false, cond, List, length, refl, sym, ap, subst, ◌∙◌, arith}
use Rattle.std.proofs.lemmas.Bool.{false≢true, eqb-true, eqb-false}
use Rattle.std.specs.Cmp.{IsTotalOrder, bool_cmp_total, on_total, then_total}
use Rattle.std.specs.Cmp.Lexicographic.{lists_total, nat_list_cmp_total, slice_cmp}
use Rattle.std.specs.Ordering.{is_lt, ordering_reverse}
use Rattle.std.specs.declared.cmp.Ordering.{Ordering}
use Rattle.std.specs.declared.cmp.Ordering.TheVariants.{Equal, Greater, Less}
use Rattle.std.specs.Prelude.{◌==◌}
use Rattle.crash_signatures.specs.Recursion.{least_turn, lesser, turned}
use Rattle.crash_signatures.specs.SignatureLaws.{IsLeastTurn, RecursionsAreTurned}
use Rattle.crash_signatures.specs.Words.{WordSaid, word_cmp}

word_total : IsTotalOrder word_cmp
word_total = then_total (on_total (λ (w : WordSaid). w.text) nat_list_cmp_total) (on_total (λ (w : WordSaid). w.is_mark) bool_cmp_total)

words_total : IsTotalOrder (slice_cmp word_cmp)
words_total = lists_total word_total

is_less : (o : Ordering) → is_lt o ≡ true → o ≡ Less
is_less Less is = refl
is_less Equal is = absurd (false≢true is)
is_less Greater is = absurd (false≢true is)

-- no list is less than itself
itself : (o : Ordering) → o ≡ ordering_reverse o → is_lt o ≡ false
itself Less is = absurd cc
itself Equal is = refl
itself Greater is = refl

not_itself : (l : List WordSaid) → is_lt (slice_cmp word_cmp l l) ≡ false
not_itself l = itself (slice_cmp word_cmp l l) (words_total.antisymm l l)

-- what is not less than one list is not less than a lesser one
still : (x a b : List WordSaid) → is_lt (slice_cmp word_cmp x a) ≡ false → is_lt (slice_cmp word_cmp b a) ≡ true → is_lt (slice_cmp word_cmp x b) ≡ false
still x a b not_less less = by (is_lt (slice_cmp word_cmp x b)) refl
  where
    by : (t : Bool) → is_lt (slice_cmp word_cmp x b) ≡ t → t ≡ false
    by true is =
        absurd (false≢true (sym not_less
        ∙ ap is_lt (words_total.trans x b a (is_less (slice_cmp word_cmp x b) is) (is_less (slice_cmp word_cmp b a) less))))
    by false is = refl

-- the least of the turns by 0 to n places
record Least (n : ℕ) (cycle least : List WordSaid) : Type 0 where
  places : ℕ
  within : places ≤ n
  turn : least ≡ turned places cycle
  none_less : (k : ℕ) → k ≤ n → is_lt (slice_cmp word_cmp (turned k cycle) least) ≡ false

one_more : (n : ℕ) (cycle a : List WordSaid) (t : Bool) → is_lt (slice_cmp word_cmp (turned (suc n) cycle) a) ≡ t → Least n cycle a → Least (suc n) cycle (cond t (turned (suc n) cycle) a)
one_more n cycle a true less is = record {
  places = suc n;
  within = omega arith;
  turn = refl;
  none_less = λ k up_to. by k up_to (k == suc n) refl;
}
  where
    by : (k : ℕ) → k ≤ suc n → (t : Bool) → (k == suc n) ≡ t → is_lt (slice_cmp word_cmp (turned k cycle) (turned (suc n) cycle)) ≡ false
    by k up_to true last =
        subst (λ (j : ℕ). is_lt (slice_cmp word_cmp (turned j cycle) (turned (suc n) cycle)) ≡ false) (sym (eqb-true k (suc n) last)) (not_itself (turned (suc n) cycle))
    by k up_to false other =
        let differ = eqb-false k (suc n) other in
        still (turned k cycle) a (turned (suc n) cycle) (is.none_less k (omega (arith, up_to, differ))) less
one_more n cycle a false not_less is = record {
  places = is.places;
  within = let w = is.within in omega (arith, w);
  turn = is.turn;
  none_less = λ k up_to. by k up_to (k == suc n) refl;
}
  where
    by : (k : ℕ) → k ≤ suc n → (t : Bool) → (k == suc n) ≡ t → is_lt (slice_cmp word_cmp (turned k cycle) a) ≡ false
    by k up_to true last = subst (λ (j : ℕ). is_lt (slice_cmp word_cmp (turned j cycle) a) ≡ false) (sym (eqb-true k (suc n) last)) not_less
    by k up_to false other = let differ = eqb-false k (suc n) other in is.none_less k (omega (arith, up_to, differ))

is_least : (n : ℕ) (cycle : List WordSaid) → Least n cycle (least_turn n cycle)
is_least zero cycle = record {
  places = 0;
  within = omega arith;
  turn = refl;
  none_less = λ k up_to.
      let e : 0 ≡ k = omega (arith, up_to) in
      subst (λ (j : ℕ). is_lt (slice_cmp word_cmp (turned j cycle) (turned 0 cycle)) ≡ false) e (not_itself (turned 0 cycle));
}
is_least (suc n) cycle = one_more n cycle (least_turn n cycle) (is_lt (slice_cmp word_cmp (turned (suc n) cycle) (least_turn n cycle))) refl (is_least n cycle)

pub are_turned : RecursionsAreTurned
are_turned cycle =
    let l = is_least (length cycle - 1) cycle in
    record { places = l.places; within = l.within; turn = l.turn; none_less = l.none_less }
