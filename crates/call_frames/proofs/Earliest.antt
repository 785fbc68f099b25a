-- The earliest span that covers an address does not hang on the order in which the spans are kept.
use Rattle.std.proofs.Common.{◌≡◌, ◌<◌, ◌≤◌, ◌+◌, ℕ, zero, suc, Bool, true, false, cond, List, [], ◌∷◌, Option, Some, None, All, MatchOption, Contains, length, get_or, ltb, refl, sym, ap, subst, ⊎_elim, ◌∙◌, arith}
use Rattle.std.proofs.Math.Logic.{∥∥₁_elim}
use Rattle.std.proofs.Props.{props}
use Rattle.std.proofs.lemmas.Bool.{false≢true, ltb-true, ltb-false, cases_order}
use Rattle.std.proofs.lemmas.List.Elements.{All-nil, All-cons, All-weaker, All-contains, Contains-append_right}
use Rattle.std.proofs.lemmas.List.Sorted.{All-permutation, Contains-permutation, IsPermutation-sym}
use Rattle.std.specs.List.Sorted.{IsPermutation}
use Rattle.std.specs.List.{AllByRecursion}
use Rattle.call_frames.specs.Covering.{is_covering, earlier, earliest}
use Rattle.call_frames.specs.declared.spans.Span.{Span}

-- none of those that cover v precedes s
abbrev NoneBefore : ℕ → Span → Span → Type 0
NoneBefore v s o = is_covering v o ≡ true → o.spot.index < s.spot.index → ⊥

-- s is one of the spans and covers v, and none that covers v precedes it
pub record IsEarliest (v : ℕ) (ss : List Span) (s : Span) : Type 0 where
  pub among : Contains ss s
  pub covering : is_covering v s ≡ true
  pub first : All (NoneBefore v s) ss

abbrev IsUncovered : ℕ → List Span → Type 0
IsUncovered v ss = All (λ s. is_covering v s ≡ false) ss

abbrev Answers : ℕ → List Span → Option Span → Type 0
Answers v ss o = MatchOption o (IsUncovered v ss) (IsEarliest v ss)

-- two that cover v
with_two : (v : ℕ) (s o : Span) (ss : List Span) (t : Bool) → is_covering v s ≡ true → ltb s.spot.index o.spot.index ≡ t → IsEarliest v ss o → Answers v (s ∷ ss) (cond t (Some s) (Some o))
with_two v s o ss true covered before is =
    let less = ltb-true s.spot.index o.spot.index before in
    record {
      among = (0, omega arith, refl);
      covering = covered;
      first = All-cons (NoneBefore v s) s ss (λ c lt. absurd (omega arith)) (All-weaker (NoneBefore v o) (NoneBefore v s) (λ h none c lt. none c (omega arith)) ss is.first);
    }
with_two v s o ss false covered before is =
    let more = ltb-false s.spot.index o.spot.index before in
    record {
      among = Contains-append_right (s ∷ []) ss o is.among;
      covering = is.covering;
      first = All-cons (NoneBefore v o) s ss (λ c lt. absurd (omega arith)) is.first;
    }

-- one more span
with_one : (v : ℕ) (s : Span) (ss : List Span) (t : Bool) (best : Option Span) → is_covering v s ≡ t → Answers v ss best → Answers v (s ∷ ss) (cond t (earlier s best) best)
with_one v s ss false None out none = All-cons (λ o. is_covering v o ≡ false) s ss out none
with_one v s ss false (Some o) out is = record {
  among = Contains-append_right (s ∷ []) ss o is.among;
  covering = is.covering;
  first = All-cons (NoneBefore v o) s ss (λ c. absurd (false≢true (sym out ∙ c))) is.first;
}
with_one v s ss true None covered none = record {
  among = (0, omega arith, refl);
  covering = covered;
  first = All-cons (NoneBefore v s) s ss (λ c lt. absurd (omega arith)) (All-weaker (λ o. is_covering v o ≡ false) (NoneBefore v s) (λ o out c. absurd (false≢true (sym out ∙ c))) ss none);
}
with_one v s ss true (Some o) covered is = with_two v s o ss (ltb s.spot.index o.spot.index) covered refl is

pub earliest_is : (v : ℕ) (ss : List Span) → Answers v ss (earliest v ss)
earliest_is v [] = All-nil (λ s. is_covering v s ≡ false)
earliest_is v (s ∷ ss) = with_one v s ss (is_covering v s) (earliest v ss) refl (earliest_is v ss)

-- the numbers of the spans rise
abbrev pub Rising : List Span → Type 0
Rising [] = Unit {0}
Rising (s ∷ ss) = AllByRecursion (λ (o : Span). s.spot.index + 1 ≤ o.spot.index) ss × Rising ss

at_place : {A : Type 0} → (P : A → Type 0) (xs : List A) (i : ℕ) (d x : A) → AllByRecursion P xs → i < length xs → get_or xs i d ≡ x → P x
at_place P [] i d x all h is = absurd (omega arith)
at_place P (y ∷ ys) zero d x all h is = subst P is all.0
at_place P (y ∷ ys) (suc i) d x all h is = at_place P ys i d x all.1 (omega arith) is

-- two with one number are one
same_number : (ss : List Span) (i j : ℕ) (s o : Span) → Rising ss → i < length ss → j < length ss → get_or ss i s ≡ s → get_or ss j o ≡ o → s.spot.index ≡ o.spot.index → s ≡ o
same_number [] i j s o rising p q is that e = absurd (omega arith)
same_number (x ∷ xs) zero zero s o rising p q is that e = sym is ∙ that
same_number (x ∷ xs) zero (suc j) s o rising p q is that e =
    let above = at_place (λ (r : Span). x.spot.index + 1 ≤ r.spot.index) xs j o o rising.0 (omega arith) that in
    let same : x.spot.index ≡ s.spot.index = ap (λ (r : Span). r.spot.index) is in absurd (omega arith)
same_number (x ∷ xs) (suc i) zero s o rising p q is that e =
    let above = at_place (λ (r : Span). x.spot.index + 1 ≤ r.spot.index) xs i s s rising.0 (omega arith) is in
    let same : x.spot.index ≡ o.spot.index = ap (λ (r : Span). r.spot.index) that in absurd (omega arith)
same_number (x ∷ xs) (suc i) (suc j) s o rising p q is that e =
    same_number xs i j s o rising.1 (omega arith) (omega arith) is that e

-- one is the earliest at most
earliest_only : (v : ℕ) (ss : List Span) (s o : Span) → Rising ss → IsEarliest v ss s → IsEarliest v ss o → s ≡ o
earliest_only v ss s o rising p q =
    let not_less = All-contains (NoneBefore v s) ss o p.first q.among q.covering in
    let not_more = All-contains (NoneBefore v o) ss s q.first p.among p.covering in
    let same : s.spot.index ≡ o.spot.index = ⊎_elim (λ e. e) (⊎_elim (λ less. absurd (not_more less)) (λ more. absurd (not_less more))) (cases_order s.spot.index o.spot.index) in
    same_number ss p.among.0 q.among.0 s o rising p.among.1 q.among.1 p.among.2 q.among.2 same

earliest_moved : (v : ℕ) (ss rs : List Span) (s : Span) → IsPermutation ss rs → IsEarliest v ss s → IsEarliest v rs s
earliest_moved v ss rs s moved is = record {
  among = Contains-permutation ss rs s moved is.among;
  covering = is.covering;
  first = All-permutation (NoneBefore v s) ss rs moved is.first;
}

not_both : (v : ℕ) (ss : List Span) (s : Span) → IsUncovered v ss → IsEarliest v ss s → ⊥
not_both v ss s none is =
    false≢true (sym (All-contains (λ o. is_covering v o ≡ false) ss s none is.among) ∙ is.covering)

same_answer : (v : ℕ) (ss rs : List Span) (o p : Option Span) → Rising ss → IsPermutation ss rs → Answers v rs o → Answers v ss p → o ≡ p
same_answer v ss rs None None rising moved x y = refl
same_answer v ss rs None (Some s) rising moved x y = absurd (not_both v rs s x (earliest_moved v ss rs s moved y))
same_answer v ss rs (Some s) None rising moved x y =
    absurd (not_both v ss s y (earliest_moved v rs ss s (IsPermutation-sym ss rs moved) x))
same_answer v ss rs (Some s) (Some o) rising moved x y =
    ap (λ h. Some h) (earliest_only v ss s o rising (earliest_moved v rs ss s (IsPermutation-sym ss rs moved) x) y)

pub earliest_permuted : (v : ℕ) (ss rs : List Span) → Rising ss → ∥ IsPermutation ss rs ∥₁ → earliest v rs ≡ earliest v ss
earliest_permuted v ss rs rising moved =
    ∥∥₁_elim moved (hlevel props) (λ m. same_answer v ss rs (earliest v rs) (earliest v ss) rising m (earliest_is v rs) (earliest_is v ss))
