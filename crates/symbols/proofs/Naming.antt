-- The one named is named by the relation, and there is one at most; it doesn't hang on the order of the list.
use Rattle.std.proofs.Common.{◌≡◌, ◌≢◌, ◌+◌, ◌≤◌, ◌<◌, ◌&&◌, ◌||◌, ℕ, Bool, true, false, cond, List, [], ◌∷◌, Option, Some, None, All, Contains, MatchOption, IsTrue, ltb, leb, eqb, refl, sym, ap, ⊎_elim, ◌∙◌, arith}
use Rattle.std.proofs.Math.Logic.{∥∥₁_elim}
use Rattle.std.proofs.Props.{props}
use Rattle.std.proofs.lemmas.Bool.{false≢true, ltb-true, lt-ltb, eqb-true, eq-eqb, ne_eqb, cases_order}
use Rattle.std.proofs.lemmas.Bool.Decides.{nat_tests}
use Rattle.std.proofs.lemmas.List.Elements.{All-nil, All-cons, All-weaker, All-contains, All-map, Contains-append_right}
use Rattle.std.proofs.lemmas.List.Sorted.{All-permutation, Contains-permutation, IsPermutation-sym}
use Rattle.std.specs.List.Sorted.{IsPermutation}
use Rattle.std.specs.List.{range_with_len, filter}
use Rattle.std.specs.Option.{option_map}
use Rattle.symbols.specs.Covering.{covers, is_before, nearer, named, IsNamed, IsUnnamed}
use Rattle.symbols.specs.Entry.{functions_of, function_at, is_function, entry_count}
use Rattle.symbols.specs.Names.{SymbolView, shown, symbol_named}
use Rattle.symbols.specs.declared.functions.Function.{Function}

-- f is before g: by value, by rank, by index
data Ahead (a r i b s j : ℕ) : Type 0 where
  by_value : b < a → Ahead a r i b s j
  by_rank : a ≡ b → r < s → Ahead a r i b s j
  by_index : a ≡ b → r ≡ s → i < j → Ahead a r i b s j

abbrev is_ahead : (a r i b s j : ℕ) → Bool
is_ahead a r i b s j = cond (eqb a b) (cond (eqb r s) (ltb i j) (ltb r s)) (ltb b a)

ahead_of_tests : (a r i b s j : ℕ) (t u : Bool) → eqb a b ≡ t → eqb r s ≡ u → cond t (cond u (ltb i j) (ltb r s)) (ltb b a) ≡ true → Ahead a r i b s j
ahead_of_tests a r i b s j true true e d h = by_index (eqb-true a b e) (eqb-true r s d) (ltb-true i j h)
ahead_of_tests a r i b s j true false e d h = by_rank (eqb-true a b e) (ltb-true r s h)
ahead_of_tests a r i b s j false u e d h = by_value (ltb-true b a h)

ahead_of : (a r i b s j : ℕ) → is_ahead a r i b s j ≡ true → Ahead a r i b s j
ahead_of a r i b s j h = ahead_of_tests a r i b s j (eqb a b) (eqb r s) refl refl h

test_of : (a r i b s j : ℕ) → Ahead a r i b s j → is_ahead a r i b s j ≡ true
test_of a r i b s j (by_value h) =
    ap (λ t. cond t (cond (eqb r s) (ltb i j) (ltb r s)) (ltb b a)) (ne_eqb a b (λ e. omega arith)) ∙ lt-ltb b a h
test_of a r i b s j (by_rank e h) =
    ap (λ t. cond t (cond (eqb r s) (ltb i j) (ltb r s)) (ltb b a)) (eq-eqb a b e)
    ∙ ap (λ t. cond t (ltb i j) (ltb r s)) (ne_eqb r s (λ d. omega arith)) ∙ lt-ltb r s h
test_of a r i b s j (by_index e d h) =
    ap (λ t. cond t (cond (eqb r s) (ltb i j) (ltb r s)) (ltb b a)) (eq-eqb a b e)
    ∙ ap (λ t. cond t (ltb i j) (ltb r s)) (eq-eqb r s d) ∙ lt-ltb i j h

ahead_on : (a r i b s j c t k : ℕ) → Ahead a r i b s j → Ahead b s j c t k → Ahead a r i c t k
ahead_on a r i b s j c t k (by_value p) (by_value q) = by_value (omega arith)
ahead_on a r i b s j c t k (by_value p) (by_rank e q) = by_value (omega arith)
ahead_on a r i b s j c t k (by_value p) (by_index e d q) = by_value (omega arith)
ahead_on a r i b s j c t k (by_rank e p) (by_value q) = by_value (omega arith)
ahead_on a r i b s j c t k (by_rank e p) (by_rank f q) = by_rank (omega arith) (omega arith)
ahead_on a r i b s j c t k (by_rank e p) (by_index f d q) = by_rank (omega arith) (omega arith)
ahead_on a r i b s j c t k (by_index e d p) (by_value q) = by_value (omega arith)
ahead_on a r i b s j c t k (by_index e d p) (by_rank f q) = by_rank (omega arith) (omega arith)
ahead_on a r i b s j c t k (by_index e d p) (by_index f g q) = by_index (omega arith) (omega arith) (omega arith)

never_ahead : (a r i : ℕ) → Ahead a r i a r i → ⊥
never_ahead a r i (by_value p) = omega arith
never_ahead a r i (by_rank e p) = omega arith
never_ahead a r i (by_index e d p) = omega arith

-- of two with different indices one is ahead
one_ahead : (a r i b s j : ℕ) → (Ahead a r i b s j → ⊥) → (Ahead b s j a r i → ⊥) → i ≡ j
one_ahead a r i b s j h k =
    ⊎_elim
    (λ e. ⊎_elim
    (λ d. ⊎_elim (λ same. same) (⊎_elim (λ less. absurd (h (by_index e d less))) (λ more. absurd (k (by_index (sym e) (sym d) more)))) (cases_order i j))
    (⊎_elim (λ less. absurd (h (by_rank e less))) (λ more. absurd (k (by_rank (sym e) more))))
    (cases_order r s))
    (⊎_elim (λ less. absurd (k (by_value less))) (λ more. absurd (h (by_value more))))
    (cases_order a b)

-- the same of the test
before_on : (f g h : Function) → is_before f g ≡ true → is_before g h ≡ true → is_before f h ≡ true
unfolding is_before
before_on f g h p q =
    test_of f.value f.rank f.index h.value h.rank h.index (ahead_on f.value f.rank f.index g.value g.rank g.index h.value h.rank h.index (ahead_of f.value f.rank f.index g.value g.rank g.index p) (ahead_of g.value g.rank g.index h.value h.rank h.index q))

never_before : (f : Function) → is_before f f ≡ true → ⊥
unfolding is_before
never_before f h = never_ahead f.value f.rank f.index (ahead_of f.value f.rank f.index f.value f.rank f.index h)

same_index : (f g : Function) → (is_before f g ≡ true → ⊥) → (is_before g f ≡ true → ⊥) → f.index ≡ g.index
unfolding is_before
same_index f g h k =
    one_ahead f.value f.rank f.index g.value g.rank g.index (λ p. h (test_of f.value f.rank f.index g.value g.rank g.index p)) (λ p. k (test_of g.value g.rank g.index f.value f.rank f.index p))

-- none of those that cover v is before f
abbrev NoneBefore : ℕ → Function → Function → Type 0
NoneBefore v f g = covers v g ≡ true → is_before g f ≡ true → ⊥

abbrev Answers : ℕ → List Function → Option Function → Type 0
Answers v fs o = MatchOption o (IsUnnamed v fs) (IsNamed v fs)

-- two that cover v
with_two : (v : ℕ) (f g : Function) (fs : List Function) (u : Bool) → covers v f ≡ true → is_before f g ≡ u → IsNamed v fs g → Answers v (f ∷ fs) (cond u (Some f) (Some g))
with_two v f g fs true covered ahead is = record {
  among = (0, omega arith, refl);
  covering = covered;
  first = All-cons (NoneBefore v f) f fs (λ c. never_before f) (All-weaker (NoneBefore v g) (NoneBefore v f) (λ h none c b. none c (before_on h f g b ahead)) fs is.first);
}
with_two v f g fs false covered ahead is = record {
  among = Contains-append_right (f ∷ []) fs g is.among;
  covering = is.covering;
  first = All-cons (NoneBefore v g) f fs (λ c b. false≢true (sym ahead ∙ b)) is.first;
}

-- one more function
with_one : (v : ℕ) (f : Function) (fs : List Function) (t : Bool) (best : Option Function) → covers v f ≡ t → Answers v fs best → Answers v (f ∷ fs) (cond t (nearer f best) best)
with_one v f fs false None out none = All-cons (λ g. covers v g ≡ false) f fs out none
with_one v f fs false (Some g) out is = record {
  among = Contains-append_right (f ∷ []) fs g is.among;
  covering = is.covering;
  first = All-cons (NoneBefore v g) f fs (λ c. absurd (false≢true (sym out ∙ c))) is.first;
}
with_one v f fs true None covered none = record {
  among = (0, omega arith, refl);
  covering = covered;
  first = All-cons (NoneBefore v f) f fs (λ c. never_before f) (All-weaker (λ g. covers v g ≡ false) (NoneBefore v f) (λ g out c. absurd (false≢true (sym out ∙ c))) fs none);
}
with_one v f fs true (Some g) covered is = with_two v f g fs (is_before f g) covered refl is

pub named_is : (v : ℕ) (fs : List Function) → Answers v fs (named v fs)
named_is v [] = All-nil (λ f. covers v f ≡ false)
named_is v (f ∷ fs) = with_one v f fs (covers v f) (named v fs) refl (named_is v fs)

-- the functions of a table are told by their indices
from_table : (d : List ℕ) → All (λ f. f ≡ function_at d f.index) (functions_of d)
unfolding function_at
from_table d =
    All-map (λ f. f ≡ function_at d f.index) (function_at d) (filter (is_function d) (range_with_len 0 (entry_count d))) (λ k e h. refl)

-- one is named at most
pub named_only : (d : List ℕ) (v : ℕ) (f g : Function) → IsNamed v (functions_of d) f → IsNamed v (functions_of d) g → f ≡ g
named_only d v f g p q =
    let behind = All-contains (NoneBefore v f) (functions_of d) g p.first q.among q.covering in
    let ahead = All-contains (NoneBefore v g) (functions_of d) f q.first p.among p.covering in
    let one = All-contains (λ h. h ≡ function_at d h.index) (functions_of d) f (from_table d) p.among in
    let other = All-contains (λ h. h ≡ function_at d h.index) (functions_of d) g (from_table d) q.among in
    one ∙ ap (function_at d) (same_index f g ahead behind) ∙ sym other

-- what is named does not hang on the order
named_moved : (v : ℕ) (fs gs : List Function) (f : Function) → IsPermutation fs gs → IsNamed v fs f → IsNamed v gs f
named_moved v fs gs f moved is = record {
  among = Contains-permutation fs gs f moved is.among;
  covering = is.covering;
  first = All-permutation (NoneBefore v f) fs gs moved is.first;
}

not_both : (v : ℕ) (fs : List Function) (f : Function) → IsUnnamed v fs → IsNamed v fs f → ⊥
not_both v fs f none is =
    false≢true (sym (All-contains (λ g. covers v g ≡ false) fs f none is.among) ∙ is.covering)

same_answer : (d : List ℕ) (v : ℕ) (fs : List Function) (o p : Option Function) → IsPermutation (functions_of d) fs → Answers v fs o → Answers v (functions_of d) p → o ≡ p
same_answer d v fs None None moved x y = refl
same_answer d v fs None (Some g) moved x y = absurd (not_both v fs g x (named_moved v (functions_of d) fs g moved y))
same_answer d v fs (Some f) None moved x y =
    absurd (not_both v (functions_of d) f y (named_moved v fs (functions_of d) f (IsPermutation-sym (functions_of d) fs moved) x))
same_answer d v fs (Some f) (Some g) moved x y =
    ap (λ h. Some h) (named_only d v f g (named_moved v fs (functions_of d) f (IsPermutation-sym (functions_of d) fs moved) x) y)

pub named_permuted : (d : List ℕ) (fs : List Function) → ∥ IsPermutation (functions_of d) fs ∥₁ → (v : ℕ) → named v fs ≡ named v (functions_of d)
named_permuted d fs moved v =
    ∥∥₁_elim moved (hlevel props) (λ m. same_answer d v fs (named v fs) (named v (functions_of d)) m (named_is v fs) (named_is v (functions_of d)))

-- the value and the end of the symbol that is shown, if there is one
abbrev value_of : Option SymbolView → ℕ
value_of None = 0
value_of (Some s) = s.value

abbrev end_of : Option SymbolView → ℕ
end_of None = 0
end_of (Some s) = s.value + s.size

none_shown : (s : SymbolView) → ◌≡◌ {A = Option SymbolView} None (Some s) → ⊥
none_shown s e = cc

-- a function covers none past its end
not_past : (a n v : ℕ) → a < v → a + n ≤ v → (leb a v && (ltb v (a + n) || eqb v a)) ≡ true → ⊥
not_past a n v above past h = grind (arith, nat_tests)

ended_in : (strings : List ℕ) (fs : List Function) (v : ℕ) (s : SymbolView) (o : Option Function) → Answers v fs o
    → s.value < v → s.value + s.size ≤ v → option_map (shown strings) o ≡ Some s → ⊥
ended_in strings fs v s None is above past e = none_shown s e
ended_in strings fs v s (Some f) is above past e =
    let start : f.value ≡ s.value = ap value_of e in
    let end : f.value + f.size ≡ s.value + s.size = ap end_of e in
    not_past f.value f.size v (omega arith) (omega arith) is.covering

below_in : (strings : List ℕ) (fs : List Function) (v : ℕ) (f : Function) (s : SymbolView) (o : Option Function) → Answers v fs o
    → Contains fs f → IsTrue (covers v f) → s.value < f.value → option_map (shown strings) o ≡ Some s → ⊥
unfolding is_before
below_in strings fs v f s None is among covered below e = none_shown s e
below_in strings fs v f s (Some g) is among covered below e =
    let start : g.value ≡ s.value = ap value_of e in
    All-contains (NoneBefore v g) fs f is.first among covered
    (test_of f.value f.rank f.index g.value g.rank g.index (by_value (omega arith)))

-- a function that ended is not named, nor one below another that covers the address
pub named_not_ended : (strings : List ℕ) (fs : List Function) (v : ℕ) (s : SymbolView) → s.value < v → s.value + s.size ≤ v → symbol_named strings fs v ≢ Some s
named_not_ended strings fs v s = ended_in strings fs v s (named v fs) (named_is v fs)

pub named_not_below : (strings : List ℕ) (fs : List Function) (v : ℕ) (f : Function) (s : SymbolView) → Contains fs f → IsTrue (covers v f) → s.value < f.value → symbol_named strings fs v ≢ Some s
named_not_below strings fs v f s = below_in strings fs v f s (named v fs) (named_is v fs)
