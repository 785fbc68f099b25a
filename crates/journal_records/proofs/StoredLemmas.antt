-- Laws of stored cases of which some ended.
use Rattle.std.proofs.Common.{◌≡◌, inl, inr, ℕ, zero, suc, ◌+◌, ◌<◌, ◌≤◌, Bool, true, false, not, cond, List, [], ◌∷◌, ◌++◌, length, get_or, set, Option, Some, None, Result, Ok, Err, IfSome, refl, sym, ap, ◌∙◌, subst, arith, tests}
use Rattle.std.specs.List.{HoldsAt, filter, list_any}
use Rattle.std.specs.BTreeSet.{BTreeSet, btree_set_len}
use Rattle.std.specs.List.Sorted.{IsBinarySearchResult, IsSearchInRange, IsPartitionPoint}
use Rattle.std.specs.Map.{lookup, remove_entry, values_of}
use Rattle.std.specs.BTreeMap.{is_at}
use Rattle.std.specs.Ordering.{nat_cmp, ordering_index}
use Rattle.std.specs.Bool.{IsTrue}
use Rattle.std.specs.Option.{is_some}
use Rattle.std.specs.Result.{result_ok}
use Rattle.std.specs.declared.cmp.Ordering.TheVariants.{Less, Greater}
use Rattle.std.proofs.lemmas.Bool.{cases_lt, cases_eq, eq-eqb, ne_eqb}
use Rattle.std.proofs.lemmas.Cmp.{ranked}
use Rattle.std.proofs.lemmas.List.{nil_from_length}
use Rattle.journal_layout.specs.declared.entry.Entry.{Entry}
use Rattle.journal_records.specs.Live.{changed_in}
use Rattle.journal_records.specs.Stored.{has_number, staying, AreInOrder, end_after, AreStored}
use Rattle.journal_records.proofs.LiveLemmas.{test_same, test_other, remove_none}

-- Numbers that rise.

entry_above : (low : ℕ) (es : List Entry) (i : ℕ) (e : Entry) → AreInOrder low es → i < length es → low ≤ (get_or es i e).seq
entry_above low [] i e order within = absurd (omega arith)
entry_above low (x ∷ rest) zero e order within = order.0
entry_above low (x ∷ rest) (suc i) e order within =
    let first = order.0 in
    let later = entry_above (x.seq + 1) rest i e order.1 (omega (arith, within)) in
    omega (arith, first, later)

-- a later one is the greater one
entries_rise : (low : ℕ) (es : List Entry) (e : Entry) → AreInOrder low es → (i j : ℕ) → i ≤ j → j < length es → (get_or es i e).seq ≤ (get_or es j e).seq
entries_rise low [] e order i j le within = absurd (omega arith)
entries_rise low (x ∷ rest) e order zero zero le within = omega arith
entries_rise low (x ∷ rest) e order zero (suc j) le within = (let above = entry_above (x.seq + 1) rest j e order.1 (omega (arith, within)) in omega (arith, above))
entries_rise low (x ∷ rest) e order (suc i) zero le within = absurd (omega arith)
entries_rise low (x ∷ rest) e order (suc i) (suc j) le within = entries_rise (x.seq + 1) rest e order.1 i j (omega (arith, le)) (omega (arith, within))

end_no_less : (low : ℕ) (es : List Entry) → AreInOrder low es → low ≤ end_after low es
end_no_less low [] order = omega arith
end_no_less low (x ∷ rest) order =
    let first = order.0 in
    let later = end_no_less (x.seq + 1) rest order.1 in
    omega (arith, first, later)

-- one more after the others
pub order_push : (low : ℕ) (v : Entry) (es : List Entry) → AreInOrder low es → end_after low es ≤ v.seq → AreInOrder low (es ++ v ∷ [])
order_push low v [] order above = (above, tt)
order_push low v (x ∷ rest) order above = (order.0, order_push (x.seq + 1) v rest order.1 above)

pub end_push : (low : ℕ) (v : Entry) (es : List Entry) → end_after low (es ++ v ∷ []) ≡ v.seq + 1
end_push low v [] = refl
end_push low v (x ∷ rest) = end_push (x.seq + 1) v rest

-- one in the place of another of its number
pub order_set : (low : ℕ) (v e : Entry) (es : List Entry) (i : ℕ) → AreInOrder low es → i < length es → v.seq ≡ (get_or es i e).seq → AreInOrder low (set es i v)
order_set low v e [] i order within is = absurd (omega arith)
order_set low v e (x ∷ rest) zero order within is =
    let first = order.0 in (
      omega (arith, first, is),
      subst (λ (n : ℕ). AreInOrder (n + 1) rest) (sym is) order.1,
    )
order_set low v e (x ∷ rest) (suc i) order within is = (order.0, order_set (x.seq + 1) v e rest i order.1 (omega (arith, within)) is)

pub end_set : (low : ℕ) (v e : Entry) (es : List Entry) (i : ℕ) → i < length es → v.seq ≡ (get_or es i e).seq → end_after low (set es i v) ≡ end_after low es
end_set low v e [] i within is = absurd (omega arith)
end_set low v e (x ∷ rest) zero within is = ap (λ (n : ℕ). end_after (n + 1) rest) is
end_set low v e (x ∷ rest) (suc i) within is = end_set (x.seq + 1) v e rest i (omega (arith, within)) is

-- What a binary search finds.

higher : (a b seq : ℕ) → a ≤ b → ordering_index (nat_cmp a seq) ≤ ordering_index (nat_cmp b seq)
higher a b seq le = grind (arith, tests)

pub place_found : (seq : ℕ) (es : List Entry) (r : Result ℕ ℕ) → AreInOrder 0 es → IsSearchInRange r (length es) → IsBinarySearchResult (λ (e : Entry). nat_cmp e.seq seq) es r
    → IfSome (result_ok r) (λ i. (i < length es) × HoldsAt (λ (e : Entry). e.seq ≡ seq) es i) × (result_ok r ≡ None → (k : ℕ) (e : Entry) → k < length es → (get_or es k e).seq ≡ seq → ⊥)
place_found seq es (Ok i) order within found = ((within, λ e. ranked (get_or es i e).seq seq _ (sym (found e))), λ none. absurd (cc))
place_found seq es (Err i) order within found = (tt, λ _. none)
  where
    parted : IsPartitionPoint (λ (e : Entry). nat_cmp e.seq seq ≡ Less) (λ (e : Entry). nat_cmp e.seq seq ≡ Greater) es i
    parted = found (λ a b e le low. higher (get_or es a e).seq (get_or es b e).seq seq (entries_rise 0 es e order a b le low))

    none : (k : ℕ) (e : Entry) → k < length es → (get_or es k e).seq ≡ seq → ⊥
    none k e below is =
        elim (cases_lt k i) [
          | inl low ↦ (let g : (get_or es k e).seq < seq = ranked (get_or es k e).seq seq _ (sym (parted.0 k e (omega arith) low)) in omega (arith, is))
          | inr high ↦ (let g : seq < (get_or es k e).seq = ranked (get_or es k e).seq seq _ (sym (parted.1 k e high below)) in omega (arith, is))
        ]

-- What is found of a number among those that stay.

module _ (ended : ℕ → Bool) where
  -- nothing, if no case has it
  pub staying_none : (s : ℕ) (es : List Entry) → ((k : ℕ) (e : Entry) → k < length es → (get_or es k e).seq ≡ s → ⊥) → lookup (is_at (nat_cmp s)) (staying ended es) ≡ None
  staying_none s [] none = refl
  staying_none s (x ∷ rest) none =
      let other : x.seq ≡ s → ⊥ = λ same. none zero x (omega arith) same in
      let later = staying_none s rest (λ k e within same. none (suc k) e (omega (arith, within)) same) in
      elim (ended x.seq) as (λ t. lookup (is_at (nat_cmp s)) (cond t (staying ended rest) ((x.seq, x) ∷ staying ended rest)) ≡ None) [
        | true ↦ later
        | false ↦ ap (λ t. cond t (Some x) (lookup (is_at (nat_cmp s)) (staying ended rest))) (test_other s x.seq other) ∙ later
      ]

  -- nothing, if it ended
  pub staying_ended : (s : ℕ) (es : List Entry) → ended s ≡ true → lookup (is_at (nat_cmp s)) (staying ended es) ≡ None
  staying_ended s [] is = refl
  staying_ended s (x ∷ rest) is =
      let later = staying_ended s rest is in
      elim (cases_eq x.seq s) as (λ _. lookup (is_at (nat_cmp s)) (staying ended (x ∷ rest)) ≡ None) [
        | inl same ↦ ap (λ t. lookup (is_at (nat_cmp s)) (cond t (staying ended rest) ((x.seq, x) ∷ staying ended rest))) (ap ended same ∙ is) ∙ later
        | inr other ↦ elim (ended x.seq) as (λ t. lookup (is_at (nat_cmp s)) (cond t (staying ended rest) ((x.seq, x) ∷ staying ended rest)) ≡ None) [
          | true ↦ later
          | false ↦ ap (λ t. cond t (Some x) (lookup (is_at (nat_cmp s)) (staying ended rest))) (test_other s x.seq other) ∙ later
        ]
      ]

  -- the case that has it and has not ended
  pub staying_found : (low s : ℕ) (es : List Entry) (i : ℕ) (e : Entry) → AreInOrder low es → i < length es → (get_or es i e).seq ≡ s → ended s ≡ false
      → lookup (is_at (nat_cmp s)) (staying ended es) ≡ Some (get_or es i e)
  staying_found low s [] i e order within is live = absurd (omega arith)
  staying_found low s (x ∷ rest) zero e order within is live =
      ap (λ t. lookup (is_at (nat_cmp s)) (cond t (staying ended rest) ((x.seq, x) ∷ staying ended rest))) (ap ended is ∙ live)
      ∙ ap (λ t. cond t (Some x) (lookup (is_at (nat_cmp s)) (staying ended rest))) (test_same s x.seq is)
  staying_found low s (x ∷ rest) (suc i) e order within is live =
      let short : i < length rest = omega (arith, within) in
      let above = entry_above (x.seq + 1) rest i e order.1 short in
      let later = staying_found (x.seq + 1) s rest i e order.1 short is live in
      elim (ended x.seq) as (λ t. lookup (is_at (nat_cmp s)) (cond t (staying ended rest) ((x.seq, x) ∷ staying ended rest)) ≡ Some (get_or rest i e)) [
        | true ↦ later
        | false ↦ ap (λ t. cond t (Some x) (lookup (is_at (nat_cmp s)) (staying ended rest))) (test_other s x.seq (λ same. absurd (omega (arith, above, is, same)))) ∙ later
      ]

  -- one that is found is below the end
  pub found_below : (low s : ℕ) (v : Entry) (es : List Entry) → AreInOrder low es → Some v ≡ lookup (is_at (nat_cmp s)) (staying ended es) → s < end_after low es
  found_below low s v [] order is = absurd (cc)
  found_below low s v (x ∷ rest) order is =
      elim (cases_eq x.seq s) as (λ _. s < end_after (x.seq + 1) rest) [
        | inl same ↦ (let end = end_no_less (x.seq + 1) rest order.1 in omega (arith, end, same))
        | inr other ↦ elim (ended x.seq) as (λ t. Some v ≡ lookup (is_at (nat_cmp s)) (cond t (staying ended rest) ((x.seq, x) ∷ staying ended rest)) → s < end_after (x.seq + 1) rest) [
          | true ↦ λ h. found_below (x.seq + 1) s v rest order.1 h
          | false ↦ λ h. found_below (x.seq + 1) s v rest order.1 (h ∙ ap (λ t. cond t (Some x) (lookup (is_at (nat_cmp s)) (staying ended rest))) (test_other s x.seq other))
        ] is
      ]

  -- one more after the others
  pub staying_push : (v : Entry) (es : List Entry) → ended v.seq ≡ false → staying ended (es ++ v ∷ []) ≡ staying ended es ++ (v.seq, v) ∷ []
  staying_push v [] live = ap (λ t. let l : List (ℕ × Entry) = cond t [] ((v.seq, v) ∷ []) in l) live
  staying_push v (x ∷ rest) live =
      let later = staying_push v rest live in
      elim (ended x.seq) as (λ t. cond t (staying ended (rest ++ v ∷ [])) ((x.seq, x) ∷ staying ended (rest ++ v ∷ [])) ≡ cond t (staying ended rest) ((x.seq, x) ∷ staying ended rest) ++ (v.seq, v) ∷ []) [
        | true ↦ later
        | false ↦ ap (λ (l : List (ℕ × Entry)). (x.seq, x) ∷ l) later
      ]

  -- the case of a number, changed
  pub staying_changed : (low s : ℕ) (change : Entry → Entry) → ((e : Entry) → (change e).seq ≡ e.seq) → (es : List Entry) (i : ℕ) (e : Entry) → AreInOrder low es → i < length es → (get_or es i e).seq ≡ s
      → ended s ≡ false → staying ended (set es i (change (get_or es i e))) ≡ changed_in s change (staying ended es)
  staying_changed low s change same [] i e order within is live = absurd (omega arith)
  staying_changed low s change same (x ∷ rest) zero e order within is live =
      ap (λ t. cond t (staying ended rest) (((change x).seq, change x) ∷ staying ended rest)) (ap ended (same x ∙ is) ∙ live)
      ∙ ap (λ (n : ℕ). let l : List (ℕ × Entry) = (n, change x) ∷ staying ended rest in l) (same x)
      ∙ ap (λ t. let l : List (ℕ × Entry) = cond t ((x.seq, change x) ∷ staying ended rest) ((x.seq, x) ∷ changed_in s change (staying ended rest)) in l) (sym (eq-eqb x.seq s is))
      ∙ ap (λ t. changed_in s change (cond t (staying ended rest) ((x.seq, x) ∷ staying ended rest))) (sym (ap ended is ∙ live))
  staying_changed low s change same (x ∷ rest) (suc i) e order within is live =
      let short : i < length rest = omega (arith, within) in
      let above = entry_above (x.seq + 1) rest i e order.1 short in
      let later = staying_changed (x.seq + 1) s change same rest i e order.1 short is live in
      elim (ended x.seq) as (λ t. cond t (staying ended (set rest i (change (get_or rest i e)))) ((x.seq, x) ∷ staying ended (set rest i (change (get_or rest i e))))
      ≡ changed_in s change (cond t (staying ended rest) ((x.seq, x) ∷ staying ended rest))) [
        | true ↦ later
        | false ↦
            ap (λ (l : List (ℕ × Entry)). (x.seq, x) ∷ l) later
            ∙ ap (λ t. cond t ((x.seq, change x) ∷ staying ended rest) ((x.seq, x) ∷ changed_in s change (staying ended rest))) (sym (ne_eqb x.seq s (λ eq. absurd (omega (arith, above, is, eq)))))
      ]

  -- without the numbers
  pub values_staying : (es : List Entry) → filter (λ (e : Entry). not (ended e.seq)) es ≡ values_of (staying ended es)
  values_staying [] = refl
  values_staying (x ∷ rest) =
      elim (ended x.seq) as (λ t. cond (not t) (x ∷ filter (λ (e : Entry). not (ended e.seq)) rest) (filter (λ (e : Entry). not (ended e.seq)) rest) ≡ values_of (cond t (staying ended rest) ((x.seq, x) ∷ staying ended rest))) [
        | true ↦ values_staying rest
        | false ↦ ap (λ (l : List Entry). x ∷ l) (values_staying rest)
      ]

-- a number past the end is not that of a case that ended
pub not_ended : (ended : ℕ → Bool) (n : ℕ) (es : List Entry) → AreStored ended es → end_after 0 es ≤ n → ended n ≡ false
not_ended ended n es are past = of (ended n) refl
  where
    of : (t : Bool) → ended n ≡ t → t ≡ false
    of true is = (let b = are.below n is in absurd (omega (arith, b, past)))
    of false is = refl

-- what is kept once a case is put after the others
pub stored_push : (ended : ℕ → Bool) (v : Entry) (es : List Entry) → AreStored ended es → end_after 0 es ≤ v.seq → AreStored ended (es ++ v ∷ [])
stored_push ended v es are past = record {
  order = order_push 0 v es are.order past;
  below = λ n noted. (let b = are.below n noted in let end = end_push 0 v es in omega (arith, b, end, past));
}

-- what is kept once the case of a number is changed
pub stored_changed : (ended : ℕ → Bool) (s : ℕ) (change : Entry → Entry) → ((e : Entry) → (change e).seq ≡ e.seq) → (es : List Entry) (i : ℕ) (e : Entry) → AreStored ended es → i < length es
    → (get_or es i e).seq ≡ s → ended s ≡ false → e ≡ get_or es i e
    → AreStored ended (set es i (change e)) × (staying ended (set es i (change e)) ≡ changed_in s change (staying ended es)) × (end_after 0 (set es i (change e)) ≡ end_after 0 es)
stored_changed ended s change same es i e are within is live here =
    let seq : (change e).seq ≡ (get_or es i e).seq = same e ∙ ap (λ (x : Entry). x.seq) here in
    let end = end_set 0 (change e) e es i within seq in (
      record {
        order = order_set 0 (change e) e es i are.order within seq;
        below = λ n noted. (let b = are.below n noted in omega (arith, b, end));
      },
      ap (λ (x : Entry). staying ended (set es i (change x))) here ∙ staying_changed ended 0 s change same es i e are.order within is live,
      end,
    )

-- all stay where no number is noted
pub none_ended : (numbers : BTreeSet ℕ) (es : List Entry) → btree_set_len numbers ≡ 0 → es ≡ filter (λ (e : Entry). not (has_number numbers e.seq)) es
none_ended numbers [] none = refl
none_ended numbers (x ∷ rest) none =
    let live : has_number numbers x.seq ≡ false = ap (list_any (is_at (nat_cmp x.seq))) (nil_from_length numbers.keys none) in
    ap (λ (l : List Entry). x ∷ l) (none_ended numbers rest none)
    ∙ ap (λ t. cond (not t) (x ∷ filter (λ (e : Entry). not (has_number numbers e.seq)) rest) (filter (λ (e : Entry). not (has_number numbers e.seq)) rest)) (sym live)

-- One more that ended.

module _ (ended after : ℕ → Bool) (s : ℕ) (is : (q : ℕ) → after q ≡ cond (is_at (nat_cmp s) q) true (ended q)) where
  -- those above it stay as they are
  staying_same : (low : ℕ) (es : List Entry) → AreInOrder low es → s < low → staying after es ≡ staying ended es
  staying_same low [] order below = refl
  staying_same low (x ∷ rest) order below =
      let first = order.0 in
      let here : after x.seq ≡ ended x.seq = is x.seq ∙ ap (λ t. cond t true (ended x.seq)) (test_other s x.seq (λ same. absurd (omega (arith, first, below, same)))) in
      ap (λ t. cond t (staying after rest) ((x.seq, x) ∷ staying after rest)) here
      ∙ ap (λ (l : List (ℕ × Entry)). cond (ended x.seq) l ((x.seq, x) ∷ l)) (staying_same (x.seq + 1) rest order.1 (omega (arith, first, below)))

  staying_above : (low : ℕ) (es : List Entry) → AreInOrder low es → s < low → lookup (is_at (nat_cmp s)) (staying ended es) ≡ None
  staying_above low es order below = staying_none ended s es (λ k e within same. absurd (let above = entry_above low es k e order within in omega (arith, above, below, same)))

  pub staying_removed : (low : ℕ) (es : List Entry) → AreInOrder low es → staying after es ≡ remove_entry (is_at (nat_cmp s)) (staying ended es)
  staying_removed low [] order = refl
  staying_removed low (x ∷ rest) order =
      elim (cases_eq x.seq s) as (λ _. staying after (x ∷ rest) ≡ remove_entry (is_at (nat_cmp s)) (staying ended (x ∷ rest))) [
        | inl same ↦
            ap (λ t. cond t (staying after rest) ((x.seq, x) ∷ staying after rest)) (is x.seq ∙ ap (λ t. cond t true (ended x.seq)) (test_same s x.seq same))
            ∙ staying_same (x.seq + 1) rest order.1 (omega (arith, same))
            ∙ elim (ended x.seq) as (λ t. staying ended rest ≡ remove_entry (is_at (nat_cmp s)) (cond t (staying ended rest) ((x.seq, x) ∷ staying ended rest))) [
              | true ↦ sym (remove_none (is_at (nat_cmp s)) (staying ended rest) (staying_above (x.seq + 1) rest order.1 (omega (arith, same))))
              | false ↦ sym (ap (λ t. cond t (staying ended rest) ((x.seq, x) ∷ remove_entry (is_at (nat_cmp s)) (staying ended rest))) (test_same s x.seq same))
            ]
        | inr other ↦
            ap (λ t. cond t (staying after rest) ((x.seq, x) ∷ staying after rest)) (is x.seq ∙ ap (λ t. cond t true (ended x.seq)) (test_other s x.seq other))
            ∙ ap (λ (l : List (ℕ × Entry)). cond (ended x.seq) l ((x.seq, x) ∷ l)) (staying_removed (x.seq + 1) rest order.1)
            ∙ elim (ended x.seq) as (λ t. cond t (remove_entry (is_at (nat_cmp s)) (staying ended rest)) ((x.seq, x) ∷ remove_entry (is_at (nat_cmp s)) (staying ended rest))
            ≡ remove_entry (is_at (nat_cmp s)) (cond t (staying ended rest) ((x.seq, x) ∷ staying ended rest))) [
              | true ↦ refl
              | false ↦ sym (ap (λ t. cond t (staying ended rest) ((x.seq, x) ∷ remove_entry (is_at (nat_cmp s)) (staying ended rest))) (test_other s x.seq other))
            ]
      ]

  -- what is kept if a case has the number
  pub stored_ended : (es : List Entry) → AreStored ended es → IsTrue (is_some (lookup (is_at (nat_cmp s)) (staying ended es))) → AreStored after es
  stored_ended es are some = record {
    order = are.order;
    below = λ n noted. elim (cases_eq n s) as (λ _. n < end_after 0 es) [
      | inl same ↦ (let below : s < end_after 0 es = of (lookup (is_at (nat_cmp s)) (staying ended es)) refl some in omega (arith, below, same))
      | inr other ↦ are.below n (sym (is n ∙ ap (λ t. cond t true (ended n)) (test_other s n other)) ∙ noted)
    ];
  }
    where
      of : (o : Option Entry) → o ≡ lookup (is_at (nat_cmp s)) (staying ended es) → IsTrue (is_some o) → s < end_after 0 es
      of None e none = absurd (let h : false ≡ true = none in cc)
      of (Some v) e one = found_below ended 0 s v es are.order e
