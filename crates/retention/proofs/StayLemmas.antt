-- What stays where one spare case more is dropped.
use Rattle.std.proofs.Common.{◌≡◌, ℕ, zero, suc, ◌+◌, ◌-◌, ◌<◌, ◌≤◌, Bool, true, false, not, ◌&&◌, List, [], ◌∷◌, ◌++◌, length, sum_by, refl, sym, ap, ◌∙◌, arith, append_assoc, length-append, get_or, drop, drop-cons, subst, ⊎_elim}
use Rattle.std.proofs.lemmas.Bool.{cases_Bool, cases_lt}
use Rattle.std.proofs.lemmas.List.Sums.{sum_by-cons, sum_by-append}
use Rattle.retention.specs.declared.Brief.{Brief}
use Rattle.retention.specs.declared.Policy.{Policy}
use Rattle.retention.specs.declared.rule.Totals.{Totals}
use Rattle.retention.specs.Rule.{is_old, is_spare, spare_count, stays, bytes_in, holds_after, meets}
use Rattle.retention.specs.Counting.{TotalsAre, weight_if}

-- no spare case is old
not_old : (pinned before : Bool) → (not pinned && not before) ≡ true → (not pinned && before) ≡ false
not_old true before h = refl
not_old false true h = cc
not_old false false h = refl

spare_not_old : (policy : Policy) (c : Brief) → is_spare policy c ≡ true → is_old policy c ≡ false
spare_not_old policy c spare = not_old c.pinned _ spare

-- an old case doesn't stay
pub stays-old : (policy : Policy) (n : ℕ) (c : Brief) (cs : List Brief) → is_old policy c ≡ true → stays policy n (c ∷ cs) ≡ stays policy n cs
stays-old policy zero c cs old = rw old
stays-old policy (suc n) c cs old = rw old

-- a spare case stays where none is to go
pub stays-none : (policy : Policy) (c : Brief) (cs : List Brief) → is_old policy c ≡ false → stays policy 0 (c ∷ cs) ≡ c ∷ stays policy 0 cs
stays-none policy c cs young = rw young

-- and is dropped where one is to be
pub stays-spare : (policy : Policy) (n : ℕ) (c : Brief) (cs : List Brief) → is_spare policy c ≡ true → stays policy (suc n) (c ∷ cs) ≡ stays policy n cs
stays-spare policy n c cs spare = let young = spare_not_old policy c spare in rw (young, spare)

-- any other case stays
pub stays-pinned : (policy : Policy) (n : ℕ) (c : Brief) (cs : List Brief) → is_old policy c ≡ false → is_spare policy c ≡ false → stays policy n (c ∷ cs) ≡ c ∷ stays policy n cs
stays-pinned policy zero c cs young pinned = rw young
stays-pinned policy (suc n) c cs young pinned = rw (young, pinned)

-- what stays, as what stays of the cases seen and of those that are left
abbrev pub Linked : Policy → List Brief → ℕ → List Brief → List Brief → Type 0
Linked policy cases count front back = (m : ℕ) → stays policy (count + m) cases ≡ front ++ stays policy m back

spare_count-spare : (policy : Policy) (c : Brief) (cs : List Brief) → is_spare policy c ≡ true → spare_count policy (c ∷ cs) ≡ suc (spare_count policy cs)
spare_count-spare policy c cs spare = rw spare

spare_count-other : (policy : Policy) (c : Brief) (cs : List Brief) → is_spare policy c ≡ false → spare_count policy (c ∷ cs) ≡ spare_count policy cs
spare_count-other policy c cs other = rw other

-- the loop's facts, at what is left
pub record Along (policy : Policy) (cases : List Brief) (totals : Totals) (count : ℕ) (back : List Brief) : Type 0 where
  pub front : List Brief
  pub link : Linked policy cases count front back
  pub totals_are : TotalsAre totals (stays policy count cases)
  pub spare : count + spare_count policy back ≡ spare_count policy cases

along_same : (policy : Policy) (cases : List Brief) (totals totals' : Totals) (count count' : ℕ) (back : List Brief)
    → totals'.count ≡ totals.count → totals'.bytes ≡ totals.bytes → count' ≡ count → Along policy cases totals count back → Along policy cases totals' count' back
along_same policy cases totals totals' count count' back same_count same_bytes same so_far = record {
  front = so_far.front;
  link = λ m. let e : count' + m ≡ count + m = omega arith in ap (λ n. stays policy n cases) e ∙ so_far.link m;
  totals_are = record {
    count_is = same_count ∙ so_far.totals_are.count_is ∙ ap (λ n. length (stays policy n cases)) (sym same);
    bytes_is = same_bytes ∙ so_far.totals_are.bytes_is ∙ ap (λ n. sum_by bytes_in (stays policy n cases)) (sym same);
  };
  spare = omega (arith, so_far.spare);
}

-- one case more
module _ (policy : Policy) (cases : List Brief) (totals : Totals) (count : ℕ) (c : Brief) (cs : List Brief) (so_far : Along policy cases totals count (c ∷ cs)) where
  at_count : stays policy count cases ≡ so_far.front ++ stays policy 0 (c ∷ cs)
  at_count = let e : count + 0 ≡ count = omega arith in ap (λ n. stays policy n cases) (sym e) ∙ so_far.link 0

  -- a spare case is dropped, and its bytes
  pub after_spare : is_spare policy c ≡ true → (1 ≤ totals.count) × (c.length ≤ totals.bytes)
      × Along policy cases (record { count = totals.count - 1; bytes = totals.bytes - c.length }) (count + 1) cs
  after_spare spare =
      let young = spare_not_old policy c spare in
      let before : stays policy count cases ≡ so_far.front ++ c ∷ stays policy 0 cs = at_count ∙ ap (λ xs. so_far.front ++ xs) (stays-none policy c cs young) in
      let next : Linked policy cases (count + 1) so_far.front cs =
      λ m. let e : count + 1 + m ≡ count + suc m = omega arith in
      ap (λ n. stays policy n cases) e ∙ so_far.link (suc m) ∙ ap (λ xs. so_far.front ++ xs) (stays-spare policy m c cs spare) in
      let after : stays policy (count + 1) cases ≡ so_far.front ++ stays policy 0 cs =
      let e : count + 1 + 0 ≡ count + 1 = omega arith in ap (λ n. stays policy n cases) (sym e) ∙ next 0 in
      let length_before = so_far.totals_are.count_is ∙ ap length before ∙ length-append so_far.front (c ∷ stays policy 0 cs) in
      let length_after = ap length after ∙ length-append so_far.front (stays policy 0 cs) in
      let bytes_before = so_far.totals_are.bytes_is ∙ ap (sum_by bytes_in) before ∙ sum_by-append bytes_in so_far.front (c ∷ stays policy 0 cs) in
      let bytes_after = ap (sum_by bytes_in) after ∙ sum_by-append bytes_in so_far.front (stays policy 0 cs) in
      let bytes_first = sum_by-cons bytes_in c (stays policy 0 cs) in
      let spares = spare_count-spare policy c cs spare in (
        omega (arith, length_before),
        omega (arith, bytes_before, bytes_first),
        record {
          front = so_far.front;
          link = next;
          totals_are = record { count_is = omega (arith, length_before, length_after); bytes_is = omega (arith, bytes_before, bytes_first, bytes_after) };
          spare = omega (arith, so_far.spare, spares);
        },
      )

  -- any other case is dropped or stays, and nothing changes
  pub after_other : is_spare policy c ≡ false → Along policy cases totals count cs
  after_other other =
      ⊎_elim
      (λ old. record {
        front = so_far.front;
        link = λ m. so_far.link m ∙ ap (λ xs. so_far.front ++ xs) (stays-old policy m c cs old);
        totals_are = so_far.totals_are;
        spare = omega (arith, so_far.spare, spare_count-other policy c cs other);
      })
      (λ young. record {
        front = so_far.front ++ c ∷ [];
        link = λ m. so_far.link m ∙ ap (λ xs. so_far.front ++ xs) (stays-pinned policy m c cs young other) ∙ sym (append_assoc so_far.front (c ∷ []) (stays policy m cs));
        totals_are = so_far.totals_are;
        spare = omega (arith, so_far.spare, spare_count-other policy c cs other);
      })
      (cases_Bool (is_old policy c))

-- one case more, whichever it is: what it weighs is dropped
pub record Stepped (policy : Policy) (cases : List Brief) (totals : Totals) (count : ℕ) (weight : Totals) (back : List Brief) : Type 0 where
  pub count_fits : weight.count ≤ totals.count
  pub bytes_fit : weight.bytes ≤ totals.bytes
  pub along : Along policy cases (record { count = totals.count - weight.count; bytes = totals.bytes - weight.bytes }) (count + weight.count) back

pub stepped : (policy : Policy) (cases : List Brief) (totals : Totals) (count : ℕ) (c : Brief) (cs : List Brief) (weight : Totals)
    → weight ≡ weight_if (is_spare policy c) c → Along policy cases totals count (c ∷ cs) → Stepped policy cases totals count weight cs
stepped policy cases totals count c cs weight is so_far =
    ⊎_elim
    (λ spare.
    let after = after_spare policy cases totals count c cs so_far spare in
    let e : weight ≡ record { count = 1; bytes = c.length } = is ∙ ap (λ b. weight_if b c) spare in
    subst (λ w. Stepped policy cases totals count w cs) (sym e) (record { count_fits = after.0; bytes_fit = after.1; along = after.2 }))
    (λ other.
    let after = after_other policy cases totals count c cs so_far other in
    let e : weight ≡ record { count = 0; bytes = 0 } = is ∙ ap (λ b. weight_if b c) other in
    subst (λ w. Stepped policy cases totals count w cs) (sym e) (record { count_fits = omega arith; bytes_fit = omega arith; along = along_same policy cases totals _ count _ cs (omega arith) (omega arith) (omega arith) after }))
    (cases_Bool (is_spare policy c))

-- the same at the case of an index
pub stepped_at : (policy : Policy) (cases : List Brief) (totals : Totals) (count i : ℕ) (d : Brief) (weight : Totals) → i < length cases
    → weight ≡ weight_if (is_spare policy (get_or cases i d)) (get_or cases i d) → Along policy cases totals count (drop i cases)
    → Stepped policy cases totals count weight (drop (i + 1) cases)
stepped_at policy cases totals count i d weight lt is so_far =
    let next : suc i ≡ i + 1 = omega arith in
    let step = stepped policy cases totals count (get_or cases i d) (drop (suc i) cases) weight is (subst (Along policy cases totals count) (drop-cons cases i d lt) so_far) in
    subst (λ n. Stepped policy cases totals count weight (drop n cases)) next step

-- whether the limits hold, by the totals
pub holds_after-is : (policy : Policy) (cases : List Brief) (totals : Totals) (count : ℕ) → TotalsAre totals (stays policy count cases)
    → meets policy totals.count totals.bytes ≡ holds_after policy cases count
holds_after-is policy cases totals count are = ap (λ n. meets policy n totals.bytes) are.count_is ∙ ap (meets policy (length (stays policy count cases))) are.bytes_is

-- no front so far brought the limits to hold, nor does this one
pub fewer_fail_more : (policy : Policy) (cases : List Brief) (count weight : ℕ) → weight ≤ 1 → ((n : ℕ) → n < count → holds_after policy cases n ≡ false)
    → holds_after policy cases count ≡ false → (n : ℕ) → n < count + weight → holds_after policy cases n ≡ false
fewer_fail_more policy cases count weight few before here n lt =
    ⊎_elim (λ (below : n < count). before n below) (λ (above : count ≤ n). let e : n ≡ count = omega arith in rw e here) (cases_lt n count)
