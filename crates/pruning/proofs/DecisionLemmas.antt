-- What the retention rule decides over the cores.
use Rattle.std.proofs.Common.{◌≡◌, inl, inr, ◌<◌, ◌≤◌, ℕ, zero, suc, Bool, true, false, not, cond, ◌&&◌, ◌||◌, ◌==◌, List, [], ◌∷◌, drop, length, length-drop, map, sum_by, None, refl, sym, ap, subst, ◌∙◌, arith, ⊎_elim}
use Rattle.std.proofs.lemmas.Bool.{cases_Bool, cases_lt, eq-eqb, false≢true, ne_eqb}
use Rattle.std.specs.List.{AllByRecursion, filter}
use Rattle.retention.specs.Rule.{IsDecision, bytes_in, goes, holds_after, is_before, is_old, is_spare, is_within, meets, seq_of, spare_count, stays}
use Rattle.retention.specs.declared.Brief.{Brief}
use Rattle.retention.specs.declared.Policy.{Policy}
use Rattle.pruning.specs.Cases.{is_among}
use Rattle.pruning.proofs.MemberLemmas.{In, among_in}
use Rattle.pruning.proofs.NumberLemmas.{Rises}

-- an old case and a spare one are not pinned, and no case is both
not_pinned : (a b : Bool) → (not a && b) ≡ true → a ≡ false
not_pinned true b is = cc
not_pinned false b is = refl

-- a number that goes is that of a case that is not pinned
pub goes_from : (p : Policy) (k : ℕ) (bs : List Brief) (n : ℕ) → In n (map seq_of (goes p k bs)) → (b : Brief) × In b bs × (seq_of b ≡ n) × (b.pinned ≡ false)
goes_from p k [] n there = absurd there
goes_from p zero (b ∷ bs) n there = by (goes_from p zero bs n) (is_old p b) refl there
  where
    by : (In n (map seq_of (goes p zero bs)) → (d : Brief) × In d bs × (seq_of d ≡ n) × (d.pinned ≡ false)) → (t : Bool) → is_old p b ≡ t
        → In n (map seq_of (cond t (b ∷ goes p zero bs) (goes p zero bs))) → (d : Brief) × In d (b ∷ bs) × (seq_of d ≡ n) × (d.pinned ≡ false)
    by rest true e (inl is) = (b, inl refl, is, not_pinned b.pinned _ e)
    by rest true e (inr too) = let r = rest too in (r.0, inr r.1, r.2, r.3)
    by rest false e too = let r = rest too in (r.0, inr r.1, r.2, r.3)
goes_from p (suc k) (b ∷ bs) n there = by (goes_from p (suc k) bs n) (goes_from p k bs n) (is_old p b) (is_spare p b) refl refl there
  where
    by : (In n (map seq_of (goes p (suc k) bs)) → (d : Brief) × In d bs × (seq_of d ≡ n) × (d.pinned ≡ false))
        → (In n (map seq_of (goes p k bs)) → (d : Brief) × In d bs × (seq_of d ≡ n) × (d.pinned ≡ false)) → (t u : Bool) → is_old p b ≡ t → is_spare p b ≡ u
        → In n (map seq_of (cond t (b ∷ goes p (suc k) bs) (cond u (b ∷ goes p k bs) (goes p (suc k) bs)))) → (d : Brief) × In d (b ∷ bs) × (seq_of d ≡ n) × (d.pinned ≡ false)
    by rest fewer true u e f (inl is) = (b, inl refl, is, not_pinned b.pinned _ e)
    by rest fewer true u e f (inr too) = let r = rest too in (r.0, inr r.1, r.2, r.3)
    by rest fewer false true e f (inl is) = (b, inl refl, is, not_pinned b.pinned _ f)
    by rest fewer false true e f (inr too) = let r = fewer too in (r.0, inr r.1, r.2, r.3)
    by rest fewer false false e f too = let r = rest too in (r.0, inr r.1, r.2, r.3)

-- the numbers that go rise, as those of all do
all_above : (n : ℕ) (ms : List ℕ) → ((m : ℕ) → In m ms → n < m) → AllByRecursion (λ m. n < m) ms
all_above n [] above = tt
all_above n (m ∷ ms) above = (above m (inl refl), all_above n ms (λ k there. above k (inr there)))

above_each : (n : ℕ) (b : Brief) (bs : List Brief) → AllByRecursion (λ m. n < m) (map seq_of bs) → In b bs → n < seq_of b
above_each n b [] above there = absurd there
above_each n b (d ∷ ds) above (inl is) = subst (λ (e : Brief). n < seq_of e) is above.0
above_each n b (d ∷ ds) above (inr there) = above_each n b ds above.1 there

gone_above : (p : Policy) (k n : ℕ) (bs : List Brief) → AllByRecursion (λ m. n < m) (map seq_of bs) → AllByRecursion (λ m. n < m) (map seq_of (goes p k bs))
gone_above p k n bs above = all_above n (map seq_of (goes p k bs)) (λ m there. let from = goes_from p k bs m there in subst (λ (l : ℕ). n < l) from.2 (above_each n from.0 bs above from.1))

pub gone_rises : (p : Policy) (k : ℕ) (bs : List Brief) → Rises (map seq_of bs) → Rises (map seq_of (goes p k bs))
gone_rises p k [] rise = tt
gone_rises p zero (b ∷ bs) rise = by (gone_rises p zero bs rise.1) (is_old p b)
  where
    by : Rises (map seq_of (goes p zero bs)) → (t : Bool) → Rises (map seq_of (cond t (b ∷ goes p zero bs) (goes p zero bs)))
    by rest true = (gone_above p zero b.seq bs rise.0, rest)
    by rest false = rest
gone_rises p (suc k) (b ∷ bs) rise = by (gone_rises p (suc k) bs rise.1) (gone_rises p k bs rise.1) (is_old p b) (is_spare p b)
  where
    by : Rises (map seq_of (goes p (suc k) bs)) → Rises (map seq_of (goes p k bs)) → (t u : Bool) → Rises (map seq_of (cond t (b ∷ goes p (suc k) bs) (cond u (b ∷ goes p k bs) (goes p (suc k) bs))))
    by rest fewer true u = (gone_above p (suc k) b.seq bs rise.0, rest)
    by rest fewer false true = (gone_above p k b.seq bs rise.0, fewer)
    by rest fewer false false = rest

-- two decisions say the same of the limits
is_met : (t : Bool) → false ≡ not t → t ≡ true
is_met true e = refl
is_met false e = cc

is_unmet : (t : Bool) → true ≡ not t → t ≡ false
is_unmet true e = cc
is_unmet false e = refl

unmet_and_met : (p : Policy) (bs : List Brief) (dropped dropped' : List ℕ) → IsDecision p bs dropped true → IsDecision p bs dropped' false → ⊥
unmet_and_met p bs dropped dropped' a b =
    let holds = is_met (holds_after p bs b.count) b.unmet_is in
    let fails = is_unmet (holds_after p bs a.count) a.unmet_is in
    ⊎_elim
    (λ (fewer : b.count < a.count). false≢true (sym (a.fewer_fail b.count fewer) ∙ holds))
    (λ (most : a.count ≤ b.count).
    let all = a.all_where_unmet refl in
    let within = b.within in
    let same : a.count ≡ b.count = omega (arith, most, all, within) in
    false≢true (sym fails ∙ ap (holds_after p bs) same ∙ holds))
    (cases_lt b.count a.count)

-- two decisions say the same of the limits
pub one_unmet : (p : Policy) (bs : List Brief) (dropped dropped' : List ℕ) (unmet unmet' : Bool) → IsDecision p bs dropped unmet → IsDecision p bs dropped' unmet' → unmet ≡ unmet'
one_unmet p bs dropped dropped' true true a b = refl
one_unmet p bs dropped dropped' false false a b = refl
one_unmet p bs dropped dropped' true false a b = absurd (unmet_and_met p bs dropped dropped' a b)
one_unmet p bs dropped dropped' false true a b = absurd (unmet_and_met p bs dropped' dropped b a)

-- once what goes is left out, the others stay, and nothing more goes
none_old : (p : Policy) (b : Brief) (bs : List Brief) → filter (is_old p) (b ∷ bs) ≡ [] → (is_old p b ≡ false) × (filter (is_old p) bs ≡ [])
none_old p b bs none = by (is_old p b) refl none
  where
    by : (t : Bool) → is_old p b ≡ t → cond t (b ∷ filter (is_old p) bs) (filter (is_old p) bs) ≡ [] → (is_old p b ≡ false) × (filter (is_old p) bs ≡ [])
    by true e h = absurd cc
    by false e h = (e, h)

pub all_stay : (p : Policy) (bs : List Brief) → filter (is_old p) bs ≡ [] → (stays p 0 bs ≡ bs) × (goes p 0 bs ≡ [])
all_stay p [] none = (refl, refl)
all_stay p (b ∷ bs) none =
    let h = none_old p b bs none in
    let rest = all_stay p bs h.1 in (
      ap (λ t. cond t (stays p 0 bs) (b ∷ stays p 0 bs)) h.0 ∙ ap (λ cs. b ∷ cs) rest.0,
      ap (λ t. cond t (b ∷ goes p 0 bs) (goes p 0 bs)) h.0 ∙ rest.1,
    )

no_more : (p : Policy) (bs : List Brief) (dropped : List ℕ) (unmet : Bool) (a : IsDecision p bs dropped unmet) (rest : List Brief) → rest ≡ stays p a.count bs
    → filter (is_spare p) (stays p a.count bs) ≡ drop a.count (filter (is_spare p) bs) → holds_after p rest 0 ≡ holds_after p bs a.count
    → (again : List ℕ) (unmet' : Bool) (b : IsDecision p rest again unmet') → b.count ≡ 0
no_more p bs dropped unmet a rest is spare same again unmet' b =
    ⊎_elim
    (λ (more : 0 < b.count).
    let fails : holds_after p bs a.count ≡ false = sym same ∙ b.fewer_fail 0 more in
    let all = a.all_where_unmet (a.unmet_is ∙ ap not fails) in
    let left : spare_count p rest ≡ length (drop a.count (filter (is_spare p) bs)) = ap (spare_count p) is ∙ ap length spare in
    let few = length-drop a.count (filter (is_spare p) bs) in
    let within = b.within in
    absurd (omega (arith, more, all, left, few, within)))
    (λ (none : b.count ≤ 0). omega (arith, none))
    (cases_lt 0 b.count)

-- a second decision, over what stays of the first one, drops nothing
pub settled : (p : Policy) (bs : List Brief) (dropped : List ℕ) (unmet : Bool) (a : IsDecision p bs dropped unmet) (rest : List Brief) → rest ≡ stays p a.count bs
    → filter (is_old p) (stays p a.count bs) ≡ [] → filter (is_spare p) (stays p a.count bs) ≡ drop a.count (filter (is_spare p) bs)
    → (again : List ℕ) (unmet' : Bool) → IsDecision p rest again unmet' → (again ≡ []) × (unmet' ≡ unmet)
settled p bs dropped unmet a rest is old spare again unmet' b =
    let young : filter (is_old p) rest ≡ [] = ap (filter (is_old p)) is ∙ old in
    let still = all_stay p rest young in
    let same : holds_after p rest 0 ≡ holds_after p bs a.count = ap (λ cs. meets p (length cs) (sum_by bytes_in cs)) (still.0 ∙ is) in
    let first : b.count ≡ 0 = no_more p bs dropped unmet a rest is spare same again unmet' b in (
      b.dropped_are ∙ ap (λ n. map seq_of (goes p n rest)) first ∙ ap (map seq_of) still.1,
      b.unmet_is ∙ ap (λ n. not (holds_after p rest n)) first ∙ ap not same ∙ sym a.unmet_is,
    )

-- What stays are the cases whose numbers do not go.
not_gone : (p : Policy) (k : ℕ) (b : Brief) (bs : List Brief) → AllByRecursion (λ m. b.seq < m) (map seq_of bs) → is_among (map seq_of (goes p k bs)) b.seq ≡ false
not_gone p k b bs above =
    ⊎_elim
    (λ (gone : is_among (map seq_of (goes p k bs)) b.seq ≡ true).
    let from = goes_from p k bs b.seq (among_in (map seq_of (goes p k bs)) b.seq gone) in
    let more = above_each b.seq from.0 bs above from.1 in
    let same = from.2 in
    absurd (omega (arith, more, same)))
    (λ stays. stays)
    (cases_Bool (is_among (map seq_of (goes p k bs)) b.seq))

-- whether a case is kept where these numbers go
abbrev kept : List ℕ → Brief → Bool
kept gone b = not (is_among gone (seq_of b))

-- a number below all is nobody's
past_first : (n : ℕ) (gone : List ℕ) (bs : List Brief) → AllByRecursion (λ m. n < m) (map seq_of bs) → filter (kept (n ∷ gone)) bs ≡ filter (kept gone) bs
past_first n gone [] above = refl
past_first n gone (b ∷ bs) above =
    let less = above.0 in
    let other : (n == seq_of b) ≡ false = ne_eqb n (seq_of b) (λ same. omega (arith, less, same)) in
    ap (λ t. cond (not (t || is_among gone (seq_of b))) (b ∷ filter (kept (n ∷ gone)) bs) (filter (kept (n ∷ gone)) bs)) other
    ∙ ap (λ cs. cond (kept gone b) (b ∷ cs) cs) (past_first n gone bs above.1)

-- one case more, which goes or stays
goes_now : (b : Brief) (bs gone : List Brief) (rest : List Brief) → AllByRecursion (λ m. b.seq < m) (map seq_of bs) → filter (kept (map seq_of gone)) bs ≡ rest → filter (kept (map seq_of (b ∷ gone))) (b ∷ bs) ≡ rest
goes_now b bs gone rest above is =
    ap (λ t. cond (not (t || is_among (map seq_of gone) b.seq)) (b ∷ filter (kept (map seq_of (b ∷ gone))) bs) (filter (kept (map seq_of (b ∷ gone))) bs)) (eq-eqb b.seq b.seq refl)
    ∙ past_first b.seq (map seq_of gone) bs above ∙ is

stays_now : (b : Brief) (bs gone : List Brief) (rest : List Brief) → is_among (map seq_of gone) b.seq ≡ false → filter (kept (map seq_of gone)) bs ≡ rest → filter (kept (map seq_of gone)) (b ∷ bs) ≡ b ∷ rest
stays_now b bs gone rest free is =
    ap (λ t. cond (not t) (b ∷ filter (kept (map seq_of gone)) bs) (filter (kept (map seq_of gone)) bs)) free ∙ ap (λ cs. b ∷ cs) is

pub stays_are : (p : Policy) (k : ℕ) (bs : List Brief) → Rises (map seq_of bs) → filter (λ b. not (is_among (map seq_of (goes p k bs)) (seq_of b))) bs ≡ stays p k bs
stays_are p k [] rise = refl
stays_are p zero (b ∷ bs) rise = by (stays_are p zero bs rise.1) (is_old p b)
  where
    by : filter (kept (map seq_of (goes p zero bs))) bs ≡ stays p zero bs → (t : Bool)
        → filter (kept (map seq_of (cond t (b ∷ goes p zero bs) (goes p zero bs)))) (b ∷ bs) ≡ cond t (stays p zero bs) (b ∷ stays p zero bs)
    by rest true = goes_now b bs (goes p zero bs) (stays p zero bs) rise.0 rest
    by rest false = stays_now b bs (goes p zero bs) (stays p zero bs) (not_gone p zero b bs rise.0) rest
stays_are p (suc k) (b ∷ bs) rise = by (stays_are p (suc k) bs rise.1) (stays_are p k bs rise.1) (is_old p b) (is_spare p b)
  where
    by : filter (kept (map seq_of (goes p (suc k) bs))) bs ≡ stays p (suc k) bs → filter (kept (map seq_of (goes p k bs))) bs ≡ stays p k bs → (t u : Bool)
        → filter (kept (map seq_of (cond t (b ∷ goes p (suc k) bs) (cond u (b ∷ goes p k bs) (goes p (suc k) bs))))) (b ∷ bs)
        ≡ cond t (stays p (suc k) bs) (cond u (stays p k bs) (b ∷ stays p (suc k) bs))
    by rest fewer true u = goes_now b bs (goes p (suc k) bs) (stays p (suc k) bs) rise.0 rest
    by rest fewer false true = goes_now b bs (goes p k bs) (stays p k bs) rise.0 fewer
    by rest fewer false false = stays_now b bs (goes p (suc k) bs) (stays p (suc k) bs) (not_gone p (suc k) b bs rise.0) rest

-- without a limit nothing goes
never_old : (p : Policy) (b : Brief) → p.before ≡ None → is_old p b ≡ false
never_old p b none = ap (λ before. not b.pinned && is_before b.time before) none ∙ and_false (not b.pinned)
  where
    and_false : (t : Bool) → (t && false) ≡ false
    and_false true = refl
    and_false false = refl

none_is_old : (p : Policy) (bs : List Brief) → p.before ≡ None → filter (is_old p) bs ≡ []
none_is_old p [] none = refl
none_is_old p (b ∷ bs) none = ap (λ t. cond t (b ∷ filter (is_old p) bs) (filter (is_old p) bs)) (never_old p b none) ∙ none_is_old p bs none

pub unlimited : (p : Policy) (bs : List Brief) (dropped : List ℕ) (unmet : Bool) → p.keep ≡ None → p.bytes ≡ None → p.before ≡ None → IsDecision p bs dropped unmet → dropped ≡ []
unlimited p bs dropped unmet keep bytes before a =
    let met : holds_after p bs 0 ≡ true = ap (λ o. is_within (length (stays p 0 bs)) o && is_within (sum_by bytes_in (stays p 0 bs)) p.bytes) keep ∙ ap (is_within (sum_by bytes_in (stays p 0 bs))) bytes in
    let first : a.count ≡ 0 = ⊎_elim (λ (more : 0 < a.count). absurd (false≢true (sym (a.fewer_fail 0 more) ∙ met))) (λ (none : a.count ≤ 0). omega (arith, none)) (cases_lt 0 a.count) in
    a.dropped_are ∙ ap (λ n. map seq_of (goes p n bs)) first ∙ ap (map seq_of) (all_stay p bs (none_is_old p bs before)).1
