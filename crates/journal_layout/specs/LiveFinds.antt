-- Laws of live cases that are found by their numbers, and of the records that may follow.
use Rattle.std.proofs.Common.{◌≡◌, ◌≢◌, inl, inr, ℕ, zero, suc, ◌+◌, ◌^◌, ◌<◌, ◌≤◌, Bool, true, false, not, nat_eq, List, [], ◌∷◌, length, get_or, map, refl, sym, ap, ◌∙◌, subst, arith, Some, cond}
use Rattle.std.proofs.lemmas.Bool.{eq-eqb, ne_eqb, cases_eq, or_from}
use Rattle.std.proofs.lemmas.List.Elements.{All-contains, All-contains_itself, All-filter, filter_passes, recursion_from_All}
use Rattle.std.specs.List.{AllByRecursion, Contains, filter, list_any}
use Rattle.journal_layout.specs.Case.{Case, numbered}
use Rattle.journal_layout.specs.Record.{Store, Drop, Pin, Label}
use Rattle.journal_layout.specs.Folding.{Folded, is_among, dropped, with_label, used_blocks}
use Rattle.journal_layout.specs.Soundness.{IsSound, IsStorable, IsLabel, IsLive, IsDroppable, Rise, uses, case_numbered}
use Rattle.journal_layout.specs.SpareLaws.{uses-append}
use Rattle.journal_layout.specs.Live.{seq_of_case, IsWhole, AreLive}
use Rattle.journal_layout.specs.LiveLaws.{rise_kept}

-- a case by its number

-- a case that is found has that number, and is one of the cases
pub numbered_is : (seq : ℕ) (cases : List Case) (c : Case) → case_numbered seq cases ≡ Some c → (c.seq ≡ seq) × Contains cases c
numbered_is seq [] c e = cc
numbered_is seq (d ∷ rest) c e =
    elim (cases_eq d.seq seq) as (λ _. (c.seq ≡ seq) × Contains (d ∷ rest) c) [
      | inl same ↦ here same (rw (eq-eqb d.seq seq same) at e)
      | inr other ↦ there (numbered_is seq rest c (rw (ne_eqb d.seq seq other) at e))
    ]
  where
    here : d.seq ≡ seq → Some d ≡ Some c → (c.seq ≡ seq) × Contains (d ∷ rest) c
    here same found = let is : d ≡ c = cc in (ap seq_of_case (sym is) ∙ same, (0, omega arith, is))

    there : (c.seq ≡ seq) × Contains rest c → (c.seq ≡ seq) × Contains (d ∷ rest) c
    there h = (h.0, (suc h.1.0, omega (arith, h.1.1), h.1.2))

-- cases with rising numbers have numbers above the one before them
pub rise_above : (last : ℕ) (cases : List Case) (i : ℕ) (d : Case) → Rise last (map seq_of_case cases) → i < length cases → last < (get_or cases i d).seq
rise_above last [] i d rise within = absurd (omega arith)
rise_above last (c ∷ rest) zero d rise within = rise.0
rise_above last (c ∷ rest) (suc i) d rise within = omega (arith, rise.0, rise_above c.seq rest i d rise.1 (omega (arith, within)))

-- and each is found by its number
numbered_at : (last : ℕ) (cases : List Case) (i : ℕ) (d : Case) → Rise last (map seq_of_case cases) → i < length cases
    → case_numbered (get_or cases i d).seq cases ≡ Some (get_or cases i d)
numbered_at last [] i d rise within = absurd (omega arith)
numbered_at last (c ∷ rest) zero d rise within = rw (eq-eqb c.seq c.seq refl) refl
numbered_at last (c ∷ rest) (suc i) d rise within =
    let low : i < length rest = omega (arith, within) in
    let above = rise_above c.seq rest i d rise.1 low in
    rw (ne_eqb c.seq (get_or rest i d).seq (λ e. absurd (omega (arith, e)))) (numbered_at c.seq rest i d rise.1 low)

pub numbered_found : (last : ℕ) (cases : List Case) (c : Case) → Rise last (map seq_of_case cases) → Contains cases c → case_numbered c.seq cases ≡ Some c
numbered_found last cases c rise among = subst (λ (d : Case). case_numbered d.seq cases ≡ Some d) among.2 (numbered_at last cases among.0 c rise among.1)

-- a label of one case is no other's

-- cases with rising numbers have other numbers than those before them
pub above_elsewhere : (n last : ℕ) (cases : List Case) → n ≤ last → Rise last (map seq_of_case cases) → AllByRecursion (λ (c : Case). c.seq ≢ n) cases
above_elsewhere n last [] low rise = tt
above_elsewhere n last (c ∷ rest) low rise =
    let above = rise.0 in
    ((λ e. omega (arith, e)), above_elsewhere n c.seq rest (omega arith) rise.1)

pub label_elsewhere : (seq : ℕ) (text : List ℕ) (cases : List Case) → AllByRecursion (λ (c : Case). c.seq ≢ seq) cases → with_label seq text cases ≡ cases
label_elsewhere seq text [] each = refl
label_elsewhere seq text (c ∷ rest) each = rw (ne_eqb c.seq seq each.0) (ap (λ (l : List Case). c ∷ l) (label_elsewhere seq text rest each.1))

-- some of the cases are those of their numbers
among_above : (n last : ℕ) (seqs : List ℕ) → n ≤ last → Rise last seqs → is_among seqs n ≡ false
among_above n last [] low rise = refl
among_above n last (seq ∷ rest) low rise =
    let above = rise.0 in
    or_from (nat_eq n seq) (list_any (nat_eq n) rest) (ne_eqb n seq (λ e. absurd (omega (arith, e)))) (among_above n seq rest (omega arith) rise.1)

dropped_below : (n last : ℕ) (seqs : List ℕ) (cases : List Case) → n ≤ last → Rise last (map seq_of_case cases) → dropped (n ∷ seqs) cases ≡ dropped seqs cases
dropped_below n last seqs [] low rise = refl
dropped_below n last seqs (c ∷ rest) low rise =
    let above = rise.0 in
    let other : nat_eq c.seq n ≡ false = ne_eqb c.seq n (λ e. absurd (omega (arith, e))) in
    rw (other, dropped_below n c.seq seqs rest (omega arith) rise.1) refl

-- without the numbers of the cases that pass a test, those are left that don't
pub dropped_chosen : (last : ℕ) (test : Case → Bool) (cases : List Case) → Rise last (map seq_of_case cases)
    → dropped (map seq_of_case (filter test cases)) cases ≡ filter (λ (c : Case). not (test c)) cases
dropped_chosen last test [] rise = refl
dropped_chosen last test (c ∷ rest) rise =
    by (test c) (dropped_chosen c.seq test rest rise.1) (dropped_below c.seq c.seq (map seq_of_case (filter test rest)) rest (omega arith) rise.1)
    (among_above c.seq c.seq (map seq_of_case (filter test rest)) (omega arith) (rise_kept test c.seq rest rise.1))
  where
    by : (t : Bool)
        → dropped (map seq_of_case (filter test rest)) rest ≡ filter (λ (d : Case). not (test d)) rest
        → dropped (c.seq ∷ map seq_of_case (filter test rest)) rest ≡ dropped (map seq_of_case (filter test rest)) rest
        → is_among (map seq_of_case (filter test rest)) c.seq ≡ false
        → dropped (map seq_of_case (cond t (c ∷ filter test rest) (filter test rest))) (c ∷ rest) ≡ cond (not t) (c ∷ filter (λ (d : Case). not (test d)) rest) (filter (λ (d : Case). not (test d)) rest)
    by true low below none = rw (eq-eqb c.seq c.seq refl) (below ∙ low)
    by false low below none = rw none (ap (λ (l : List Case). c ∷ l) low)

-- live cases

-- a live case is found by its number
pub live_found : (limit : ℕ) (cases : List Case) (next : ℕ) (c : Case) → AreLive limit cases next → Contains cases c → case_numbered c.seq cases ≡ Some c
live_found limit cases next c live among = numbered_found 0 cases c live.rise among

-- the invariants of a live case by itself
pub live_whole : (limit : ℕ) (cases : List Case) (next : ℕ) (c : Case) → AreLive limit cases next → Contains cases c → IsWhole next c
live_whole limit cases next c live among = All-contains (IsWhole next) cases c live.each among

-- the number of a live case is 1 or greater, and below the next one
pub live_number : (limit : ℕ) (cases : List Case) (next seq : ℕ) (c : Case) → AreLive limit cases next → case_numbered seq cases ≡ Some c → (1 ≤ seq) × (seq < next)
live_number limit cases next seq c live found =
    let h = numbered_is seq cases c found in
    let below = (live_whole limit cases next c live h.1).below in
    let above : 0 < c.seq = subst (λ (d : Case). 0 < d.seq) h.1.2 (rise_above 0 cases h.1.0 c live.rise h.1.1) in
    (omega (arith, h.0), omega (arith, h.0))

pub live_numbered : (limit : ℕ) (cases : List Case) (next : ℕ) (c : Case) → AreLive limit cases next → Contains cases c → IsLive cases c.seq
live_numbered limit cases next c live among = (c, live_found limit cases next c live among)

pub live_droppable : (limit : ℕ) (cases : List Case) (next : ℕ) (c : Case) → AreLive limit cases next → Contains cases c → c.pinned ≡ false → IsDroppable cases c.seq
live_droppable limit cases next c live among free = (c, live_found limit cases next c live among, free)

-- a case that may be stored may be so under any number
pub storable_numbered : (limit : ℕ) (cases : List Case) (seq : ℕ) (c : Case) → IsStorable limit cases c → IsStorable limit cases (numbered seq c)
storable_numbered limit cases seq c storable = record {
  origin = storable.origin;
  new_name = storable.new_name;
  bytes = storable.bytes;
  enough = storable.enough;
  spare = storable.spare;
  no_label = storable.no_label;
}

-- and gets the next number, as long as there is one
pub store_sound : (limit : ℕ) (f : Folded) (c : Case) → f.next < 2 ^ 32 → IsStorable limit f.cases c → IsSound limit f (Store (numbered f.next c))
store_sound limit f c low storable = (omega arith, low, storable_numbered limit f.cases f.next c storable)

-- the number of a live case goes into its field
number_small : (limit : ℕ) (f : Folded) (seq : ℕ) → AreLive limit f.cases f.next → IsLive f.cases seq → seq < 2 ^ 32
number_small limit f seq live h =
    let numbers = live.numbers in
    omega (arith, (live_number limit f.cases f.next seq h.0 live h.1).1)

-- a flag of a live case may change
pub pin_sound : (limit : ℕ) (f : Folded) (seq : ℕ) (flag : Bool) → AreLive limit f.cases f.next → IsLive f.cases seq → IsSound limit f (Pin seq flag)
pin_sound limit f seq flag live h = (number_small limit f seq live h, h)

-- and in version 2 its label
pub label_sound : (limit : ℕ) (f : Folded) (seq : ℕ) (text : List ℕ) → AreLive limit f.cases f.next → f.version ≡ 2 → IsLive f.cases seq → IsLabel text
    → IsSound limit f (Label seq text)
label_sound limit f seq text live version h label = (version, number_small limit f seq live h, h, label)

-- cases that are live and not pinned may be dropped, by their numbers in order
pub drop_sound : (limit : ℕ) (f : Folded) (seqs : List ℕ) → AreLive limit f.cases f.next → 0 < length seqs → Rise 0 seqs → AllByRecursion (IsDroppable f.cases) seqs
    → IsSound limit f (Drop seqs)
drop_sound limit f seqs live some rise each = (some, rise, small seqs each, each)
  where
    small : (l : List ℕ) → AllByRecursion (IsDroppable f.cases) l → AllByRecursion (λ (seq : ℕ). seq < 2 ^ 32) l
    small [] h = tt
    small (seq ∷ rest) h = (number_small limit f seq live (h.0.0, h.0.1), small rest h.1)

-- the cases that pass a test may be dropped, if there are any, and no pinned one passes
pub drop_chosen_sound : (limit : ℕ) (f : Folded) (test : Case → Bool) → AreLive limit f.cases f.next → 0 < length (filter test f.cases)
    → ((c : Case) → test c ≡ true → c.pinned ≡ false) → IsSound limit f (Drop (map seq_of_case (filter test f.cases)))
drop_chosen_sound limit f test live some free =
    drop_sound limit f (map seq_of_case (filter test f.cases)) live (long (filter test f.cases) some) (rise_kept test 0 f.cases live.rise)
    (each (filter test f.cases) (recursion_from_All (Contains f.cases) (filter test f.cases) (All-filter test (Contains f.cases) f.cases (All-contains_itself f.cases)))
    (recursion_from_All (λ (c : Case). test c ≡ true) (filter test f.cases) (filter_passes test f.cases)))
  where
    long : (l : List Case) → 0 < length l → 0 < length (map seq_of_case l)
    long [] h = h
    long (c ∷ rest) h = omega arith

    each : (l : List Case) → AllByRecursion (Contains f.cases) l → AllByRecursion (λ (c : Case). test c ≡ true) l → AllByRecursion (IsDroppable f.cases) (map seq_of_case l)
    each [] a b = tt
    each (c ∷ rest) a b = (live_droppable limit f.cases f.next c live a.0 (free c b.0), each rest a.1 b.1)

-- blocks of a live case

-- a case's blocks are among those of the cases
uses_at : (k : ℕ) (cases : List Case) (i : ℕ) (d : Case) → i < length cases → uses k (get_or cases i d).blocks ≤ uses k (used_blocks cases)
uses_at k [] i d within = absurd (omega arith)
uses_at k (c ∷ rest) zero d within = omega (arith, uses-append k c.blocks (used_blocks rest))
uses_at k (c ∷ rest) (suc i) d within = omega (arith, uses-append k c.blocks (used_blocks rest), uses_at k rest i d (omega (arith, within)))

pub uses_among : (k : ℕ) (cases : List Case) (c : Case) → Contains cases c → uses k c.blocks ≤ uses k (used_blocks cases)
uses_among k cases c among = subst (λ (d : Case). uses k d.blocks ≤ uses k (used_blocks cases)) among.2 (uses_at k cases among.0 c among.1)

-- the blocks of two cases together are among those of the cases
pub uses_of_two : (k : ℕ) (cases : List Case) (i j : ℕ) (d : Case) → i < j → j < length cases
    → uses k (get_or cases i d).blocks + uses k (get_or cases j d).blocks ≤ uses k (used_blocks cases)
uses_of_two k [] i j d less within = absurd (omega arith)
uses_of_two k (c ∷ rest) i zero d less within = absurd (omega arith)
uses_of_two k (c ∷ rest) zero (suc j) d less within = omega (arith, uses-append k c.blocks (used_blocks rest), uses_at k rest j d (omega (arith, within)))
uses_of_two k (c ∷ rest) (suc i) (suc j) d less within =
    omega (arith, uses-append k c.blocks (used_blocks rest), uses_of_two k rest i j d (omega (arith, less)) (omega (arith, within)))

-- a live case's blocks are data blocks, each of them once
pub live_blocks : (limit : ℕ) (cases : List Case) (next : ℕ) (c : Case) → AreLive limit cases next → Contains cases c
    → (k : ℕ) → 0 < uses k c.blocks → (k < limit) × (uses k c.blocks ≡ 1)
live_blocks limit cases next c live among k some =
    let all = uses_among k cases c among in
    (live.within k (omega arith), omega (arith, live.once k))
