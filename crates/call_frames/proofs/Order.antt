-- The FDEs of a table are in the order of their numbers, and each is read again at its spot.
use Rattle.std.proofs.Common.{◌≡◌, ◌≤◌, ◌+◌, ◌-◌, ℕ, zero, suc, Bool, true, false, cond, List, [], ◌∷◌, map, find, Option, Some, None, Result, Ok, Err, drop, ltb, refl, sym, ap, subst, ◌∙◌, arith}
use Rattle.std.proofs.lemmas.Bool.{lt-ltb}
use Rattle.std.specs.List.{AllByRecursion}
use Rattle.std.specs.Option.{option_and_then, option_map}
use Rattle.call_frames.specs.Chain.{checked, and_then}
use Rattle.call_frames.specs.CommonEntry.{CieView, cie_in}
use Rattle.call_frames.specs.Covering.{covers, span_of, is_covering, earlier, earliest, first_covering}
use Rattle.call_frames.specs.Entry.{TableView, EntryView, framed, id_of, is_cie, cie_of, begin_address, behind_data, fde_in, entry_in, entry_at}
use Rattle.call_frames.specs.Pointers.{pointer, extent}
use Rattle.call_frames.specs.Walk.{is_end, entry_len, spots_past, sound_entry, with_entry, entries_among, entries_of}
use Rattle.call_frames.specs.declared.faults.CfiField.{CfiField}
use Rattle.call_frames.specs.declared.spans.Span.{Span}
use Rattle.call_frames.specs.declared.spots.Spot.{Spot}
use Rattle.call_frames.proofs.Earliest.{Rising}

-- the spot of an FDE
abbrev pub spot_of : EntryView → Spot
spot_of e = record { index = e.index; place = e.place }

-- what holds of all that a sound field may lead to holds of what it led to
checked_to : {A B : Type 0} → (P : B → Type 0) (o : Option A) (f : CfiField) (next : A → Result B CfiField) (y : B) → ((x : A) → next x ≡ Ok y → P y) → checked o f next ≡ Ok y → P y
checked_to P None f next y h is = cc
checked_to P (Some x) f next y h is = h x is

then_to : {A B : Type 0} → (P : B → Type 0) (r : Result A CfiField) (next : A → Result B CfiField) (y : B) → ((x : A) → next x ≡ Ok y → P y) → and_then r next ≡ Ok y → P y
then_to P (Ok x) next y h is = h x is
then_to P (Err f) next y h is = cc

same_result : {A : Type 0} → (r q : Result A CfiField) (x y : A) → r ≡ q → r ≡ Ok x → q ≡ Ok y → x ≡ y
same_result r q x y h p k = cc

-- an FDE has the spot at which it is read
fde_spot : (t : TableView) (s : Spot) (body : List ℕ) (e : EntryView) → fde_in t s body ≡ Ok e → s ≡ spot_of e
unfolding fde_in
fde_spot t s body e is =
    let P : EntryView → Type 0 = λ (e : EntryView). s ≡ spot_of e in
    checked_to P (cie_of t s.place (id_of body)) _ _ e (λ cie.
    checked_to P (pointer cie.encoding (begin_address t s.place) (drop 4 body)) _ _ e (λ begin.
    checked_to P (extent cie.encoding begin.1) _ _ e (λ range.
    checked_to P (behind_data cie.augmented range.1) _ _ e (λ program h. ap spot_of (same_result _ _ _ _ h refl refl))))) is

fde_then : (s : Spot) (r : Result EntryView CfiField) (e : EntryView) → ((x : EntryView) → r ≡ Ok x → s ≡ spot_of x) → and_then r (λ entry. Ok (Some entry)) ≡ Ok (Some e) → s ≡ spot_of e
fde_then s (Ok x) e own is =
    let same : x ≡ e = cc in own x refl ∙ ap spot_of same
fde_then s (Err f) e own is = cc

none_then : (r : Result CieView CfiField) (e : EntryView) → and_then r (λ cie. Ok None) ≡ Ok (Some e) → ⊥
none_then (Ok x) e is = cc
none_then (Err f) e is = cc

in_spot : (t : TableView) (s : Spot) (body : List ℕ) (e : EntryView) (u : Bool) → cond u (and_then (cie_in t.format (drop 4 body)) (λ cie. Ok None)) (and_then (fde_in t s body) (λ entry. Ok (Some entry))) ≡ Ok (Some e) → s ≡ spot_of e
in_spot t s body e true is = absurd (none_then (cie_in t.format (drop 4 body)) e is)
in_spot t s body e false is = fde_then s (fde_in t s body) e (fde_spot t s body) is

entry_spot : (t : TableView) (s : Spot) (e : EntryView) → entry_at t s ≡ Ok (Some e) → s ≡ spot_of e
unfolding entry_at
entry_spot t s e is =
    then_to (λ (o : Option EntryView). s ≡ spot_of e) (framed (drop s.place t.bytes)) (entry_in t s) (Some e) (λ body h. in_spot t s body e (is_cie t.format body) h) is

sound_spot_of : (t : TableView) (s : Spot) (e : EntryView) (r : Result (Option EntryView) CfiField) → r ≡ entry_at t s → sound_entry r ≡ Some e → s ≡ spot_of e
sound_spot_of t s e (Ok o) at is = entry_spot t s e (sym at ∙ ap (λ o. Ok o) is)
sound_spot_of t s e (Err f) at is = cc

sound_spot : (t : TableView) (s : Spot) (e : EntryView) → sound_entry (entry_at t s) ≡ Some e → s ≡ spot_of e
sound_spot t s e is = sound_spot_of t s e (entry_at t s) refl is

-- an FDE is what is read at its spot
abbrev pub IsOwn : TableView → EntryView → Type 0
IsOwn t e = sound_entry (entry_at t (spot_of e)) ≡ Some e

own_with : (t : TableView) (s : Spot) (o : Option EntryView) (es : List EntryView) → sound_entry (entry_at t s) ≡ o → AllByRecursion (IsOwn t) es → AllByRecursion (IsOwn t) (with_entry o es)
own_with t s None es is all = all
own_with t s (Some e) es is all = (subst (λ (s : Spot). sound_entry (entry_at t s) ≡ Some e) (sound_spot t s e is) is, all)

pub all_own : (t : TableView) (ss : List Spot) → AllByRecursion (IsOwn t) (entries_among t ss)
unfolding entries_among
all_own t [] = tt
all_own t (s ∷ ss) = own_with t s (sound_entry (entry_at t s)) (entries_among t ss) refl (all_own t ss)

all_weaker : {A : Type 0} → (P Q : A → Type 0) → ((x : A) → P x → Q x) → (xs : List A) → AllByRecursion P xs → AllByRecursion Q xs
all_weaker P Q f [] all = tt
all_weaker P Q f (x ∷ xs) all = (f x all.0, all_weaker P Q f xs all.1)

-- the numbers of spots rise
abbrev RisingSpots : List Spot → Type 0
RisingSpots [] = Unit {0}
RisingSpots (s ∷ ss) = AllByRecursion (λ (o : Spot). s.index + 1 ≤ o.index) ss × RisingSpots ss

low_cond : (i p : ℕ) (t : Bool) (ss : List Spot) → AllByRecursion (λ (s : Spot). i + 1 ≤ s.index) ss → AllByRecursion (λ (s : Spot). i ≤ s.index) (cond t [] ((record { index = i; place = p }) ∷ ss))
low_cond i p true ss all = tt
low_cond i p false ss all = (omega arith, all_weaker (λ (s : Spot). i + 1 ≤ s.index) (λ (s : Spot). i ≤ s.index) (λ s h. omega arith) ss all)

spots_low : (k i p : ℕ) (xs : List ℕ) → AllByRecursion (λ (s : Spot). i ≤ s.index) (spots_past k i p xs)
unfolding spots_past
spots_low k i p [] = tt
spots_low zero i p (x ∷ xs) =
    low_cond i p (is_end (x ∷ xs)) (spots_past (entry_len (x ∷ xs) - 1) (i + 1) (p + 1) xs) (spots_low (entry_len (x ∷ xs) - 1) (i + 1) (p + 1) xs)
spots_low (suc k) i p (x ∷ xs) = spots_low k i (p + 1) xs

rising_cond : (i p : ℕ) (t : Bool) (ss : List Spot) → AllByRecursion (λ (s : Spot). i + 1 ≤ s.index) ss → RisingSpots ss → RisingSpots (cond t [] ((record { index = i; place = p }) ∷ ss))
rising_cond i p true ss all rising = tt
rising_cond i p false ss all rising = (all, rising)

pub spots_rising : (k i p : ℕ) (xs : List ℕ) → RisingSpots (spots_past k i p xs)
unfolding spots_past
spots_rising k i p [] = tt
spots_rising zero i p (x ∷ xs) =
    rising_cond i p (is_end (x ∷ xs)) (spots_past (entry_len (x ∷ xs) - 1) (i + 1) (p + 1) xs) (spots_low (entry_len (x ∷ xs) - 1) (i + 1) (p + 1) xs) (spots_rising (entry_len (x ∷ xs) - 1) (i + 1) (p + 1) xs)
spots_rising (suc k) i p (x ∷ xs) = spots_rising k i (p + 1) xs

-- the numbers of FDEs are those of their spots
abbrev AllFrom : ℕ → List Span → Type 0
AllFrom n spans = AllByRecursion (λ (o : Span). n ≤ o.spot.index) spans

from_with : (t : TableView) (n : ℕ) (s : Spot) (o : Option EntryView) (es : List EntryView) → sound_entry (entry_at t s) ≡ o → n ≤ s.index → AllFrom n (map span_of es) → AllFrom n (map span_of (with_entry o es))
from_with t n s None es is low all = all
from_with t n s (Some e) es is low all = (subst (λ (s : Spot). n ≤ s.index) (sound_spot t s e is) low, all)

entries_from : (t : TableView) (n : ℕ) (ss : List Spot) → AllByRecursion (λ (s : Spot). n ≤ s.index) ss → AllFrom n (map span_of (entries_among t ss))
unfolding entries_among
entries_from t n [] all = tt
entries_from t n (s ∷ ss) all =
    from_with t n s (sound_entry (entry_at t s)) (entries_among t ss) refl all.0 (entries_from t n ss all.1)

rising_with : (t : TableView) (s : Spot) (o : Option EntryView) (es : List EntryView) → sound_entry (entry_at t s) ≡ o → AllFrom (s.index + 1) (map span_of es) → Rising (map span_of es) → Rising (map span_of (with_entry o es))
rising_with t s None es is all rising = rising
rising_with t s (Some e) es is all rising = (subst (λ (s : Spot). AllFrom (s.index + 1) (map span_of es)) (sound_spot t s e is) all, rising)

pub entries_rising : (t : TableView) (ss : List Spot) → RisingSpots ss → Rising (map span_of (entries_among t ss))
unfolding entries_among
entries_rising t [] rising = tt
entries_rising t (s ∷ ss) rising =
    rising_with t s (sound_entry (entry_at t s)) (entries_among t ss) refl (entries_from t (s.index + 1) ss rising.0) (entries_rising t ss rising.1)

-- the earliest span is that of the first FDE
abbrev Above : ℕ → Option Span → Type 0
Above n None = Unit {0}
Above n (Some o) = n ≤ o.spot.index

above_two : (n : ℕ) (t : Bool) (s o : Span) → n ≤ s.spot.index → n ≤ o.spot.index → Above n (cond t (Some s) (Some o))
above_two n true s o p q = p
above_two n false s o p q = q

above_with : (n : ℕ) (t : Bool) (s : Span) (best : Option Span) → n ≤ s.spot.index → Above n best → Above n (cond t (earlier s best) best)
above_with n false s best p q = q
above_with n true s None p q = p
above_with n true s (Some o) p q = above_two n (ltb s.spot.index o.spot.index) s o p q

earliest_above : (v n : ℕ) (ss : List Span) → AllFrom n ss → Above n (earliest v ss)
earliest_above v n [] all = tt
earliest_above v n (s ∷ ss) all = above_with n (is_covering v s) s (earliest v ss) all.0 (earliest_above v n ss all.1)

stays : (s : Span) (best : Option Span) → Above (s.spot.index + 1) best → earlier s best ≡ Some s
stays s None above = refl
stays s (Some o) above =
    let less = lt-ltb s.spot.index o.spot.index (omega arith) in ap (λ t. cond t (Some s) (Some o)) less

first_with : (v : ℕ) (t : Bool) (e : EntryView) (es : List EntryView) (best : Option Span) (found : Option EntryView) → Above (e.index + 1) best → best ≡ option_map span_of found → cond t (earlier (span_of e) best) best ≡ option_map span_of (cond t (Some e) found)
first_with v true e es best found above same = stays (span_of e) best above
first_with v false e es best found above same = same

pub earliest_first : (v : ℕ) (es : List EntryView) → Rising (map span_of es) → earliest v (map span_of es) ≡ option_map span_of (find (covers v) es)
earliest_first v [] rising = refl
earliest_first v (e ∷ es) rising =
    first_with v (covers v e) e es (earliest v (map span_of es)) (find (covers v) es) (earliest_above v (e.index + 1) (map span_of es) rising.0) (earliest_first v es rising.1)

again_with : (t : TableView) (v : ℕ) (u : Bool) (e : EntryView) (found : Option EntryView) → IsOwn t e → option_and_then (λ (s : Span). sound_entry (entry_at t s.spot)) (option_map span_of found) ≡ found → option_and_then (λ (s : Span). sound_entry (entry_at t s.spot)) (option_map span_of (cond u (Some e) found)) ≡ cond u (Some e) found
again_with t v true e found own same = own
again_with t v false e found own same = same

-- what is kept of the first FDE leads to it
again : (t : TableView) (v : ℕ) (es : List EntryView) → AllByRecursion (IsOwn t) es → option_and_then (λ (s : Span). sound_entry (entry_at t s.spot)) (option_map span_of (find (covers v) es)) ≡ find (covers v) es
again t v [] own = refl
again t v (e ∷ es) own = again_with t v (covers v e) e (find (covers v) es) own.0 (again t v es own.1)

pub all_rising : (t : TableView) → Rising (map span_of (entries_of t))
all_rising t = entries_rising t (spots_past 0 0 0 t.bytes) (spots_rising 0 0 0 t.bytes)

pub read_again : (t : TableView) (v : ℕ) (o : Option Span) → o ≡ earliest v (map span_of (entries_of t)) → option_and_then (λ (s : Span). sound_entry (entry_at t s.spot)) o ≡ first_covering v t
read_again t v o is =
    ap (option_and_then (λ (s : Span). sound_entry (entry_at t s.spot))) (is ∙ earliest_first v (entries_of t) (all_rising t)) ∙ again t v (entries_of t) (all_own t (spots_past 0 0 0 t.bytes))
