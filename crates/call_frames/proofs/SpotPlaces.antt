-- The spots of a table's entries, one by one.
use Rattle.std.proofs.Common.{◌≡◌, ◌<◌, ◌+◌, ◌-◌, ℕ, zero, suc, Bool, true, false, cond, List, [], ◌∷◌, Option, None, Result, length, drop, refl, ap, ◌∙◌, sym, arith}
use Rattle.std.proofs.lemmas.Bool.{false≢true}
use Rattle.std.proofs.lemmas.List.{drop-drop}
use Rattle.std.specs.Option.{option_or}
use Rattle.call_frames.specs.Entry.{TableView, EntryView, told_length, is_whole, entry_at}
use Rattle.call_frames.specs.Walk.{is_end, entry_len, spots_past, sound_entry, with_entry, entries_among, fault_of, fault_among}
use Rattle.call_frames.specs.declared.faults.CfiField.{CfiField}
use Rattle.call_frames.specs.declared.spots.Spot.{Spot}

-- k places on, the spots are those of what is left there
spots_at : (k i p : ℕ) (xs : List ℕ) → spots_past k i p xs ≡ spots_past 0 i (p + k) (drop k xs)
unfolding spots_past
spots_at zero i p [] = refl
spots_at zero i p (x ∷ xs) =
    let same : p ≡ p + 0 = omega arith in ap (λ q. spots_past 0 i q (x ∷ xs)) same
spots_at (suc k) i p [] = refl
spots_at (suc k) i p (x ∷ xs) =
    let same : p + 1 + k ≡ p + suc k = omega arith in spots_at k i (p + 1) xs ∙ ap (λ q. spots_past 0 i q (drop k xs)) same

len_above : (t : Bool) (n m : ℕ) → 0 < m → 0 < cond t (4 + n) m
len_above true n m h = omega arith
len_above false n m h = h

-- no entry takes no bytes
pub entry_len_above : (rest : List ℕ) → 0 < length rest → 0 < entry_len rest
unfolding entry_len
entry_len_above rest h = len_above (is_whole rest) (told_length rest) (length rest) h

after : (n i p : ℕ) (x : ℕ) (xs : List ℕ) → 0 < n → spots_past (n - 1) i (p + 1) xs ≡ spots_past 0 i (p + n) (drop n (x ∷ xs))
after zero i p x xs h = absurd (omega arith)
after (suc n) i p x xs h =
    let less : suc n - 1 ≡ n = omega arith in
    let same : p + 1 + n ≡ p + suc n = omega arith in
    ap (λ k. spots_past k i (p + 1) xs) less ∙ spots_at n i (p + 1) xs ∙ ap (λ q. spots_past 0 i q (drop n xs)) same

-- the first spot, and those after its entry
pub spots_step : (i p : ℕ) (rest : List ℕ) → is_end rest ≡ false → spots_past 0 i p rest ≡ (record { index = i; place = p }) ∷ spots_past 0 (i + 1) (p + entry_len rest) (drop (entry_len rest) rest)
unfolding spots_past is_end
spots_step i p [] h = absurd (false≢true (sym h))
spots_step i p (x ∷ xs) h =
    let first : Spot = record { index = i; place = p } in
    ap (λ t. cond t [] (first ∷ spots_past (entry_len (x ∷ xs) - 1) (i + 1) (p + 1) xs)) h
    ∙ ap (λ ss. first ∷ ss) (after (entry_len (x ∷ xs)) (i + 1) p x xs (entry_len_above (x ∷ xs) (omega arith)))

pub spots_end : (i p : ℕ) (rest : List ℕ) → is_end rest ≡ true → spots_past 0 i p rest ≡ []
unfolding spots_past
spots_end i p [] h = refl
spots_end i p (x ∷ xs) h =
    let first : Spot = record { index = i; place = p } in
    ap (λ t. cond t [] (first ∷ spots_past (entry_len (x ∷ xs) - 1) (i + 1) (p + 1) xs)) h

-- the same of a table's bytes, from place p on
pub spots_next : (b rest : List ℕ) (i p n : ℕ) → rest ≡ drop p b → is_end rest ≡ false → n ≡ entry_len rest → spots_past 0 i p (drop p b) ≡ (record { index = i; place = p }) ∷ spots_past 0 (i + 1) (p + n) (drop (p + n) b)
spots_next b rest i p n is h size =
    let first : Spot = record { index = i; place = p } in
    ap (spots_past 0 i p) (sym is)
    ∙ spots_step i p rest h
    ∙ ap (λ r. first ∷ spots_past 0 (i + 1) (p + entry_len rest) r) (ap (drop (entry_len rest)) is ∙ drop-drop (entry_len rest) p b)
    ∙ ap (λ k. first ∷ spots_past 0 (i + 1) (p + k) (drop (p + k) b)) (sym size)

-- something is left if there is an entry
pub some_left : (rest : List ℕ) → is_end rest ≡ false → 0 < length rest
unfolding is_end
some_left [] h = absurd (false≢true (sym h))
some_left (x ∷ xs) h = omega arith

-- the entries at spots, once the first is read
pub entries_step : (t : TableView) (ss rest : List Spot) (s : Spot) (o : Option EntryView) → ss ≡ s ∷ rest → o ≡ sound_entry (entry_at t s) → entries_among t ss ≡ with_entry o (entries_among t rest)
unfolding entries_among
entries_step t ss rest s o is at = ap (entries_among t) is ∙ ap (λ q. with_entry q (entries_among t rest)) (sym at)

pub entries_none : (t : TableView) (ss : List Spot) → ss ≡ [] → entries_among t ss ≡ []
unfolding entries_among
entries_none t ss is = ap (entries_among t) is

pub fault_step : (t : TableView) (ss rest : List Spot) (s : Spot) (r : Result (Option EntryView) CfiField) → ss ≡ s ∷ rest → r ≡ entry_at t s → fault_among t ss ≡ option_or (fault_of s r) (fault_among t rest)
unfolding fault_among
fault_step t ss rest s r is at =
    ap (fault_among t) is ∙ ap (λ q. option_or (fault_of s q) (fault_among t rest)) (sym at)

pub fault_none : (t : TableView) (ss : List Spot) → ss ≡ [] → fault_among t ss ≡ None
unfolding fault_among
fault_none t ss is = ap (fault_among t) is
