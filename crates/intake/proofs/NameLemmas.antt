-- The names of the cases and of the streams, in a set.
use Rattle.std.proofs.Common.{◌≡◌, inl, inr, ℕ, zero, suc, ◌+◌, ◌<◌, ◌≤◌, Bool, true, false, ◌||◌, cond, List, [], ◌∷◌, ◌++◌, length, map, get_or, take, Option, None, Some, Result, Ok, Err, refl, sym, ap, ◌∙◌, subst, arith}
use Rattle.std.specs.List.{list_any, count_by}
use Rattle.std.specs.Str.{bytes_eq}
use Rattle.std.specs.BTreeSet.{BTreeSet}
use Rattle.arrayvec.specs.ArrayVec.{ArrayVec}
use Rattle.std.proofs.lemmas.List.{get_or-map, length-map, map-append, take_more}
use Rattle.std.proofs.lemmas.List.Sums.{sum_by-cons}
use Rattle.std.proofs.lemmas.Slice.Eq.{bytes_eq-Decides}
use Rattle.extents.specs.FreeSet.{one_if}
use Rattle.journal_layout.specs.declared.entry.Entry.{Entry}
use Rattle.journal_layout.specs.Case.{Case, case_of}
use Rattle.journal_layout.specs.Folding.{dropped, with_pin, with_label}
use Rattle.journal_layout.specs.Live.{gone}
use Rattle.journal_layout.specs.LiveCounts.{named_stored, named_dropped, named_pinned, named_labelled}
use Rattle.journal_records.specs.Kept.{AreNames}
use Rattle.std.specs.Prelude.{option_map, slice_set, replicate}
use Rattle.std.proofs.lemmas.Bool.{cases_lt}
use Rattle.std.proofs.lemmas.List.{get_or_past}
use Rattle.std.proofs.lemmas.List.Sums.{sum_by-set}
use Rattle.intake.specs.declared.faults.ArchiveFault.TheVariants as fault
use Rattle.intake.specs.Ending.{EndsStreams}
use Rattle.intake.specs.Lending.{slots_left, with_room}
use Rattle.intake.specs.Room.{SlotReply}
use Rattle.intake.specs.Slots.{stream_at}
use Rattle.intake.specs.Sound.{is_called, streams_named}
use Rattle.intake.specs.Step.{is_taken, has_name as is_name_in, is_named}
use Rattle.journal_records.specs.Named.{has_name}
use Rattle.case_journal.specs.Append.{StoreRefused}
use Rattle.case_journal.specs.Journaled.{Journaled}
use Rattle.case_journal.specs.declared.faults.JournalFault.{JournalFault}
use Rattle.case_journal.specs.declared.faults.JournalFault.TheVariants as journal_fault
use Rattle.intake.specs.Closing.{Appends}
use Rattle.intake.specs.Live.{cases_named}
use Rattle.intake.specs.Names.{KeepsName, ForgetsName, ForgetsNames, is_one_of, items_of, name_of_case, names_gone, AreTaken}
use Rattle.intake.specs.Parts.{Parts, StreamParts, stream_facts, state_of}
use Rattle.intake.specs.declared.faults.ArchiveFault.{ArchiveFault}
use Rattle.intake.proofs.ListedLemmas.{gone-append}
use Rattle.intake.proofs.StepLemmas.{list_any-map, none_of, new_name}

one_true : (t : Bool) → 1 ≤ one_if t → t ≡ true
one_true true some = refl
one_true false some = absurd (omega arith)

one_false : (t : Bool) → one_if t ≡ 0 → t ≡ false
one_false true none = absurd (omega arith)
one_false false none = refl

one_most : (t : Bool) → one_if t ≤ 1
one_most true = omega arith
one_most false = omega arith

-- a name that is among some is counted
some_of : {X : Type 0} (P : X → Bool) (xs : List X) → list_any P xs ≡ true → 1 ≤ count_by P xs
some_of P [] e = absurd (let h : false ≡ true = e in cc)
some_of P (x ∷ xs) e = of (P x) refl (some_of P xs)
  where
    of : (t : Bool) → P x ≡ t → (list_any P xs ≡ true → 1 ≤ count_by P xs) → 1 ≤ count_by P (x ∷ xs)
    of true here rest = (let s = sum_by-cons (λ y. cond (P y) 1 0) x xs in let h : one_if (P x) ≡ 1 = ap one_if here in omega (arith, s, h))
    of false here rest =
        let s = sum_by-cons (λ y. cond (P y) 1 0) x xs in
        let more = rest (sym (ap (λ t. t || list_any P xs) here) ∙ e) in
        omega (arith, s, more)

-- a name that is taken is that of a case or of a stream
some_taken : {D : Type 0} (a : Parts D) (name : List ℕ) → is_taken (state_of a) name ≡ true → 1 ≤ cases_named a.journal.standing.cases name + streams_named a.streams name
some_taken a name e = of (is_named name a.journal.standing.cases) refl
  where
    of : (t : Bool) → is_named name a.journal.standing.cases ≡ t → 1 ≤ cases_named a.journal.standing.cases name + streams_named a.streams name
    of true here = (let s = some_of (λ (c : Case). bytes_eq c.origin.name name) a.journal.standing.cases here in omega (arith, s))
    of false here =
        let s = some_of (is_called name) a.streams (sym (list_any-map (is_name_in name) (option_map stream_facts) a.streams) ∙ sym (ap (λ t. t || list_any (is_name_in name) (map (option_map stream_facts) a.streams)) here) ∙ e) in
        omega (arith, s)

-- whether the set has a name, where it has those that are taken
pub taken_is : {D : Type 0} (a : Parts D) (names : BTreeSet (ℕ × ArrayVec ℕ)) (name : List ℕ) → AreTaken a.journal.standing.cases a.streams names → has_name names name ≡ is_taken (state_of a) name
taken_is a names name are = of (is_taken (state_of a) name) refl
  where
    of : (t : Bool) → is_taken (state_of a) name ≡ t → has_name names name ≡ t
    of true e = (let s = some_taken a name e in let h = are name in one_true (has_name names name) (omega (arith, s, h)))
    of false e = (let n = new_name a name e in let x = n.0 in let y = n.1 in let h = are name in one_false (has_name names name) (omega (arith, x, y, h)))

-- how many streams have a name, once something else stands in a slot
named_with : (streams : List (Option StreamParts)) (slot : ℕ) (o o' : Option StreamParts) (q : List ℕ) → slot < length streams → stream_at streams slot ≡ o
    → streams_named (slice_set streams slot o') q + one_if (is_called q o) ≡ streams_named streams q + one_if (is_called q o')
named_with streams slot o o' q below there =
    let s = sum_by-set (λ (x : Option StreamParts). one_if (is_called q x)) streams slot o' None below in
    let e = ap (λ (x : Option StreamParts). one_if (is_called q x)) there in
    omega (arith, s, e)

-- a stream stands in one of the slots
slot_there : (streams : List (Option StreamParts)) (slot : ℕ) (s : StreamParts) → stream_at streams slot ≡ Some s → slot < length streams
slot_there streams slot s is =
    elim (cases_lt slot (length streams)) as (λ _. slot < length streams) [ inl lt ↦ lt | inr high ↦ absurd (let e : None ≡ Some s = sym (get_or_past streams slot None high) ∙ is in cc) ]

-- a stream is begun, and its name kept
pub taken_begun : (cases : List Case) (streams streams' : List (Option StreamParts)) (slot : ℕ) (s : StreamParts) (a b : BTreeSet (ℕ × ArrayVec ℕ)) → AreTaken cases streams a → slot < length streams → stream_at streams slot ≡ None
    → streams' ≡ slice_set streams slot (Some s) → has_name a s.facts.origin.name ≡ false → KeepsName (Ok tt) s.facts.origin.name a b → AreTaken cases streams' b
taken_begun cases streams streams' slot s a b are below none now fresh keeps = subst (λ (x : List (Option StreamParts)). AreTaken cases x b) (sym now) each
  where
    each : AreTaken cases (slice_set streams slot (Some s)) b
    each q = of (bytes_eq s.facts.origin.name q) refl
      where
        of : (t : Bool) → bytes_eq s.facts.origin.name q ≡ t → cases_named cases q + streams_named (slice_set streams slot (Some s)) q ≡ one_if (has_name b q)
        of true e =
            let n = named_with streams slot None (Some s) q below none in
            let c : one_if (bytes_eq s.facts.origin.name q) ≡ 1 = ap one_if e in
            let f : one_if (has_name a q) ≡ 0 = ap one_if (ap (has_name a) (sym ((bytes_eq-Decides s.facts.origin.name q).0 e)) ∙ fresh) in
            let h : one_if (has_name b q) ≡ 1 = ap one_if (keeps q ∙ ap (λ t. t || has_name a q) e) in
            omega (arith, n, c, f, h, are q)
        of false e =
            let n = named_with streams slot None (Some s) q below none in
            let c : one_if (bytes_eq s.facts.origin.name q) ≡ 0 = ap one_if e in
            let h : one_if (has_name b q) ≡ one_if (has_name a q) = ap one_if (keeps q ∙ ap (λ t. t || has_name a q) e) in
            omega (arith, n, c, h, are q)

-- a stream is dropped, and its name forgotten
pub taken_dropped : (cases : List Case) (streams streams' : List (Option StreamParts)) (slot : ℕ) (s : StreamParts) (a b : BTreeSet (ℕ × ArrayVec ℕ)) → AreTaken cases streams a → stream_at streams slot ≡ Some s
    → streams' ≡ slice_set streams slot None → ForgetsName s.facts.origin.name a b → AreTaken cases streams' b
taken_dropped cases streams streams' slot s a b are is now forgets = subst (λ (x : List (Option StreamParts)). AreTaken cases x b) (sym now) each
  where
    each : AreTaken cases (slice_set streams slot None) b
    each q = of (bytes_eq s.facts.origin.name q) refl
      where
        of : (t : Bool) → bytes_eq s.facts.origin.name q ≡ t → cases_named cases q + streams_named (slice_set streams slot None) q ≡ one_if (has_name b q)
        of true e =
            let n = named_with streams slot (Some s) None q (slot_there streams slot s is) is in
            let c : one_if (bytes_eq s.facts.origin.name q) ≡ 1 = ap one_if e in
            let h : one_if (has_name b q) ≡ 0 = ap one_if (forgets q ∙ ap (λ t. cond t false (has_name a q)) e) in
            omega (arith, n, c, h, are q, one_most (has_name a q))
        of false e =
            let n = named_with streams slot (Some s) None q (slot_there streams slot s is) is in
            let c : one_if (bytes_eq s.facts.origin.name q) ≡ 0 = ap one_if e in
            let h : one_if (has_name b q) ≡ one_if (has_name a q) = ap one_if (forgets q ∙ ap (λ t. cond t false (has_name a q)) e) in
            omega (arith, n, c, h, are q)

-- another stream of the same name stands in the slot
pub taken_grown : (cases : List Case) (streams streams' : List (Option StreamParts)) (slot : ℕ) (s s' : StreamParts) (a : BTreeSet (ℕ × ArrayVec ℕ)) → AreTaken cases streams a → stream_at streams slot ≡ Some s
    → streams' ≡ slice_set streams slot (Some s') → s'.facts.origin.name ≡ s.facts.origin.name → AreTaken cases streams' a
taken_grown cases streams streams' slot s s' a are is now same = subst (λ (x : List (Option StreamParts)). AreTaken cases x a) (sym now)
    (λ q. (let n = named_with streams slot (Some s) (Some s') q (slot_there streams slot s is) is in
    let e = ap (λ (n : List ℕ). one_if (bytes_eq n q)) same in
    omega (arith, n, e, are q)))

-- the free part of a slot's block was lent
pub taken_lent : (cases : List Case) (streams : List (Option StreamParts)) (slot : ℕ) (b : Bool) (r : Result (Unit {0}) ArchiveFault) (ws : List ℕ) (a : BTreeSet (ℕ × ArrayVec ℕ)) → AreTaken cases streams a
    → SlotReply b streams slot r → AreTaken cases (slots_left streams slot r ws) a
taken_lent cases streams slot b (Err f) ws a are reply = are
taken_lent cases streams slot b (Ok u) ws a are reply = here (stream_at streams slot) refl
  where
    here : (o : Option StreamParts) → stream_at streams slot ≡ o → AreTaken cases (slice_set streams slot (option_map (with_room ws) (stream_at streams slot))) a
    here None is = absurd (reply.1 is)
    here (Some s) is =
        subst (λ (o : Option StreamParts). AreTaken cases (slice_set streams slot (option_map (with_room ws) o)) a) (sym is)
        (taken_grown cases streams (slice_set streams slot (Some (with_room ws s))) slot s (with_room ws s) a are is refl refl)

-- a stream became the last case
pub taken_stored : (cases : List Case) (streams streams' : List (Option StreamParts)) (slot : ℕ) (s : StreamParts) (x : Case) (a : BTreeSet (ℕ × ArrayVec ℕ)) → AreTaken cases streams a → stream_at streams slot ≡ Some s
    → streams' ≡ slice_set streams slot None → x.origin.name ≡ s.facts.origin.name → AreTaken (cases ++ x ∷ []) streams' a
taken_stored cases streams streams' slot s x a are is now called = subst (λ (xs : List (Option StreamParts)). AreTaken (cases ++ x ∷ []) xs a) (sym now)
    (λ q. (let n = named_with streams slot (Some s) None q (slot_there streams slot s is) is in
    let m = named_stored cases x q in
    let e = ap (λ (n : List ℕ). one_if (bytes_eq n q)) called in
    omega (arith, n, m, e, are q)))

-- no stream is open yet
none_called : (n : ℕ) (q : List ℕ) → streams_named (replicate n None) q ≡ 0
none_called zero q = refl
none_called (suc n) q = (let s = sum_by-cons (λ (x : Option StreamParts). one_if (is_called q x)) None (replicate n None) in omega (arith, s, none_called n q))

pub taken_opened : (cases : List Case) (streams : List (Option StreamParts)) (a : BTreeSet (ℕ × ArrayVec ℕ)) → AreNames cases a → streams ≡ replicate 8 None → AreTaken cases streams a
taken_opened cases streams a are none = subst (λ (x : List (Option StreamParts)). AreTaken cases x a) (sym none)
    (λ q. (let n = none_called 8 q in let h = are q in omega (arith, n, h)))

-- after a refusal that did not stop it the streams are as they were
pub still_open : (f : ArchiveFault) (old new : List (Option StreamParts)) (b : Bool) → EndsStreams f old b new → b ≡ false → new ≡ old
still_open fault.Disk old new b ends on = absurd (let e : true ≡ false = sym ends.0 ∙ on in cc)
still_open _ old new b ends on = ends.1

pub taken_still : (f : ArchiveFault) (cases : List Case) (old new : List (Option StreamParts)) (b : Bool) (a : BTreeSet (ℕ × ArrayVec ℕ)) → EndsStreams f old b new → AreTaken cases old a → b ≡ false → AreTaken cases new a
taken_still f cases old new b a ends are on = subst (λ (x : List (Option StreamParts)). AreTaken cases x a) (sym (still_open f old new b ends on)) are

-- the names of the cases that are left, once those of the dropped ones are forgotten
pub names_left : (seqs : List ℕ) (cases : List Case) (streams : List (Option StreamParts)) (names : List (ArrayVec ℕ)) (a b : BTreeSet (ℕ × ArrayVec ℕ)) → AreTaken cases streams a → map items_of names ≡ names_gone seqs cases → ForgetsNames names a b → AreTaken (dropped seqs cases) streams b
names_left seqs cases streams names a b are same forgets q = of (is_one_of names q) refl
  where
    among : is_named q (gone seqs cases) ≡ is_one_of names q
    among =
        sym (list_any-map (λ (n : List ℕ). bytes_eq n q) name_of_case (gone seqs cases))
        ∙ ap (list_any (λ (n : List ℕ). bytes_eq n q)) (sym same) ∙ list_any-map (λ (n : List ℕ). bytes_eq n q) items_of names

    of : (t : Bool) → is_one_of names q ≡ t → cases_named (dropped seqs cases) q + streams_named streams q ≡ one_if (has_name b q)
    of true e =
        let all = named_dropped seqs cases q in
        let some = some_of (λ (c : Case). bytes_eq c.origin.name q) (gone seqs cases) (among ∙ e) in
        let h : one_if (has_name b q) ≡ 0 = ap one_if (forgets q ∙ ap (λ t. cond t false (has_name a q)) e) in
        omega (arith, all, some, h, are q, one_most (has_name a q))
    of false e =
        let all = named_dropped seqs cases q in
        let none = none_of (λ (c : Case). bytes_eq c.origin.name q) (gone seqs cases) (among ∙ e) in
        let h : one_if (has_name b q) ≡ one_if (has_name a q) = ap one_if (forgets q ∙ ap (λ t. cond t false (has_name a q)) e) in
        omega (arith, all, none, h, are q)

pub names_pinned : (seq : ℕ) (flag : Bool) (cases : List Case) (streams : List (Option StreamParts)) (a : BTreeSet (ℕ × ArrayVec ℕ)) → AreTaken cases streams a → AreTaken (with_pin seq flag cases) streams a
names_pinned seq flag cases streams a are q = ap (λ n. n + streams_named streams q) (named_pinned seq flag cases q) ∙ are q

pub names_labelled : (seq : ℕ) (text : List ℕ) (cases : List Case) (streams : List (Option StreamParts)) (a : BTreeSet (ℕ × ArrayVec ℕ)) → AreTaken cases streams a → AreTaken (with_label seq text cases) streams a
names_labelled seq text cases streams a are q = ap (λ n. n + streams_named streams q) (named_labelled seq text cases q) ∙ are q

-- a refused record leaves the cases
still_stored : (j j' : Journaled) (c : Case) (jf : JournalFault) → StoreRefused j c jf j' → j'.standing.cases ≡ j.standing.cases
still_stored j j' c journal_fault.Stopped refused = ap (λ (k : Journaled). k.standing.cases) refused.1
still_stored j j' c journal_fault.JournalFull refused = ap (λ (k : Journaled). k.standing.cases) refused.2
still_stored j j' c journal_fault.NumbersSpent refused = ap (λ (k : Journaled). k.standing.cases) refused.3
still_stored j j' c journal_fault.OutOfMemory refused = ap (λ (k : Journaled). k.standing.cases) refused.3
still_stored j j' c journal_fault.Disk refused = ap (λ (k : Journaled). k.standing.cases) refused.3
still_stored j j' c journal_fault.OldVersion refused = absurd refused

pub still_there : (j j' : Journaled) (c : Case) (f : ArchiveFault) → Appends j c (Err f) j' → j'.standing.cases ≡ j.standing.cases
still_there j j' c f appends = still_stored j j' c appends.0 appends.2

-- one name more is forgotten
any_push : (P : ArrayVec ℕ → Bool) (xs : List (ArrayVec ℕ)) (x : ArrayVec ℕ) (h : Bool) → cond (list_any P (xs ++ x ∷ [])) false h ≡ cond (P x) false (cond (list_any P xs) false h)
any_push P [] x h = either (P x)
  where
    either : (t : Bool) → cond (t || false) false h ≡ cond t false h
    either true = refl
    either false = refl
any_push P (y ∷ ys) x h = either (P y) (any_push P ys x h)
  where
    none : (t : Bool) → false ≡ cond t false false
    none true = refl
    none false = refl

    either : (t : Bool) → cond (list_any P (ys ++ x ∷ [])) false h ≡ cond (P x) false (cond (list_any P ys) false h) → cond (t || list_any P (ys ++ x ∷ [])) false h ≡ cond (P x) false (cond (t || list_any P ys) false h)
    either true rest = none (P x)
    either false rest = rest

pub forgotten_more : (names : List (ArrayVec ℕ)) (i : ℕ) (n : ArrayVec ℕ) (a b c : BTreeSet (ℕ × ArrayVec ℕ)) → i < length names → n ≡ get_or names i n → ForgetsNames (take i names) a b → ForgetsName n.items b c → ForgetsNames (take (i + 1) names) a c
forgotten_more names i n a b c within is before now q =
    let push : take (i + 1) names ≡ take i names ++ n ∷ [] = take_more names i n within ∙ ap (λ (m : ArrayVec ℕ). take i names ++ m ∷ []) (sym is) in
    now q ∙ ap (λ t. cond (bytes_eq n.items q) false t) (before q)
    ∙ sym (any_push (λ (m : ArrayVec ℕ). bytes_eq m.items q) (take i names) n (has_name a q))
    ∙ ap (λ (l : List (ArrayVec ℕ)). cond (is_one_of l q) false (has_name a q)) (sym push)

-- the names of one entry more
pub names_more : (seqs : List ℕ) (entries : List Entry) (i : ℕ) (e : Entry) → i < length entries → e ≡ get_or entries i e
    → names_gone seqs (take (i + 1) (map case_of entries)) ≡ names_gone seqs (take i (map case_of entries)) ++ names_gone seqs (case_of e ∷ [])
names_more seqs entries i e within is =
    let cases = map case_of entries in
    let low : i < length cases = omega (arith, length-map entries case_of) in
    let here : get_or cases i (case_of e) ≡ case_of e = get_or-map case_of entries i e (case_of e) within ∙ ap case_of (sym is) in
    ap (names_gone seqs) (take_more cases i (case_of e) low ∙ ap (λ (c : Case). take i cases ++ c ∷ []) here)
    ∙ ap (map name_of_case) (gone-append seqs (take i cases) (case_of e ∷ []))
    ∙ map-append name_of_case (gone seqs (take i cases)) (gone seqs (case_of e ∷ []))
