-- What comes after a frame that a call gives.
use Rattle.std.proofs.Common.{◌≡◌, ◌-◌, ◌+◌, ◌⊎◌, inl, inr, ⊎_elim, ℕ, zero, suc, Bool, true, false, cond, eqb, leb, ltb, List, [], ◌∷◌, Option, Some, None, Result, Ok, Err, refl, sym, ap, subst, ◌∙◌, arith}
use Rattle.std.proofs.lemmas.Bool.{and_from, and_parts, both_ways, eqb-false, le-leb, leb-true, lt-ltb, ltb-true}
use Rattle.std.proofs.lemmas.List.Elements.{All-cons, All-contains, All-head, All-nil, All-tail}
use Rattle.std.specs.List.{All, list_all}
use Rattle.std.specs.Option.{option_and_then, option_or}
use Rattle.std.specs.Prelude.{find, is_some}
use Rattle.address_space.specs.Source.{ExecutableView, Space, SpotView, entry_at, is_named, spot_of}
use Rattle.call_frames.specs.Covering.{covers}
use Rattle.call_frames.specs.Entry as entries
use Rattle.call_frames.specs.Entry.{EntryView, TableView}
use Rattle.call_frames.specs.Finding.{answer, entry_of}
use Rattle.call_frames.specs.Tables.{debug_frame_of, eh_frame_of}
use Rattle.call_frames.specs.Walk.{entries_of, fault_among, fault_of, first_fault, spots_of}
use Rattle.call_frames.specs.declared.faults.CfiFault.{CfiFault}
use Rattle.call_frames.specs.declared.faults.NoEntry as none
use Rattle.call_frames.specs.declared.faults.NoEntry.TheVariants.{Uncovered, Faulty}
use Rattle.call_frames.specs.declared.spots.Spot.{Spot}
use Rattle.unwind.specs.Execution.{row_of}
use Rattle.unwind.specs.Rows.{rule_of}
use Rattle.unwind.specs.declared.row_faults.RowField.{RowField}
use Rattle.unwind.specs.declared.rows.Row.{Row}
use Rattle.unwind.specs.declared.rows.Rule.{Rule}
use Rattle.unwind.specs.declared.rows.Rule.TheVariants.{Undefined, Same, Offset, Value, Register, Expression}
use Rattle.symbols.specs.Offsets.{address_of}
use Rattle.unwind.specs.ByCall as calls
use Rattle.unwind.specs.ByEntry as led
use Rattle.unwind.specs.ByEntry.{is_unread}
use Rattle.unwind.specs.ByTrampoline as trampolines
use Rattle.unwind.specs.Code.{CodeFile, CodeView, ProcessView, code_at, code_of, has_path, looked_up, missing, missing_by}
use Rattle.unwind.specs.FrameWords.{frames_left, stop_left}
use Rattle.unwind.specs.InTurn.{GiveInTurn, GiveLast, HasAddress, HasFault, IsCodeAt, IsUncovered, IsWritten, CallersAreOfTheirCalls, NoEntryIsPassedOver, NoFaultIsHidden, NoNextFunctionIsACaller, ReturnAddressesAreUnknown, ReturnAddressesAreUsedOnce}
use Rattle.unwind.specs.Reasons.{checked, and_then, stop_if}
use Rattle.unwind.specs.Registers.{Registers, known, sp}
use Rattle.unwind.specs.Start.{holds_start}
use Rattle.unwind.specs.Stands.{IsReturnOf, StandsOn}
use Rattle.unwind.specs.Unwinding.{bounded, by_rules, call_or, frames_behind, frames_from, next, stop_behind, stop_from}
use Rattle.unwind.specs.Values as values
use Rattle.unwind.specs.declared.by_entry.Return.{Return}
use Rattle.unwind.specs.declared.faults.Stop.{Stop}
use Rattle.unwind.specs.declared.faults.Stop.TheVariants as stops
use Rattle.unwind.specs.declared.frame.Frame.{Frame}
use Rattle.unwind.proofs.Standing.{checked_ok, next_stands}
use Rattle.unwind.proofs.Steps.{frames_next, more_come, stop_next}

-- the first of the frames that are left, and those after it
abbrev IsFirst : ProcessView → ℕ → Result Frame Stop → Frame → List Frame → Type 0
IsFirst p n r f fs = (r ≡ Ok f) × (fs ≡ frames_behind (frames_from p (n - 1)) (next p n f))

first_of : (p : ProcessView) (n : ℕ) (r : Result Frame Stop) (f : Frame) (fs : List Frame) → frames_behind (frames_from p n) r ≡ f ∷ fs → IsFirst p n r f fs
first_of p n (Ok k) f fs h =
    let step : k ∷ frames_behind (frames_from p (n - 1)) (next p n k) ≡ f ∷ fs = sym (frames_next p n (n - 1) k (next p n k) refl refl) ∙ h in
    let same : k ≡ f = cc in
    let rest : frames_behind (frames_from p (n - 1)) (next p n k) ≡ fs = cc in
    (ap (λ x. Ok x) same, sym rest ∙ ap (λ (x : Frame). frames_behind (frames_from p (n - 1)) (next p n x)) same)
first_of p n (Err stop) f fs h = absurd cc

-- what two calls give follows by the rules
next_given : (p : ProcessView) (f g : Frame) → GiveInTurn p f g → (n : ℕ) × (next p n f ≡ Ok g)
unfolding frames_left
next_given p f g turn =
    let one = first_of p turn.old.more turn.old.next f (frames_left p turn.mid) turn.first.frames in
    let two = first_of p (turn.old.more - 1) (next p turn.old.more f) g (frames_left p turn.new) (sym one.1 ∙ turn.second.frames) in
    (turn.old.more, two.0)

stands_given : (p : ProcessView) (f g : Frame) → GiveInTurn p f g → StandsOn p f g
stands_given p f g turn =
    let found = next_given p f g turn in next_stands p found.0 f g found.1

-- and so does what a call tells of the last frame
none_behind : (p : ProcessView) (n : ℕ) (r : Result Frame Stop) (stop : Stop) → frames_behind (frames_from p n) r ≡ [] → stop_behind (stop_from p n) r ≡ stop → r ≡ Err stop
none_behind p n (Ok g) stop none is =
    let step : g ∷ frames_behind (frames_from p (n - 1)) (next p n g) ≡ [] = sym (frames_next p n (n - 1) g (next p n g) refl refl) ∙ none in absurd cc
none_behind p n (Err s) stop none is = ap (λ x. Err x) is

stop_given : (p : ProcessView) (f : Frame) (stop : Stop) → GiveLast p f stop → (n : ℕ) × (next p n f ≡ Err stop)
unfolding frames_left stop_left
stop_given p f stop last =
    let n = last.old.more in
    let one = first_of p n last.old.next f (frames_left p last.new) last.first.frames in
    let told =
    sym (stop_next p n (n - 1) f (next p n f) refl refl) ∙ sym (ap (stop_behind (stop_from p n)) one.0) ∙ sym last.first.stop ∙ last.second.stop in
    (n, none_behind p (n - 1) (next p n f) stop (sym one.1 ∙ last.second.frames) told)

-- the code of a frame is that of the byte that is looked up
spot_found : (f : ℕ → Option SpotView) (o : Option ℕ) (s : SpotView) → option_and_then f o ≡ Some s → (a : ℕ) × (o ≡ Some a) × (f a ≡ Some s)
spot_found f None s h = absurd cc
spot_found f (Some a) s h = (a, refl, h)

abbrev ok_code : CodeView → Result CodeView Stop
ok_code code = Ok code

code_found : (p : ProcessView) (f : Frame) (code : CodeView) → code_of p f ≡ Ok code → (a : ℕ) × (looked_up f ≡ Some a) × IsCodeAt p a code
unfolding code_of code_at
code_found p f code h =
    let spot = checked_ok (option_and_then (λ a. spot_of a (entry_at p.space.files a)) (looked_up f)) stops.NoFile (code_at p.executables p.others) code h in
    let at = spot_found (λ a. spot_of a (entry_at p.space.files a)) (looked_up f) spot.0 spot.1 in
    let x = checked_ok (find (has_path spot.0.name) p.executables) (missing p.others spot.0.name) _ code spot.2 in
    let v = checked_ok (address_of x.0.file.image spot.0.offset) stops.NoAddress _ code x.2 in
    let same : ok_code (record { image = x.0.file.image; debug = x.0.debug; address = v.0 }) ≡ ok_code code = v.2 in
    let is : (record { image = x.0.file.image; debug = x.0.debug; address = v.0 }) ≡ code = cc in (
      at.0,
      at.1,
      record {
        spot = spot.0;
        mapped = at.2;
        executable = x.0;
        named = x.1;
        image = sym (ap (λ (k : CodeView). k.image) is);
        debug = sym (ap (λ (k : CodeView). k.debug) is);
        placed = v.1 ∙ ap (λ (k : CodeView). Some k.address) is;
      },
    )

before_by : (t : Bool) (pc a : ℕ) → eqb pc 0 ≡ t → cond t None (Some (pc - 1)) ≡ Some a → pc ≡ a + 1
before_by true pc a is h = absurd cc
before_by false pc a is h =
    let apart = eqb-false pc 0 is in
    let same : pc - 1 ≡ a = cc in omega (arith, apart, same)

before_of : (t : Bool) (pc a : ℕ) → t ≡ false → cond t (Some pc) (cond (eqb pc 0) None (Some (pc - 1))) ≡ Some a → pc ≡ a + 1
before_of true pc a off h = absurd (both_ways true off refl)
before_of false pc a off h = before_by (eqb pc 0) pc a refl h

-- one byte is the code of one address at most
same_code : (p : ProcessView) (a : ℕ) (c d : CodeView) → IsCodeAt p a c → IsCodeAt p a d → c ≡ d
same_code p a c d x y =
    let spots : Some x.spot ≡ Some y.spot = sym x.mapped ∙ y.mapped in
    let spot : x.spot ≡ y.spot = cc in
    let found : Some x.executable ≡ Some y.executable = sym x.named ∙ ap (λ (s : SpotView). find (has_path s.name) p.executables) spot ∙ y.named in
    let executable : x.executable ≡ y.executable = cc in
    let places : Some c.address ≡ Some d.address =
    sym x.placed ∙ ap (λ (s : SpotView). address_of x.executable.file.image s.offset) spot ∙ ap (λ (e : CodeFile). address_of e.file.image y.spot.offset) executable ∙ y.placed in
    let address : c.address ≡ d.address = cc in
    let image : c.image ≡ d.image = x.image ∙ ap (λ (e : CodeFile). e.file.image) executable ∙ sym y.image in
    let debug : c.debug ≡ d.debug = x.debug ∙ ap (λ (e : CodeFile). e.debug) executable ∙ sym y.debug in
    let first : CodeView = record { image = d.image; debug = c.debug; address = c.address } in
    let next : CodeView = record { image = d.image; debug = d.debug; address = c.address } in
    ◌∙◌ {b = first} (ap (λ i. record { image = i; debug = c.debug; address = c.address }) image)
    (◌∙◌ {b = next} (ap (λ o. record { image = d.image; debug = o; address = c.address }) debug) (ap (λ v. record { image = d.image; debug = d.debug; address = v }) address))

-- what is found has the address
found_passes : (v : ℕ) (es : List EntryView) (e : EntryView) → find (covers v) es ≡ Some e → covers v e ≡ true
found_passes v [] e h = absurd cc
found_passes v (x ∷ xs) e h =
    (elim (covers v x) as (λ t. covers v x ≡ t → cond t (Some x) (find (covers v) xs) ≡ Some e → covers v e ≡ true) [
      | true ↦ λ is k. (let same : x ≡ e = cc in subst (λ y. covers v y ≡ true) same is)
      | false ↦ λ is k. found_passes v xs e k
    ]) refl h

has_address : (v : ℕ) (e : EntryView) → covers v e ≡ true → HasAddress e v
has_address v e h =
    let both = and_parts (leb e.begin v) (ltb v (e.begin + e.range)) h in (leb-true e.begin v both.0, ltb-true v (e.begin + e.range) both.1)

covered : (v : ℕ) (e : EntryView) → HasAddress e v → covers v e ≡ true
covered v e has = and_from (leb e.begin v) (ltb v (e.begin + e.range)) (le-leb e.begin v has.0) (lt-ltb v (e.begin + e.range) has.1)

abbrev IsApart : ℕ → EntryView → Type 0
IsApart v e = HasAddress e v → ⊥

none_found : (v : ℕ) (es : List EntryView) → find (covers v) es ≡ None → All (IsApart v) es
none_found v [] h = All-nil (IsApart v)
none_found v (x ∷ xs) h =
    (elim (covers v x) as (λ t. covers v x ≡ t → cond t (Some x) (find (covers v) xs) ≡ None → All (IsApart v) (x ∷ xs)) [
      | true ↦ λ is k. absurd cc
      | false ↦ λ is k. All-cons (IsApart v) x xs (λ has. both_ways (covers v x) is (covered v x has)) (none_found v xs k)
    ]) refl h

not_found : (v : ℕ) (es : List EntryView) (e : EntryView) → All (IsApart v) es → find (covers v) es ≡ Some e → ⊥
not_found v [] e all h = cc
not_found v (x ∷ xs) e all h =
    (elim (covers v x) as (λ t. covers v x ≡ t → cond t (Some x) (find (covers v) xs) ≡ Some e → ⊥) [
      | true ↦ λ is k. All-head (IsApart v) x xs all (has_address v x is)
      | false ↦ λ is k. not_found v xs e (All-tail (IsApart v) x xs all) k
    ]) refl h

or_some : {A : Type 0} (o q : Option A) (x : A) → option_or o q ≡ Some x → (o ≡ Some x) ⊎ (q ≡ Some x)
or_some (Some y) q x h = inl h
or_some None q x h = inr h

or_none : {A : Type 0} (o q : Option A) → option_or o q ≡ None → (o ≡ None) × (q ≡ None)
or_none (Some y) q h = absurd cc
or_none None q h = (refl, h)

answered : (o : Option EntryView) (k : Option CfiFault) (e : EntryView) → answer o k ≡ Ok e → o ≡ Some e
answered (Some x) k e h =
    let same : x ≡ e = cc in ap (λ y. Some y) same
answered None (Some k) e h = absurd cc
answered None None e h = absurd cc

unanswered : (o : Option EntryView) (k : Option CfiFault) → answer o k ≡ Err Uncovered → (o ≡ None) × (k ≡ None)
unanswered (Some x) k h = absurd cc
unanswered None (Some k) h = absurd cc
unanswered None None h = (refl, refl)

entry_has : (b : List ℕ) (debug : Option (List ℕ)) (v : ℕ) (e : EntryView) → entry_of b debug v ≡ Ok e → HasAddress e v
entry_has b debug v e h =
    let some = answered _ _ e h in
    has_address v e (⊎_elim (found_passes v (entries_of (eh_frame_of b)) e) (found_passes v (entries_of (debug_frame_of b debug)) e) (or_some _ _ e some))

entry_apart : (code : CodeView) (e : EntryView) → IsUncovered code → entry_of code.image code.debug code.address ≡ Ok e → ⊥
entry_apart code e apart h =
    let v = code.address in
    ⊎_elim (not_found v (entries_of (eh_frame_of code.image)) e apart.0) (not_found v (entries_of (debug_frame_of code.image code.debug)) e apart.1)
    (or_some _ _ e (answered _ _ e h))

-- an FDE led on from a caller
led_by : (p : ProcessView) (f g : Frame) → f.exact ≡ false → trampolines.is_trampoline p.space f.pc ≡ false → StandsOn p f g → IsReturnOf p f g
led_by p f g returns none (inl (s, is)) = absurd (both_ways _ none is.trampoline)
led_by p f g returns none (inr (inl is)) = absurd (both_ways _ returns is.stood)
led_by p f g returns none (inr (inr is)) = is

pub of_the_call : CallersAreOfTheirCalls
of_the_call p f g returns none turn =
    let is = led_by p f g returns none (stands_given p f g turn) in
    let found = code_found p f is.0 is.4.looked_up in (
      found.0,
      is.0,
      is.1,
      record {
        behind = before_of f.exact f.pc found.0 returns found.1;
        at = found.2;
        has = entry_has is.0.image is.0.debug is.0.address is.1 is.4.covers;
        row = is.2;
        cfa = is.3;
        told = is.4;
      },
    )

pub no_next : NoNextFunctionIsACaller
no_next p f g last code returns none behind at apart turn =
    let is = of_the_call p f g returns none turn in
    let same : is.0 ≡ last =
    (let one = is.3.behind in omega (arith, one, behind)) in
    let here = same_code p last is.1 code (subst (λ a. IsCodeAt p a is.1) same is.3.at) at in
    entry_apart code is.2 apart (subst (λ (c : CodeView). entry_of c.image c.debug c.address ≡ Ok is.2) here is.3.told.covers)

-- what is told where there is no frame
checked_err : {A B : Type 0} (o : Option A) (s t : Stop) (others : A → Result B Stop) → checked o s others ≡ Err t → (s ≡ t) ⊎ ((x : A) × (o ≡ Some x) × (others x ≡ Err t))
checked_err None s t others h = inl cc
checked_err (Some x) s t others h = inr (x, refl, h)

then_err : {A B : Type 0} (r : Result A Stop) (others : A → Result B Stop) (t : Stop) → and_then r others ≡ Err t → (r ≡ Err t) ⊎ ((x : A) × (r ≡ Ok x) × (others x ≡ Err t))
then_err (Ok x) others t h = inr (x, refl, h)
then_err (Err s) others t h =
    let same : s ≡ t = cc in inl (ap (λ x. Err x) same)

passed_err : {A : Type 0} (b : Bool) (s t : Stop) (r : Result A Stop) → stop_if b s r ≡ Err t → (s ≡ t) ⊎ (r ≡ Err t)
passed_err true s t r h = inl cc
passed_err false s t r h = inr h

-- No rule but one tells that there is no entry.
whole_not : (t : Bool) (g : Frame) → cond t (Ok g) (Err stops.Unreadable) ≡ Err stops.NoEntry → ⊥
whole_not true g h = cc
whole_not false g h = cc

signal_not : (space : Space) (f : Frame) → trampolines.by_trampoline space f ≡ Err stops.NoEntry → ⊥
unfolding trampolines.by_trampoline
signal_not space f h =
    ⊎_elim (λ same. cc)
    (λ stack. ⊎_elim (λ same. cc) (λ pc. whole_not (list_all is_some (trampolines.saved_registers space stack.0)) _ pc.2)
    (checked_err (trampolines.saved_word space stack.0 0) stops.Unreadable stops.NoEntry _ stack.2))
    (checked_err (known f.registers sp) stops.Undefined stops.NoEntry _ h)

unknown_not : (rule : Rule) → values.unknown_by rule ≡ stops.NoEntry → ⊥
unknown_not Undefined h = cc
unknown_not Same h = cc
unknown_not (Offset n) h = cc
unknown_not (Value n) h = cc
unknown_not (Register d) h = cc
unknown_not Expression h = cc

missing_not : (o : Option ExecutableView) → missing_by o ≡ stops.NoEntry → ⊥
missing_not None h = cc
missing_not (Some x) h = cc

code_not : (p : ProcessView) (f : Frame) → code_of p f ≡ Err stops.NoEntry → ⊥
unfolding code_of code_at
code_not p f h =
    ⊎_elim (λ same. cc)
    (λ spot. ⊎_elim (missing_not (find (is_named spot.0.name) p.others))
    (λ x. ⊎_elim (λ same. cc) (λ v. cc) (checked_err (address_of x.0.file.image spot.0.offset) stops.NoAddress stops.NoEntry _ x.2))
    (checked_err (find (has_path spot.0.name) p.executables) (missing p.others spot.0.name) stops.NoEntry _ spot.2))
    (checked_err _ stops.NoFile stops.NoEntry (code_at p.executables p.others) h)

row_not : (i : ℕ) (r : Result Row RowField) → led.row_or i r ≡ Err stops.NoEntry → ⊥
row_not i (Ok row) h = cc
row_not i (Err f) h = cc

cfa_not : (t : Bool) (o : Option ℕ) → cond t (Err stops.Expression) (checked o stops.Undefined (λ a. Ok a)) ≡ Err stops.NoEntry → ⊥
cfa_not true o h = cc
cfa_not false None h = cc
cfa_not false (Some a) h = cc

return_not : (t : Bool) (g : Frame) → stop_if t stops.ZeroPc (Ok g) ≡ Err stops.NoEntry → ⊥
return_not true g h = cc
return_not false g h = cc

value_not : (o : Option ℕ) (rule : Rule) → checked o (values.unknown_by rule) (λ a. Ok a) ≡ Err stops.NoEntry → ⊥
value_not None rule h =
    let same : values.unknown_by rule ≡ stops.NoEntry = cc in unknown_not rule same
value_not (Some a) rule h = cc

led_not : (space : Space) (f : Frame) (row : Row) (r : Return) → led.by_row space f r row ≡ Err stops.NoEntry → ⊥
unfolding led.by_row led.by_cfa values.cfa_by
led_not space f row r h =
    let rule = rule_of row.rules r.column in
    ⊎_elim (λ same. cc)
    (λ passed. ⊎_elim (cfa_not row.cfa.expression (values.cfa_from f.registers row.cfa))
    (λ cfa. ⊎_elim (λ same. cc)
    (λ above. ⊎_elim (value_not (values.value_by space f.registers cfa.0 r.column rule) rule)
    (λ pc. return_not _ _ pc.2)
    (then_err (led.return_by space f.registers cfa.0 r.column rule) (led.by_return space f row r cfa.0) stops.NoEntry above))
    (passed_err (led.is_below f.callee f.pc cfa.0) stops.NotRising stops.NoEntry _ cfa.2))
    (then_err (values.cfa_by f.registers row.cfa) (led.by_cfa space f row r) stops.NoEntry passed))
    (passed_err (values.is_undefined rule) stops.Outermost stops.NoEntry _ h)

covering_not : (space : Space) (start : Option ℕ) (f : Frame) (v : ℕ) (e : EntryView) → led.by_covering space start f v e ≡ Err stops.NoEntry → ⊥
unfolding led.row_at
covering_not space start f v e h =
    ⊎_elim (λ same. cc)
    (λ inner. ⊎_elim (row_not e.index _) (λ row. led_not space f row.0 (led.return_in e) row.2)
    (then_err (led.row_at e v) (led.by_row space f (led.return_in e)) stops.NoEntry inner))
    (passed_err (holds_start start f v e) stops.Outermost stops.NoEntry _ h)

found_none : (space : Space) (start : Option ℕ) (f : Frame) (code : CodeView) (r : Result EntryView none.NoEntry) → led.by_found space start f code r ≡ Err stops.NoEntry → r ≡ Err Uncovered
found_none space start f code (Ok e) h = absurd (covering_not space start f code.address e h)
found_none space start f code (Err (Faulty fault)) h = absurd cc
found_none space start f code (Err Uncovered) h = refl

-- and all are read
plain_by : (t : Bool) (o : Option Frame) → checked o (cond t stops.Compressed stops.NoEntry) (λ g. Ok g) ≡ Err stops.NoEntry → t ≡ false
plain_by true None h = absurd cc
plain_by false o h = refl
plain_by true (Some g) h = absurd cc

found_plain : (space : Space) (start : Option ℕ) (f : Frame) (code : CodeView) (r : Result EntryView none.NoEntry) → led.by_found space start f code r ≡ Err stops.NoEntry → is_unread code ≡ false
found_plain space start f code (Ok e) h = absurd (covering_not space start f code.address e h)
found_plain space start f code (Err (Faulty fault)) h = absurd cc
found_plain space start f code (Err Uncovered) h = plain_by (is_unread code) (calls.by_stub code f) h

abbrev HasNoEntry : ProcessView → Frame → Type 0
HasNoEntry p f =
    (code : CodeView) × (code_of p f ≡ Ok code) × (entry_of code.image code.debug code.address ≡ Err Uncovered) × (is_unread code ≡ false)

entry_none : (p : ProcessView) (f : Frame) → led.by_entry p f ≡ Err stops.NoEntry → HasNoEntry p f
unfolding led.by_entry led.by_code
entry_none p f h =
    ⊎_elim (λ err. absurd (code_not p f err)) (λ code. (
      code.0,
      code.1,
      found_none p.space p.start f code.0 (entry_of code.0.image code.0.debug code.0.address) code.2,
      found_plain p.space p.start f code.0 (entry_of code.0.image code.0.debug code.0.address) code.2,
    ))
    (then_err (code_of p f) (led.by_code p.space p.start f) stops.NoEntry h)

call_none : (p : ProcessView) (f : Frame) (o : Option Frame) → call_or o (led.by_entry p f) ≡ Err stops.NoEntry → HasNoEntry p f
call_none p f None h = entry_none p f h
call_none p f (Some g) h = absurd cc

rule_none : (p : ProcessView) (f : Frame) (t : Bool) → cond t (trampolines.by_trampoline p.space f) (call_or (calls.by_call p.space f) (led.by_entry p f)) ≡ Err stops.NoEntry → HasNoEntry p f
rule_none p f true h = absurd (signal_not p.space f h)
rule_none p f false h = call_none p f (calls.by_call p.space f) h

bounded_none : (n : ℕ) (r : Result Frame Stop) → bounded n r ≡ Err stops.NoEntry → r ≡ Err stops.NoEntry
bounded_none zero (Ok g) h = absurd cc
bounded_none (suc n) (Ok g) h = absurd (let same : Ok g ≡ Err stops.NoEntry = sym (more_come n (Ok g)) ∙ h in cc)
bounded_none n (Err stop) h = h

last_none : (p : ProcessView) (f : Frame) → GiveLast p f stops.NoEntry → HasNoEntry p f
unfolding next by_rules
last_none p f last =
    let found = stop_given p f stops.NoEntry last in
    rule_none p f (trampolines.is_trampoline p.space f.pc) (bounded_none found.0 _ found.1)

-- a table without a fault
abbrev IsFine : TableView → Spot → Type 0
IsFine t s = fault_of s (entries.entry_at t s) ≡ None

all_fine : (t : TableView) (ss : List Spot) → fault_among t ss ≡ None → All (IsFine t) ss
unfolding fault_among
all_fine t [] h = All-nil (IsFine t)
all_fine t (s ∷ ss) h =
    let both = or_none (fault_of s (entries.entry_at t s)) (fault_among t ss) h in All-cons (IsFine t) s ss both.0 (all_fine t ss both.1)

fault_not : (t : TableView) → first_fault t ≡ None → HasFault t → ⊥
fault_not t none (s, fault, has, is) =
    let fine = All-contains (IsFine t) (spots_of t.bytes) s (all_fine t (spots_of t.bytes) none) has in
    let same : fault_of s (Err fault) ≡ None = sym (ap (fault_of s) is) ∙ fine in cc

pub no_fault : NoFaultIsHidden
no_fault p f code is fault last =
    let found = last_none p f last in
    let same : ok_code code ≡ ok_code found.0 = sym is ∙ found.1 in
    let here : found.0 ≡ code = cc in
    let clean = or_none _ _ (unanswered _ _ (subst (λ (c : CodeView). entry_of c.image c.debug c.address ≡ Err Uncovered) here found.2)).1 in
    ⊎_elim (fault_not (eh_frame_of code.image) clean.0) (fault_not (debug_frame_of code.image code.debug) clean.1) fault

pub no_entry : NoEntryIsPassedOver
no_entry p f last =
    let found = last_none p f last in
    let code = found.0 in
    let v = code.address in
    let both = or_none _ _ (unanswered _ _ found.2).0 in
    (code, found.1, (none_found v (entries_of (eh_frame_of code.image)) both.0, none_found v (entries_of (debug_frame_of code.image code.debug)) both.1), found.3)

-- what a call wrote over
abbrev ok_entry : EntryView → Result EntryView none.NoEntry
ok_entry e = Ok e

column_of : (p : ProcessView) (f : Frame) (code other : CodeView) (e d : EntryView) → code_of p f ≡ Ok code → code_of p f ≡ Ok other → entry_of code.image code.debug code.address ≡ Ok e → entry_of other.image other.debug other.address ≡ Ok d → (other ≡ code) × (d ≡ e)
column_of p f code other e d x y k l =
    let codes : ok_code other ≡ ok_code code = sym y ∙ x in
    let same : other ≡ code = cc in
    let es : ok_entry d ≡ ok_entry e = sym (subst (λ (c : CodeView). entry_of c.image c.debug c.address ≡ Ok d) same l) ∙ k in
    (same, cc)

unknown_by : (p : ProcessView) (f g : Frame) (c : ℕ) (w : IsWritten p f g c) → StandsOn p f g → known g.registers c ≡ None
unknown_by p f g c w (inl (s, is)) = absurd (both_ways g.exact w.returns is.stood)
unknown_by p f g c w (inr (inl is)) =
    absurd (⊎_elim (λ no. both_ways _ w.has_code no)
    (λ stub. let same : ok_code stub.0 ≡ ok_code w.code = sym stub.1 ∙ w.looked_up in
    let here : stub.0 ≡ w.code = cc in
    let bare : Err Uncovered ≡ ok_entry w.entry = sym (subst (λ (d : CodeView). entry_of d.image d.debug d.address ≡ Err Uncovered) here stub.2.0) ∙ w.covers in cc) is.bare)
unknown_by p f g c w (inr (inr (code, e, row, a, is))) =
    let same = column_of p f w.code code w.entry e w.looked_up is.looked_up w.covers is.covers in
    let column : e.cie.column ≡ c = ap (λ (x : EntryView). x.cie.column) same.1 ∙ w.column in
    subst (λ n. known g.registers n ≡ None) column (is.written w.returns)

pub unknown : ReturnAddressesAreUnknown
unknown p f g c w = unknown_by p f g c w (stands_given p f g w.turn)

-- so it is no return address of another call
abbrev ok_row : Row → Result Row RowField
ok_row row = Ok row

unread : (space : Space) (rs : Registers) (a c : ℕ) (rule : Rule) → known rs c ≡ None → (rule ≡ Same) ⊎ (rule ≡ Register c) → values.value_by space rs a c rule ≡ None
unread space rs a c rule none (inl is) = ap (values.value_by space rs a c) is ∙ none
unread space rs a c rule none (inr is) = ap (values.value_by space rs a c) is ∙ none

pub once : ReturnAddressesAreUsedOnce
once p f g h c w there none turn =
    let is = led_by p g h w.returns none (stands_given p g h turn) in
    let r = is.4 in
    let same = column_of p g there.code is.0 there.entry is.1 there.looked_up r.looked_up there.covers r.covers in
    let rows : row_of is.1 is.0.address ≡ row_of there.entry there.code.address =
    ap (λ (x : EntryView). row_of x is.0.address) same.1 ∙ ap (λ (x : CodeView). row_of there.entry x.address) same.0 in
    let row : ok_row is.2 ≡ ok_row there.row = sym r.executed ∙ rows ∙ there.executed in
    let one : is.2 ≡ there.row = cc in
    let column : is.1.cie.column ≡ c = ap (λ (x : EntryView). x.cie.column) same.1 ∙ there.column in
    let rule : rule_of is.2.rules is.1.cie.column ≡ rule_of there.row.rules c =
    ap (λ (x : Row). rule_of x.rules is.1.cie.column) one ∙ ap (rule_of there.row.rules) column in
    let value : values.value_by p.space g.registers is.3 is.1.cie.column (rule_of is.2.rules is.1.cie.column) ≡ None =
    ap (values.value_by p.space g.registers is.3 is.1.cie.column) rule
    ∙ ap (λ n. values.value_by p.space g.registers is.3 n (rule_of there.row.rules c)) column
    ∙ unread p.space g.registers is.3 c (rule_of there.row.rules c) (unknown p f g c w) there.rule in
    let pc : Some h.pc ≡ None = sym r.pc ∙ value in cc
