-- Which rule led to a frame.
use Rattle.std.proofs.Common.{◌≡◌, ◌⊎◌, inl, inr, ⊎_elim, ◌-◌, ℕ, zero, suc, Bool, true, false, cond, ltb, eqb, ◌||◌, ◌&&◌, IfSome, subst, List, [], ◌∷◌, Option, Some, None, Result, Ok, Err, refl, sym, ap, ◌∙◌}
use Rattle.std.proofs.lemmas.Bool.{ltb-false, eq-eqb, both_ways}
use Rattle.std.proofs.lemmas.Option.{cond_some}
use Rattle.std.specs.List.{list_all}
use Rattle.std.specs.Option.{option_map}
use Rattle.std.specs.Prelude.{is_some}
use Rattle.address_space.specs.Source.{Space}
use Rattle.call_frames.specs.Entry.{EntryView}
use Rattle.call_frames.specs.Finding.{entry_of}
use Rattle.call_frames.specs.declared.faults.NoEntry as entries
use Rattle.call_frames.specs.declared.faults.NoEntry.TheVariants.{Uncovered, Faulty}
use Rattle.unwind.specs.Execution.{row_of}
use Rattle.unwind.specs.Rows.{rule_of}
use Rattle.unwind.specs.declared.row_faults.RowField.{RowField}
use Rattle.unwind.specs.declared.rows.Row.{Row}
use Rattle.unwind.specs.ByCall as calls
use Rattle.unwind.specs.ByEntry as led
use Rattle.unwind.specs.ByTrampoline as trampolines
use Rattle.unwind.specs.Code.{ProcessView, CodeView, code_of}
use Rattle.unwind.specs.Reasons.{checked, and_then, stop_if}
use Rattle.unwind.specs.Registers.{Registers, ra, sp, known}
use Rattle.unwind.specs.Start.{holds_start}
use Rattle.unwind.specs.Stands.{IsBareCall, StandsOn, EachStands, IsAbove, Rises, EachRises, AreBare}
use Rattle.unwind.specs.Unwinding.{call_or, by_rules, bounded, next, IsUnwoundFrom, first_frame, most}
use Rattle.unwind.specs.Values.{cfa_by, value_by, registers_by, is_undefined, unknown_by}
use Rattle.unwind.proofs.Kept.{stood, kept, written}
use Rattle.unwind.proofs.Steps.{more_come}
use Rattle.unwind.specs.declared.by_entry.Return.{Return}
use Rattle.unwind.specs.declared.faults.Stop.{Stop}
use Rattle.unwind.specs.declared.faults.Stop.TheVariants.{Outermost, NotRising, Undefined, Unreadable, ZeroPc}
use Rattle.unwind.specs.declared.frame.Callee.{Callee}
use Rattle.unwind.specs.declared.frame.Frame.{Frame}

-- what an answer that is Ok went through
pub checked_ok : {A B : Type 0} (o : Option A) (stop : Stop) (others : A → Result B Stop) (y : B) → checked o stop others ≡ Ok y → (x : A) × (o ≡ Some x) × (others x ≡ Ok y)
checked_ok None stop others y h = cc
checked_ok (Some x) stop others y h = (x, refl, h)

then_ok : {A B : Type 0} (r : Result A Stop) (others : A → Result B Stop) (y : B) → and_then r others ≡ Ok y → (x : A) × (r ≡ Ok x) × (others x ≡ Ok y)
then_ok (Ok x) others y h = (x, refl, h)
then_ok (Err stop) others y h = cc

passed : {A : Type 0} (t : Bool) (stop : Stop) (r : Result A Stop) (y : A) → stop_if t stop r ≡ Ok y → (t ≡ false) × (r ≡ Ok y)
passed true stop r y h = cc
passed false stop r y h = (refl, h)

-- an answer
abbrev ok : {A : Type 0} → A → Result A Stop
ok x = Ok x

same_ok : {A : Type 0} (x y : A) → ok x ≡ ok y → x ≡ y
same_ok x y h = cc

mapped_some : {A B : Type 0} (f : A → B) (o : Option A) (y : B) → option_map f o ≡ Some y → (x : A) × (o ≡ Some x) × (f x ≡ y)
mapped_some f None y h = cc
mapped_some f (Some x) y h = (x, refl, cc)

same_value : (o : Option ℕ) (x y : ℕ) → o ≡ Some x → x ≡ y → o ≡ Some y
same_value o x y is same = is ∙ ap (λ n. Some n) same

-- either of two frames of one pc
pc_of_either : (t : Bool) (x y : Frame) (pc : ℕ) → x.pc ≡ pc → y.pc ≡ pc → (cond t x y).pc ≡ pc
pc_of_either true x y pc h k = h
pc_of_either false x y pc h k = k

-- a call
if_returned : (pc : ℕ) (o : Option ℕ) (a : ℕ) → calls.if_return pc o ≡ Some a → o ≡ Some a
if_returned pc None a h = h
if_returned pc (Some b) a h = ap (λ n. Some n) (cond_some (calls.is_return pc b) b a h).1

returned : (pc : ℕ) (t : Bool) (o : Option ℕ) (a : ℕ) → cond t (calls.if_return pc o) None ≡ Some a → (t ≡ true) × (o ≡ Some a)
returned pc true o a h = (refl, if_returned pc o a h)
returned pc false o a h = cc

-- what a call that is told says: execution was at the pc, and the other frame is that of the address in ra
abbrev IsMade : Frame → Frame → Type 0
IsMade f g = (f.exact ≡ true) × (known f.registers ra ≡ Some g.pc) × (g ≡ calls.calling f g.pc)

made_by : (f g : Frame) → calls.caller_of f ≡ Some g → IsMade f g
unfolding calls.return_of
made_by f g h =
    let some = mapped_some (calls.calling f) (calls.return_of f) g h in
    let pcs : some.0 ≡ g.pc = ap (λ (k : Frame). k.pc) some.2 in
    let back = returned f.pc f.exact (known f.registers ra) some.0 some.1 in
    (back.0, back.1 ∙ ap (λ n. Some n) pcs, sym some.2 ∙ ap (calls.calling f) pcs)

if_made : (t : Bool) (f g : Frame) → cond t (calls.caller_of f) None ≡ Some g → (t ≡ true) × IsMade f g
if_made true f g h = (refl, made_by f g h)
if_made false f g h = cc

call_made : (space : Space) (f g : Frame) → calls.by_call space f ≡ Some g → (calls.is_no_code space f.pc ≡ true) × IsMade f g
unfolding calls.by_call
call_made space f g h = if_made (calls.is_no_code space f.pc) f g h

stub_made : (code : CodeView) (f g : Frame) → calls.by_stub code f ≡ Some g → (calls.is_stub code ≡ true) × IsMade f g
unfolding calls.by_stub
stub_made code f g h = if_made (calls.is_stub code) f g h

-- a signal
whole_ok : (t : Bool) (pc : ℕ) (rs : Registers) (g : Frame) → cond t (Ok (trampolines.interrupted pc rs)) (Err Unreadable) ≡ Ok g → trampolines.interrupted pc rs ≡ g
whole_ok true pc rs g h = same_ok (trampolines.interrupted pc rs) g h
whole_ok false pc rs g h = cc

abbrev pub IsSignalled : Space → Frame → Frame → Type 0
IsSignalled space f g = (s : ℕ) × (known f.registers sp ≡ Some s) × (trampolines.saved_word space s 0 ≡ Some g.pc) × (g ≡ trampolines.interrupted g.pc (trampolines.saved_registers space s))

signalled : (space : Space) (f g : Frame) → trampolines.by_trampoline space f ≡ Ok g → IsSignalled space f g
unfolding trampolines.by_trampoline
signalled space f g h =
    let stack = checked_ok (known f.registers sp) Undefined _ g h in
    let s = stack.0 in
    let first = checked_ok (trampolines.saved_word space s 0) Unreadable _ g stack.2 in
    let same = whole_ok (list_all is_some (trampolines.saved_registers space s)) first.0 (trampolines.saved_registers space s) g first.2 in
    let pcs : first.0 ≡ g.pc = ap (λ (k : Frame). k.pc) same in
    (s, stack.1, first.1 ∙ ap (λ n. Some n) pcs, sym same ∙ ap (λ n. trampolines.interrupted n (trampolines.saved_registers space s)) pcs)

-- an entry
pub record IsLed (space : Space) (f g : Frame) (e : EntryView) (v : ℕ) (row : Row) (a : ℕ) : Type 0 where
  pub executed : row_of e v ≡ Ok row
  pub cfa : cfa_by f.registers row.cfa ≡ Ok a
  pub rises : led.is_below f.callee f.pc a ≡ false
  pub pc : value_by space f.registers a e.cie.column (rule_of row.rules e.cie.column) ≡ Some g.pc
  pub frame : g ≡ led.led_to f a g.pc (registers_by space f.registers a row) (led.return_in e)

row_ok : (i : ℕ) (r : Result Row RowField) (row : Row) → led.row_or i r ≡ Ok row → r ≡ Ok row
row_ok i (Ok x) row h = ap (λ k. Ok k) (same_ok x row h)
row_ok i (Err f) row h = cc

return_ok : (space : Space) (f g : Frame) (row : Row) (r : Return) (a pc : ℕ) → led.by_return space f row r a pc ≡ Ok g → (pc ≡ g.pc) × (g ≡ led.led_to f a g.pc (registers_by space f.registers a row) r)
return_ok space f g row r a pc h =
    let regs = registers_by space f.registers a row in
    let same = same_ok (led.led_to f a pc regs r) g (passed _ ZeroPc _ g h).1 in
    let pcs : pc ≡ g.pc = sym (pc_of_either r.signal _ _ pc refl refl) ∙ ap (λ (k : Frame). k.pc) same in
    (pcs, sym same ∙ ap (λ n. led.led_to f a n regs r) pcs)

row_led : (space : Space) (f g : Frame) (e : EntryView) (v : ℕ) (row : Row) → row_of e v ≡ Ok row → led.by_row space f (led.return_in e) row ≡ Ok g → (a : ℕ) × IsLed space f g e v row a
unfolding led.by_row led.by_cfa
row_led space f g e v row is h =
    let r = led.return_in e in
    let rule = rule_of row.rules r.column in
    let cfa = then_ok (cfa_by f.registers row.cfa) (led.by_cfa space f row r) g (passed (is_undefined rule) Outermost _ g h).1 in
    let a = cfa.0 in
    let above = passed (led.is_below f.callee f.pc a) NotRising _ g cfa.2 in
    let back = then_ok (led.return_by space f.registers a r.column rule) (led.by_return space f row r a) g above.1 in
    let value = checked_ok (value_by space f.registers a r.column rule) (unknown_by rule) _ back.0 back.1 in
    let last = return_ok space f g row r a back.0 back.2 in
    let pcs : value.0 ≡ g.pc = ◌∙◌ {a = value.0} {b = back.0} (same_ok value.0 back.0 value.2) last.0 in (
      a,
      record {
        executed = is;
        cfa = cfa.1;
        rises = above.0;
        pc = same_value _ value.0 g.pc value.1 pcs;
        frame = last.1;
      },
    )

covering_led : (space : Space) (start : Option ℕ) (f g : Frame) (e : EntryView) (v : ℕ) → led.by_covering space start f v e ≡ Ok g → (row : Row) × (a : ℕ) × (holds_start start f v e ≡ false) × IsLed space f g e v row a
unfolding led.row_at
covering_led space start f g e v h =
    let goes = passed (holds_start start f v e) Outermost (and_then (led.row_at e v) (led.by_row space f (led.return_in e))) g h in
    let some = then_ok (led.row_at e v) (led.by_row space f (led.return_in e)) g goes.1 in
    let rest = row_led space f g e v some.0 (row_ok e.index (row_of e v) some.0 some.1) some.2 in
    (some.0, rest.0, goes.0, rest.1)

abbrev pub IsCovered : Space → Option ℕ → Frame → Frame → CodeView → Type 0
IsCovered space start f g code =
    (e : EntryView) × (row : Row) × (a : ℕ) × (entry_of code.image code.debug code.address ≡ Ok e) × (holds_start start f code.address e ≡ false) × IsLed space f g e code.address row a

found_led : (space : Space) (start : Option ℕ) (f g : Frame) (code : CodeView) (r : Result EntryView entries.NoEntry) → entry_of code.image code.debug code.address ≡ r → led.by_found space start f code r ≡ Ok g → IsCovered space start f g code ⊎ ((entry_of code.image code.debug code.address ≡ Err Uncovered) × (calls.by_stub code f ≡ Some g))
found_led space start f g code (Ok e) is h =
    let rest = covering_led space start f g e code.address h in inl (e, rest.0, rest.1, is, rest.2, rest.3)
found_led space start f g code (Err (Faulty fault)) is h = cc
found_led space start f g code (Err Uncovered) is h =
    let some = checked_ok (calls.by_stub code f) (led.no_entry code) _ g h in inr (is, some.1 ∙ ap (λ k. Some k) (same_ok some.0 g some.2))

-- a frame came by one of these
pub data Led (p : ProcessView) (f g : Frame) : Type 0 where
  by_signal : trampolines.is_trampoline p.space f.pc ≡ true → IsSignalled p.space f g → Led p f g
  by_bare_call : IsBareCall p f → IsMade f g → Led p f g
  by_fde : (code : CodeView) → code_of p f ≡ Ok code → IsCovered p.space p.start f g code → Led p f g

code_led : (p : ProcessView) (f g : Frame) (code : CodeView) → code_of p f ≡ Ok code → led.by_code p.space p.start f code ≡ Ok g → Led p f g
unfolding led.by_code
code_led p f g code is h =
    ⊎_elim (λ covered. by_fde code is covered)
    (λ stub. let made = stub_made code f g stub.1 in by_bare_call (inr (code, is, (stub.0, made.0))) made.1)
    (found_led p.space p.start f g code (entry_of code.image code.debug code.address) refl h)

entry_led : (p : ProcessView) (f g : Frame) → led.by_entry p f ≡ Ok g → Led p f g
unfolding led.by_entry
entry_led p f g h =
    let some = then_ok (code_of p f) (led.by_code p.space p.start f) g h in code_led p f g some.0 some.1 some.2

call_led : (p : ProcessView) (f g : Frame) (o : Option Frame) → calls.by_call p.space f ≡ o → call_or o (led.by_entry p f) ≡ Ok g → Led p f g
call_led p f g None is h = entry_led p f g h
call_led p f g (Some k) is h =
    let made = call_made p.space f g (is ∙ ap (λ x. Some x) (same_ok k g h)) in by_bare_call (inl made.0) made.1

rule_led : (p : ProcessView) (f g : Frame) (t : Bool) → trampolines.is_trampoline p.space f.pc ≡ t → cond t (trampolines.by_trampoline p.space f) (call_or (calls.by_call p.space f) (led.by_entry p f)) ≡ Ok g → Led p f g
rule_led p f g true is h = by_signal is (signalled p.space f g h)
rule_led p f g false is h = call_led p f g (calls.by_call p.space f) refl h

bounded_ok : (n : ℕ) (r : Result Frame Stop) (g : Frame) → bounded n r ≡ Ok g → r ≡ Ok g
bounded_ok zero (Ok k) g h = cc
bounded_ok (suc n) (Ok k) g h = sym (more_come n (Ok k)) ∙ h
bounded_ok n (Err stop) g h = h

pub next_led : (p : ProcessView) (n : ℕ) (f g : Frame) → next p n f ≡ Ok g → Led p f g
unfolding next by_rules
next_led p n f g h = rule_led p f g (trampolines.is_trampoline p.space f.pc) refl (bounded_ok n _ g h)

-- so it follows by a rule
stands_on : (p : ProcessView) (f g : Frame) → Led p f g → StandsOn p f g
stands_on p f g (by_signal trampoline (s, stack, pc, same)) =
    inl (s, record { trampoline = trampoline; stack = stack; pc = pc; stood = ap (λ (k : Frame). k.exact) same; registers = ap (λ (k : Frame). k.registers) same })
stands_on p f g (by_bare_call bare (at, pc, same)) =
    inr (inl (record { bare = bare; stood = at; pc = pc; returns = ap (λ (k : Frame). k.exact) same; registers = ap (λ (k : Frame). k.registers) same }))
stands_on p f g (by_fde code is (e, row, a, covers, inner, found)) =
    let r = led.return_in e in
    let exact : g.exact ≡ e.cie.signal = ap (λ (k : Frame). k.exact) found.frame ∙ stood p.space f a g.pc row r in
    inr (inr (
      code,
      e,
      row,
      a,
      record {
        looked_up = is;
        covers = covers;
        inner = inner;
        executed = found.executed;
        cfa = found.cfa;
        pc = found.pc;
        stood = exact;
        registers = λ c few either.
            ap (λ (k : Frame). known k.registers c) found.frame
            ∙ kept p.space f a g.pc row r c few (⊎_elim (λ h. inl (sym exact ∙ h)) (λ apart. inr apart) either);
        written = λ h.
            ap (λ (k : Frame). known k.registers e.cie.column) found.frame ∙ written p.space f a g.pc row r (sym exact ∙ h);
      },
    ))

pub next_stands : (p : ProcessView) (n : ℕ) (f g : Frame) → next p n f ≡ Ok g → StandsOn p f g
next_stands p n f g is = stands_on p f g (next_led p n f g is)

pub each_stands : (p : ProcessView) (n : ℕ) (f : Frame) (fs : List Frame) (stop : Stop) → IsUnwoundFrom p n f fs stop → EachStands p f fs
each_stands p n f [] stop is = tt
each_stands p n f (g ∷ gs) stop is = (next_stands p n f g is.0, each_stands p (n - 1) g gs stop is.1)

-- no callee is known where execution was
abbrev IsAlone : Frame → Type 0
IsAlone f = f.exact ≡ true → f.callee ≡ None

or_false : (s t : Bool) → (s || t) ≡ false → (s ≡ false) × (t ≡ false)
or_false true t h = cc
or_false false t h = (refl, h)

and_false : (s t : Bool) → (s && t) ≡ false → s ≡ true → t ≡ true → ⊥
and_false true true h i j = cc
and_false true false h i j = cc
and_false false t h i j = cc

-- what is not below a callee is above it
above_by : (c : Option Callee) (pc a : ℕ) → led.is_below c pc a ≡ false → IfSome c (λ d. IsAbove d (calls.callee_at pc a))
above_by None pc a h = tt
above_by (Some d) pc a h =
    let parts = or_false (ltb a d.cfa) (eqb a d.cfa && eqb pc d.pc) h in
    let least = ltb-false a d.cfa parts.0 in
    (least, λ same pcs. and_false (eqb a d.cfa) (eqb pc d.pc) parts.1 (eq-eqb a d.cfa (sym same)) (eq-eqb pc d.pc (sym pcs)))

rises_alone : (c o : Option Callee) → c ≡ None → IfSome c (λ x. IfSome o (λ y. IsAbove x y))
rises_alone None o h = tt
rises_alone (Some x) o h = absurd cc

rises_none : (c o : Option Callee) → o ≡ None → IfSome c (λ x. IfSome o (λ y. IsAbove x y))
rises_none None o h = tt
rises_none (Some x) None h = tt
rises_none (Some x) (Some y) h = absurd cc

rises_some : (c o : Option Callee) (d : Callee) → o ≡ Some d → IfSome c (λ x. IsAbove x d) → IfSome c (λ x. IfSome o (λ y. IsAbove x y))
rises_some None o d is h = tt
rises_some (Some x) None d is h = tt
rises_some (Some x) (Some y) d is h =
    let same : d ≡ y = cc in subst (λ (k : Callee). IsAbove x k) same h

callee_of_either : (t : Bool) (x y : Frame) (d : Callee) → x.callee ≡ None → y.callee ≡ Some d → ((cond t x y).callee ≡ None) ⊎ ((cond t x y).callee ≡ Some d)
callee_of_either true x y d h k = inl h
callee_of_either false x y d h k = inr k

alone_of_either : (t : Bool) (x y : Frame) → x.callee ≡ None → y.exact ≡ false → IsAlone (cond t x y)
alone_of_either true x y h k = λ e. h
alone_of_either false x y h k = λ e. absurd (both_ways y.exact k e)

rises_to : (p : ProcessView) (f g : Frame) → IsAlone f → Led p f g → Rises f g × IsAlone g
rises_to p f g alone (by_signal trampoline (s, stack, pc, same)) =
    let none : g.callee ≡ None = ap (λ (k : Frame). k.callee) same in (rises_none f.callee g.callee none, λ e. none)
rises_to p f g alone (by_bare_call bare (stood, pc, same)) =
    (rises_alone f.callee g.callee (alone stood), λ e. absurd (both_ways g.exact (ap (λ (k : Frame). k.exact) same) e))
rises_to p f g alone (by_fde code is (e, row, a, covers, inner, found)) =
    let d = calls.callee_at f.pc a in
    let same = ap (λ (k : Frame). k.callee) found.frame in (
      ⊎_elim (λ none. rises_none f.callee g.callee (same ∙ none))
          (λ some. rises_some f.callee g.callee d (same ∙ some) (above_by f.callee f.pc a found.rises))
          (callee_of_either e.cie.signal _ _ d refl refl),
      subst IsAlone (sym found.frame) (alone_of_either e.cie.signal _ _ refl refl),
    )

rises_from : (p : ProcessView) (n : ℕ) (f : Frame) (fs : List Frame) (stop : Stop) → IsAlone f → IsUnwoundFrom p n f fs stop → EachRises f fs
rises_from p n f [] stop alone is = tt
rises_from p n f (g ∷ gs) stop alone is =
    let on = rises_to p f g alone (next_led p n f g is.0) in (on.0, rises_from p (n - 1) g gs stop on.1 is.1)

pub each_rises : (p : ProcessView) (desc : List ℕ) (fs : List Frame) (stop : Stop) → IsUnwoundFrom p most (first_frame desc) fs stop → EachRises (first_frame desc) fs
each_rises p desc fs stop is = rises_from p most (first_frame desc) fs stop (λ e. refl) is

-- where no rule leads on nothing does
not_led : (p : ProcessView) (f g : Frame) → trampolines.is_trampoline p.space f.pc ≡ false → calls.is_no_code p.space f.pc ≡ false → ((code : CodeView) → code_of p f ≡ Ok code → AreBare code) → Led p f g → ⊥
not_led p f g none code bare (by_signal trampoline signal) = both_ways _ none trampoline
not_led p f g none code bare (by_bare_call (inl no_code) made) = both_ways _ code no_code
not_led p f g none code bare (by_bare_call (inr (at, is, stub)) made) = both_ways _ (bare at is).1 stub.1
not_led p f g none code bare (by_fde at is (e, row, a, covers, inner, found)) = (bare at is).0 e covers

stopped_by : (p : ProcessView) (n : ℕ) (f : Frame) (r : Result Frame Stop) → next p n f ≡ r → ((g : Frame) → Led p f g → ⊥) → (stop : Stop) × (next p n f ≡ Err stop)
stopped_by p n f (Ok g) is none = absurd (none g (next_led p n f g is))
stopped_by p n f (Err stop) is none = (stop, is)

pub nothing_guessed : (p : ProcessView) (n : ℕ) (f : Frame) → trampolines.is_trampoline p.space f.pc ≡ false → calls.is_no_code p.space f.pc ≡ false → ((code : CodeView) → code_of p f ≡ Ok code → AreBare code) → (stop : Stop) × (next p n f ≡ Err stop)
nothing_guessed p n f none code bare = stopped_by p n f (next p n f) refl (λ g. not_led p f g none code bare)

-- nothing called the code where the program begins
pub start_last : (p : ProcessView) (n : ℕ) (f : Frame) (code : CodeView) (e : EntryView) → trampolines.is_trampoline p.space f.pc ≡ false → calls.is_no_code p.space f.pc ≡ false → code_of p f ≡ Ok code → entry_of code.image code.debug code.address ≡ Ok e → holds_start p.start f code.address e ≡ true → next p n f ≡ Err Outermost
unfolding next by_rules calls.by_call led.by_entry led.by_code
start_last p n f code e none has is covers starts =
    ap (λ t. bounded n (cond t (trampolines.by_trampoline p.space f) (call_or (calls.by_call p.space f) (led.by_entry p f)))) none
    ∙ ap (λ t. bounded n (call_or (cond t (calls.caller_of f) None) (led.by_entry p f))) has
    ∙ ap (λ r. bounded n (and_then r (led.by_code p.space p.start f))) is
    ∙ ap (λ r. bounded n (led.by_found p.space p.start f code r)) covers
    ∙ ap (λ t. bounded n (stop_if t Outermost (and_then (led.row_at e code.address) (led.by_row p.space f (led.return_in e))))) starts
