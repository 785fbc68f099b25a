-- Each call's answer, as a function of the state.
use Rattle.std.proofs.Common.{◌≡◌, ◌≢◌, ⊎_elim, ℕ, zero, suc, ◌+◌, ◌%◌, ◌^◌, Bool, true, false, not, cond, List, [], ◌∷◌, ◌++◌, length, map, refl, sym, ap, ◌∙◌, subst, arith, Option, None, Some, Result, Ok, Err}
use Rattle.std.specs.Prelude.{nat_lt, nat_eq, ◌&&◌, ◌||◌}
use Rattle.std.specs.Str.{bytes_eq}
use Rattle.std.proofs.lemmas.Bool.{cases_order, cases_eq, cases_Bool, lt-ltb, le-ltb, eq-eqb, ne_eqb, true≢false, false≢true, and_from, and_left, and_right, or_left, or_right, or_from, false_from_ne_true}
use Rattle.std.proofs.lemmas.Slice.Eq.{bytes_eq-Decides}
use Rattle.journal_layout.specs.Soundness.{case_numbered}
use Rattle.journal_layout.specs.Case.{Case}
use Rattle.journal_layout.specs.Layout.{half_length}
use Rattle.retention.specs.Rule.{IsOneDecision}
use Rattle.retention.specs.declared.Brief.{Brief}
use Rattle.retention.specs.declared.Decision.{Decision}
use Rattle.retention.specs.declared.Policy.{Policy}
use Rattle.intake.proofs.MarkLemmas.{one_unmet}
use Rattle.intake.specs.OneAnswer.{IsDecided, IsOneAnswer, RetiresSo, decision_said}
use Rattle.intake.specs.Slots.{stream_at}
use Rattle.intake.specs.State.{ArchiveState, StreamFacts, blocks_for, blocks_in}
use Rattle.intake.specs.Step.{BeginStep, AbandonStep, FinishStep, DeleteStep, PinStep, LabelStep, UpgradeStep, RetireStep, BytesFit, FitsAnew, IsFull, OverflowsAnew, IsLowestFree, TakesLowest, FillsBlocks, is_taken, with_stream, snapshot_size, stream_size, cases_with, stored, drop_size, cases_without, without_cases, pin_size, cases_flagged, with_flag, label_size, cases_labelled, with_label, anew_in_two, brief_of, RetiresSome}
use Rattle.intake.specs.declared.faults.ArchiveFault.{ArchiveFault}
use Rattle.intake.specs.declared.faults.ArchiveFault.TheVariants.{Stopped, BadSlot, SlotBusy, NameTaken, NoStream, SpaceFull, NoCase, Pinned, JournalFull, NumbersSpent, OutOfMemory, Disk, OldVersion}

some_is : {X : Type 0} (x y : X) → Some x ≡ Some y → x ≡ y
some_is x y e = cc

-- an answer and a state that are functions of what is asked
by_function : {T : Type 0} (Does : Result T ArchiveFault → ArchiveState → Type 0) (answer : Result T ArchiveFault) (after : Result T ArchiveFault → ArchiveState)
    → ((r : Result T ArchiveFault) (new : ArchiveState) → Does r new → IsDecided r → (r ≡ answer) × (new ≡ after r)) → IsOneAnswer Does
by_function Does answer after is r r' new new' does does' d d' =
    let x = is r new does d in let y = is r' new' does' d' in
    (y.0 ∙ sym x.0, y.1 ∙ ap after (y.0 ∙ sym x.0) ∙ sym x.1)

-- begin
abbrev begin_at : Option StreamFacts → Bool → Result (Unit {0}) ArchiveFault
begin_at None taken = cond taken (Err NameTaken) (Ok tt)
begin_at (Some x) taken = Err SlotBusy

busy_at : (o : Option StreamFacts) (taken : Bool) → o ≢ None → Err SlotBusy ≡ begin_at o taken
busy_at None taken some = absurd (some refl)
busy_at (Some x) taken some = refl

abbrev begin_answer : ArchiveState → ℕ → StreamFacts → Result (Unit {0}) ArchiveFault
begin_answer s slot x = cond s.stopped (Err Stopped) (cond (nat_lt slot (length s.streams)) (begin_at (stream_at s.streams slot) (is_taken s x.origin.name)) (Err BadSlot))

abbrev begin_after : ArchiveState → ℕ → StreamFacts → Result (Unit {0}) ArchiveFault → ArchiveState
begin_after s slot x (Ok u) = with_stream s slot (Some x)
begin_after s slot x (Err f) = s

begin_is : (s : ArchiveState) (slot : ℕ) (x : StreamFacts) (r : Result (Unit {0}) ArchiveFault) (new : ArchiveState) → BeginStep s slot x r new → IsDecided r → (r ≡ begin_answer s slot x) × (new ≡ begin_after s slot x r)
begin_is s slot x (Ok u) new step d = (rw (step.0.0, lt-ltb slot (length s.streams) step.0.1, step.0.2, step.0.3) refl, step.1)
begin_is s slot x (Err Stopped) new step d = (rw (step.0) refl, step.1)
begin_is s slot x (Err BadSlot) new step d = (rw (step.0, le-ltb slot (length s.streams) step.1) refl, step.2)
begin_is s slot x (Err SlotBusy) new step d = (rw (step.0, lt-ltb slot (length s.streams) step.1) (busy_at (stream_at s.streams slot) (is_taken s x.origin.name) step.2), step.3)
begin_is s slot x (Err NameTaken) new step d = (rw (step.0, lt-ltb slot (length s.streams) step.1, step.2, step.3) refl, step.4)
begin_is s slot x (Err OutOfMemory) new step d = absurd d
begin_is s slot x (Err _) new step d = absurd step

pub begin_one : (s : ArchiveState) (slot : ℕ) (x : StreamFacts) → IsOneAnswer (BeginStep s slot x)
begin_one s slot x = by_function (BeginStep s slot x) (begin_answer s slot x) (begin_after s slot x) (begin_is s slot x)

-- abandon
abbrev abandon_at : Option StreamFacts → Result (Unit {0}) ArchiveFault
abandon_at None = Err NoStream
abandon_at (Some x) = Ok tt

there_at : (o : Option StreamFacts) → o ≢ None → Ok tt ≡ abandon_at o
there_at None some = absurd (some refl)
there_at (Some x) some = refl

abbrev abandon_after : ArchiveState → ℕ → Result (Unit {0}) ArchiveFault → ArchiveState
abandon_after s slot (Ok u) = with_stream s slot None
abandon_after s slot (Err f) = s

abandon_is : (s : ArchiveState) (slot : ℕ) (r : Result (Unit {0}) ArchiveFault) (new : ArchiveState) → AbandonStep s slot r new → IsDecided r
    → (r ≡ cond s.stopped (Err Stopped) (abandon_at (stream_at s.streams slot))) × (new ≡ abandon_after s slot r)
abandon_is s slot (Ok u) new step d = (rw (step.0) (there_at (stream_at s.streams slot) step.1), step.2)
abandon_is s slot (Err Stopped) new step d = (rw (step.0) refl, step.1)
abandon_is s slot (Err NoStream) new step d = (rw (step.0, step.1) refl, step.2)
abandon_is s slot (Err _) new step d = absurd step

pub abandon_one : (s : ArchiveState) (slot : ℕ) → IsOneAnswer (AbandonStep s slot)
abandon_one s slot = by_function (AbandonStep s slot) (cond s.stopped (Err Stopped) (abandon_at (stream_at s.streams slot))) (abandon_after s slot) (abandon_is s slot)

-- whether a record of `size` bytes has room, behind which these cases are live
abbrev fits_somewhere : ArchiveState → ℕ → List Case → Bool
fits_somewhere s size cases =
    nat_lt (s.used + size) (half_length s.shape) || (nat_lt (snapshot_size cases) (half_length s.shape) && nat_lt (s.generation + 1) (2 ^ 64))

has_anew : (s : ArchiveState) (cases : List Case) → FitsAnew s cases → (nat_lt (snapshot_size cases) (half_length s.shape) && nat_lt (s.generation + 1) (2 ^ 64)) ≡ true
has_anew s cases room =
    and_from (nat_lt (snapshot_size cases) (half_length s.shape)) (nat_lt (s.generation + 1) (2 ^ 64))
    (lt-ltb (snapshot_size cases) (half_length s.shape) (let a = room.0 in omega (arith, a))) (lt-ltb (s.generation + 1) (2 ^ 64) room.1)

lacks_anew : (s : ArchiveState) (cases : List Case) → OverflowsAnew s cases → (nat_lt (snapshot_size cases) (half_length s.shape) && nat_lt (s.generation + 1) (2 ^ 64)) ≡ false
lacks_anew s cases lacks =
    ⊎_elim
    (λ a. and_left (nat_lt (snapshot_size cases) (half_length s.shape)) (nat_lt (s.generation + 1) (2 ^ 64)) (le-ltb (snapshot_size cases) (half_length s.shape) (omega (arith, a))))
    (λ e. and_right (nat_lt (snapshot_size cases) (half_length s.shape)) (nat_lt (s.generation + 1) (2 ^ 64)) (le-ltb (s.generation + 1) (2 ^ 64) (omega (arith, e))))
    lacks

fit_is : (s : ArchiveState) (size : ℕ) (cases : List Case) → BytesFit s size cases → fits_somewhere s size cases ≡ true
fit_is s size cases room =
    ⊎_elim
    (λ a. or_left (nat_lt (s.used + size) (half_length s.shape)) _ (lt-ltb (s.used + size) (half_length s.shape) (omega (arith, a))))
    (λ h. or_right (nat_lt (s.used + size) (half_length s.shape)) _ (has_anew s cases h))
    room

full_is : (s : ArchiveState) (size : ℕ) (cases : List Case) → IsFull s size cases → fits_somewhere s size cases ≡ false
full_is s size cases full =
    or_from (nat_lt (s.used + size) (half_length s.shape)) _ (le-ltb (s.used + size) (half_length s.shape) (let a = full.0 in omega (arith, a))) (lacks_anew s cases full.1)

-- delete
abbrev delete_at : ArchiveState → ℕ → Option Case → Result (Unit {0}) ArchiveFault
delete_at s seq None = Err NoCase
delete_at s seq (Some c) = cond c.pinned (Err Pinned) (cond (fits_somewhere s (drop_size 1) (cases_without s (seq ∷ []))) (Ok tt) (Err JournalFull))

abbrev delete_after : ArchiveState → ℕ → Result (Unit {0}) ArchiveFault → ArchiveState
delete_after s seq (Ok u) = without_cases s (seq ∷ [])
delete_after s seq (Err f) = s

delete_is : (s : ArchiveState) (seq : ℕ) (r : Result (Unit {0}) ArchiveFault) (new : ArchiveState) → DeleteStep s seq r new → IsDecided r
    → (r ≡ cond s.stopped (Err Stopped) (delete_at s seq (case_numbered seq s.cases))) × (new ≡ delete_after s seq r)
delete_is s seq (Ok u) new step d = (rw (step.1.0, step.1.1, step.2, fit_is s (drop_size 1) (cases_without s (seq ∷ [])) step.3) refl, step.4)
delete_is s seq (Err Stopped) new step d = (rw (step.0) refl, step.1)
delete_is s seq (Err NoCase) new step d = (rw (step.0, step.1) refl, step.2)
delete_is s seq (Err Pinned) new step d = (rw (step.1.0, step.1.1, step.2) refl, step.3)
delete_is s seq (Err JournalFull) new step d = (rw (step.1.0, step.1.1, step.2, full_is s (drop_size 1) (cases_without s (seq ∷ [])) step.3) refl, step.4)
delete_is s seq (Err OutOfMemory) new step d = absurd d
delete_is s seq (Err Disk) new step d = absurd d
delete_is s seq (Err _) new step d = absurd step

pub delete_one : (s : ArchiveState) (seq : ℕ) → IsOneAnswer (DeleteStep s seq)
delete_one s seq = by_function (DeleteStep s seq) (cond s.stopped (Err Stopped) (delete_at s seq (case_numbered seq s.cases))) (delete_after s seq) (delete_is s seq)

-- a change that stands already, or is made: its answer and what it leaves
abbrev set_at : Bool → Bool → Result (Unit {0}) ArchiveFault
set_at stands room = cond stands (Ok tt) (cond room (Ok tt) (Err JournalFull))

-- pin
abbrev is_flag : Bool → Bool → Bool
is_flag true flag = flag
is_flag false flag = not flag

flag_is : (p flag : Bool) → p ≡ flag → is_flag p flag ≡ true
flag_is true true e = refl
flag_is true false e = cc
flag_is false true e = cc
flag_is false false e = refl

flag_not : (p flag : Bool) → p ≢ flag → is_flag p flag ≡ false
flag_not true true ne = absurd (ne refl)
flag_not true false ne = refl
flag_not false true ne = refl
flag_not false false ne = absurd (ne refl)

abbrev pin_at : ArchiveState → ℕ → Bool → Option Case → Result (Unit {0}) ArchiveFault
pin_at s seq flag None = Err NoCase
pin_at s seq flag (Some c) = set_at (is_flag c.pinned flag) (fits_somewhere s pin_size (cases_flagged s seq flag))

abbrev pinned_at : ArchiveState → ℕ → Bool → Option Case → ArchiveState
pinned_at s seq flag None = s
pinned_at s seq flag (Some c) = cond (is_flag c.pinned flag) s (with_flag s seq flag)

abbrev pin_after : ArchiveState → ℕ → Bool → Result (Unit {0}) ArchiveFault → ArchiveState
pin_after s seq flag (Ok u) = pinned_at s seq flag (case_numbered seq s.cases)
pin_after s seq flag (Err f) = s

pin_is : (s : ArchiveState) (seq : ℕ) (flag : Bool) (r : Result (Unit {0}) ArchiveFault) (new : ArchiveState) → PinStep s seq flag r new → IsDecided r
    → (r ≡ cond s.stopped (Err Stopped) (pin_at s seq flag (case_numbered seq s.cases))) × (new ≡ pin_after s seq flag r)
pin_is s seq flag (Ok u) new step d =
    ⊎_elim
    (λ h. let e = flag_is step.0.pinned flag h.0 in (rw (step.1.0, step.1.1, e) refl, rw (step.1.1, e) h.1))
    (λ h. let e = flag_not step.0.pinned flag h.0 in (rw (step.1.0, step.1.1, e, fit_is s pin_size (cases_flagged s seq flag) h.1) refl, rw (step.1.1, e) h.2))
    step.2
pin_is s seq flag (Err Stopped) new step d = (rw (step.0) refl, step.1)
pin_is s seq flag (Err NoCase) new step d = (rw (step.0, step.1) refl, step.2)
pin_is s seq flag (Err JournalFull) new step d = (rw (step.1.0, step.1.1, flag_not step.0.pinned flag step.2, full_is s pin_size (cases_flagged s seq flag) step.3) refl, step.4)
pin_is s seq flag (Err OutOfMemory) new step d = absurd d
pin_is s seq flag (Err Disk) new step d = absurd d
pin_is s seq flag (Err _) new step d = absurd step

pub pin_one : (s : ArchiveState) (seq : ℕ) (flag : Bool) → IsOneAnswer (PinStep s seq flag)
pin_one s seq flag = by_function (PinStep s seq flag) (cond s.stopped (Err Stopped) (pin_at s seq flag (case_numbered seq s.cases))) (pin_after s seq flag) (pin_is s seq flag)

-- label
abbrev label_at : ArchiveState → ℕ → List ℕ → Option Case → Result (Unit {0}) ArchiveFault
label_at s seq text None = Err NoCase
label_at s seq text (Some c) = cond (nat_eq s.version 2) (set_at (bytes_eq c.label text) (fits_somewhere s (label_size text) (cases_labelled s seq text))) (Err OldVersion)

abbrev labelled_at : ArchiveState → ℕ → List ℕ → Option Case → ArchiveState
labelled_at s seq text None = s
labelled_at s seq text (Some c) = cond (bytes_eq c.label text) s (with_label s seq text)

abbrev label_after : ArchiveState → ℕ → List ℕ → Result (Unit {0}) ArchiveFault → ArchiveState
label_after s seq text (Ok u) = labelled_at s seq text (case_numbered seq s.cases)
label_after s seq text (Err f) = s

label_is : (s : ArchiveState) (seq : ℕ) (text : List ℕ) (r : Result (Unit {0}) ArchiveFault) (new : ArchiveState) → LabelStep s seq text r new → IsDecided r
    → (r ≡ cond s.stopped (Err Stopped) (label_at s seq text (case_numbered seq s.cases))) × (new ≡ label_after s seq text r)
label_is s seq text (Ok u) new step d =
    ⊎_elim
    (λ h. let e = (bytes_eq-Decides step.0.label text).1 h.0 in (rw (step.1.0.0, step.1.0.1, step.1.1, e) refl, rw (step.1.0.1, e) h.1))
    (λ h. let e = false_from_ne_true (bytes_eq step.0.label text) (λ same. h.0 ((bytes_eq-Decides step.0.label text).0 same)) in
    (rw (step.1.0.0, step.1.0.1, step.1.1, e, fit_is s (label_size text) (cases_labelled s seq text) h.1) refl, rw (step.1.0.1, e) h.2))
    step.2
label_is s seq text (Err Stopped) new step d = (rw (step.0) refl, step.1)
label_is s seq text (Err NoCase) new step d = (rw (step.0, step.1) refl, step.2)
label_is s seq text (Err OldVersion) new step d = (rw (step.1.0, step.1.1, step.2) refl, step.3)
label_is s seq text (Err JournalFull) new step d =
    let e = false_from_ne_true (bytes_eq step.0.label text) (λ same. step.2 ((bytes_eq-Decides step.0.label text).0 same)) in
    (rw (step.1.0.0, step.1.0.1, step.1.1, e, full_is s (label_size text) (cases_labelled s seq text) step.3) refl, step.4)
label_is s seq text (Err OutOfMemory) new step d = absurd d
label_is s seq text (Err Disk) new step d = absurd d
label_is s seq text (Err _) new step d = absurd step

pub label_one : (s : ArchiveState) (seq : ℕ) (text : List ℕ) → IsOneAnswer (LabelStep s seq text)
label_one s seq text = by_function (LabelStep s seq text) (cond s.stopped (Err Stopped) (label_at s seq text (case_numbered seq s.cases))) (label_after s seq text) (label_is s seq text)

-- upgrade
abbrev anew : ArchiveState → Bool
anew s = nat_lt (snapshot_size s.cases) (half_length s.shape) && nat_lt (s.generation + 1) (2 ^ 64)

abbrev upgrade_after : ArchiveState → Result (Unit {0}) ArchiveFault → ArchiveState
upgrade_after s (Ok u) = cond (nat_eq s.version 2) s (anew_in_two s)
upgrade_after s (Err f) = s

upgrade_is : (s : ArchiveState) (r : Result (Unit {0}) ArchiveFault) (new : ArchiveState) → UpgradeStep s r new → IsDecided r
    → (r ≡ cond s.stopped (Err Stopped) (set_at (nat_eq s.version 2) (anew s))) × (new ≡ upgrade_after s r)
upgrade_is s (Ok u) new step d =
    ⊎_elim
    (λ h. (rw (step.0, h.0) refl, h.1 ∙ sym (ap (λ (t : Bool). cond t s (anew_in_two s)) (eq-eqb s.version 2 h.0))))
    (λ h. (rw (step.0, h.0, has_anew s s.cases h.1) refl, h.2 ∙ sym (ap (λ (t : Bool). cond t s (anew_in_two s)) (ne_eqb s.version 2 (let v = h.0 in λ two. omega (arith, v, two))))))
    step.1
upgrade_is s (Err Stopped) new step d = (rw (step.0) refl, step.1)
upgrade_is s (Err JournalFull) new step d = (rw (step.0.0, step.0.1, lacks_anew s s.cases step.1) refl, step.2)
upgrade_is s (Err OutOfMemory) new step d = absurd d
upgrade_is s (Err Disk) new step d = absurd d
upgrade_is s (Err _) new step d = absurd step

pub upgrade_one : (s : ArchiveState) → IsOneAnswer (UpgradeStep s)
upgrade_one s = by_function (UpgradeStep s) (cond s.stopped (Err Stopped) (set_at (nat_eq s.version 2) (anew s))) (upgrade_after s) (upgrade_is s)

-- the lowest free block is one
lowest_one : (s : ArchiveState) (have : List ℕ) (k k' : ℕ) → IsLowestFree s have k → IsLowestFree s have k' → k' ≡ k
lowest_one s have k k' low low' =
    ⊎_elim (λ e. sym e)
    (⊎_elim
    (λ less. absurd (let a = low'.lower_used k less in let b = low.free in omega (arith, a, b)))
    (λ less. absurd (let a = low.lower_used k' less in let b = low'.free in omega (arith, a, b))))
    (cases_order k k')

takes_one_way : (s : ArchiveState) (have : List ℕ) (count : ℕ) (blocks blocks' : List ℕ) → TakesLowest s have count blocks → TakesLowest s have count blocks' → blocks' ≡ blocks
takes_one_way s have zero blocks blocks' takes takes' = takes' ∙ sym takes
takes_one_way s have (suc n) blocks blocks' takes takes' =
    let e = lowest_one s have takes.0 takes'.0 takes.1 takes'.1 in
    takes_one_way s (have ++ takes.0 ∷ []) n blocks blocks' takes.2 (subst (λ (k : ℕ). TakesLowest s (have ++ k ∷ []) n blocks') e takes'.2)

pub fills_one : (s : ArchiveState) (slot : ℕ) (x : StreamFacts) (total : ℕ) (blocks blocks' : List ℕ) → FillsBlocks s slot x total blocks → FillsBlocks s slot x total blocks' → blocks' ≡ blocks
fills_one s slot x total blocks blocks' fills fills' =
    let e : fills'.0 ≡ fills.0 = (let a = fills.1 in let b = fills'.1 in omega (arith, a, b)) in
    takes_one_way (with_stream s slot None) x.blocks fills.0 blocks blocks' fills.2 (subst (λ (n : ℕ). TakesLowest (with_stream s slot None) x.blocks n blocks') e fills'.2)

-- finish, where a stream becomes a case in these blocks
abbrev lacks_block : ArchiveState → StreamFacts → Bool
lacks_block s x = not (nat_eq (x.len % 4096) 0) && nat_eq (blocks_in s) s.shape.data_blocks

lacks_so : (s : ArchiveState) (x : StreamFacts) → (x.len % 4096 ≢ 0) → blocks_in s ≡ s.shape.data_blocks → lacks_block s x ≡ true
lacks_so s x over full = and_from (not (nat_eq (x.len % 4096) 0)) (nat_eq (blocks_in s) s.shape.data_blocks) (ap not (ne_eqb (x.len % 4096) 0 over)) (eq-eqb (blocks_in s) s.shape.data_blocks full)

lacks_not : (s : ArchiveState) (x : StreamFacts) → ((x.len % 4096 ≢ 0) → (blocks_in s ≡ s.shape.data_blocks) → ⊥) → lacks_block s x ≡ false
lacks_not s x may =
    ⊎_elim
    (λ e. and_left (not (nat_eq (x.len % 4096) 0)) (nat_eq (blocks_in s) s.shape.data_blocks) (ap not (eq-eqb (x.len % 4096) 0 e)))
    (λ over. and_right (not (nat_eq (x.len % 4096) 0)) (nat_eq (blocks_in s) s.shape.data_blocks) (ne_eqb (blocks_in s) s.shape.data_blocks (may over)))
    (cases_eq (x.len % 4096) 0)

abbrev finish_at : ArchiveState → List ℕ → Option StreamFacts → Result ℕ ArchiveFault
finish_at s blocks None = Err NoStream
finish_at s blocks (Some x) =
    cond (lacks_block s x) (Err SpaceFull)
    (cond (fits_somewhere s (stream_size x blocks) (cases_with s x blocks)) (cond (nat_lt s.next (2 ^ 32)) (Ok s.next) (Err NumbersSpent)) (Err JournalFull))

-- these are the blocks, where the answer depends on them
abbrev closes_at : ArchiveState → ℕ → Bool → Option StreamFacts → List ℕ → Type 0
closes_at s slot true o blocks = Unit {0}
closes_at s slot false None blocks = Unit {0}
closes_at s slot false (Some x) blocks = lacks_block s x ≡ false → FillsBlocks s slot x (blocks_for x.len) blocks

same_at : (s : ArchiveState) (slot : ℕ) (b : Bool) (o : Option StreamFacts) (blocks blocks' : List ℕ) → closes_at s slot b o blocks → closes_at s slot b o blocks'
    → cond b (Err Stopped) (finish_at s blocks' o) ≡ cond b (Err Stopped) (finish_at s blocks o)
same_at s slot true o blocks blocks' c c' = refl
same_at s slot false None blocks blocks' c c' = refl
same_at s slot false (Some x) blocks blocks' c c' =
    ⊎_elim
    (λ e. rw (e) refl)
    (λ e. ap (λ (l : List ℕ). finish_at s l (Some x)) (fills_one s slot x (blocks_for x.len) blocks blocks' (c e) (c' e)))
    (cases_Bool (lacks_block s x))

closes_from : (s : ArchiveState) (slot : ℕ) (x : StreamFacts) (blocks : List ℕ) → s.stopped ≡ false → stream_at s.streams slot ≡ Some x → (lacks_block s x ≡ false → FillsBlocks s slot x (blocks_for x.len) blocks)
    → closes_at s slot s.stopped (stream_at s.streams slot) blocks
closes_from s slot x blocks off is fills =
    subst (λ (b : Bool). closes_at s slot b (stream_at s.streams slot) blocks) (sym off) (subst (λ (o : Option StreamFacts). closes_at s slot false o blocks) (sym is) fills)

finish_is : (s : ArchiveState) (slot : ℕ) (r : Result ℕ ArchiveFault) (new : ArchiveState) → FinishStep s slot r new → IsDecided r
    → (blocks : List ℕ) × closes_at s slot s.stopped (stream_at s.streams slot) blocks × (r ≡ cond s.stopped (Err Stopped) (finish_at s blocks (stream_at s.streams slot)))
finish_is s slot (Ok seq) new step d = (
  step.1,
  closes_from s slot step.0 step.1 step.2.0 step.2.1 (λ _. step.8),
  rw (step.2.0, step.2.1, lacks_not s step.0 step.2.2, fit_is s (stream_size step.0 step.1) (cases_with s step.0 step.1) step.4, lt-ltb s.next (2 ^ 32) step.5) (ap Ok step.6),
)
finish_is s slot (Err Stopped) new step d = ([], rw (step.0) tt, rw (step.0) refl)
finish_is s slot (Err NoStream) new step d = ([], rw (step.0, step.1) tt, rw (step.0, step.1) refl)
finish_is s slot (Err SpaceFull) new step d = (
  [],
  closes_from s slot step.0 [] step.1 step.2 (λ not_so. absurd (true≢false (sym (lacks_so s step.0 step.3 step.4) ∙ not_so))),
  rw (step.1, step.2, lacks_so s step.0 step.3 step.4) refl,
)
finish_is s slot (Err JournalFull) new step d = (
  step.1,
  closes_from s slot step.0 step.1 step.2.0 step.2.1 (λ _. step.6),
  rw (step.2.0, step.2.1, lacks_not s step.0 step.2.2, full_is s (stream_size step.0 step.1) (cases_with s step.0 step.1) step.4) refl,
)
finish_is s slot (Err NumbersSpent) new step d = (
  step.1,
  closes_from s slot step.0 step.1 step.2.0 step.2.1 (λ _. step.7),
  rw (step.2.0, step.2.1, lacks_not s step.0 step.2.2, fit_is s (stream_size step.0 step.1) (cases_with s step.0 step.1) step.4, le-ltb s.next (2 ^ 32) (let e = step.5 in omega (arith, e))) refl,
)
finish_is s slot (Err OutOfMemory) new step d = absurd d
finish_is s slot (Err Disk) new step d = absurd d
finish_is s slot (Err _) new step d = absurd step

-- what it leaves by its answer
finish_new : (s : ArchiveState) (slot : ℕ) (r : Result ℕ ArchiveFault) (new new' : ArchiveState) → FinishStep s slot r new → FinishStep s slot r new' → IsDecided r → new' ≡ new
finish_new s slot (Ok seq) new new' step step' d =
    let same : step'.0 ≡ step.0 = some_is step'.0 step.0 (sym step'.2.1 ∙ step.2.1) in
    let blocks : step'.1 ≡ step.1 = fills_one s slot step.0 (blocks_for step.0.len) step.1 step'.1 step.8 (subst (λ (x : StreamFacts). FillsBlocks s slot x (blocks_for x.len) step'.1) same step'.8) in
    step'.7 ∙ ap (λ (x : StreamFacts). stored s slot x step'.1) same ∙ ap (stored s slot step.0) blocks ∙ sym step.7
finish_new s slot (Err Stopped) new new' step step' d = step'.1 ∙ sym step.1
finish_new s slot (Err NoStream) new new' step step' d = step'.2 ∙ sym step.2
finish_new s slot (Err SpaceFull) new new' step step' d = step'.5 ∙ sym step.5
finish_new s slot (Err JournalFull) new new' step step' d = step'.5 ∙ sym step.5
finish_new s slot (Err NumbersSpent) new new' step step' d = step'.6 ∙ sym step.6
finish_new s slot (Err OutOfMemory) new new' step step' d = absurd d
finish_new s slot (Err Disk) new new' step step' d = absurd d
finish_new s slot (Err _) new new' step step' d = absurd step

pub finish_one : (s : ArchiveState) (slot : ℕ) → IsOneAnswer (FinishStep s slot)
finish_one s slot r r' new new' step step' d d' =
    let x = finish_is s slot r new step d in
    let y = finish_is s slot r' new' step' d' in
    let same : r' ≡ r = y.2 ∙ same_at s slot s.stopped (stream_at s.streams slot) x.0 y.0 x.1 y.1 ∙ sym x.2 in
    (same, finish_new s slot r new new' step (subst (λ (q : Result ℕ ArchiveFault). FinishStep s slot q new') same step') d)

-- retire
said_decided : (d : Result Decision ArchiveFault) → IsDecided (decision_said d) → IsDecided d
said_decided (Ok x) h = tt
said_decided (Err OutOfMemory) h = h
said_decided (Err Disk) h = h
said_decided (Err _) h = tt

module _ (one : IsOneDecision) (s : ArchiveState) (policy : Policy) where
  abbrev briefs : List Brief
  briefs = map brief_of s.cases

  -- the record that drops the cases has room, or it has none
  not_both : (x : Decision) (new : ArchiveState) → RetireStep s policy (Ok x) new → (dropped : List ℕ) (unmet : Bool) → RetiresSome s policy dropped unmet → IsFull s (drop_size (length dropped)) (cases_without s dropped) → ⊥
  not_both x new step dropped unmet some full =
      let same : dropped ≡ x.dropped.items = one policy briefs dropped x.dropped.items unmet x.unmet some.1 step.1 in
      ⊎_elim
      (λ h. some.2 (same ∙ h.0))
      (λ h. (let full' = subst (λ (l : List ℕ). IsFull s (drop_size (length l)) (cases_without s l)) same full in
      true≢false (sym (fit_is s (drop_size (length x.dropped.items)) (cases_without s x.dropped.items) h.1) ∙ full_is s (drop_size (length x.dropped.items)) (cases_without s x.dropped.items) full')))
      step.2

  retire_pair : (d d' : Result Decision ArchiveFault) (new new' : ArchiveState) → RetireStep s policy d new → RetireStep s policy d' new' → IsDecided d → IsDecided d'
      → (decision_said d' ≡ decision_said d) × (new' ≡ new)
  retire_pair (Ok x) (Ok y) new new' step step' e e' =
      let same : y.dropped.items ≡ x.dropped.items = one policy briefs y.dropped.items x.dropped.items y.unmet x.unmet step'.1 step.1 in
      let unmet : y.unmet ≡ x.unmet = one_unmet policy briefs y.dropped.items x.dropped.items y.unmet x.unmet step'.1 step.1 in (
        ap (λ (l : List ℕ). Ok (l, y.unmet)) same ∙ ap (λ (b : Bool). Ok (x.dropped.items, b)) unmet,
        ⊎_elim
            (λ h. ⊎_elim (λ h'. h'.1 ∙ sym h.1) (λ h'. absurd (h'.0 (same ∙ h.0))) step'.2)
            (λ h. ⊎_elim (λ h'. absurd (h.0 (sym same ∙ h'.0))) (λ h'. h'.2 ∙ ap (without_cases s) same ∙ sym h.2) step'.2)
            step.2,
      )
  retire_pair (Ok x) (Err Stopped) new new' step step' e e' = absurd (false≢true (sym step.0 ∙ step'.0))
  retire_pair (Ok x) (Err JournalFull) new new' step step' e e' = absurd (not_both x new step step'.0 step'.1 step'.2 step'.3)
  retire_pair (Ok x) (Err OutOfMemory) new new' step step' e e' = absurd e'
  retire_pair (Ok x) (Err Disk) new new' step step' e e' = absurd e'
  retire_pair (Ok x) (Err _) new new' step step' e e' = absurd step'
  retire_pair (Err Stopped) (Ok y) new new' step step' e e' = absurd (false≢true (sym step'.0 ∙ step.0))
  retire_pair (Err Stopped) (Err Stopped) new new' step step' e e' = (refl, step'.1 ∙ sym step.1)
  retire_pair (Err Stopped) (Err JournalFull) new new' step step' e e' = absurd (false≢true (sym step'.2.0 ∙ step.0))
  retire_pair (Err Stopped) (Err OutOfMemory) new new' step step' e e' = absurd e'
  retire_pair (Err Stopped) (Err Disk) new new' step step' e e' = absurd e'
  retire_pair (Err Stopped) (Err _) new new' step step' e e' = absurd step'
  retire_pair (Err JournalFull) (Ok y) new new' step step' e e' = absurd (not_both y new' step' step.0 step.1 step.2 step.3)
  retire_pair (Err JournalFull) (Err Stopped) new new' step step' e e' = absurd (false≢true (sym step.2.0 ∙ step'.0))
  retire_pair (Err JournalFull) (Err JournalFull) new new' step step' e e' = (refl, step'.4 ∙ sym step.4)
  retire_pair (Err JournalFull) (Err OutOfMemory) new new' step step' e e' = absurd e'
  retire_pair (Err JournalFull) (Err Disk) new new' step step' e e' = absurd e'
  retire_pair (Err JournalFull) (Err _) new new' step step' e e' = absurd step'
  retire_pair (Err OutOfMemory) d' new new' step step' e e' = absurd e
  retire_pair (Err Disk) d' new new' step step' e e' = absurd e
  retire_pair (Err _) d' new new' step step' e e' = absurd step

  pub retire_one : IsOneAnswer (RetiresSo s policy)
  retire_one r r' new new' step step' e e' =
      let pair = retire_pair step.0 step'.0 new new' step.1 step'.1 (said_decided step.0 (subst IsDecided step.2 e)) (said_decided step'.0 (subst IsDecided step'.2 e')) in
      (step'.2 ∙ pair.0 ∙ sym step.2, pair.1)
