-- What a copy promises as a whole.
use Rattle.std.proofs.Common.{◌≡◌, ℕ, ◌+◌, ◌≤◌, List, refl, sym, ap, subst, arith, IsTrue, Result, Ok, Err, OnOk}
use Rattle.disk_model.specs.Keeping.{KeepsDisk}
use Rattle.disk_model.specs.MomentLaws.{now_too}
use Rattle.disk_model.specs.Moments.{LeavesOnly}
use Rattle.disk_model.specs.declared.disk.Disk as disk
use Rattle.case_journal.specs.Viewing.{OnlyReads}
use Rattle.intake.specs.Durable.{Durable}
use Rattle.intake.specs.QuietLaws.{quiet_then}
use Rattle.journal_layout.specs.Layout.{IsWithinLimits, half_length}
use Rattle.journal_layout.specs.Standing.{Standing}
use Rattle.journal_layout.specs.Stands.{Stands}
use Rattle.journal_layout.specs.declared.shape.Shape.{Shape}
use Rattle.journal_snapshot.specs.HoldLaws.{on_ok}
use Rattle.archive_care.specs.Bytes.{CopyCause}
use Rattle.archive_care.specs.Copied.{CopyCall, CopyStep, FindsCopy, HoldsCopy, IsOpeningsFault, OpenedCause, RightShape, SparesNew, copy_version}
use Rattle.archive_care.specs.Planning.{HasSpace, IsPlan, copied_size}
use Rattle.archive_care.specs.declared.copying.CopyWish.{CopyWish}
use Rattle.archive_care.specs.declared.faults.CopyFault.{CopyFault}
use Rattle.archive_care.specs.declared.faults.CopyFault.TheVariants.{Open, BadShape, SpaceFull, JournalFull, OutOfMemory, Source, Target}
use Rattle.archive_care.proofs.ByteLemmas.{cause_since}
use Rattle.archive_care.proofs.CopyLemmas.{finds_copy}

-- an opening only reads
pub opening_reads : {D : Type 0} (g : disk.Ghosts D) (old new : D) → ((t : ℕ) (c : List ℕ) → t ≤ g.clock new → g.may_leave new c → g.left_since new t c)
    → (IsTrue (g.is_honest old) → LeavesOnly g old new (g.may_leave old)) → (IsTrue (g.is_honest old) → g.seen new ≡ g.seen old)
    → g.is_honest new ≡ g.is_honest old → g.size new ≡ g.size old → OnlyReads g old new
opening_reads g old new counts moments seen honesty size = record {
  seen = seen;
  crash = λ honest c may. now_too g old new (g.may_leave old) (moments honest) counts c may;
  moments = moments;
  honesty = honesty;
  size = size;
}

-- it is answered before anything is written
abbrev pub IsEarly : CopyFault → Type 0
IsEarly BadShape = Unit {0}
IsEarly SpaceFull = Unit {0}
IsEarly JournalFull = Unit {0}
IsEarly OutOfMemory = Unit {0}
IsEarly _ = ⊥

-- a shape that is refused
pub right_early : (size : ℕ) (shape : Shape) (e : CopyFault) → RightShape size shape (Err e) → IsEarly e
right_early size shape (Open f) right = absurd right
right_early size shape BadShape right = tt
right_early size shape SpaceFull right = absurd right
right_early size shape JournalFull right = absurd right
right_early size shape OutOfMemory right = absurd right
right_early size shape Source right = absurd right
right_early size shape Target right = absurd right

pub right_step : (size : ℕ) (shape : Shape) (s : Standing) (e : CopyFault) → RightShape size shape (Err e) → CopyStep size shape s (Err e)
right_step size shape s (Open f) right = absurd right
right_step size shape s BadShape right = right
right_step size shape s SpaceFull right = absurd right
right_step size shape s JournalFull right = absurd right
right_step size shape s OutOfMemory right = absurd right
right_step size shape s Source right = absurd right
right_step size shape s Target right = absurd right

-- a plan that is refused
pub plan_early : (shape : Shape) (found : Standing) (e : CopyFault) → IsPlan shape found (Err e) → IsEarly e
plan_early shape found (Open f) plan = absurd plan
plan_early shape found BadShape plan = tt
plan_early shape found SpaceFull plan = tt
plan_early shape found JournalFull plan = tt
plan_early shape found OutOfMemory plan = tt
plan_early shape found Source plan = absurd plan
plan_early shape found Target plan = absurd plan

pub plan_step : (size : ℕ) (shape : Shape) (found s : Standing) (e : CopyFault) → IsWithinLimits shape → found ≡ s → IsPlan shape found (Err e) → CopyStep size shape s (Err e)
plan_step size shape found s (Open f) limits is plan = absurd plan
plan_step size shape found s BadShape limits is plan = absurd (plan limits)
plan_step size shape found s SpaceFull limits is plan = subst (λ (x : Standing). CopyStep size shape x (Err SpaceFull)) is plan
plan_step size shape found s JournalFull limits is plan = subst (λ (x : Standing). CopyStep size shape x (Err JournalFull)) is plan
plan_step size shape found s OutOfMemory limits is plan = tt
plan_step size shape found s Source limits is plan = absurd plan
plan_step size shape found s Target limits is plan = absurd plan

module _ {D N : Type 0} (g : disk.Ghosts D) (h : disk.Ghosts N) where
  early_spares : (onto : N) (e : CopyFault) → IsEarly e → SparesNew (Err e) onto onto
  early_spares onto (Open f) early = absurd early
  early_spares onto BadShape early = refl
  early_spares onto SpaceFull early = refl
  early_spares onto JournalFull early = refl
  early_spares onto OutOfMemory early = refl
  early_spares onto Source early = absurd early
  early_spares onto Target early = absurd early

  early_opening : (from : D) (e : CopyFault) → IsEarly e → IsOpeningsFault g from (Err e)
  early_opening from (Open f) early = absurd early
  early_opening from BadShape early = tt
  early_opening from SpaceFull early = tt
  early_opening from JournalFull early = tt
  early_opening from OutOfMemory early = tt
  early_opening from Source early = absurd early
  early_opening from Target early = absurd early

  early_cause : (from from' : D) (onto onto' : N) (e : CopyFault) → IsEarly e → OpenedCause g h from from' onto onto' (Err e)
  early_cause from from' onto onto' (Open f) early = absurd early
  early_cause from from' onto onto' BadShape early = tt
  early_cause from from' onto onto' SpaceFull early = tt
  early_cause from from' onto onto' JournalFull early = tt
  early_cause from from' onto onto' OutOfMemory early = tt
  early_cause from from' onto onto' Source early = absurd early
  early_cause from from' onto onto' Target early = absurd early

  -- a refusal before anything is written
  pub early_call : (wanted : CopyWish) (from from' : D) (onto : N) (e : CopyFault) → IsEarly e → OnlyReads g from from' → g.failures from ≤ g.failures from'
      → ((s : Standing) → IsTrue (g.is_honest from) → Stands (g.seen from) s → CopyStep (h.size onto) wanted.shape s (Err e)) → CopyCall g h wanted from from' onto onto (Err e)
  early_call wanted from from' onto e early quiet later step = record {
    copied = λ x honest honest_onto stands. tt;
    step = step;
    opening = early_opening from e early;
    spares = early_spares onto e early;
    quiet = quiet;
    cause = early_cause from from' onto onto e early;
    later = later;
    later_onto = omega arith;
    honesty = refl;
    size = refl;
  }

  late_step : (size : ℕ) (shape : Shape) (s : Standing) (from from' : D) (onto onto' : N) (r : Result (Unit {0}) CopyFault) → CopyCause g h from from' onto onto' r
      → HasSpace shape s → copied_size s + 1 ≤ half_length shape → CopyStep size shape s r
  late_step size shape s from from' onto onto' (Ok u) cause room fits = (room, fits)
  late_step size shape s from from' onto onto' (Err (Open f)) cause room fits = absurd cause
  late_step size shape s from from' onto onto' (Err BadShape) cause room fits = absurd cause
  late_step size shape s from from' onto onto' (Err SpaceFull) cause room fits = absurd cause
  late_step size shape s from from' onto onto' (Err JournalFull) cause room fits = absurd cause
  late_step size shape s from from' onto onto' (Err OutOfMemory) cause room fits = absurd cause
  late_step size shape s from from' onto onto' (Err Source) cause room fits = (room, fits)
  late_step size shape s from from' onto onto' (Err Target) cause room fits = (room, fits)

  late_spares : (from from' : D) (onto onto' : N) (r : Result (Unit {0}) CopyFault) → CopyCause g h from from' onto onto' r → SparesNew r onto onto'
  late_spares from from' onto onto' (Ok u) cause = tt
  late_spares from from' onto onto' (Err (Open f)) cause = absurd cause
  late_spares from from' onto onto' (Err BadShape) cause = absurd cause
  late_spares from from' onto onto' (Err SpaceFull) cause = absurd cause
  late_spares from from' onto onto' (Err JournalFull) cause = absurd cause
  late_spares from from' onto onto' (Err OutOfMemory) cause = absurd cause
  late_spares from from' onto onto' (Err Source) cause = tt
  late_spares from from' onto onto' (Err Target) cause = tt

  late_opening : (at from from' : D) (onto onto' : N) (r : Result (Unit {0}) CopyFault) → CopyCause g h from from' onto onto' r → IsOpeningsFault g at r
  late_opening at from from' onto onto' (Ok u) cause = tt
  late_opening at from from' onto onto' (Err (Open f)) cause = absurd cause
  late_opening at from from' onto onto' (Err BadShape) cause = absurd cause
  late_opening at from from' onto onto' (Err SpaceFull) cause = absurd cause
  late_opening at from from' onto onto' (Err JournalFull) cause = absurd cause
  late_opening at from from' onto onto' (Err OutOfMemory) cause = absurd cause
  late_opening at from from' onto onto' (Err Source) cause = tt
  late_opening at from from' onto onto' (Err Target) cause = tt

  late_cause : (from mid from' : D) (onto onto' : N) (r : Result (Unit {0}) CopyFault) → g.failures from ≤ g.failures mid → CopyCause g h mid from' onto onto' r → OpenedCause g h from from' onto onto' r
  late_cause from mid from' onto onto' (Ok u) low cause = tt
  late_cause from mid from' onto onto' (Err (Open f)) low cause = absurd cause
  late_cause from mid from' onto onto' (Err BadShape) low cause = absurd cause
  late_cause from mid from' onto onto' (Err SpaceFull) low cause = absurd cause
  late_cause from mid from' onto onto' (Err JournalFull) low cause = absurd cause
  late_cause from mid from' onto onto' (Err OutOfMemory) low cause = absurd cause
  late_cause from mid from' onto onto' (Err Source) low cause = cause_since g h (Unit {0}) (Unit {0}) from mid from' onto onto onto' Source low (omega arith) cause
  late_cause from mid from' onto onto' (Err Target) low cause = cause_since g h (Unit {0}) (Unit {0}) from mid from' onto onto onto' Target low (omega arith) cause

  -- what is answered once it is written
  pub late_call : (wanted : CopyWish) (from mid from' : D) (onto onto' : N) (found : Standing) (r : Result (Unit {0}) CopyFault)
      → ((s : Standing) → IsTrue (g.is_honest from) → Stands (g.seen from) s → found ≡ s)
      → HasSpace wanted.shape found → copied_size found + 1 ≤ half_length wanted.shape
      → OnlyReads g from mid → g.failures from ≤ g.failures mid → OnlyReads g mid from' → g.failures mid ≤ g.failures from'
      → (IsTrue (g.is_honest mid) → IsTrue (h.is_honest onto)
      → OnOk r ((c : List ℕ) → h.may_leave onto' c → HoldsCopy (g.seen mid) found wanted.shape (copy_version wanted.keeps_labels found.version) c))
      → KeepsDisk h onto onto' (r ≡ Err Target) → CopyCause g h mid from' onto onto' r → CopyCall g h wanted from from' onto onto' r
  late_call wanted from mid from' onto onto' found r finds room fits first low second later holds keeps cause = record {
    copied = λ x honest honest_onto a.
        let still : IsTrue (g.is_honest mid) = subst IsTrue (sym first.honesty) honest in
        let is = finds a.standing honest a.stands in
        let version : a.standing.version ≡ x.version = ap (λ (d : Durable). d.version) a.is in
        on_ok r _ _
        (λ each. λ c may.
        let here = subst (λ (s : Standing). HoldsCopy (g.seen mid) s wanted.shape (copy_version wanted.keeps_labels s.version) c) is (each c may) in
        let there = subst (λ (b : List ℕ). HoldsCopy b a.standing wanted.shape (copy_version wanted.keeps_labels a.standing.version) c) (first.seen honest) here in
        subst (λ (v : ℕ). FindsCopy (copy_version wanted.keeps_labels v) x c) version
        (finds_copy (g.seen from) c wanted.shape (copy_version wanted.keeps_labels a.standing.version) x a there))
        (holds still honest_onto);
    step = λ s honest stands.
        let is = finds s honest stands in
        late_step (h.size onto) wanted.shape s mid from' onto onto' r cause (subst (HasSpace wanted.shape) is room) (subst (λ (x : Standing). copied_size x + 1 ≤ half_length wanted.shape) is fits);
    opening = late_opening from mid from' onto onto' r cause;
    spares = late_spares mid from' onto onto' r cause;
    quiet = quiet_then g from mid from' first second;
    cause = late_cause from mid from' onto onto' r low cause;
    later = omega arith;
    later_onto = keeps.later;
    honesty = keeps.honesty;
    size = keeps.size;
  }
