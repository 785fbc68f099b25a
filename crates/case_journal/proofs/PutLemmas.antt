-- A record that is put, after the others or in the other half, and what an append makes of a journal then.
use Rattle.std.proofs.Common.{◌≡◌, ◌⊎◌, inl, inr, ⊎_elim, cond, ◌+◌, ◌*◌, ◌<◌, ◌≤◌, ◌^◌, ◌∙◌, ℕ, Bool, true, false, List, IsTrue, Result, Ok, Err, OnOk, length, refl, sym, ap, subst, arith}
use Rattle.std.proofs.lemmas.Bool.{ltb-true, ltb-false, false≢true}
use Rattle.disk_model.specs.Moments.{LeavesOnly, IsSettled}
use Rattle.disk_model.specs.Places.{part}
use Rattle.disk_model.specs.MomentLaws.{started}
use Rattle.disk_model.specs.declared.disk.Disk as disk
use Rattle.journal_layout.specs.Layout.{half_start, half_length, disk_length, data_start}
use Rattle.journal_layout.specs.Record.{Record, Drop, record_size}
use Rattle.journal_layout.specs.FitLaws.{drops_fit}
use Rattle.journal_layout.specs.Folding.{after}
use Rattle.journal_layout.specs.Standing.{Standing, folded_of, lengthened}
use Rattle.journal_layout.specs.Stands.{Stands}
use Rattle.journal_layout.specs.Rewriting.{snapshot_size, rewritten, fits, appended, other_start}
use Rattle.journal_layout.specs.AppendLaws.{appended_behind, appended_by_snapshot, fits_true}
use Rattle.journal_snapshot.specs.Filling.{Fills}
use Rattle.journal_snapshot.specs.FillLaws.{fills_nothing, fills_wider}
use Rattle.journal_snapshot.specs.Holding.{Holds}
use Rattle.case_journal.specs.declared.compacting.JournalEnd.{JournalEnd}
use Rattle.case_journal.specs.declared.faults.JournalFault.{JournalFault}
use Rattle.case_journal.specs.declared.faults.JournalFault.TheVariants.{Stopped, JournalFull, NumbersSpent, OutOfMemory, Disk, OldVersion}
use Rattle.case_journal.specs.Journaled.{Journaled, running, after_append}
use Rattle.case_journal.specs.Doubting.{DoubtsGates}
use Rattle.case_journal.specs.Keeping.{Keeps, LeavesEither}
use Rattle.case_journal.specs.Append.{RecordFits, MayFollow, AppendStep}
use Rattle.case_journal.specs.Compacting.{SnapshotStep, RunsSnapshot, CompactStep, PutLeaves, snapshot_end, compacted, moved, noted}
use Rattle.case_journal.specs.Entering.{place_after, PutStep}
use Rattle.case_journal.specs.Putting.{BehindStep, IsPut, RunsAppend, written_at, written_long}
use Rattle.case_journal.specs.Publishing.{Publishes}
use Rattle.case_journal.proofs.CompactLemmas.{in_halves}

-- where a record goes
behind_place : (s : Standing) (r : Record) → fits s r ≡ true → record { half = s.half; generation = s.generation; used = s.used + record_size r } ≡ place_after s r
behind_place s r e = ap (λ (x : Standing). record { half = x.half; generation = x.generation; used = x.used }) (appended_behind s r e)

snapshot_end_is : (s : Standing) (r : Record) → fits s r ≡ false → snapshot_end s (after r (folded_of s)) ≡ place_after s r
snapshot_end_is s r e = ap (λ (x : Standing). record { half = x.half; generation = x.generation; used = x.used }) (appended_by_snapshot s r e)

module _ (s : Standing) (r : Record) where
  over : fits s r ≡ false → half_length s.shape < s.used + record_size r + 1
  over e = let h = ltb-false (s.used + record_size r) (half_length s.shape) e in omega arith

  within : fits s r ≡ true → s.used + record_size r + 1 ≤ half_length s.shape
  within e = let h = ltb-true (s.used + record_size r) (half_length s.shape) e in omega arith

  -- it is written with all that is said then into the other half
  pub snapshot_put : (res : Result JournalEnd JournalFault) → fits s r ≡ false → SnapshotStep s (after r (folded_of s)) res → PutStep s r res
  snapshot_put (Ok p) e step = (inr step.0, step.1 ∙ snapshot_end_is s r e)
  snapshot_put (Err JournalFull) e step = (over e, step)
  snapshot_put (Err OutOfMemory) e step = inr step
  snapshot_put (Err Disk) e step = inr step
  snapshot_put (Err Stopped) e step = absurd step
  snapshot_put (Err NumbersSpent) e step = absurd step
  snapshot_put (Err OldVersion) e step = absurd step

  -- it is put after the others
  pub behind_put : (n : ℕ) (res : Result JournalEnd JournalFault) → fits s r ≡ true → n ≡ record_size r → BehindStep s n res → PutStep s r res
  behind_put n (Ok p) e is step =
      (inl (within e), step ∙ ap (λ (k : ℕ). record { half = s.half; generation = s.generation; used = s.used + k }) is ∙ behind_place s r e)
  behind_put n (Err Disk) e is step = inl (within e)
  behind_put n (Err Stopped) e is step = absurd step
  behind_put n (Err JournalFull) e is step = absurd step
  behind_put n (Err NumbersSpent) e is step = absurd step
  behind_put n (Err OutOfMemory) e is step = absurd step
  behind_put n (Err OldVersion) e is step = absurd step

  -- the next record goes into the half then
  pub place_lies : (p : JournalEnd) → 32 ≤ s.used → RecordFits s r → p ≡ place_after s r → (32 ≤ p.used) × (p.used + 1 ≤ half_length s.shape)
  place_lies p header in_half is = of (fits s r) refl (ap (λ (q : JournalEnd). q.used) is)
    where
      of : (t : Bool) → fits s r ≡ t → p.used ≡ cond t (s.used + record_size r) (snapshot_size (after r (folded_of s))) → (32 ≤ p.used) × (p.used + 1 ≤ half_length s.shape)
      of true e used = (omega (arith, used, header), omega (arith, used, within e))
      of false e used =
          ⊎_elim (λ low. absurd (omega (arith, low, over e))) (λ snapshot_end. (omega (arith, used), omega (arith, used, snapshot_end.0))) in_half

  pub no_memory : fits s r ≡ true → PutStep s r (Err OutOfMemory)
  no_memory e = inl (within e)

  pub fits_after_records : (n : ℕ) → fits s r ≡ true → n ≡ record_size r → s.used + n + 1 ≤ half_length s.shape
  fits_after_records n e is = omega (arith, within e, is)

  -- what it does to the disk
  pub snapshot_runs : {D : Type 0} (g : disk.Ghosts D) (old new : D) → fits s r ≡ false → RunsSnapshot g old new s (after r (folded_of s)) → RunsAppend g old new s r
  snapshot_runs g old new e runs = record {
    moments = λ honest. subst (λ (x : Standing). LeavesOnly g old new (λ c. Stands c s ⊎ Stands c x)) (appended_by_snapshot s r e) (runs.moments honest);
    half = in_other_half g old new (fits s r) e runs.half;
    fills = runs.fills;
    doubts = runs.doubts;
    later = runs.later;
  }
    where
      in_other_half : {D : Type 0} (g : disk.Ghosts D) (old new : D) (t : Bool) → t ≡ false → Fills g old new (other_start s) (half_length s.shape)
          → Fills g old new (cond t (half_start s.shape s.half + s.used) (other_start s)) (cond t (1 + record_size r) (half_length s.shape))
      in_other_half g old new true e fills = absurd (false≢true (sym e))
      in_other_half g old new false e fills = fills

  pub kept_in_other_half : {D : Type 0} (g : disk.Ghosts D) (old new : D) (res : Result JournalEnd JournalFault) → fits s r ≡ false → g.size new ≡ disk_length s.shape → g.is_honest new ≡ g.is_honest old
      → (IsTrue (g.is_honest old) → OnOk res (Holds g new (rewritten s (after r (folded_of s))))) → (IsTrue (g.is_honest old) → DoubtsGates g new s.shape)
      → OnOk res (Keeps g new (running (appended s r)))
  kept_in_other_half g old new (Ok p) e size honesty holds doubts = record {
    size = size;
    holds = λ on honest. subst (Holds g new) (appended_by_snapshot s r e) (holds (sym honesty ∙ honest));
    doubts = λ honest. doubts (sym honesty ∙ honest);
  }
  kept_in_other_half g old new (Err f) e size honesty holds doubts = tt

-- an append that is refused, or that did what it says
module _ (j : Journaled) (runs : j.stopped ≡ false) where
  pub append_refused : (r : Record) (e : JournalFault) → PutStep j.standing r (Err e) → AppendStep j r (Err e) (noted e j)
  append_refused r JournalFull step = (runs, step, refl)
  append_refused r OutOfMemory step = (runs, step, refl)
  append_refused r Disk step = (runs, step, refl)
  append_refused r Stopped step = absurd step
  append_refused r NumbersSpent step = absurd step
  append_refused r OldVersion step = absurd step

  -- where its cases are changed, the journal is the one after the record
  pub placed_is : (r : Record) (p : JournalEnd) → p ≡ place_after j.standing r
      → record { standing = record (moved j p).standing { cases = (appended j.standing r).cases; next = (appended j.standing r).next }; stopped = j.stopped } ≡ after_append j r
  placed_is r p is =
      ap (λ (q : JournalEnd). record { standing = record (moved j q).standing { cases = (appended j.standing r).cases; next = (appended j.standing r).next }; stopped = j.stopped }) is
      ∙ ap (λ (t : Bool). record { standing = appended j.standing r; stopped = t }) runs

  pub compact_refused : (e : JournalFault) → SnapshotStep j.standing (folded_of j.standing) (Err e) → CompactStep j (Err e) (noted e j)
  compact_refused JournalFull step = (runs, step, refl)
  compact_refused OutOfMemory step = (runs, step, refl)
  compact_refused Disk step = (runs, step, refl)
  compact_refused Stopped step = absurd step
  compact_refused NumbersSpent step = absurd step
  compact_refused OldVersion step = absurd step

  pub compact_moved : (p : JournalEnd) → SnapshotStep j.standing (folded_of j.standing) (Ok p) → moved j p ≡ running (compacted j.standing)
  compact_moved p step = ap (moved j) step.1 ∙ ap (λ (t : Bool). record { standing = compacted j.standing; stopped = t }) runs

  -- a refusal keeps the disk
  pub refused_keeps : {D : Type 0} (g : disk.Ghosts D) (d d' : D) (e : JournalFault) → Keeps g d j → g.size d' ≡ g.size d → g.is_honest d' ≡ g.is_honest d
      → (IsTrue (g.is_honest d) → DoubtsGates g d' j.standing.shape) → PutLeaves (Err e) d d' → Keeps g d' (noted e j)
  refused_keeps g d d' Disk keeps size honesty doubts refusal = record { size = size ∙ keeps.size; holds = λ on honest. absurd (false≢true (sym on)); doubts = λ honest. doubts (sym honesty ∙ honest) }
  refused_keeps g d d' JournalFull keeps size honesty doubts refusal = subst (λ x. Keeps g x j) (sym refusal) keeps
  refused_keeps g d d' OutOfMemory keeps size honesty doubts refusal = subst (λ x. Keeps g x j) (sym refusal) keeps
  refused_keeps g d d' Stopped keeps size honesty doubts refusal = subst (λ x. Keeps g x j) (sym refusal) keeps
  refused_keeps g d d' NumbersSpent keeps size honesty doubts refusal = subst (λ x. Keeps g x j) (sym refusal) keeps
  refused_keeps g d d' OldVersion keeps size honesty doubts refusal = subst (λ x. Keeps g x j) (sym refusal) keeps

-- what a drop leaves has room: it is refused as full only where no generation is left
pub full_by_generation : {D : Type 0} (g : disk.Ghosts D) (d : D) (j : Journaled) (seqs : List ℕ) → Keeps g d j → j.stopped ≡ false → IsTrue (g.is_honest d) → g.may_leave d (g.seen d)
    → MayFollow j.standing (Drop seqs) → (f : JournalFault) → PutStep j.standing (Drop seqs) (Err f) → ◌≡◌ {A = Result (Unit {0}) JournalFault} (Err f) (Err JournalFull) → j.standing.generation + 1 ≡ 2 ^ 64
full_by_generation g d j seqs keeps runs honest may sound JournalFull lacks is =
    let in_half = drops_fit (g.seen d) j.standing seqs ((keeps.holds runs honest).stands (g.seen d) may) sound in
    ⊎_elim (λ short. absurd (omega (arith, short, in_half))) (λ last. last) lacks.1
full_by_generation g d j seqs keeps runs honest may sound Stopped step is = absurd step
full_by_generation g d j seqs keeps runs honest may sound NumbersSpent step is = absurd step
full_by_generation g d j seqs keeps runs honest may sound OutOfMemory step is = absurd (cc)
full_by_generation g d j seqs keeps runs honest may sound Disk step is = absurd (cc)
full_by_generation g d j seqs keeps runs honest may sound OldVersion step is = absurd step

module _ (s : Standing) (r : Record) {D : Type 0} (g : disk.Ghosts D) (old new : D) where
  -- a record after the others
  pub behind_moments : fits s r ≡ true → LeavesOnly g old new (λ c. Stands c s ⊎ Stands c (lengthened s r)) → LeavesEither g old new s r
  behind_moments e moments = subst (λ (x : Standing). LeavesOnly g old new (λ c. Stands c s ⊎ Stands c x)) (appended_behind s r e) moments

  pub behind_keeps : fits s r ≡ true → g.size new ≡ disk_length s.shape → (IsTrue (g.is_honest new) → IsSettled g new) → (IsTrue (g.is_honest new) → (c : List ℕ) → g.may_leave new c → Stands c (lengthened s r))
      → (IsTrue (g.is_honest new) → DoubtsGates g new s.shape) → Keeps g new (running (appended s r))
  behind_keeps e size settled stands doubts = record {
    size = size;
    doubts = doubts;
    holds = λ on honest. subst (Holds g new) (appended_behind s r e) (record {
      stands = stands honest;
      front = λ c may. ap (λ (l : List ℕ). part l 0 (data_start s.shape)) (settled honest c may);
    });
  }

-- bytes that may be put after the others
pub publishes : (s : Standing) (r : Record) (gate : ℕ) (behind : List ℕ) → gate ≡ half_start s.shape s.half + s.used → s.used + length behind + 1 ≤ half_length s.shape → IsPut s r behind → Publishes s r gate behind
publishes s r gate behind place in_half put = record { place = place; bytes = put.bytes; long = put.long; in_half = omega (arith, in_half, put.long); sound = put.sound }

pub put_fits : (s : Standing) (r : Record) (behind : List ℕ) → s.used + length behind + 1 ≤ half_length s.shape → IsPut s r behind → fits s r ≡ true
put_fits s r behind in_half put = fits_true s r (omega (arith, in_half, put.long))

-- they lie in the halves
pub behind_fills : {D : Type 0} (g : disk.Ghosts D) (old new : D) (s : Standing) (gate n : ℕ) → gate ≡ half_start s.shape s.half + s.used → s.used + n + 1 ≤ half_length s.shape → Fills g old new gate (1 + n) → Fills g old new 4096 (2 * half_length s.shape)
behind_fills g old new s gate n place in_half fills =
    let both = in_halves s.shape s.half in
    fills_wider g gate (1 + n) 4096 (2 * half_length s.shape) old new (omega (arith, both.0, place)) (omega (arith, both.1, place, in_half)) fills

-- they lie in the half that is written
pub behind_half : {D : Type 0} (g : disk.Ghosts D) (old new : D) (s : Standing) (r : Record) (gate n : ℕ) → fits s r ≡ true → gate ≡ half_start s.shape s.half + s.used → n ≡ record_size r → Fills g old new gate (1 + n)
    → Fills g old new (written_at s r) (written_long s r)
behind_half g old new s r gate n e place long fills = of (fits s r) e
  where
    of : (t : Bool) → t ≡ true → Fills g old new (cond t (half_start s.shape s.half + s.used) (other_start s)) (cond t (1 + record_size r) (half_length s.shape))
    of true e = subst (λ (k : ℕ). Fills g old new (half_start s.shape s.half + s.used) (1 + k)) long (subst (λ (k : ℕ). Fills g old new k (1 + n)) place fills)
    of false e = absurd (false≢true e)

-- nothing was done
pub nothing_runs : {D : Type 0} (g : disk.Ghosts D) (d : D) (j : Journaled) (r : Record) → ((c : List ℕ) → g.left_since d (g.clock d) c → g.may_leave d c) → Keeps g d j → j.stopped ≡ false → RunsAppend g d d j.standing r
nothing_runs g d j r only keeps runs = record {
  moments = λ honest. started g d (λ (b : List ℕ). Stands b j.standing ⊎ Stands b (appended j.standing r)) (λ c was. inl ((keeps.holds runs honest).stands c (only c was)));
  half = fills_nothing g (written_at j.standing r) (written_long j.standing r) d only;
  fills = fills_nothing g 4096 (2 * half_length j.standing.shape) d only;
  doubts = keeps.doubts;
  later = omega arith;
}
