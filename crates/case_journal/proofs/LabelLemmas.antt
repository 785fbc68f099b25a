-- What the append of a label and an upgrade make of a journal, and what refuses them.
use Rattle.std.proofs.Common.{◌≡◌, inl, inr, ◌⊎◌, ◌∙◌, ℕ, Bool, List, false, IsTrue, Ok, Err, refl, ap}
use Rattle.disk_model.specs.Moments.{LeavesOnly}
use Rattle.disk_model.specs.MomentLaws.{started}
use Rattle.disk_model.specs.declared.disk.Disk as disk
use Rattle.journal_layout.specs.Record.{Label}
use Rattle.journal_layout.specs.Live.{AreLive}
use Rattle.journal_layout.specs.LiveFinds.{label_sound}
use Rattle.journal_layout.specs.Standing.{Standing, folded_of}
use Rattle.journal_layout.specs.Stands.{Stands}
use Rattle.journal_layout.specs.Rewriting.{upgraded}
use Rattle.case_journal.specs.declared.compacting.JournalEnd.{JournalEnd}
use Rattle.case_journal.specs.declared.faults.JournalFault.{JournalFault}
use Rattle.case_journal.specs.declared.faults.JournalFault.TheVariants.{Stopped, JournalFull, NumbersSpent, OutOfMemory, Disk, OldVersion}
use Rattle.case_journal.specs.Journaled.{Journaled, running}
use Rattle.case_journal.specs.Keeping.{Keeps}
use Rattle.case_journal.specs.Append.{MayFollow, MayLabel}
use Rattle.case_journal.specs.Compacting.{SnapshotStep, UpgradeStep, anew_in_two, moved, noted}
use Rattle.case_journal.specs.Entering.{in_two}

-- the record of a label that a case may get may follow, in version 2
pub label_follows : (s : Standing) (seq : ℕ) (text : List ℕ) → AreLive s.shape.data_blocks s.cases s.next → s.version ≡ 2 → MayLabel s seq text → MayFollow s (Label seq text)
label_follows s seq text live two may = label_sound s.shape.data_blocks (folded_of s) seq text live two may.0 may.1

module _ (j : Journaled) (runs : j.stopped ≡ false) (one : j.standing.version ≡ 1) where
  -- an upgrade that is refused
  pub upgrade_refused : (e : JournalFault) → SnapshotStep j.standing (anew_in_two j.standing) (Err e) → UpgradeStep j (Err e) (noted e j)
  upgrade_refused JournalFull step = (runs, one, step, refl)
  upgrade_refused OutOfMemory step = (runs, one, step, refl)
  upgrade_refused Disk step = (runs, one, step, refl)
  upgrade_refused Stopped step = absurd step
  upgrade_refused NumbersSpent step = absurd step
  upgrade_refused OldVersion step = absurd step

  -- and one that is made
  pub upgrade_moved : (p : JournalEnd) → SnapshotStep j.standing (anew_in_two j.standing) (Ok p) → in_two (moved j p) ≡ running (upgraded j.standing)
  upgrade_moved p step = ap (λ (q : JournalEnd). in_two (moved j q)) step.1 ∙ ap (λ (t : Bool). record { standing = upgraded j.standing; stopped = t }) runs

  pub upgrade_made : (p : JournalEnd) (new : Journaled) → SnapshotStep j.standing (anew_in_two j.standing) (Ok p) → new ≡ in_two (moved j p) → UpgradeStep j (Ok tt) new
  upgrade_made p new step is = (runs, inr (one, step.0, is ∙ upgrade_moved p step))

-- nothing was done
pub still_stands : {D : Type 0} (g : disk.Ghosts D) (d : D) (j : Journaled) (s : Standing) → ((c : List ℕ) → g.left_since d (g.clock d) c → g.may_leave d c) → Keeps g d j → j.stopped ≡ false
    → IsTrue (g.is_honest d) → LeavesOnly g d d (λ c. Stands c j.standing ⊎ Stands c s)
still_stands g d j s only keeps runs honest =
    started g d (λ (b : List ℕ). Stands b j.standing ⊎ Stands b s) (λ c was. inl ((keeps.holds runs honest).stands c (only c was)))
