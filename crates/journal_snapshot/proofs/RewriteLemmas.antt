-- The steps of a rewriting, one after another.
use Rattle.std.proofs.Common.{◌≡◌, ◌⊎◌, inl, ◌+◌, ◌≤◌, ℕ, List, IsTrue, Result, Ok, Err, OnOk, length, arith}
use Rattle.disk_model.specs.Places.{part}
use Rattle.disk_model.specs.Moments.{LeavesOnly, IsSettled}
use Rattle.disk_model.specs.MomentLaws.{weakened, then_again}
use Rattle.disk_model.specs.declared.disk.Disk as disk
use Rattle.journal_layout.specs.declared.entry.Entry.{Entry}
use Rattle.journal_layout.specs.Layout.{half_length}
use Rattle.journal_layout.specs.Folding.{Folded}
use Rattle.journal_layout.specs.Standing.{Standing}
use Rattle.journal_layout.specs.Stands.{Stands}
use Rattle.journal_layout.specs.Rewriting.{other_start, rewritten}
use Rattle.journal_snapshot.specs.declared.change.Change.{Change}
use Rattle.journal_snapshot.specs.declared.target.Target.{Target}
use Rattle.journal_snapshot.specs.Filling.{Fills}
use Rattle.journal_snapshot.specs.FillLaws.{fills_wider, fills_then}
use Rattle.journal_snapshot.specs.Halves.{half_bytes, IsWrittenAs}
use Rattle.journal_snapshot.specs.Holding.{StandsInOtherHalf, IsReady}
use Rattle.journal_snapshot.specs.HoldLaws.{filling_stands, filled_in_other_half}
use Rattle.journal_snapshot.proofs.HalfLemmas.{bytes_within, holds_snapshot}

-- whatever is answered
pub on_ok : {T E : Type 0} (r : Result T E) (P : Type 0) → P → OnOk r P
on_ok (Ok x) P is = is
on_ok (Err e) P is = tt

-- the gate, and then what follows it
pub half_filled : {D : Type 0} (g : disk.Ghosts D) (old mid new : D) (start n : ℕ) → Fills g old mid start 1 → Fills g mid new (start + 1) n → Fills g old new start (1 + n)
half_filled g old mid new start n first second =
    fills_then g start (1 + n) old mid new (fills_wider g start 1 start (1 + n) old mid (omega arith) (omega arith) first) (fills_wider g (start + 1) n start (1 + n) mid new (omega arith) (omega arith) second)

module _ {D : Type 0} (g : disk.Ghosts D) (s : Standing) (f : Folded) (target : Target) (ch : Change) (es : List Entry) (is : IsWrittenAs s f target ch es) where
  low : other_start s + 1 ≤ target.start + 1
  low = omega (arith, is.place)

  high : target.start + 1 + length (half_bytes target ch es) ≤ other_start s + half_length s.shape
  high = omega (arith, is.place, bytes_within s f target ch es is)

  -- until the half is filled a crash leaves what was there before
  pub filled_moments : (old mid new : D) → IsTrue (g.is_honest mid) → LeavesOnly g old mid (λ c. Stands c s) → StandsInOtherHalf g mid s → Fills g mid new (target.start + 1) (length (half_bytes target ch es))
      → LeavesOnly g old new (λ c. Stands c s ⊎ Stands c (rewritten s f))
  filled_moments old mid new honest first snapshot_end fills =
      weakened g old new (λ c. Stands c s) (λ c. Stands c s ⊎ Stands c (rewritten s f)) (λ c stands. inl stands)
      (then_again g old mid new (λ c. Stands c s) first
      (filling_stands s (target.start + 1) (length (half_bytes target ch es)) low high g mid new honest snapshot_end fills))

  -- and then it is ready
  pub half_ready : (mid new : D) → IsTrue (g.is_honest mid) → StandsInOtherHalf g mid s → Fills g mid new (target.start + 1) (length (half_bytes target ch es)) → g.may_leave new (g.seen new)
      → part (g.seen new) (target.start + 1) (length (half_bytes target ch es)) ≡ half_bytes target ch es → IsSettled g new → IsReady g new s f
  half_ready mid new honest snapshot_end fills seen there settled = record {
    settled = settled;
    stands = (filled_in_other_half s (target.start + 1) (length (half_bytes target ch es)) low high g mid new honest snapshot_end fills).stands (g.seen new) seen;
    may = is.may;
    snapshot = holds_snapshot s f target ch es is (g.seen new) there;
  }
