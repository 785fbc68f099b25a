-- What a call promises of the cases where it changes nothing, and what a sound archive promises of a crash.
use Rattle.std.proofs.Common.{◌≡◌, ℕ, zero, suc, Bool, true, false, List, [], ◌∷◌, Option, None, map, slice_set, refl, ap, subst, ◌∙◌, arith}
use Rattle.std.specs.Prelude.{IsTrue, Result, option_map}
use Rattle.disk_model.specs.MomentLaws.{adds_nothing}
use Rattle.disk_model.specs.declared.disk.Disk as disk
use Rattle.case_journal.specs.Journaled.{Journaled}
use Rattle.intake.specs.Calls.{Changes, CloseCall}
use Rattle.intake.specs.Durable.{Durable, StandsFor, durable_in, durable_of}
use Rattle.intake.specs.Growth.{IsDiskFault}
use Rattle.intake.specs.Guarding.{Leaves}
use Rattle.intake.specs.Parts.{Parts, StreamParts, stream_facts}
use Rattle.intake.specs.Slots.{stream_at, closed}
use Rattle.intake.specs.Sound.{IsArchiveSound}
use Rattle.intake.specs.declared.faults.ArchiveFault.{ArchiveFault}
use Rattle.intake.proofs.RestLemmas.{stands_now}

mapped_none : (xs : List (Option StreamParts)) (slot : ℕ) → stream_at (map (option_map stream_facts) (slice_set xs slot None)) slot ≡ None
mapped_none [] slot = refl
mapped_none (x ∷ xs) zero = refl
mapped_none (x ∷ xs) (suc slot) = mapped_none xs slot

closed_at : {X Y : Type 0} (f : X → Y) (xs : List (Option X)) (slot : ℕ) → stream_at (map (option_map f) (closed xs)) slot ≡ None
closed_at f [] slot = refl
closed_at f (x ∷ xs) zero = refl
closed_at f (x ∷ xs) (suc slot) = closed_at f xs slot

-- a sound archive that is stopped has no stream
pub stopped_quiet : {D : Type 0} (g : disk.Ghosts D) (d : D) (j : Journaled) (most : ℕ) (flags : List Bool) (streams : List (Option StreamParts)) (stopped : Bool) (slot : ℕ) → IsArchiveSound g d j most flags streams stopped
    → stopped ≡ true → stream_at (map (option_map stream_facts) streams) slot ≡ None
stopped_quiet g d j most flags streams stopped slot sound on =
    ap (λ (xs : List (Option StreamParts)). stream_at (map (option_map stream_facts) xs) slot) (sound.none on) ∙ closed_at stream_facts streams slot

-- a stream that was taken out of its slot is there no more
pub taken_quiet : (old new : List (Option StreamParts)) (slot : ℕ) → new ≡ slice_set old slot None → stream_at (map (option_map stream_facts) new) slot ≡ None
taken_quiet old new slot is = ap (λ (xs : List (Option StreamParts)). stream_at (map (option_map stream_facts) xs) slot) is ∙ mapped_none old slot

module _ {D : Type 0} (g : disk.Ghosts D) where
  -- a crash now leaves what a sound archive shows, unless it is stopped
  pub sound_stands : (d : D) (j : Journaled) (most : ℕ) (flags : List Bool) (streams : List (Option StreamParts)) (stopped : Bool) → IsArchiveSound g d j most flags streams stopped
      → stopped ≡ false → IsTrue (g.is_honest d) → (c : List ℕ) → g.may_leave d c → StandsFor c (durable_in (g.seen d) j.standing)
  sound_stands d j most flags streams stopped sound on honest c may = let running = sound.runs on in stands_now g d j running.keeps running.journal honest c may

  -- nothing is done, and the answer is not that the disk failed
  pub changes_none : (T : Type 0) (d : D) (j : Journaled) (most : ℕ) (flags : List Bool) (streams : List (Option StreamParts)) (stopped : Bool) (a : Parts D) (r : Result T ArchiveFault) (doubt : Durable → Type 0)
      → IsArchiveSound g d j most flags streams stopped → record { disk = d; journal = j; limit = most; streams = streams; stopped = stopped } ≡ a → (IsDiskFault r → ⊥) → Changes T g a r a doubt
  changes_none T d j most flags streams stopped a r doubt sound is none = record {
    disk = record { cause = λ fault. absurd (none fault); later = omega arith; honesty = refl; size = refl };
    crash = λ honest. adds_nothing g a.disk (Leaves (durable_of g.seen a) r (durable_of g.seen a) doubt);
    stands = subst (λ (x : Parts D). x.stopped ≡ false → IsTrue (g.is_honest x.disk) → (c : List ℕ) → g.may_leave x.disk c → StandsFor c (durable_of g.seen x)) is
        (sound_stands d j most flags streams stopped sound);
  }

  -- an archive that is closed
  pub closes : (d : D) (j : Journaled) (most : ℕ) (flags : List Bool) (streams : List (Option StreamParts)) (stopped : Bool) → IsArchiveSound g d j most flags streams stopped → (IsTrue (g.is_honest d) → g.may_leave d (g.seen d))
      → CloseCall g (record { disk = d; journal = j; limit = most; streams = streams; stopped = stopped }) d
  closes d j most flags streams stopped sound may = record {
    disk = refl;
    stands = λ on honest. sound_stands d j most flags streams stopped sound on honest (g.seen d) (may honest);
    left = sound_stands d j most flags streams stopped sound;
  }
