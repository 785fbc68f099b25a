-- The streams are dropped, slot by slot.
use Rattle.std.proofs.Common.{◌≡◌, ◌⊎◌, inl, inr, ⊎_elim, ℕ, zero, suc, ◌+◌, ◌<◌, ◌≤◌, List, [], ◌∷◌, length, Option, None, Result, Ok, Err, refl, sym, ap, ◌∙◌, arith}
use Rattle.std.proofs.lemmas.Bool.{cases_lt}
use Rattle.std.specs.Prelude.{slice_set}
use Rattle.intake.specs.declared.faults.ArchiveFault.{ArchiveFault}
use Rattle.intake.specs.declared.faults.ArchiveFault.TheVariants.{Stopped, NoStream}
use Rattle.disk_model.specs.declared.disk.Disk as disk
use Rattle.intake.specs.Calls.{ChangesNoCase}
use Rattle.intake.specs.Parts.{Parts, state_of}
use Rattle.intake.specs.Slots.{stream_at}
use Rattle.intake.specs.State.{ArchiveState}
use Rattle.intake.specs.Step.{AbandonStep}
use Rattle.inspector_cli.specs.Session.{DropsStreams, HasNoStream}

-- no stream is open in the first n slots
abbrev pub IsQuietBelow : ℕ → ArchiveState → Type 0
IsQuietBelow n s = (k : ℕ) → k < n → stream_at s.streams k ≡ None

abbrev pub ClosesBelow : ℕ → ArchiveState → ArchiveState → Type 0
ClosesBelow n old new = IsQuietBelow n new × (new ≡ record old { streams = new.streams })

none_set : {X : Type 0} (xs : List (Option X)) (slot k : ℕ) → stream_at xs k ≡ None ⊎ (k ≡ slot) → stream_at (slice_set xs slot None) k ≡ None
none_set [] slot k h = refl
none_set (x ∷ xs) zero zero h = refl
none_set (x ∷ xs) zero (suc k) h = ⊎_elim (λ none. none) (λ same. absurd (omega arith)) h
none_set (x ∷ xs) (suc slot) zero h = ⊎_elim (λ none. none) (λ same. absurd (omega arith)) h
none_set (x ∷ xs) (suc slot) (suc k) h = none_set xs slot k (⊎_elim (λ none. inl none) (λ same. inr (omega arith)) h)

beyond : {X : Type 0} (xs : List (Option X)) (k : ℕ) → length xs ≤ k → stream_at xs k ≡ None
beyond [] k h = refl
beyond (x ∷ xs) zero h = absurd (omega arith)
beyond (x ∷ xs) (suc k) h = beyond xs k (omega arith)

below_next : (n k : ℕ) → k < n + 1 → (k < n) ⊎ (k ≡ n)
below_next n k lt = ⊎_elim (λ a. inl a) (λ b. inr (omega arith)) (cases_lt k n)

-- a stream that is dropped, or is not there, opens none
quiet_yet : (old new : ArchiveState) (slot k : ℕ) (r : Result (Unit {0}) ArchiveFault) → AbandonStep old slot r new → stream_at old.streams k ≡ None → stream_at new.streams k ≡ None
quiet_yet old new slot k (Ok u) step none = ap (λ (s : ArchiveState). stream_at s.streams k) step.2 ∙ none_set old.streams slot k (inl none)
quiet_yet old new slot k (Err Stopped) step none = ap (λ (s : ArchiveState). stream_at s.streams k) step.1 ∙ none
quiet_yet old new slot k (Err NoStream) step none = ap (λ (s : ArchiveState). stream_at s.streams k) step.2 ∙ none
quiet_yet old new slot k (Err _) step none = absurd step

kept_yet : (begun old new : ArchiveState) (slot : ℕ) (r : Result (Unit {0}) ArchiveFault) → old ≡ record begun { streams = old.streams } → AbandonStep old slot r new → new ≡ record begun { streams = new.streams }
kept_yet begun old new slot (Ok u) kept step =
    step.2 ∙ ap (λ (s : ArchiveState). record s { streams = slice_set old.streams slot None }) kept ∙ ap (λ (s : ArchiveState). record begun { streams = s.streams }) (sym step.2)
kept_yet begun old new slot (Err Stopped) kept step = step.1 ∙ kept ∙ ap (λ (s : ArchiveState). record begun { streams = s.streams }) (sym step.1)
kept_yet begun old new slot (Err NoStream) kept step = step.2 ∙ kept ∙ ap (λ (s : ArchiveState). record begun { streams = s.streams }) (sym step.2)
kept_yet begun old new slot (Err _) kept step = absurd step

pub closes_on : (n : ℕ) (begun old new : ArchiveState) (r : Result (Unit {0}) ArchiveFault) → ClosesBelow n begun old → AbandonStep old n r new → stream_at new.streams n ≡ None → ClosesBelow (n + 1) begun new
closes_on n begun old new r so_far step quiet = (
  λ k lt. ⊎_elim (λ below. quiet_yet old new n k r step (so_far.0 k below)) (λ same. ap (stream_at new.streams) same ∙ quiet) (below_next n k lt),
  kept_yet begun old new n r so_far.1 step,
)

pub closes_none : (s : ArchiveState) → ClosesBelow 0 s s
closes_none s = (λ k lt. absurd (omega arith), refl)

all_quiet : (s : ArchiveState) → IsQuietBelow 8 s → length s.streams ≤ 8 → HasNoStream s
all_quiet s quiet few = λ k. ⊎_elim (λ a. quiet k a) (λ b. beyond s.streams k (omega arith)) (cases_lt k 8)

pub closed_all : {D : Type 0} (g : disk.Ghosts D) (old new : Parts D) → ClosesBelow 8 (state_of old) (state_of new) → length (state_of new).streams ≤ 8 → new.disk ≡ old.disk → ChangesNoCase g old new → DropsStreams g old new
closed_all g old new closes few same stays = record { quiet = all_quiet (state_of new) closes.0 few; kept = closes.1; disk = same; stays = stays }
