-- What is told while a reply is held.
use Rattle.std.proofs.Common.{◌≡◌, ◌⊎◌, inr, ℕ, Bool, List, [], Option, Result, subst}
use Rattle.std.specs.Io.KnownBytes.{append_known}
use Rattle.disk_model.specs.declared.disk.Disk as disk
use Rattle.script_lines.specs.Said.{Said}
use Rattle.archive_files.specs.Checks.{ChecksHeld, ChecksTaken}
use Rattle.archive_files.specs.OverDisks.{AnswersHeld, AnswersLine}
use Rattle.archive_files.specs.Told.{EndsHeld}
use Rattle.archive_files.specs.declared.failures.Failure.{Failure}
use Rattle.archive_files.specs.declared.failures.Refusal.{Refusal}

-- a check begins with what the output had taken
pub checks_held : {D : Type 0} {g : disk.Ghosts D} {start : Option (List ℕ)} {r : Result (Unit {0}) Failure} (sees : Bool) (before after : Option (List ℕ)) (lost lost' : ℕ)
    (taken : Result D Refusal) (checked : Result (Unit {0}) Failure) (left : Option D) → start ≡ append_known before []
    → ChecksTaken g sees start after lost lost' taken checked left → EndsHeld checked r → ChecksHeld g sees before r
checks_held {g = g} sees before after lost lost' taken checked left same checks ends =
    (taken, after, lost, lost', checked, left, subst (λ (t : Option (List ℕ)). ChecksTaken g sees t after lost lost' taken checked left) same checks, ends)

-- and so does an answer
pub answers_held : {D : Type 0} {g : disk.Ghosts D} {start : Option (List ℕ)} {r : Result (Unit {0}) Failure} (what : Said) (taken taken' : Option (List ℕ)) (lost lost' : ℕ)
    (before after : D) (asked : Result (Unit {0}) Failure) → start ≡ append_known taken []
    → AnswersLine g what start taken' lost lost' before asked after → EndsHeld asked r → AnswersHeld g what taken r
answers_held {g = g} what taken taken' lost lost' before after asked same answers ends =
    inr (before, after, taken', lost, lost', asked, subst (λ (t : Option (List ℕ)). AnswersLine g what t taken' lost lost' before asked after) same answers, ends)
