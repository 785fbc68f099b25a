-- What a copy had written before it began.
use Rattle.std.proofs.Common.{◌≡◌, ℕ, List, Option, Result, subst}
use Rattle.disk_model.specs.declared.disk.Disk as disk
use Rattle.shared_disk.specs.declared.looked.Looked.{Looked}
use Rattle.shared_disk.specs.declared.shared.SharedDisk as shared
use Rattle.shared_disk.specs.declared.unlocked.Unlocked.{Unlocked}
use Rattle.archive_files.specs.Looking.{CopiesLooked, CopiesTaken}
use Rattle.archive_files.specs.declared.failures.Refusal.{Refusal}
use Rattle.archive_files.specs.declared.over_disk.Unfinished.{Unfinished}

-- it is the same to an output that had taken the same, and failed as often
pub copies_taken : {S : Type 0} {g : shared.Ghosts S} {U : disk.Ghosts (Unlocked S g)} {seq : ℕ} {start start' : Option (List ℕ)} {lost lost' : ℕ}
    {r : Result (Unit {0}) Unfinished} (after : Option (List ℕ)) (count : ℕ) (looked : Result (Looked S g) Refusal) → start ≡ start' → lost ≡ lost'
    → CopiesLooked g U seq start after lost count looked r → CopiesTaken g U seq start' lost' r
copies_taken {g = g} {U = U} {seq = seq} {start' = start'} {lost = lost} {r = r} after count looked same as_often copies = (
  looked,
  after,
  count,
  subst (λ (n : ℕ). CopiesLooked g U seq start' after n count looked r) as_often
      (subst (λ (t : Option (List ℕ)). CopiesLooked g U seq t after lost count looked r) same copies),
)
