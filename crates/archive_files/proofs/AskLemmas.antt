-- What a question had written before it began.
use Rattle.std.proofs.Common.{◌≡◌, ℕ, Bool, List, Option, Result, subst}
use Rattle.disk_model.specs.declared.disk.Disk as disk
use Rattle.script_lines.specs.Said.{Said}
use Rattle.shared_disk.specs.declared.shared.SharedDisk as shared
use Rattle.shared_disk.specs.declared.unlocked.Unlocked.{Unlocked}
use Rattle.archive_files.specs.UnlockedAsks.{AsksUnlocked}
use Rattle.archive_files.specs.declared.unlocked_faults.AskFault.{AskFault}

-- it is the same to an output that had taken the same
pub asks_from : {S : Type 0} (g : shared.Ghosts S) (U : disk.Ghosts (Unlocked S g)) (s : S) (what : Said) (start start' after : Option (List ℕ)) (lost lost' : ℕ) (asked : Result Bool AskFault)
    → start ≡ start' → AsksUnlocked g U s what start after lost lost' asked → AsksUnlocked g U s what start' after lost lost' asked
asks_from g U s what start start' after lost lost' asked same asks = subst (λ (t : Option (List ℕ)). AsksUnlocked g U s what t after lost lost' asked) same asks
