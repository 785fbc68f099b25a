use Rattle.std.proofs.Common.{◌≡◌, ◌⊎◌, inl, inr, ◌^◌, ◌≤◌, ℕ, List, length, refl}
use Rattle.journal_layout.specs.Folding.{nothing_yet}
use Rattle.journal_layout.specs.ReadingLaws.{read_or_faulty, faulty_once}
use Rattle.journal_layout.specs.Stands.{AreFaulty}
use Rattle.journal_layout.specs.declared.faults.OpenFault.{OpenFault}
use Rattle.journal_layout.specs.declared.faults.OpenFault.TheVariants.{Damaged, OutOfMemory}
use Rattle.journal_records.specs.Said.{SaysFaulty}
use Rattle.journal_records.proofs.laws.a_faulty_record_is_not_skipped.Goals as goal

answered : (limit version at : ℕ) (bytes : List ℕ) (fault answer : OpenFault) → limit ≤ 16777216 → length bytes ≤ 2 ^ 32
    → AreFaulty limit at bytes (nothing_yet version) fault → SaysFaulty limit version at bytes answer → (answer ≡ fault) ⊎ (answer ≡ OutOfMemory)
answered limit version at bytes fault (Damaged place which) low short faulty says =
    inl (faulty_once limit bytes (nothing_yet version) low short at (Damaged place which) fault says faulty)
answered limit version at bytes fault OutOfMemory low short faulty says = inr refl
answered limit version at bytes fault other low short faulty says = absurd says

pub returns-clause-read : goal.returns-clause-read
returns-clause-read c limit version at used bytes said fault low short faulty read =
    read_or_faulty limit bytes (nothing_yet version) low short at used said fault read faulty

pub returns-clause-fault : goal.returns-clause-fault
returns-clause-fault c = answered
