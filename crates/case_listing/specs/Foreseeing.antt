-- The text about the cases that would go.
use Rattle.std.specs.Prelude.{◌≡◌, ℕ, List, ◌∷◌, map, Option, None, Some, Result, Ok, Err, codes}
use Rattle.archive_files.specs.declared.failures.Failure.{Failure}
use Rattle.archive_files.specs.declared.failures.Failure.TheVariants.{Refused, Faulted}
use Rattle.archive_files.specs.declared.failures.Refusal.TheVariants.{Open}
use Rattle.archive_replies.specs.Texts.{retire_reply}
use Rattle.command_words.specs.Lines.{joined}
use Rattle.disk_model.specs.declared.disk.Disk as disk
use Rattle.inspector_cli.specs.declared.session.SessionFault.TheVariants.{WriteFailed}
use Rattle.intake.specs.Calls.{OpenCall}
use Rattle.intake.specs.Parts.{Parts, state_of}
use Rattle.intake.specs.Step.{brief_of}
use Rattle.journal_layout.specs.Case.{Case}
use Rattle.journal_layout.specs.declared.faults.OpenFault.{OpenFault}
use Rattle.retention.specs.Rule.{IsDecision}
use Rattle.retention.specs.declared.Decision.{Decision}
use Rattle.retention.specs.declared.Policy.{Policy}
use Rattle.script_lines.specs.Said.{retire_by, said}
use Rattle.script_streams.specs.Printing.{IsDelivered}
use Rattle.script_streams.specs.declared.streams.StreamFault.{StreamFault}

-- The policy is that of the line `retire` with the words after `would-retire`. If there is no policy, the first word is another.
abbrev pub IsPolicyOf : List (List ℕ) → Option Policy → Type 0
IsPolicyOf words None = (others : List (List ℕ)) → words ≡ codes "would-retire" ∷ others → ⊥
IsPolicyOf words (Some policy) = (others : List (List ℕ)) × (words ≡ codes "would-retire" ∷ others) × (said (joined (codes "retire" ∷ others)) ≡ retire_by policy)

-- the answer, by whether all of the reply was written
abbrev pub sent_told : Result (Unit {0}) StreamFault → Result (Unit {0}) Failure
sent_told (Ok u) = Ok u
sent_told (Err fault) = Err (Faulted WriteFailed)

-- The reply of `retire` goes to an output that had taken `before`.
abbrev pub ForeseenTold : Decision → Option (List ℕ) → Option (List ℕ) → ℕ → ℕ → Result (Unit {0}) StreamFault → Type 0
ForeseenTold d before after count count' sent = IsDelivered before count after count' (retire_reply (Ok d)) sent

-- The decisions of the rule about these cases are printed, all of them or a front.
abbrev pub IsForeseen : List Case → Policy → Option (List ℕ) → Option (List ℕ) → ℕ → ℕ → Result (Unit {0}) Failure → Type 0
IsForeseen cases policy before after count count' r =
    (d : Decision) × (sent : Result (Unit {0}) StreamFault) × IsDecision policy (map brief_of cases) d.dropped.items d.unmet × ForeseenTold d before after count count' sent × (r ≡ sent_told sent)

-- the same, by the answer; if it is refused, nothing is printed
abbrev pub ForeseenIn : List Case → Policy → Option (List ℕ) → Option (List ℕ) → ℕ → ℕ → Result (Unit {0}) Failure → Type 0
ForeseenIn cases policy before after count count' (Err (Refused refusal)) = (after ≡ before) × (count' ≡ count)
ForeseenIn cases policy before after count count' r = IsForeseen cases policy before after count count' r

-- the same of an opening
abbrev pub ForeseenOf : {D : Type 0} → Policy → Option (List ℕ) → Option (List ℕ) → ℕ → ℕ → Result (Parts D) (OpenFault × D) → Result (Unit {0}) Failure → Type 0
ForeseenOf policy before after count count' (Ok a) r = ForeseenIn (state_of a).cases policy before after count count' r
ForeseenOf policy before after count count' (Err (fault, d)) r = (r ≡ Err (Refused (Open fault))) × (after ≡ before) × (count' ≡ count)

-- The archive on a disk is opened, and the cases that would go are printed.
abbrev pub Foresees : {D : Type 0} → disk.Ghosts D → Policy → Option (List ℕ) → Option (List ℕ) → ℕ → ℕ → D → Result (Unit {0}) Failure → Type 0
Foresees {D} g policy before after count count' before_disk r =
    (opened : Result (Parts D) (OpenFault × D)) × OpenCall g 0 before_disk opened × ForeseenOf policy before after count count' opened r
