-- How a reply is printed for people.
use Rattle.std.specs.Prelude.{◌≡◌, ℕ, List, Option, Result, Ok, Err}
use Rattle.archive_files.specs.declared.failures.Failure.{Failure}
use Rattle.archive_files.specs.declared.failures.Failure.TheVariants.{Faulted}
use Rattle.inspector_cli.specs.declared.session.SessionFault.TheVariants.{WriteFailed}
use Rattle.case_listing.specs.PlainText.{plain_of}
use Rattle.script_streams.specs.Printing.{IsDelivered}
use Rattle.script_streams.specs.declared.streams.StreamFault.{StreamFault}

-- how a line ended whose reply was written, or not
abbrev pub plain_ended : Result (Unit {0}) Failure → Result (Unit {0}) StreamFault → Result (Unit {0}) Failure
plain_ended asked (Ok u) = asked
plain_ended asked (Err fault) = Err (Faulted WriteFailed)

-- The reply of a line goes to an output as people read it: all of it, or a front of it until a write fails.
abbrev pub DeliversPlain : Option (List ℕ) → Option (List ℕ) → ℕ → ℕ → List ℕ → Result (Unit {0}) Failure → Result (Unit {0}) Failure → Type 0
DeliversPlain taken taken' lost lost' text asked r =
    (sent : Result (Unit {0}) StreamFault) × IsDelivered taken lost taken' lost' (plain_of text) sent × (r ≡ plain_ended asked sent)
