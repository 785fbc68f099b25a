-- The report of the end of a piece of work over a disk.
use Rattle.std.specs.Prelude.{◌≡◌, ◌⊎◌, Bool, true, false, ◌&&◌, Result, Ok, Err, is_some, if◌then◌else◌}
use Rattle.inspector_cli.specs.declared.session.LifeFault.{LifeFault}
use Rattle.inspector_cli.specs.declared.session.LifeFault.TheVariants as life
use Rattle.inspector_cli.specs.declared.session.StoreOutcome.{StoreOutcome}
use Rattle.inspector_cli.specs.declared.session.SessionFault.TheVariants.{WriteFailed}
use Rattle.archive_files.specs.declared.archives.Access.{Access}
use Rattle.archive_files.specs.declared.archives.Access.TheVariants.{Looking, Changing}
use Rattle.archive_files.specs.declared.failures.Failure.{Failure}
use Rattle.archive_files.specs.declared.failures.Failure.TheVariants.{Refused, Faulted, Told}
use Rattle.archive_files.specs.declared.failures.Refusal.TheVariants.{Open}

-- the report of a fault of an opening, or of a session
abbrev pub life_failure : LifeFault → Failure
life_failure (life.Open f) = Refused (Open f)
life_failure (life.Session f) = Faulted f

abbrev pub run_told : Result (Unit {0}) LifeFault → Result (Unit {0}) Failure
run_told (Ok u) = Ok tt
run_told (Err f) = Err (life_failure f)

-- A question is done, or its reply has said why it is refused.
abbrev pub ask_told : Result Bool LifeFault → Result (Unit {0}) Failure
ask_told (Ok true) = Ok tt
ask_told (Ok false) = Err Told
ask_told (Err f) = Err (life_failure f)

-- the report of a store: it is done if the case is stored, and neither its policy nor its label nor its pin was refused
abbrev pub store_told : Result StoreOutcome LifeFault → Result (Unit {0}) Failure
store_told (Ok outcome) = if outcome.retired_first && is_some outcome.stored && (outcome.labelled && outcome.pinned) then Ok tt else Err Told
store_told (Err f) = Err (life_failure f)

-- the access to an archive for a line that only looks, and for any other
abbrev pub access_by : Bool → Access
access_by looks = if looks then Looking else Changing

-- A command whose reply was held ends as it did before that was written, or the write failed.
abbrev pub EndsHeld : Result (Unit {0}) Failure → Result (Unit {0}) Failure → Type 0
EndsHeld ended r = (r ≡ ended) ⊎ (r ≡ Err (Faulted WriteFailed))
