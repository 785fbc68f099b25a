-- The work of the program over the archive on a disk, by the values of its words.
use Rattle.std.specs.Prelude.{◌≡◌, ◌⊎◌, ◌&&◌, ◌||◌, nat_lt, nat_eq, not, is_none, if◌then◌else◌, ℕ, Bool, false, List, [], Option, None, Some, Result, Ok, Err, codes}
use Rattle.std.specs.Io.KnownBytes.{Keeps, append_known}
use Rattle.disk_model.specs.declared.disk.Disk as disk
use Rattle.inspector_cli.specs.Asking.{AsksAlone, as_session, line_streams}
use Rattle.inspector_cli.specs.Life.{LifeEnds, RunsOver, StoresOver}
use Rattle.inspector_cli.specs.Session.{Streams}
use Rattle.inspector_cli.specs.Storing.{Options, options_asked}
use Rattle.inspector_cli.specs.declared.session.LifeFault.{LifeFault}
use Rattle.inspector_cli.specs.declared.session.StoreOutcome.{StoreOutcome}
use Rattle.intake.specs.Calls.{OpenCall}
use Rattle.intake.specs.Parts.{Parts}
use Rattle.intake.specs.State.{StreamFacts}
use Rattle.script_lines.specs.Said.{Said, said}
use Rattle.script_streams.specs.Lines.{IsLine}
use Rattle.script_words.specs.Printing.{shown}
use Rattle.stream_names.specs.Commands.{stream_found}
use Rattle.stream_names.specs.declared.naming.Naming.{Naming}
use Rattle.archive_files.specs.declared.failures.Failure.{Failure}
use Rattle.archive_files.specs.declared.failures.Failure.TheVariants.{Refused}
use Rattle.archive_files.specs.declared.failures.Refusal.{Refusal}
use Rattle.archive_files.specs.declared.failures.Refusal.TheVariants.{OutOfMemory, Open}
use Rattle.archive_files.specs.declared.storing.StoreRequest.{StoreRequest}
use Rattle.archive_files.specs.Told.{EndsHeld, run_told, ask_told, store_told}

-- A session over the archive on a disk, and the report of its end.
abbrev pub RunsOnDisk : {D : Type 0} → disk.Ghosts D → ℕ → Naming → Streams → D → Result (Unit {0}) Failure → D → Type 0
RunsOnDisk g limit naming t before r after =
    (ended : Result (Unit {0}) LifeFault) × LifeEnds g limit t before ended after (RunsOver g naming t) × (r ≡ run_told ended)

-- There is no memory, and nothing is done: the disk and the output are as they were.
abbrev pub IsNotBegun : {D : Type 0} → Option (List ℕ) → Option (List ℕ) → ℕ → ℕ → D → Result (Unit {0}) Failure → D → Type 0
IsNotBegun taken taken' lost lost' before r after = (r ≡ Err (Refused OutOfMemory)) × (after ≡ before) × (taken' ≡ taken) × (lost' ≡ lost)

-- A session's streams: an input that has these bytes, if they are known, and has not failed, and an output.
pub record AreStreams (file before after : Option (List ℕ)) (count count' : ℕ) (t : Streams) : Type 0 where
  pub input : Keeps file t.input
  pub fails : t.fails ≡ 0
  pub taken : t.taken ≡ before
  pub taken' : t.taken' ≡ after
  pub lost : t.lost ≡ count
  pub lost' : t.lost' ≡ count'

-- One line that says this is carried out over the archive on a disk: it is done, and the reply shows so, or it is refused, and the
-- reply says why; and it is a session over that line.
abbrev pub AnswersLine : {D : Type 0} → disk.Ghosts D → Said → Option (List ℕ) → Option (List ℕ) → ℕ → ℕ → D → Result (Unit {0}) Failure → D → Type 0
AnswersLine g what taken taken' lost lost' before r after =
    (asked : Result Bool LifeFault)
    × LifeEnds g 0 (line_streams [] asked taken taken' lost lost') before asked after (AsksAlone g what taken taken')
    × ((naming : Naming) (line : List ℕ) → naming.by_build ≡ false → IsLine line → said line ≡ what
    → RunsOnDisk g 0 naming (line_streams line asked taken taken' lost lost') before (run_told (as_session asked)) after)
    × (r ≡ ask_told asked)

-- The same over the disk that was taken, if one was. The reply is held meanwhile, for an output that had taken so much.
abbrev pub AnswersHeld : {D : Type 0} → disk.Ghosts D → Said → Option (List ℕ) → Result (Unit {0}) Failure → Type 0
AnswersHeld {D} g what taken r =
    ((refusal : Refusal) × (r ≡ Err (Refused refusal)))
    ⊎ ((before after : D) × (taken' : Option (List ℕ)) × (lost lost' : ℕ) × (asked : Result (Unit {0}) Failure)
    × AnswersLine g what (append_known taken []) taken' lost lost' before asked after × EndsHeld asked r)

-- the length that is stated is over the limit
abbrev pub is_over : Option ℕ → ℕ → Bool
is_over (Some length) limit = nat_lt limit length
is_over None limit = false

-- The stream that may begin: the one that is found, unless its stated length is over the limit, and it is not to be cut.
unfoldable pub within_limit : Options → ℕ → Result StreamFacts (List ℕ) → Result StreamFacts (List ℕ)
within_limit options limit (Ok stream) = if is_none options.cut && is_over options.length limit then Err (codes "TooLong") else Ok stream
within_limit options limit (Err reason) = Err reason

-- A stream is stored in the archive on a disk, as a request says, and the outcome is reported.
abbrev pub StoresOnDisk : {D : Type 0} → disk.Ghosts D → StoreRequest → Streams → D → Result (Unit {0}) Failure → D → Type 0
StoresOnDisk g request t before r after =
    (ended : Result StoreOutcome LifeFault)
    × LifeEnds g request.limit t before ended after (StoresOver g request.policy (within_limit (options_asked request.options) request.limit (stream_found request.found)) (options_asked request.options) t)
    × (r ≡ store_told ended)

-- why no stream can begin, if none can
abbrev pub reason_found : Result StreamFacts (List ℕ) → Option (List ℕ)
reason_found (Ok stream) = None
reason_found (Err reason) = Some reason

-- the name of the case as it prints, or its kind if it has no name
abbrev pub name_found : Result StreamFacts (List ℕ) → List ℕ
name_found (Ok stream) = shown stream.origin.name
name_found (Err reason) = codes "a core"

-- the stream with another name
abbrev pub under_name : List ℕ → StreamFacts → StreamFacts
under_name name stream = record stream { origin = record stream.origin { name = name } }

-- The stream under the name of another, or why one of them is not found.
abbrev pub named_as : Result StreamFacts (List ℕ) → Result StreamFacts (List ℕ) → Result StreamFacts (List ℕ)
named_as (Ok stream) (Ok other) = Ok (under_name other.origin.name stream)
named_as (Err reason) other = Err reason
named_as (Ok stream) (Err reason) = Err reason

-- the same request, or without its policy
abbrev pub IsFitted : StoreRequest → StoreRequest → Type 0
IsFitted request fitted = (fitted ≡ request) ⊎ (fitted ≡ record request { policy = None })

-- the same request, but no case goes for it
abbrev pub sparing : StoreRequest → StoreRequest
sparing request = record request { policy = None; options = record request.options { fit = false } }

-- whether a stream of so many bytes is over the limit, and may not be cut
abbrev pub is_too_long : ℕ → StoreRequest → Bool
is_too_long size request = is_none request.options.cut && nat_lt request.limit size

-- The request if so many bytes come first, or if none can be read: no case goes before a stream that can't be read, or is over the limit.
abbrev pub fitted_by : Option ℕ → StoreRequest → StoreRequest
fitted_by None request = record request { policy = None }
fitted_by (Some size) request = if is_too_long size request then record request { policy = None } else request

-- It is that by the bytes that the file begins with, unless no case goes anyway.
abbrev pub IsFittedBy : (Option ℕ → Type 0) → StoreRequest → StoreRequest → Type 0
IsFittedBy begins request fitted =
    ((request.policy ≡ None) × (fitted ≡ request)) ⊎ ((first : Option ℕ) × begins first × (fitted ≡ fitted_by first request))

-- so many bytes are more than a bound, if there is one
abbrev pub exceeds : ℕ → Option ℕ → Bool
exceeds size (Some most) = nat_lt most size
exceeds size None = false

-- another length is stated
abbrev pub differs : ℕ → Option ℕ → Bool
differs size (Some stated) = not (nat_eq stated size)
differs size None = false

-- Whether a stream of so many bytes is refused whichever cases go, if it may not be cut: it is too long, or longer than all of the
-- archive's data, if that is known, or has not the length that is stated.
abbrev pub is_refused : ℕ → Option ℕ → StoreRequest → Bool
is_refused size most request = is_too_long size request || is_none request.options.cut && (exceeds size most || differs size request.options.length)

-- The request for a stream of this length, if it is known.
abbrev pub sparing_for : Option ℕ → Option ℕ → StoreRequest → StoreRequest
sparing_for (Some size) most request = if is_refused size most request then sparing request else request
sparing_for None most request = request

-- A file that has these bytes, if they are known, is stored.
abbrev pub StoresBy : {D : Type 0} → disk.Ghosts D → StoreRequest → Option (List ℕ) → Option (List ℕ) → Option (List ℕ) → ℕ → ℕ → D → Result (Unit {0}) Failure → D → Type 0
StoresBy g request file taken taken' lost lost' before r after = (t : Streams) × AreStreams file taken taken' lost lost' t × StoresOnDisk g request t before r after

-- The same of a file that is read ahead.
abbrev pub StoresFile : {D : Type 0} → disk.Ghosts D → StoreRequest → Option (List ℕ) → Option (List ℕ) → Option (List ℕ) → ℕ → ℕ → D → Result (Unit {0}) Failure → D → Type 0
StoresFile g request file taken taken' lost lost' before r after =
    IsNotBegun taken taken' lost lost' before r after
    ⊎ ((fitted : StoreRequest) × IsFitted request fitted × StoresBy g fitted file taken taken' lost lost' before r after)

-- The archive on a disk is opened, and no more; or why it is not.
abbrev pub LooksOnDisk : {D : Type 0} → disk.Ghosts D → ℕ → D → Result (Unit {0}) Refusal → D → Type 0
LooksOnDisk {D} g limit before (Ok u) after = (opened : Parts D) × OpenCall g limit before (Ok opened) × (after ≡ opened.disk)
LooksOnDisk g limit before (Err (Open f)) after = OpenCall g limit before (Err (f, after))
LooksOnDisk g limit before (Err _) after = ⊥
