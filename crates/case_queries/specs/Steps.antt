-- The steps in which a line that asks an image is answered: the promises that the functions of this crate make to each other. Put together
-- they are `Inspects` (`InspectLaws`).
use Rattle.std.specs.Prelude.{◌≡◌, ℕ, List, Bool, true, false, Option, None, Some, Result, Ok, Err, codes, if◌then◌else◌}
use Rattle.std.specs.Borrow.{Bor}
use Rattle.address_space.specs.Source.{ExecutableView}
use Rattle.disk_model.specs.declared.disk.Disk as disk
use Rattle.image_replies.specs.Reasons.{core_reason}
use Rattle.image_replies.specs.declared.core_image.CoreFault.{CoreFault}
use Rattle.intake.specs.Parts.{Parts, state_of}
use Rattle.intake.specs.State.{ArchiveState}
use Rattle.intake.specs.declared.faults.ArchiveFault.{ArchiveFault}
use Rattle.journal_layout.specs.Soundness.{case_numbered}
use Rattle.journal_layout.specs.Case.{Case}
use Rattle.journal_layout.specs.declared.entry.Kind.{Kind}
use Rattle.memory_replies.specs.Answers.{Answers}
use Rattle.script_lines.specs.Queries.{QuerySaid}
use Rattle.script_streams.specs.Replies.{no_reply}
use Rattle.archive_replies.specs.Reasons.{reason_of}
use Rattle.case_queries.specs.Collecting.{CollectsAll, Gathered, GathersFor, Wanted, debugs_for, gathered_with}
use Rattle.case_queries.specs.Inspecting.{Told, answer_of, core_fault_for, kind_for, reads_executables}
use Rattle.case_queries.specs.Seeing.{LooksAt}

abbrev pub kind_found : QuerySaid → Option Case → Result Kind (List ℕ)
kind_found q None = Err (codes "NoCase")
kind_found q (Some c) = kind_for q c.origin.kind

-- The kind of the case that a line asks; or why it shows nothing, whatever the image:
-- the archive is stopped, or has no such case, or the case has the other kind.
abbrev pub kind_asked : ArchiveState → ℕ → QuerySaid → Result Kind (List ℕ)
kind_asked s seq q = if s.stopped then Err (codes "Stopped") else kind_found q (case_numbered seq s.cases)

-- the reply if these are read, or if one can't be
abbrev pub ToldWithExecutables : Kind → QuerySaid → List ℕ → Result Gathered ArchiveFault → List ℕ → Type 0
ToldWithExecutables kind q b (Ok read) reply = Answers (answer_of kind q b read.cases read.images) reply
ToldWithExecutables kind q b (Err f) reply = reply ≡ no_reply (reason_of f)

-- after the executables of these cases the debug files are read that a line wants, which sees these bytes of the core
abbrev pub ShowsGathered : {D : Type 0} → disk.Ghosts D → Parts D → Kind → QuerySaid → List ℕ → List ℕ → List Wanted → List ExecutableView → List ℕ → Parts D → Type 0
ShowsGathered g mid kind q b front ws xs reply new =
    (more : Result (List ExecutableView) ArchiveFault) × CollectsAll g mid (debugs_for q front (state_of mid).cases xs) more new
    × ToldWithExecutables kind q b (gathered_with ws xs (debugs_for q front (state_of mid).cases xs) more) reply

-- a core that has no fault, with the executables that are read for it
abbrev pub ShowsCore : {D : Type 0} → disk.Ghosts D → Parts D → Kind → QuerySaid → List ℕ → List ℕ → Parts D → Type 0
ShowsCore g old kind q b reply new =
    (r : Result Gathered ArchiveFault) × GathersFor g old q b r new × ToldWithExecutables kind q b r reply

-- the executables are read if the core has no fault
abbrev pub ShowsWithExecutables : {D : Type 0} → disk.Ghosts D → Parts D → Kind → QuerySaid → List ℕ → Option CoreFault → List ℕ → Parts D → Type 0
ShowsWithExecutables g old kind q b (Some fault) reply new = (reply ≡ no_reply (core_reason fault)) × (new ≡ old)
ShowsWithExecutables g old kind q b None reply new = ShowsCore g old kind q b reply new

abbrev pub ShowsBy : {D : Type 0} → disk.Ghosts D → Parts D → Kind → QuerySaid → List ℕ → Bool → List ℕ → Parts D → Type 0
ShowsBy g old kind q b true reply new = ShowsWithExecutables g old kind q b (core_fault_for q b) reply new
ShowsBy g old kind q b false reply new = Told kind q b reply × (new ≡ old)

-- the reply to a query of an image
abbrev pub Shows : {D : Type 0} → disk.Ghosts D → Parts D → Kind → QuerySaid → List ℕ → List ℕ → Parts D → Type 0
Shows g old kind q b reply new = ShowsBy g old kind q b (reads_executables q) reply new

-- the same, or why the image can't be read
abbrev pub ShowsSeen : {D : Type 0} → disk.Ghosts D → Parts D → Kind → QuerySaid → Result (List ℕ) ArchiveFault → List ℕ → Parts D → Type 0
ShowsSeen g old kind q (Ok image) reply new = Shows g old kind q image reply new
ShowsSeen g old kind q (Err f) reply new = (reply ≡ no_reply (reason_of f)) × (new ≡ old)

abbrev pub Asks : {D : Type 0} → disk.Ghosts D → Parts D → ℕ → QuerySaid → Result Kind (List ℕ) → List ℕ → Parts D → Type 0
Asks g old seq q (Err reason) reply new = (reply ≡ no_reply reason) × (new ≡ old)
Asks {D} g old seq q (Ok kind) reply new = (r : Result (List ℕ) ArchiveFault) × (mid : Parts D) × LooksAt g old seq r mid × ShowsSeen g mid kind q r reply new

-- the kind that code returns, or the reason
abbrev pub asked_view : Result Kind (Bor (List ℕ)) → Result Kind (List ℕ)
asked_view (Ok kind) = Ok kind
asked_view (Err reason) = Err reason.now
