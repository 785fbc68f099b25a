-- One line that is asked alone.
use Rattle.std.specs.Prelude.{◌≡◌, ℕ, Bool, List, [], ◌∷◌, ◌++◌, Option, Some, Result, Ok, Err}
use Rattle.std.specs.Io.KnownBytes.{Appends}
use Rattle.disk_model.specs.declared.disk.Disk as disk
use Rattle.intake.specs.Parts.{Parts}
use Rattle.script_lines.specs.Said.{Said}
use Rattle.script_streams.specs.Replies.{IsOutcome, Printing, PrintsOutcome}
use Rattle.inspector_cli.specs.Reply.{RepliesByPath}
use Rattle.inspector_cli.specs.Session.{DropsStreams, Streams}
use Rattle.inspector_cli.specs.declared.session.LifeFault.{LifeFault}
use Rattle.inspector_cli.specs.declared.session.LifeFault.TheVariants.{Open, Session}
use Rattle.inspector_cli.specs.declared.session.SessionFault.{SessionFault}
use Rattle.inspector_cli.specs.declared.session.SessionFault.TheVariants.{WriteFailed}

-- A question is answered, and that is its outcome.
abbrev pub AnswersAsked : {D : Type 0} → disk.Ghosts D → Printing → Parts D → Said → Bool → Parts D → Type 0
AnswersAsked g t old what done new = PrintsOutcome t (λ text. RepliesByPath g old what text new) done

-- The outcome of the one line is that of its reply, which is written. Or the output has failed.
abbrev pub AsksAlone : {D : Type 0} → disk.Ghosts D → Said → Option (List ℕ) → Option (List ℕ) → Result Bool SessionFault → Parts D → Parts D → Type 0
AsksAlone {D} g what taken taken' (Ok done) opened closed =
    (text : List ℕ) × (mid : Parts D) × RepliesByPath g opened what text mid × IsOutcome done text × DropsStreams g mid closed
    × Appends taken taken' text
AsksAlone g what taken taken' (Err f) opened closed = f ≡ WriteFailed

-- how a session ends whose one line is done or refused
abbrev pub as_session : {E : Type 0} → Result Bool E → Result (Unit {0}) E
as_session (Ok done) = Ok tt
as_session (Err f) = Err f

-- the same of a life of the archive
abbrev pub as_life : Result Bool SessionFault → Result Bool LifeFault
as_life (Ok done) = Ok done
as_life (Err f) = Err (Session f)

-- the rest of the script: all of it if the archive could not be opened
abbrev pub rest_of : Result Bool LifeFault → List ℕ → List ℕ
rest_of (Err (Open f)) script = script
rest_of _ script = []

-- The streams of a session of one line.
abbrev pub line_streams : List ℕ → Result Bool LifeFault → Option (List ℕ) → Option (List ℕ) → ℕ → ℕ → Streams
line_streams line r taken taken' lost lost' = record {
  input = Some (line ++ 10 ∷ []);
  input' = Some (rest_of r (line ++ 10 ∷ []));
  fails = 0;
  fails' = 0;
  taken = taken;
  taken' = taken';
  lost = lost;
  lost' = lost';
}
