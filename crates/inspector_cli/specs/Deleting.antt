-- Cases that are deleted one after the other, as lines `delete N` of a session delete them.
use Rattle.std.specs.Prelude.{◌≡◌, ℕ, Bool, true, false, List, [], ◌∷◌, ◌++◌, map, Option, Some, Result, Ok, Err, is_ok}
use Rattle.std.specs.Io.KnownBytes.{Appends}
use Rattle.std.specs.List.{AllByRecursion, flat_map}
use Rattle.archive_replies.specs.Reasons.{reason_of}
use Rattle.archive_replies.specs.Texts.{dropped_line, unmet_line}
use Rattle.disk_model.specs.declared.disk.Disk as disk
use Rattle.intake.specs.Calls.{DeleteCall}
use Rattle.intake.specs.Parts.{Parts}
use Rattle.intake.specs.declared.faults.ArchiveFault.{ArchiveFault}
use Rattle.script_lines.specs.Said.{delete_of, said}
use Rattle.script_streams.specs.Lines.{IsLine}
use Rattle.script_streams.specs.Replies.{no_reply, ok_reply}
use Rattle.stream_names.specs.declared.naming.Naming.{Naming}
use Rattle.inspector_cli.specs.Headline.{Headline}
use Rattle.inspector_cli.specs.Life.{LifeEnds, RunsOver}
use Rattle.inspector_cli.specs.Session.{DropsStreams, Item, SessionEnds, Streams, spelled}
use Rattle.inspector_cli.specs.Stages.{Stage}
use Rattle.inspector_cli.specs.declared.session.LifeFault.{LifeFault}
use Rattle.inspector_cli.specs.declared.session.LifeFault.TheVariants.{Open}
use Rattle.inspector_cli.specs.declared.session.SessionFault.{SessionFault}
use Rattle.inspector_cli.specs.declared.session.SessionFault.TheVariants.{WriteFailed}

-- ---- The cases that are deleted, and the report.

-- all of them are deleted, one after the other
abbrev pub DeletesEach : {D : Type 0} → disk.Ghosts D → Parts D → List ℕ → Parts D → Type 0
DeletesEach g old [] new = new ≡ old
DeletesEach {D} g old (n ∷ ns) new = (mid : Parts D) × DeleteCall g old n (Ok tt) mid × DeletesEach g mid ns new

-- Those before the first that is refused are deleted, and it is refused so.
pub record IsRefusedAt {D : Type 0} (g : disk.Ghosts D) (old : Parts D) (numbers gone : List ℕ) (f : ArchiveFault) (new : Parts D) : Type 0 where
  pub seq : ℕ
  pub rest : List ℕ
  pub all : numbers ≡ gone ++ seq ∷ rest
  pub mid : Parts D
  pub deleted : DeletesEach g old gone mid
  pub refused : DeleteCall g mid seq (Err f) new

-- all of them are gone, or these are, and the next is refused
abbrev pub TriesEach : {D : Type 0} → disk.Ghosts D → Parts D → List ℕ → Result (Unit {0}) ArchiveFault → List ℕ → Parts D → Type 0
TriesEach g old numbers (Ok u) gone new = (gone ≡ numbers) × DeletesEach g old numbers new
TriesEach g old numbers (Err f) gone new = IsRefusedAt g old numbers gone f new

-- the text about a deletion: that the case is gone; nothing, if it is refused
abbrev pub told_of : ℕ → Result (Unit {0}) ArchiveFault → List ℕ
told_of seq (Ok u) = dropped_line seq
told_of seq (Err f) = []

-- the text once all were tried: `unmet` if that is so, and `ok`; or why one is refused
abbrev pub ending_of : Bool → Result (Unit {0}) ArchiveFault → List ℕ
ending_of unmet (Ok u) = unmet_line unmet ++ ok_reply
ending_of unmet (Err f) = no_reply (reason_of f)

-- They are deleted in turn, and those that are gone are printed: `dropped N` for each, and how it ended.
abbrev pub DeletesInTurn : {D : Type 0} → disk.Ghosts D → Parts D → List ℕ → Bool → List ℕ → Bool → Parts D → Type 0
DeletesInTurn g old numbers unmet text done new =
    (r : Result (Unit {0}) ArchiveFault) × (gone : List ℕ) × TriesEach g old numbers r gone new × (done ≡ is_ok r) × (text ≡ flat_map dropped_line gone ++ ending_of unmet r)

-- The same over an archive that was opened for it. The text is written, or the output has failed.
abbrev pub DeletesAlone : {D : Type 0} → disk.Ghosts D → List ℕ → Bool → Option (List ℕ) → Option (List ℕ) → Result Bool SessionFault → Parts D → Parts D → Type 0
DeletesAlone {D} g numbers unmet taken taken' (Ok done) opened closed =
    (text : List ℕ) × (mid : Parts D) × DeletesInTurn g opened numbers unmet text done mid × DropsStreams g mid closed × Appends taken taken' text
DeletesAlone g numbers unmet taken taken' (Err f) opened closed = f ≡ WriteFailed

-- ---- The session that it is.

-- these lines say to delete these cases
abbrev pub AreLines : (ℕ → List ℕ) → List ℕ → Type 0
AreLines line numbers = AllByRecursion (λ n. IsLine (line n) × (said (line n) ≡ delete_of n)) numbers

-- the line of a case, which no bytes follow
abbrev pub item_of : (ℕ → List ℕ) → ℕ → Item
item_of line n = record { line = line n; raw = [] }

-- a script of the lines of these cases, and the replies to it
abbrev pub lines_streams : (ℕ → List ℕ) → List ℕ → List ℕ → Streams
lines_streams line tried replies = record {
  input = Some (flat_map spelled (map (item_of line) tried));
  input' = Some [];
  fails = 0;
  fails' = 0;
  taken = Some [];
  taken' = Some replies;
  lost = 0;
  lost' = 0;
}

-- all of them are gone
abbrev pub are_gone : {E : Type 0} → Result Bool E → Bool
are_gone (Ok done) = done
are_gone (Err f) = false

-- Which of them were tried: a front of them, and all if all are gone.
pub record AreTried {E : Type 0} (numbers tried : List ℕ) (r : Result Bool E) : Type 0 where
  pub rest : List ℕ
  pub front : numbers ≡ tried ++ rest
  pub all : are_gone r ≡ true → tried ≡ numbers

-- the session of the lines of those that were tried
abbrev pub IsSessionOfLines : {D : Type 0} → disk.Ghosts D → Naming → (ℕ → List ℕ) → List ℕ → Stage D → Result Bool SessionFault → Parts D → Type 0
IsSessionOfLines g naming line numbers old r new =
    (tried : List ℕ) × AreTried numbers tried r × (replies : List ℕ) × SessionEnds g naming (lines_streams line tried replies) old new (Ok tt)

-- how such a session ends: it is answered, whether or not the text is written
abbrev pub as_lines : Result Bool LifeFault → Result (Unit {0}) LifeFault
as_lines (Ok done) = Ok tt
as_lines (Err (Open f)) = Err (Open f)
as_lines (Err _) = Ok tt

-- the same from the opening of the archive on
abbrev pub IsLifeOfLines : {D : Type 0} → disk.Ghosts D → ℕ → Naming → (ℕ → List ℕ) → List ℕ → D → Result Bool LifeFault → D → Type 0
IsLifeOfLines g limit naming line numbers before r after =
    (tried : List ℕ) × AreTried numbers tried r × (replies : List ℕ) × LifeEnds g limit (lines_streams line tried replies) before (as_lines r) after (RunsOver g naming (lines_streams line tried replies))

-- The headline of that session: a stop of the machine leaves the archive as it was before a deletion, or after it.
abbrev pub DeletesAsLines : {D : Type 0} → disk.Ghosts D → Naming → (ℕ → List ℕ) → List ℕ → D → Result Bool LifeFault → D → Type 0
DeletesAsLines g naming line numbers before r after =
    (tried : List ℕ) × AreTried numbers tried r × (replies : List ℕ) × Headline (Unit {0}) g naming (lines_streams line tried replies) before (as_lines r) after
