-- The fate of a case that was answered `stored N`.
use Rattle.std.specs.Prelude.{◌≡◌, ◌⊎◌, ℕ, ◌^◌, ◌<◌, List, [], ◌∷◌, ◌++◌, length, Some, Ok, IsTrue}
use Rattle.std.specs.List.{flat_map, AllByRecursion}
use Rattle.disk_model.specs.declared.disk.Disk as disk
use Rattle.intake.specs.Calls.{OpenCall}
use Rattle.intake.specs.Durable.{Durable, FoundCase, StandsFor}
use Rattle.intake.specs.Lives.{Life, AreLived, IsAmong, last_acknowledged}
use Rattle.intake.specs.Marks.{last_of}
use Rattle.intake.specs.Parts.{Parts, state_of}
use Rattle.stream_names.specs.declared.naming.Naming.{Naming}
use Rattle.script_lines.specs.Said.{Said, end_of}
use Rattle.archive_replies.specs.Texts.{end_reply}
use Rattle.inspector_cli.specs.Headline.{EndsSo}
use Rattle.inspector_cli.specs.Runs.{IsLifeOf}
use Rattle.inspector_cli.specs.Stages.{Stage}
use Rattle.inspector_cli.specs.Session.{IsItem, spelled, AnswersAll, AnswersWhole, DropsStreams, HasNoStream}
use Rattle.inspector_cli.specs.Told.{Answer, Session, IsHad, MayDrop, Spare, what_of, parts_in, commands_of, text_of}

-- A session that was answered, to its end or as far as it could be read, is one with a reply to each command: its commands are
-- those of the script, and its text is these replies.
pub record IsToldAs {D : Type 0} (g : disk.Ghosts D) (read out : List ℕ) (s : Session D) : Type 0 where
  pub had : IsHad g s
  pub each : AllByRecursion IsItem (commands_of s)
  pub rest : List ℕ
  pub ends : EndsSo rest s.last
  pub cut : read ≡ flat_map spelled (commands_of s) ++ rest
  pub text : out ≡ text_of s

abbrev pub SessionsAreTold : {D : Type 0} → disk.Ghosts D → Type 0
SessionsAreTold {D} g = (naming : Naming) (read out : List ℕ) (old : Stage D) (stages : List (Stage D)) (end : Stage D) (new : Parts D)
    → AnswersAll g naming read out old stages end ⊎ AnswersWhole g naming read out old stages end → DropsStreams g end.archive new
    → (answers : List Answer) × (last : Said) × (reply : List ℕ)
    × IsToldAs g read out (record { naming = naming; first = old; answers = answers; stages = stages; last = last; reply = reply; end = end; closed = new })

-- one of its commands ends a stream, and is answered `stored n`
pub record Stored {D : Type 0} (s : Session D) (n : ℕ) : Type 0 where
  pub before : List Answer
  pub line : Answer
  pub after : List Answer
  pub answers : s.answers ≡ before ++ line ∷ after
  pub slot : ℕ
  pub ends : what_of line ≡ end_of slot
  pub told : line.reply ≡ end_reply (Ok n)
  pub number : n < 2 ^ 64

-- no stream is open when the session begins, and nothing is in doubt
pub record IsFresh {D : Type 0} (s : Session D) : Type 0 where
  pub quiet : HasNoStream (state_of s.first.archive)
  pub clear : s.first.in_doubt ≡ []

-- So it is when an archive has been opened.
abbrev pub AnOpeningIsQuiet : {D : Type 0} → disk.Ghosts D → Type 0
AnOpeningIsQuiet {D} g = (limit : ℕ) (before : D) (a : Parts D) → OpenCall g limit before (Ok a) → HasNoStream (state_of a)

-- the case of this number is there, and its image is these bytes
abbrev pub HasImage : ℕ → List ℕ → Durable → Type 0
HasImage n bytes x = (c : FoundCase) × IsAmong x.cases c × (c.case.seq ≡ n) × (c.image ≡ bytes)

-- neither a command from there on nor the last line takes the case away
abbrev pub Spares : {D : Type 0} → Session D → ℕ → List Answer → Type 0
Spares s n answers = Spare n answers × (MayDrop n s.last s.reply → ⊥)

-- sessions that do not take the case away are lives of the archive, one after the other
abbrev pub Spared : {D : Type 0} → disk.Ghosts D → ℕ → List (Session D) → List (Life D) → Type 0
Spared g n [] [] = Unit {0}
Spared g n [] (l ∷ ls) = ⊥
Spared g n (s ∷ ss) [] = ⊥
Spared g n (s ∷ ss) (l ∷ ls) =
    IsHad g s × Spares s n s.answers × IsLifeOf g.seen s.first s.stages s.end s.closed l × Spared g n ss ls

-- Whenever the machine stops in this life, since its last acknowledgement, an opening of the bytes that are left finds the case with these
-- bytes.
abbrev pub FindsImage : {D : Type 0} → disk.Ghosts D → ℕ → List ℕ → Life D → Type 0
FindsImage g n bytes l = (left : List ℕ) (x : Durable) → g.left_since (last_of (last_acknowledged l) l.later).disk (g.clock (last_acknowledged l).disk) left → StandsFor left x → HasImage n bytes x

-- A case that was answered `stored n` has parts: the bytes of the stream that the line ended.
abbrev pub StoredHasParts : {D : Type 0} → disk.Ghosts D → Type 0
StoredHasParts {D} g = (s : Session D) (n : ℕ) → IsTrue (g.is_honest s.first.archive.disk) → IsHad g s → IsFresh s → (t : Stored s n)
    → (bytes : List ℕ) × (parts_in t.slot t.before ≡ Some bytes)

-- The law of one sentence: a case that was answered `stored n`, and that no later line takes away, is found after every stop with
-- exactly the bytes of its parts, over however many sessions.
abbrev pub StoredIsFound : {D : Type 0} → disk.Ghosts D → Type 0
StoredIsFound {D} g = (s : Session D) (later : List (Session D)) (l : Life D) (ls : List (Life D)) (n : ℕ) (bytes : List ℕ) (t : Stored s n) → IsHad g s → IsFresh s → Spares s n t.after
    → parts_in t.slot t.before ≡ Some bytes → IsLifeOf g.seen s.first s.stages s.end s.closed l → length t.before < length l.acknowledged
    → Spared g n later ls → AreLived g l ls → AllByRecursion (FindsImage g n bytes) (l ∷ ls)
