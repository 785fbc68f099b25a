-- The stages of a session as a run of marks, so that the laws of marks and of lives hold of sessions.
use Rattle.std.specs.Prelude.{◌≡◌, ◌⊎◌, ℕ, false, List, [], ◌++◌, IsTrue}
use Rattle.std.specs.List.{AllByRecursion}
use Rattle.disk_model.specs.declared.disk.Disk as disk
use Rattle.intake.specs.Lives.{Life, IsLived}
use Rattle.intake.specs.Marks.{IsRunOfMarks, IsMarkSettled}
use Rattle.intake.specs.Parts.{Parts}
use Rattle.stream_names.specs.declared.naming.Naming.{Naming}
use Rattle.inspector_cli.specs.Stages.{Stage, mark_at, marks_of}
use Rattle.inspector_cli.specs.Session.{AnswersAll, AnswersWhole, DropsStreams}

-- The stages of a whole script, of its end, and of the archive when its streams are dropped are marks of a run.
abbrev pub WholeIsARun : {D : Type 0} → disk.Ghosts D → Type 0
WholeIsARun {D} g = (naming : Naming) (read out : List ℕ) (old : Stage D) (stages : List (Stage D)) (end : Stage D) (new : Parts D)
    → AnswersAll g naming read out old stages end → DropsStreams g end.archive new → IsRunOfMarks g (mark_at g.seen old) (marks_of g.seen stages end new)

-- The same for a script that could not be read on.
abbrev pub FrontIsARun : {D : Type 0} → disk.Ghosts D → Type 0
FrontIsARun {D} g = (naming : Naming) (read out : List ℕ) (old : Stage D) (stages : List (Stage D)) (end : Stage D) (new : Parts D)
    → AnswersWhole g naming read out old stages end → DropsStreams g end.archive new → IsRunOfMarks g (mark_at g.seen old) (marks_of g.seen stages end new)

-- nothing is in doubt, unless a disk fault has stopped the archive
abbrev pub IsClear : {D : Type 0} → Stage D → Type 0
IsClear s = s.archive.stopped ≡ false → s.in_doubt ≡ []

-- From such a stage on each stage of a session is one.
abbrev pub StagesAreClear : {D : Type 0} → disk.Ghosts D → Type 0
StagesAreClear {D} g = (naming : Naming) (read out : List ℕ) (old : Stage D) (stages : List (Stage D)) (end : Stage D) → IsClear old
    → AnswersAll g naming read out old stages end ⊎ AnswersWhole g naming read out old stages end → AllByRecursion IsClear stages × IsClear end

-- A session as a life of its archive: its marks, of which the first ones are acknowledged when the machine stops.
abbrev pub IsLifeOf : {D : Type 0} → (D → List ℕ) → Stage D → List (Stage D) → Stage D → Parts D → Life D → Type 0
IsLifeOf seen old stages end new l = (l.first ≡ mark_at seen old) × (l.acknowledged ++ l.later ≡ marks_of seen stages end new)

-- From an opening of an honest disk on it is lived, wherever the acknowledged marks end: so sessions with stops between them
-- are lives that are kept.
abbrev pub SessionsAreLived : {D : Type 0} → disk.Ghosts D → Type 0
SessionsAreLived {D} g = (naming : Naming) (read out : List ℕ) (old : Stage D) (stages : List (Stage D)) (end : Stage D) (new : Parts D) (l : Life D) → IsTrue (g.is_honest old.archive.disk) → IsMarkSettled g (mark_at g.seen old)
    → AnswersAll g naming read out old stages end ⊎ AnswersWhole g naming read out old stages end → DropsStreams g end.archive new → IsLifeOf g.seen old stages end new l → IsLived g l
