-- A session or a store over a disk that was settled before it, as the archive in a file is: what a stop leaves since the settling began.
use Rattle.std.specs.Prelude.{◌≡◌, ◌⊎◌, ℕ, List, [], ◌∷◌, ◌++◌, map, Option, Result, Ok, IsTrue}
use Rattle.case_journal.specs.Settling.{HasLastGate, Settles, Touched, gates_of}
use Rattle.disk_model.specs.declared.disk.Disk as disk
use Rattle.intake.specs.Durable.{Durable, StandsFor}
use Rattle.intake.specs.State.{StreamFacts}
use Rattle.journal_layout.specs.Standing.{Standing}
use Rattle.journal_layout.specs.Stands.{Stands}
use Rattle.retention.specs.declared.Policy.{Policy}
use Rattle.stream_names.specs.declared.naming.Naming.{Naming}
use Rattle.inspector_cli.specs.Headline.{FindsSince, IsCrashSafe, Moment, moment_of}
use Rattle.inspector_cli.specs.Session.{Streams}
use Rattle.inspector_cli.specs.StoreHeadline.{IsStoreSafe, moments_of}
use Rattle.inspector_cli.specs.Storing.{Options}
use Rattle.inspector_cli.specs.declared.session.LifeFault.{LifeFault}
use Rattle.inspector_cli.specs.declared.session.StoreOutcome.{StoreOutcome}

-- A stop while the gates are written again may leave this: a disk that one before could have left, with any bytes at these gates.
pub record MayLeaveSettling {D : Type 0} (g : disk.Ghosts D) (old : D) (left : List ℕ) : Type 0 where
  pub standing : Standing
  pub stands : Stands (g.seen old) standing
  pub last : Option ℕ
  pub last_gate : HasLastGate (g.seen old) standing last
  pub touched : Touched (gates_of standing last) (g.may_leave old) left

-- It begins with the archive that reads gave before the settling. A stop from then on leaves what one while the gates were written may
-- leave, or opens as the archive at one of these moments.
pub record IsSafeAfterSettling {D : Type 0} (g : disk.Ghosts D) (old after : D) (x : Durable) (begin : Moment D) (later : List (Moment D)) : Type 0 where
  pub begins : begin.holds ≡ x
  pub stops : (left : List ℕ) → g.left_since after (g.clock old) left → MayLeaveSettling g old left ⊎ FindsSince left begin later

-- So it is of each session,
abbrev pub SettledSessionsAreSafe : {D : Type 0} → disk.Ghosts D → Type 0
SettledSessionsAreSafe {D} g =
    (naming : Naming) (t : Streams) (old mid after : D) (x : Durable) (answer : Result (Unit {0}) LifeFault) → IsTrue (g.is_honest old) → StandsFor (g.seen old) x → Settles g old mid (Ok tt)
    → (s : IsCrashSafe (Unit {0}) LifeFault g naming t mid after answer) → IsSafeAfterSettling g old after x s.course.begin (map moment_of s.course.lines ++ s.course.end ∷ [])

-- and of each store.
abbrev pub SettledStoresAreSafe : {D : Type 0} → disk.Ghosts D → Type 0
SettledStoresAreSafe {D} g =
    (t : Streams) (asked : Option Policy) (found : Result StreamFacts (List ℕ)) (options : Options) (old mid after : D) (x : Durable) (answer : Result StoreOutcome LifeFault) → IsTrue (g.is_honest old) → StandsFor (g.seen old) x
    → Settles g old mid (Ok tt) → (s : IsStoreSafe g t asked found options mid after answer)
    → IsSafeAfterSettling g old after x s.course.begin (s.course.retired ∷ (moments_of s.course.gone ++ (s.course.filled ∷ s.course.ended ∷ s.course.labelled ∷ s.course.end ∷ [])))
