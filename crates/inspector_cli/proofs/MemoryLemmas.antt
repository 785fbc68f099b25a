-- The archive that a disk stands for that was just made.
use Rattle.std.proofs.Common.{◌≡◌, ℕ, Bool, List, Option, Result, Ok, Err, map, ap, subst, ◌∙◌}
use Rattle.std.specs.Prelude.{None, option_map, replicate, IsTrue}
use Rattle.disk_model.specs.declared.disk.Disk as disk
use Rattle.journal_layout.specs.Standing.{Standing, fresh}
use Rattle.journal_layout.specs.Stands.{Stands}
use Rattle.journal_layout.specs.declared.shape.Half.TheVariants.{A}
use Rattle.journal_layout.specs.declared.shape.Shape.{Shape}
use Rattle.intake.specs.Parts.{Parts, StreamParts, stream_facts}
use Rattle.intake.specs.State.{ArchiveState}
use Rattle.journal_layout.specs.Layout.{IsWithinLimits}
use Rattle.stream_names.specs.declared.naming.Naming.{Naming}
use Rattle.inspector_cli.specs.declared.session.LifeFault.{LifeFault}
use Rattle.inspector_cli.specs.declared.session.LifeFault.TheVariants.{Open, Session}
use Rattle.inspector_cli.specs.declared.session.MemoryFault.{MemoryFault}
use Rattle.inspector_cli.specs.Session.{Streams}
use Rattle.inspector_cli.specs.Life.{OpensThen, LifeEnds, RunsOver}
use Rattle.inspector_cli.specs.Memory.{OverFresh, MemoryEnds, memory_fault}

abbrev state_from : Standing → ℕ → List (Option StreamParts) → Bool → ArchiveState
state_from s limit streams stopped = record {
  shape = s.shape;
  version = s.version;
  limit = limit;
  cases = s.cases;
  next = s.next;
  used = s.used;
  generation = s.generation;
  streams = map (option_map stream_facts) streams;
  stopped = stopped;
}

pub over_fresh : {D : Type 0} (g : disk.Ghosts D) (shape : Shape) (limit : ℕ) (before after : D) (Goes : Parts D → Parts D → Type 0) → IsTrue (g.is_honest before) → Stands (g.seen before) (fresh shape A 1 1)
    → OpensThen g limit before after Goes → OverFresh g shape limit Goes
over_fresh g shape limit before after Goes honest stands lives =
    let a = lives.opened in
    let opened = lives.opening.state in
    record {
      opened = a;
      honest = lives.opening.honesty ∙ honest;
      fresh =
          ap (λ (s : Standing). state_from s a.limit a.streams a.stopped) (lives.opening.found (fresh shape A 1 1) honest stands)
          ∙ ap (λ (n : ℕ). state_from (fresh shape A 1 1) n a.streams a.stopped) opened.limit
          ∙ ap (λ (x : List (Option StreamParts)). state_from (fresh shape A 1 1) limit x a.stopped) opened.streams
          ∙ ap (λ (b : Bool). state_from (fresh shape A 1 1) limit (replicate 8 None) b) opened.runs;
      closed = lives.closed;
      goes = lives.goes;
    }

-- what a session from the opening on answers, as one over a fresh archive
abbrev pub ended_as : Result (Unit {0}) LifeFault → Result (Unit {0}) MemoryFault
ended_as (Ok u) = Ok u
ended_as (Err f) = Err (memory_fault f)

module _ {D : Type 0} (g : disk.Ghosts D) (shape : Shape) (limit : ℕ) (naming : Naming) (t : Streams) (before after : D) (within : IsWithinLimits shape) (honest : IsTrue (g.is_honest before)) (stands : Stands (g.seen before) (fresh shape A 1 1)) where
  ends : (r : Result (Unit {0}) LifeFault) → LifeEnds g limit t before r after (RunsOver g naming t) → MemoryEnds g shape limit naming t (ended_as r)
  ends (Ok u) life = over_fresh g shape limit before after (RunsOver g naming t (Ok u)) honest stands life
  ends (Err (Session f)) life = over_fresh g shape limit before after (RunsOver g naming t (Err f)) honest stands life
  ends (Err (Open f)) life = (within, life.1)

  pub memory_ends : (r s : Result (Unit {0}) LifeFault) → r ≡ s → LifeEnds g limit t before r after (RunsOver g naming t) → MemoryEnds g shape limit naming t (ended_as s)
  memory_ends r s is life = ends s (subst (λ (x : Result (Unit {0}) LifeFault). LifeEnds g limit t before x after (RunsOver g naming t)) is life)
