-- A session over an archive that was made for it, in memory.
use Rattle.std.specs.Prelude.{◌≡◌, ℕ, false, [], None, Result, Ok, Err, replicate, IsTrue}
use Rattle.disk_model.specs.declared.disk.Disk as disk
use Rattle.journal_layout.specs.declared.shape.Shape.{Shape}
use Rattle.journal_layout.specs.Layout.{IsWithinLimits}
use Rattle.intake.specs.Parts.{Parts, state_of}
use Rattle.intake.specs.State.{ArchiveState}
use Rattle.stream_names.specs.declared.naming.Naming.{Naming}
use Rattle.inspector_cli.specs.declared.session.LifeFault.{LifeFault}
use Rattle.inspector_cli.specs.declared.session.LifeFault.TheVariants as life
use Rattle.inspector_cli.specs.declared.session.MemoryFault.{MemoryFault}
use Rattle.inspector_cli.specs.declared.session.MemoryFault.TheVariants.{BadShape, OutOfMemory, Session}
use Rattle.inspector_cli.specs.Session.{Streams}
use Rattle.inspector_cli.specs.Life.{IsUntouched, RunsOver}

-- an archive of this shape with no case, that has just been opened
abbrev pub fresh_archive : Shape → ℕ → ArchiveState
fresh_archive shape limit = record {
  shape = shape;
  version = 1;
  limit = limit;
  cases = [];
  next = 1;
  used = 32;
  generation = 1;
  streams = replicate 8 None;
  stopped = false;
}

-- the session over such an archive, on an honest disk
pub record OverFresh {D : Type 0} (g : disk.Ghosts D) (shape : Shape) (limit : ℕ) (Goes : Parts D → Parts D → Type 0) : Type 0 where
  pub opened : Parts D
  pub honest : IsTrue (g.is_honest opened.disk)
  pub fresh : state_of opened ≡ fresh_archive shape limit
  pub closed : Parts D
  pub goes : Goes opened closed

-- the result of such a session that did not end with its script: a disk in memory fails only if there is no memory
abbrev pub memory_fault : LifeFault → MemoryFault
memory_fault (life.Open f) = OutOfMemory
memory_fault (life.Session f) = Session f

-- The session over it, by its result. If there was no session, the shape is outside its limits, or there was no memory; the streams
-- are not touched then.
abbrev pub MemoryEnds : {D : Type 0} → disk.Ghosts D → Shape → ℕ → Naming → Streams → Result (Unit {0}) MemoryFault → Type 0
MemoryEnds g shape limit naming t (Ok u) = OverFresh g shape limit (RunsOver g naming t (Ok u))
MemoryEnds g shape limit naming t (Err (Session f)) = OverFresh g shape limit (RunsOver g naming t (Err f))
MemoryEnds g shape limit naming t (Err BadShape) = (IsWithinLimits shape → ⊥) × IsUntouched t
MemoryEnds g shape limit naming t (Err OutOfMemory) = IsWithinLimits shape × IsUntouched t

-- why there is no disk for it, if that is so
abbrev pub NoDisk : {T : Type 0} → Shape → Result T MemoryFault → Type 0
NoDisk shape (Ok disk) = IsWithinLimits shape
NoDisk shape (Err (Session f)) = ⊥
NoDisk shape (Err BadShape) = IsWithinLimits shape → ⊥
NoDisk shape (Err OutOfMemory) = IsWithinLimits shape
