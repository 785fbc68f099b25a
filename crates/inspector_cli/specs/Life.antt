-- A session from the opening of its archive on.
use Rattle.std.specs.Prelude.{◌≡◌, ◌⊎◌, ℕ, List, [], Option, Result, Ok, Err, IsTrue}
use Rattle.disk_model.specs.declared.disk.Disk as disk
use Rattle.journal_layout.specs.declared.faults.OpenFault.{OpenFault}
use Rattle.journal_layout.specs.declared.faults.OpenFault.TheVariants as fault
use Rattle.intake.specs.Calls.{OpenCall}
use Rattle.intake.specs.Durable.{Durable, StandsFor}
use Rattle.intake.specs.Marks.{IsMarkSettled, mark_of}
use Rattle.intake.specs.Parts.{Parts, state_of}
use Rattle.intake.specs.State.{StreamFacts}
use Rattle.retention.specs.declared.Policy.{Policy}
use Rattle.stream_names.specs.declared.naming.Naming.{Naming}
use Rattle.inspector_cli.specs.Bursts.{admitted}
use Rattle.inspector_cli.specs.declared.session.SessionFault.{SessionFault}
use Rattle.inspector_cli.specs.declared.session.StoreOutcome.{StoreOutcome}
use Rattle.inspector_cli.specs.declared.session.LifeFault.{LifeFault}
use Rattle.inspector_cli.specs.declared.session.LifeFault.TheVariants.{Open, Session}
use Rattle.inspector_cli.specs.Session.{Streams, SessionEnds}
use Rattle.inspector_cli.specs.Storing.{Options, StoreEnds}

-- The opening with all that it promises, of its moments too; and the session over the archive that it answered.
pub record OpensThen {D : Type 0} (g : disk.Ghosts D) (limit : ℕ) (before after : D) (Goes : Parts D → Parts D → Type 0) : Type 0 where
  pub opened : Parts D
  -- exactly the archive that the disk encoded: its cases, its shape and the bytes of its journal that are in use; its limit is the one that
  -- was given, and no stream is open; a crash meanwhile leaves a disk that one before could have left
  pub opening : OpenCall g limit before (Ok opened)
  -- a crash from then on leaves that
  pub settled : IsTrue (g.is_honest before) → IsMarkSettled g (mark_of g.seen opened [])
  pub closed : Parts D
  pub disk : after ≡ closed.disk
  pub goes : Goes opened closed

-- The opening is refused by the first check of the layout that fails, or the disk or the memory failed: Disk only if the count of failures
-- rose. The disk that is returned reads as before, and a crash meanwhile leaves a disk that one before could have left.
pub record IsOpeningRefused {D : Type 0} (g : disk.Ghosts D) (limit : ℕ) (before after : D) (f : OpenFault) : Type 0 where
  pub opening : OpenCall g limit before (Err (f, after))
  -- if the disk encoded an archive, only the disk and the memory can refuse it
  pub kind : (x : Durable) → IsTrue (g.is_honest before) → StandsFor (g.seen before) x → (f ≡ fault.Disk) ⊎ (f ≡ fault.OutOfMemory)

-- the streams are not touched
abbrev pub IsUntouched : Streams → Type 0
IsUntouched t = (t.input' ≡ t.input) × (t.fails' ≡ t.fails) × (t.taken' ≡ t.taken) × (t.lost' ≡ t.lost)

-- From the opening of an archive on: the session over it by its answer, or why it was not opened.
abbrev pub LifeEnds : {D : Type 0} {T : Type 0} → disk.Ghosts D → ℕ → Streams → D → Result T LifeFault → D → (Result T SessionFault → Parts D → Parts D → Type 0) → Type 0
LifeEnds g limit t before (Ok x) after Goes = OpensThen g limit before after (Goes (Ok x))
LifeEnds g limit t before (Err (Session f)) after Goes = OpensThen g limit before after (Goes (Err f))
LifeEnds g limit t before (Err (Open f)) after Goes = IsOpeningRefused g limit before after f × IsUntouched t

-- a session over an archive after which nothing is in doubt
abbrev pub RunsOver : {D : Type 0} → disk.Ghosts D → Naming → Streams → Result (Unit {0}) SessionFault → Parts D → Parts D → Type 0
RunsOver g naming t r opened closed =
    SessionEnds g naming t (record { archive = opened; in_doubt = [] }) closed r

-- The same of one stream that is stored from its own input, with cases retired before it, and with these options. It begins if the
-- cases of the archive admit it.
abbrev pub StoresOver : {D : Type 0} → disk.Ghosts D → Option Policy → Result StreamFacts (List ℕ) → Options → Streams → Result StoreOutcome SessionFault → Parts D → Parts D → Type 0
StoresOver g asked found options t r opened closed =
    StoreEnds g t (record { archive = opened; in_doubt = [] }) asked (admitted options.burst (state_of opened).stopped (state_of opened).cases found) options closed r
