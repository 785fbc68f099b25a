-- Archives that are made on a disk.
use Rattle.std.specs.Prelude.{◌≡◌, ℕ, Bool, true, false, List, [], Result, Ok, Err, IsTrue}
use Rattle.disk_model.specs.Moments.{IsSettled}
use Rattle.disk_model.specs.declared.disk.Disk as disk
use Rattle.intake.specs.Durable.{Durable, StandsFor}
use Rattle.journal_layout.specs.Standing.{fresh}
use Rattle.journal_layout.specs.Stands.{Stands}
use Rattle.journal_layout.specs.declared.shape.Half.TheVariants.{A}
use Rattle.journal_layout.specs.declared.shape.Shape.{Shape}
use Rattle.archive_files.specs.declared.failures.Refusal.{Refusal}

-- no case, in version 2 of the layout
abbrev pub nothing_yet : Durable
nothing_yet = record { cases = []; next = 1; version = 2 }

-- A fresh archive with no case is on the disk, and is there after a crash too. Of version 1 it has this shape.
abbrev pub IsFresh : {D : Type 0} → disk.Ghosts D → Shape → Bool → D → Type 0
IsFresh g shape false after = Stands (g.seen after) (fresh shape A 1 1) × IsSettled g after
IsFresh g shape true after = StandsFor (g.seen after) nothing_yet × ((c : List ℕ) → g.may_leave after c → StandsFor c nothing_yet)

-- If an archive is reported as made, there is one, if the disk is honest.
abbrev pub MakesArchive : {D : Type 0} → disk.Ghosts D → Shape → Bool → D → Result (Unit {0}) Refusal → D → Type 0
MakesArchive g shape keeps_labels before (Ok u) after = IsTrue (g.is_honest before) → IsFresh g shape keeps_labels after
MakesArchive g shape keeps_labels before (Err refusal) after = Unit {0}

-- these bytes are an archive with no case
abbrev pub HaveNoCase : List ℕ → Type 0
HaveNoCase bytes = (x : Durable) × StandsFor bytes x × (x.cases ≡ [])

-- If an archive is reported as made, all that a stop may leave from then on opens as an archive with no case, if the disk is honest.
abbrev pub WhatIsMadeLasts : {D : Type 0} → disk.Ghosts D → Type 0
WhatIsMadeLasts {D} g =
    (shape : Shape) (keeps_labels : Bool) (before after : D) → IsTrue (g.is_honest before) → MakesArchive g shape keeps_labels before (Ok tt) after → (c : List ℕ) → g.may_leave after c → HaveNoCase c
