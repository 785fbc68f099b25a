-- The bytes of a journal's cases that are written into its other half.
use Rattle.std.specs.Prelude.{◌≡◌, ℕ, ◌+◌, ◌≤◌, Bool, List, [], ◌∷◌, ◌++◌, length, IsTrue, Option, Some, None, Result, OnOk, IfOk}
use Rattle.std.specs.List.{flat_map, All}
use Rattle.disk_model.specs.Places.{part}
use Rattle.disk_model.specs.declared.disk.Disk as disk
use Rattle.disk_model.specs.declared.disk.DiskFault.{DiskFault}
use Rattle.journal_layout.specs.declared.entry.Entry.{Entry}
use Rattle.journal_layout.specs.Case.{Case, case_of, numbered}
use Rattle.journal_layout.specs.Record.{Store, Label, spelling}
use Rattle.journal_snapshot.specs.declared.change.Change.{Change}
use Rattle.journal_snapshot.specs.declared.change.Change.TheVariants as change
use Rattle.journal_snapshot.specs.Changing.{flag_after, label_after}
use Rattle.journal_snapshot.specs.Filling.{Fills}

-- the case of an entry under this number, with this flag
abbrev pub stored_as : ℕ → Entry → Bool → Case
stored_as seq e flag = record (numbered seq (case_of e)) { pinned = flag }

-- and the bytes of its Store record
abbrev pub written : ℕ → Entry → Bool → List ℕ
written seq e flag = spelling (Store (stored_as seq e flag))

-- those of the record of its label, if the label is not empty
abbrev pub written_label : ℕ → List ℕ → List ℕ
written_label seq [] = []
written_label seq (b ∷ rest) = spelling (Label seq (b ∷ rest))

-- and those of both
abbrev pub written_case : ℕ → Entry → Bool → List ℕ → List ℕ
written_case seq e flag text = written seq e flag ++ written_label seq text

-- the bytes of an entry's records, if it stays
abbrev pub written_flag : Entry → Option Bool → List ℕ → List ℕ
written_flag e None text = []
written_flag e (Some flag) text = written_case e.seq e flag text

abbrev pub written_entry : Change → Entry → List ℕ
written_entry ch e = written_flag e (flag_after ch (case_of e)) (label_after ch (case_of e))

-- the bytes of the records of those of these entries that stay
abbrev pub written_entries : Change → List Entry → List ℕ
written_entries ch es = flat_map (written_entry ch) es

-- the bytes of the records of the case that comes
abbrev pub written_added : Change → List ℕ
written_added (change.Store seq e) = written_case seq e.now e.now.pinned e.now.label.items
written_added _ = []

-- the records of each of these entries fit into `most` bytes
abbrev pub AreAtMost : ℕ → Change → List Entry → Type 0
AreAtMost most ch es = All (λ (e : Entry). length (written_entry ch e) ≤ most) es

-- These bytes are written from place at on, and nothing else is: if the
-- disk failed, some of them may be. The answer is the place where they end.
pub record Writes {D : Type 0} (g : disk.Ghosts D) (old new : D) (at : ℕ) (bytes : List ℕ) (result : Result ℕ DiskFault) : Type 0 where
  pub fills : Fills g old new at (length bytes)
  pub there : IsTrue (g.is_honest old) → OnOk result (part (g.seen new) at (length bytes) ≡ bytes)
  pub end : IfOk result (λ n. n ≡ at + length bytes)
