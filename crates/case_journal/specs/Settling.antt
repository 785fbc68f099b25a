-- Gates that are written again, as they read, before a change builds on bytes that an earlier process wrote.
use Rattle.std.specs.Prelude.{◌≡◌, ◌≢◌, ℕ, ◌+◌, ◌-◌, List, [], ◌∷◌, length, slice_index, Option, None, Some, Result, IsTrue, OnOk}
use Rattle.std.specs.List.{All}
use Rattle.std.specs.Option.{option_map}
use Rattle.disk_model.specs.Moments.{LeavesOnly, IsSettled}
use Rattle.disk_model.specs.declared.disk.Disk as disk
use Rattle.journal_layout.specs.declared.shape.Half.TheVariants.{A, B}
use Rattle.journal_layout.specs.declared.faults.OpenFault.{OpenFault}
use Rattle.journal_layout.specs.Layout.{half_start}
use Rattle.journal_layout.specs.Standing.{Standing}
use Rattle.journal_layout.specs.Stands.{Stands, records_start, records_area}
use Rattle.journal_records.specs.Said.{EndsIn}
use Rattle.case_journal.specs.Viewing.{IsView, OnlyReads, IsOpenRefusal}

-- as long, and the same at each place but these
pub record SameBut (places : List ℕ) (b c : List ℕ) : Type 0 where
  pub same_length : length c ≡ length b
  pub same : (k : ℕ) → All (λ (p : ℕ). k ≢ p) places → slice_index c k ≡ slice_index b k

-- one of the outcomes, with any bytes at these places
abbrev pub Touched : List ℕ → (List ℕ → Type 0) → List ℕ → Type 0
Touched places outcomes c = (d : List ℕ) × outcomes d × SameBut places d c

-- Bytes are written again at these places, each by a write of its own: of the bytes, and of those that a crash at any moment may leave, no
-- others change.
pub record WritesAgain {D : Type 0} (g : disk.Ghosts D) (places : List ℕ) (old new : D) : Type 0 where
  pub moments : IsTrue (g.is_honest old) → LeavesOnly g old new (Touched places (g.may_leave old))
  pub others : IsTrue (g.is_honest old) → SameBut places (g.seen old) (g.seen new)
  pub left : IsTrue (g.is_honest old) → (c : List ℕ) → g.may_leave new c → Touched places (g.may_leave old) c
  pub honesty : g.is_honest new ≡ g.is_honest old
  pub size : g.size new ≡ g.size old

-- the place of the gate behind the records of the taken half
abbrev pub gate_behind : Standing → ℕ
gate_behind s = half_start s.shape s.half + s.used

abbrev pub or_behind : ℕ → Option ℕ → ℕ
or_behind behind None = behind
or_behind behind (Some last) = last

-- The gates whose writing an earlier process may have ended with: the superblock's, those of both halves, that of the last record of the
-- taken half, if it has one, and the one behind its records.
abbrev pub gates_of : Standing → Option ℕ → List ℕ
gates_of s last = 0 ∷ half_start s.shape A ∷ half_start s.shape B ∷ or_behind (gate_behind s) last ∷ gate_behind s ∷ []

-- the gate of the last record is there, if these bytes have a record
pub record HasLastGate (b : List ℕ) (s : Standing) (last : Option ℕ) : Type 0 where
  pub inside : Option ℕ
  pub ends : EndsIn s.shape.data_blocks s.version (records_area b s.shape s.half) inside (s.used - 32)
  pub place : last ≡ option_map (λ (n : ℕ). records_start s.shape s.half + n) inside

-- a view of which it is so
pub record ShowsLast {D : Type 0} (g : disk.Ghosts D) (d : D) (s : Standing) (last : Option ℕ) : Type 0 where
  pub shown : List ℕ
  pub view : IsView g d shown
  pub last_gate : HasLastGate shown s last

-- If bytes encode an archive, these gates are written again, and only the disk and the memory refuse it. Then they read as before, and a
-- crash leaves the bytes that reads give.
pub record SettlesGates {D : Type 0} (g : disk.Ghosts D) (old new : D) (s : Standing) (r : Result (Unit {0}) OpenFault) : Type 0 where
  pub last : Option ℕ
  pub last_gate : HasLastGate (g.seen old) s last
  pub again : WritesAgain g (gates_of s last) old new
  pub only : IsOpenRefusal r
  pub seen : OnOk r (g.seen new ≡ g.seen old)
  pub settled : OnOk r (IsSettled g new)

-- other bytes are only read
abbrev pub Settles : {D : Type 0} → disk.Ghosts D → D → D → Result (Unit {0}) OpenFault → Type 0
Settles g old new r =
    ((s : Standing) → Stands (g.seen old) s → SettlesGates g old new s r)
    × (((s : Standing) → Stands (g.seen old) s → ⊥) → OnlyReads g old new)
