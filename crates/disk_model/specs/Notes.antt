-- The effect of a list of writes and syncs on a disk's bytes, and the bytes that a crash after them may leave.
use Rattle.std.specs.Prelude.{◌≡◌, ℕ, ◌+◌, ◌≤◌, List, [], ◌∷◌, length, fold, take}
use Rattle.disk_model.specs.Places.{AreBytes, overwritten, SameOutside}
use Rattle.disk_model.specs.declared.note.Note.{Note}
use Rattle.disk_model.specs.declared.note.Note.TheVariants.{Wrote, Synced}

-- a write
pub record Write : Type 0 where
  pub at : ℕ
  pub bytes : List ℕ

-- a disk's bytes
pub record Held : Type 0 where
  -- as reads give them
  pub now : List ℕ
  -- as they were at the last sync
  pub synced : List ℕ
  -- the writes since then, the newest first
  pub since : List Write

-- all of them stable
abbrev pub stable : List ℕ → Held
stable bytes = record { now = bytes; synced = bytes; since = [] }

-- as they are after a write
abbrev pub written : Held → ℕ → List ℕ → Held
written h at bytes = record { now = overwritten h.now at bytes; synced = h.synced; since = record { at = at; bytes = bytes } ∷ h.since }

-- as they are after a write or a sync
abbrev pub after : Held → Note → Held
after h (Wrote at bytes) = written h at bytes.items
after h Synced = stable h.now

-- the bytes that these notes make of the first bytes
abbrev pub held : List ℕ → List Note → Held
held first notes = fold after (stable first) notes

-- The bytes that a crash leaves of synced bytes and the writes since: any bytes in the range of each write, the same elsewhere.
abbrev pub Torn : List ℕ → List Write → List ℕ → Type 0
Torn synced [] c = c ≡ synced
Torn synced (w ∷ since) c = (d : List ℕ) × Torn synced since d × SameOutside w.at (length w.bytes) d c × AreBytes c

-- a crash may leave these bytes
abbrev pub MayLeave : Held → List ℕ → Type 0
MayLeave h c = Torn h.synced h.since c

-- a crash after at least t of the notes may have left these bytes
abbrev pub LeftSince : List ℕ → List Note → ℕ → List ℕ → Type 0
LeftSince first notes t c = (k : ℕ) × (t ≤ k) × (k ≤ length notes) × MayLeave (held first (take k notes)) c

-- the write lies within n bytes, and writes bytes
abbrev pub Fits : ℕ → Note → Type 0
Fits n (Wrote at bytes) = (at + length bytes.items ≤ n) × AreBytes bytes.items
Fits n Synced = Unit {0}

-- each of the notes lies within n bytes, and writes bytes
abbrev pub AllFit : ℕ → List Note → Type 0
AllFit n [] = Unit {0}
AllFit n (note ∷ notes) = Fits n note × AllFit n notes
