-- A disk with gathered bytes that it has not taken yet: the bytes that it
-- shows with them, those that a crash may leave of it, and its moments.
use Rattle.std.specs.Prelude.{◌≡◌, ◌⊎◌, ℕ, ◌+◌, ◌*◌, ◌^◌, ◌<◌, ◌≤◌, min, List, length, take, Result, IsTrue, OnOk, if◌then◌else◌}
use Rattle.disk_model.specs.Places.{AreBytes, overwritten, SameOutside}
use Rattle.disk_model.specs.Disk.{Follows, Elapses}
use Rattle.disk_model.specs.declared.disk.Disk as disk

-- the disk, and the bytes that are gathered for it from place at on
pub record Laden (D : Type 0) : Type 0 where
  pub disk : D
  pub at : ℕ
  pub bytes : List ℕ

abbrev pub laden : {D : Type 0} → D → ℕ → List ℕ → Laden D
laden disk at bytes = record { disk = disk; at = at; bytes = bytes }

-- these bytes with as many of the others over their front as there is room for
abbrev pub fronted : List ℕ → List ℕ → List ℕ
fronted into from = overwritten into 0 (take (min (length into) (length from)) from)

module _ {D : Type 0} (g : disk.Ghosts D) where
  -- reads give the bytes that the disk shows, with the gathered bytes over them
  abbrev pub shown : Laden D → List ℕ
  shown l = overwritten (g.seen l.disk) l.at l.bytes

  -- A crash now leaves bytes that it may leave of an honest disk, with any bytes in the gathered range.
  pub record MayStay (l : Laden D) (c : List ℕ) : Type 0 where
    pub honest : IsTrue (g.is_honest l.disk)
    pub below : List ℕ
    pub left : g.may_leave l.disk below
    pub same : SameOutside l.at (length l.bytes) below c
    pub are : AreBytes c

  -- Within a moment of the disk each gathered byte makes a moment of its own.
  abbrev pub moment : Laden D → ℕ
  moment l = if g.is_honest l.disk then g.clock l.disk * 2 ^ 64 + length l.bytes else 0

  -- A crash of the disk since the disk's moment that t lies in may have left this.
  pub record WasLeft (l : Laden D) (t : ℕ) (c : List ℕ) : Type 0 where
    pub honest : IsTrue (g.is_honest l.disk)
    pub since : ℕ
    pub from : since * 2 ^ 64 ≤ t
    pub until : t < since * 2 ^ 64 + 2 ^ 64
    pub left : g.left_since l.disk since c

  -- A crash since t may have left bytes that one may leave now, since gathering
  -- takes no outcome away, or bytes that it may have left of the disk.
  abbrev pub stayed_since : Laden D → ℕ → List ℕ → Type 0
  stayed_since l t c = MayStay l c ⊎ WasLeft l t c

  -- time goes on
  abbrev pub Passes : Laden D → Laden D → Type 0
  Passes old new = Elapses moment MayStay stayed_since old new

  -- Nothing that a caller sees has changed, and a crash leaves nothing new: the gathered bytes were written, or are kept.
  pub record IsQuiet (old new : Laden D) : Type 0 where
    pub shows : IsTrue (g.is_honest old.disk) → shown new ≡ shown old
    pub crash : IsTrue (g.is_honest old.disk) → (c : List ℕ) → MayStay new c → MayStay old c
    pub time : Passes old new
    pub honesty : g.is_honest new.disk ≡ g.is_honest old.disk
    pub size : g.size new.disk ≡ g.size old.disk

  -- These bytes were written from place at on, or gathered.
  pub record IsTaken {T E : Type 0} (result : Result T E) (at : ℕ) (from : List ℕ) (old new : Laden D) : Type 0 where
    pub written : OnOk result (IsTrue (g.is_honest old.disk) → shown new ≡ overwritten (shown old) at from)
    pub others : IsTrue (g.is_honest old.disk) → SameOutside at (length from) (shown old) (shown new)
    pub crash : IsTrue (g.is_honest old.disk) → Follows (SameOutside at (length from)) (MayStay old) (MayStay new)
    pub time : Passes old new
    pub honesty : g.is_honest new.disk ≡ g.is_honest old.disk
    pub size : g.size new.disk ≡ g.size old.disk
