-- The behaviour of a disk under another one: only a sync that succeeds takes outcomes of a crash away, and a write that succeeds adds the outcomes
-- with any bytes in its range.
use Rattle.std.specs.Prelude.{◌≡◌, ℕ, ◌<◌, List, length, Result, IsTrue, OnOk}
use Rattle.disk_model.specs.Places.{AreBytes, part, overwritten, SameOutside}
use Rattle.disk_model.specs.Disk.{Follows, Only, Elapses, HasCause}
use Rattle.disk_model.specs.declared.disk.Disk as disk

-- each outcome is one still
abbrev pub Stays : (List ℕ → Type 0) → (List ℕ → Type 0) → Type 0
Stays old new = (c : List ℕ) → old c → new c

-- each outcome, with any bytes in the n from place at on, is one now
abbrev pub Opens : ℕ → ℕ → (List ℕ → Type 0) → (List ℕ → Type 0) → Type 0
Opens at n old new = (b c : List ℕ) → old b → SameOutside at n b c → AreBytes c → new c

module _ {D T E : Type 0} (g : disk.Ghosts D) where
  -- a read of n bytes from place at on, which gave these
  pub record IsFetched (result : Result T E) (at n : ℕ) (bytes : List ℕ) (old new : D) : Type 0 where
    pub gives : OnOk result (IsTrue (g.is_honest old) → bytes ≡ part (g.seen old) at n)
    pub seen : IsTrue (g.is_honest old) → g.seen new ≡ g.seen old
    pub crash : IsTrue (g.is_honest old) → Stays (g.may_leave new) (g.may_leave old)
    pub stays : IsTrue (g.is_honest old) → Stays (g.may_leave old) (g.may_leave new)
    pub time : Elapses g.clock g.may_leave g.left_since old new
    pub cause : HasCause (g.failures old) (g.failures new) result
    pub honesty : g.is_honest new ≡ g.is_honest old
    pub size : g.size new ≡ g.size old

  -- a write of these bytes from place at on
  pub record IsPut (result : Result T E) (at : ℕ) (bytes : List ℕ) (old new : D) : Type 0 where
    pub written : OnOk result (IsTrue (g.is_honest old) → g.seen new ≡ overwritten (g.seen old) at bytes)
    pub others : IsTrue (g.is_honest old) → SameOutside at (length bytes) (g.seen old) (g.seen new)
    pub crash : IsTrue (g.is_honest old) → Follows (SameOutside at (length bytes)) (g.may_leave old) (g.may_leave new)
    pub stays : IsTrue (g.is_honest old) → Stays (g.may_leave old) (g.may_leave new)
    pub opens : OnOk result (IsTrue (g.is_honest old) → Opens at (length bytes) (g.may_leave old) (g.may_leave new))
    -- the moment of a write that succeeds is a later one
    pub moves : OnOk result (IsTrue (g.is_honest old) → g.clock old < g.clock new)
    pub time : Elapses g.clock g.may_leave g.left_since old new
    pub cause : HasCause (g.failures old) (g.failures new) result
    pub honesty : g.is_honest new ≡ g.is_honest old
    pub size : g.size new ≡ g.size old

  -- a sync
  pub record IsSynced (result : Result T E) (old new : D) : Type 0 where
    pub durable : OnOk result (IsTrue (g.is_honest old) → Only (g.seen old) (g.may_leave new))
    pub seen : IsTrue (g.is_honest old) → g.seen new ≡ g.seen old
    pub crash : IsTrue (g.is_honest old) → Stays (g.may_leave new) (g.may_leave old)
    pub time : Elapses g.clock g.may_leave g.left_since old new
    pub cause : HasCause (g.failures old) (g.failures new) result
    pub honesty : g.is_honest new ≡ g.is_honest old
    pub size : g.size new ≡ g.size old
