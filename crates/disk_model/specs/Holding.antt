-- The known facts about an open file after each call, and the calls that were made of it.
use Rattle.std.specs.Prelude.{◌≡◌, ◌+◌, ℕ, Bool, true, false, not, ◌&&◌, ◌||◌, if◌then◌else◌, Some, None, is_some, List, [], ◌∷◌, length}
use Rattle.diagnostics.specs.Counts.{next_count}
use Rattle.disk_model.specs.Calls.{Call, read, wrote, synced}
use Rattle.disk_model.specs.declared.held_facts.HeldFacts.{HeldFacts}
use Rattle.disk_model.specs.declared.held_facts.Hold.{Hold}
use Rattle.disk_model.specs.declared.held_facts.Hold.TheVariants.{Alone}

-- a file that was opened, and no more
abbrev pub just_opened : HeldFacts
just_opened = record {
  lock = None;
  is_regular = false;
  is_settled = false;
  has_lost_writes = false;
  has_failed_sync = false;
  failures = 0;
}

-- a file that was made, and locked before anybody else could write it
abbrev pub made_alone : HeldFacts
made_alone = record just_opened { lock = Some Alone; is_regular = true; is_settled = true }

-- It was opened and locked, and no more.
pub record IsJustLocked (f : HeldFacts) : Type 0 where
  pub locked : is_some f.lock ≡ true
  pub unsettled : f.is_settled ≡ false
  pub kept : f.has_lost_writes ≡ false
  pub good : f.has_failed_sync ≡ false
  pub uncounted : f.failures ≡ 0

-- It was locked, and a sync has made durable the bytes that earlier processes wrote. Nothing has failed since.
pub record IsSettledFrom (old new : HeldFacts) : Type 0 where
  pub lock : new.lock ≡ old.lock
  pub regular : new.is_regular ≡ old.is_regular
  pub settled : new.is_settled ≡ true
  pub good : new.has_failed_sync ≡ false
  pub counted : new.failures ≡ old.failures

-- it is a regular file
abbrev pub regular : HeldFacts → HeldFacts
regular f = record f { is_regular = true }

-- its lock was asked for, and this is whether it was given
abbrev pub locked_if : Bool → Hold → HeldFacts → HeldFacts
locked_if given hold f = record f { lock = if given then Some hold else None }

-- its lock was let go: from then on others may write it
abbrev pub unlocked : HeldFacts → HeldFacts
unlocked f = record f { lock = None; is_settled = false }

-- The bytes that earlier processes wrote were synced, and this says whether that succeeded. The second of these syncs decides.
abbrev pub settled_if : Bool → HeldFacts → HeldFacts
settled_if good f = record f {
  is_settled = good;
  has_lost_writes = f.has_lost_writes || not good;
  has_failed_sync = f.has_lost_writes && not good;
}

-- it was read or written, and this is whether that succeeded
abbrev pub counted_if : Bool → HeldFacts → HeldFacts
counted_if good f = record f { failures = if good then f.failures else next_count f.failures }

-- the written bytes were synced, and this says whether that succeeded
abbrev pub synced_if : Bool → HeldFacts → HeldFacts
synced_if good f = record (counted_if good f) { has_failed_sync = not good }

-- another descriptor of the file shares its lock
abbrev pub beside : HeldFacts → HeldFacts
beside f = record just_opened { lock = f.lock }

-- These calls were made, of which the newest comes first.
abbrev pub Made : {F : Type 0} → (F → Call → F → Type 0) → List Call → F → F → Type 0
Made made [] old new = old ≡ new
Made {F} made (call ∷ calls) old new = (mid : F) × Made made calls old mid × made mid call new

-- By these calls, of which the newest comes first, all bytes up to this place were read, each piece once, and written as they were read.
abbrev pub AreAgain : ℕ → List Call → Type 0
AreAgain end [] = end ≡ 0
AreAgain end (call ∷ []) = ⊥
AreAgain end (call ∷ before ∷ calls) = (at : ℕ) × (bytes : List ℕ) × (call ≡ wrote at true bytes) × (before ≡ read at true bytes) × (end ≡ at + length bytes) × AreAgain at calls

-- So many bytes from the front on were written again as they read, and then one sync succeeded.
abbrev pub WritesAgain : {F : Type 0} → (F → Call → F → Type 0) → ℕ → F → F → Type 0
WritesAgain made size old new = (calls : List Call) × AreAgain size calls × Made made (synced true ∷ calls) old new
