-- The calls that were made of a file, each with its result, and the disk that they describe.
use Rattle.std.specs.Prelude.{◌≡◌, ◌⊎◌, ℕ, zero, suc, ◌+◌, ◌≤◌, Bool, true, IsTrue, if◌then◌else◌, List, [], ◌∷◌, length}
use Rattle.diagnostics.specs.Counts.{next_count}
use Rattle.disk_model.specs.Places.{AreBytes, part, overwritten}
use Rattle.disk_model.specs.Notes.{Held, stable, written, MayLeave}
use Rattle.disk_model.specs.declared.disk.Disk as disk

-- A call: which one, its place, whether it succeeded, and the bytes that were written or that came.
abbrev pub Call : Type 0
Call = ℕ × ℕ × Bool × List ℕ

abbrev pub read : ℕ → Bool → List ℕ → Call
read at ok bytes = (0, at, ok, bytes)

abbrev pub wrote : ℕ → Bool → List ℕ → Call
wrote at ok bytes = (1, at, ok, bytes)

abbrev pub synced : Bool → Call
synced ok = (2, 0, ok, [])

-- The facts about a file that no call shows: its bytes when it was opened, and the bytes that each failed write left in its range, by the
-- number of calls before it.
pub record Story : Type 0 where
  pub first : List ℕ
  pub left : ℕ → List ℕ

-- the bytes after a write that failed: these in its range, which no sync has made stable
abbrev pub torn_by : Held → ℕ → List ℕ → List ℕ → Held
torn_by h at bytes left = record { now = overwritten h.now at left; synced = h.synced; since = record { at = at; bytes = bytes } ∷ h.since }

abbrev pub after_call : ℕ → ℕ → Bool → List ℕ → List ℕ → Held → Held
after_call zero at ok bytes left h = h
after_call (suc zero) at ok bytes left h = if ok then written h at bytes else torn_by h at bytes left
after_call (suc (suc more)) at ok bytes left h = if ok then stable h.now else h

-- the file's bytes after these calls, of which the newest comes first
abbrev pub replay : Story → List Call → Held
replay story [] = stable story.first
replay story (call ∷ calls) = after_call call.0 call.1 call.2 call.3 (story.left (length calls)) (replay story calls)

-- A read that succeeded gave the bytes that the file has by the calls before it. A write lies within the file, and if it failed its range
-- holds the bytes that the story gives.
abbrev pub Agrees : ℕ → ℕ → Bool → List ℕ → List ℕ → List ℕ → List ℕ → Type 0
Agrees zero at ok bytes left first now = IsTrue ok → bytes ≡ part now at (length bytes)
Agrees (suc zero) at ok bytes left first now = (at + length bytes ≤ length first) × (AreBytes bytes × ((length left ≡ length bytes) × AreBytes left))
Agrees (suc (suc more)) at ok bytes left first now = Unit {0}

-- The calls are those of a file that keeps to the disk model, which had these bytes when it was opened.
abbrev pub IsHonest : Story → List Call → Type 0
IsHonest story [] = AreBytes story.first
IsHonest story (call ∷ calls) = Agrees call.0 call.1 call.2 call.3 (story.left (length calls)) story.first (replay story calls).now × IsHonest story calls

-- a crash after at least t of the calls may have left these bytes
abbrev pub left_since : Story → List Call → ℕ → List ℕ → Type 0
left_since story [] t c = (t ≤ 0) × MayLeave (stable story.first) c
left_since story (call ∷ calls) t c = ((t ≤ length calls + 1) × MayLeave (replay story (call ∷ calls)) c) ⊎ left_since story calls t c

-- how many of them failed
abbrev pub failed : List Call → ℕ
failed [] = 0
failed (call ∷ calls) = if call.2 then failed calls else next_count (failed calls)

-- honest calls
pub record Told (story : Story) : Type 0 where
  pub calls : List Call
  pub honest : IsHonest story calls

-- the disk that they describe
abbrev pub told : (story : Story) → disk.Ghosts (Told story)
told story = record {
  size = λ d. length story.first;
  seen = λ d. (replay story d.calls).now;
  is_honest = λ d. true;
  failures = λ d. failed d.calls;
  clock = λ d. length d.calls;
  may_leave = λ d. MayLeave (replay story d.calls);
  left_since = λ d. left_since story d.calls;
}
