-- Looks without a lock: the bytes that they saw, and the writes of the disk from one to the next, are an archive all the time.
use Rattle.std.specs.Prelude.{◌≡◌, ◌⊎◌, ℕ, zero, suc, ◌+◌, ◌-◌, ◌<◌, ◌≤◌, List, [], ◌∷◌, length, Ok}
use Rattle.intake.specs.Durable.{Durable, durable_in}
use Rattle.intake.specs.InTurn.{IsLater}
use Rattle.journal_layout.specs.Front.{Front, front_opening}
use Rattle.journal_layout.specs.Layout.{data_start}
use Rattle.journal_layout.specs.Standing.{Standing}
use Rattle.journal_layout.specs.declared.shape.Half.{Half}
use Rattle.journal_layout.specs.declared.shape.Shape.{Shape}
use Rattle.shared_disk.specs.History.{moment, AreMoments, AreMarked}
use Rattle.shared_disk.specs.JournalLooks.{AreFew}
use Rattle.shared_disk.specs.Outcome.{IsSeen, seen_over}
use Rattle.shared_disk.specs.Meanwhile.{EndsWith, IsHeld}
use Rattle.shared_disk.specs.declared.shared.SharedDisk as shared
use Rattle.archive_files.specs.History.{HoldsArchive}

-- From moment i to moment j a look saw this front, and it opens as an archive of this shape.
pub record IsFrontSeen (moments : List (List ℕ)) (shape : Shape) (front : List ℕ) (i j : ℕ) : Type 0 where
  pub half : Half
  pub seen : IsSeen moments i j shape half front
  pub long : length front ≡ data_start shape
  pub opened : Front
  pub shaped : opened.shape ≡ shape
  pub opens : front_opening (seen_over front (moment moments seen.at)) ≡ Ok opened

-- The assumed contents of the disk from one look to the next: the bytes that the first look saw, over the data blocks of its moment; the writes at
-- each moment up to that of the next look; and the bytes that this one saw.
pub record IsWatched {S : Type 0} (g : shared.Ghosts S) (s : S) (moments : List (List ℕ)) (shape : Shape) : Type 0 where
  pub first : List ℕ
  pub second : List ℕ
  pub i : ℕ
  pub j : ℕ
  pub k : ℕ
  pub l : ℕ
  pub look : IsFrontSeen moments shape first i j
  pub again : IsFrontSeen moments shape second k l
  pub order : j ≤ k
  pub within : l < length moments
  pub looked : g.looked s ≡ seen_over first (moment moments look.seen.at)
  pub held : (c : List ℕ) → IsHeld (g.meanwhile s) c
      → (c ≡ g.looked s) ⊎ ((m : ℕ) × (look.seen.at ≤ m) × (m ≤ again.seen.at) × (c ≡ moment moments m)) ⊎ (c ≡ seen_over second (moment moments again.seen.at))
  pub last : (c : List ℕ) → EndsWith (g.meanwhile s) c → c ≡ seen_over second (moment moments again.seen.at)

-- the write of the disk at a moment
abbrev pub state_at : List (List ℕ) → (ℕ → Standing) → ℕ → Durable
state_at moments standing m = durable_in (moment moments m) (standing m)

-- the n states after that of moment i
abbrev pub states_after : (ℕ → Durable) → ℕ → ℕ → List Durable
states_after state i zero = []
states_after state i (suc n) = state (i + 1) ∷ states_after state (i + 1) n

-- The moments are those that the archive's calls leave, each later than the one before it, and no look lasts so long that the lowest byte of a
-- generation comes round. Then the disk holds an archive all the time: at the first look the one of that look's moment, at the next the one of
-- that one's.
abbrev pub LooksHoldAnArchive : {S : Type 0} → shared.Ghosts S → Type 0
LooksHoldAnArchive {S} g =
    (s : S) (moments : List (List ℕ)) (standing : ℕ → Standing) (mark : Half → ℕ → ℕ) (shape : Shape) (watched : IsWatched g s moments shape)
    → AreMoments moments standing → AreMarked moments (standing 0).shape mark → AreFew mark watched.i watched.j → AreFew mark watched.k watched.l
    → ((m : ℕ) → m + 1 < length moments → IsLater (state_at moments standing m) (state_at moments standing (m + 1)))
    → HoldsArchive g s shape (state_at moments standing watched.look.seen.at)
    (states_after (state_at moments standing) watched.look.seen.at (watched.again.seen.at - watched.look.seen.at))
