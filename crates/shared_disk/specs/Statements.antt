-- The laws of looking, as statements.
use Rattle.std.specs.Prelude.{◌≡◌, ℕ, ◌+◌, ◌<◌, ◌≤◌, List, [], ◌∷◌, length}
use Rattle.disk_model.specs.Places.{AreBytes}
use Rattle.journal_layout.specs.declared.shape.Half.{Half}
use Rattle.journal_layout.specs.Layout.{field, half_start}
use Rattle.journal_layout.specs.Front.{Front}
use Rattle.journal_layout.specs.Standing.{Standing}
use Rattle.journal_layout.specs.Stands.{Stands, front_of}
use Rattle.shared_disk.specs.History.{moment, AreMoments, AreMarked, HasGrown}
use Rattle.shared_disk.specs.JournalLooks.{IsLook, AreFew}

-- each moment encodes an archive
abbrev pub EachMomentStands : Type 0
EachMomentStands =
    (moments : List (List ℕ)) (standing : ℕ → Standing) (k : ℕ) → AreMoments moments standing → k < length moments → Stands (moment moments k) (standing k)

-- from one moment to a later one of the same generation, a half has grown and nothing else
abbrev pub AHalfGrowsOnly : Type 0
AHalfGrowsOnly =
    (moments : List (List ℕ)) (standing : ℕ → Standing) (i j : ℕ) → AreMoments moments standing → i ≤ j → j < length moments
    → (standing j).generation ≡ (standing i).generation → HasGrown (moment moments i) (standing i) (moment moments j) (standing j)

-- A look takes bytes that encode the archive of a moment between its start and its end: the one at which all gates had been read in their order, and
-- the records were not yet. So it opens, as the archive of that moment.
abbrev pub TwoReadingsAreAMoment : Type 0
TwoReadingsAreAMoment =
    (moments : List (List ℕ)) (standing : ℕ → Standing) (mark : Half → ℕ → ℕ) (seen : List ℕ) (f : Front) → AreMoments moments standing
    → AreMarked moments (standing 0).shape mark → (look : IsLook moments seen f) → AreFew mark look.begin look.finish
    → (t : Standing) × (look.begin ≤ look.has_order) × (look.has_order ≤ look.finish) × (f ≡ front_of t) × Stands seen t × Stands (moment moments look.has_order) t

-- While nobody writes, a look is taken: bytes that are read at one moment encode the archive of that moment.
abbrev pub AStillLookIsTaken : Type 0
AStillLookIsTaken =
    (moments : List (List ℕ)) (standing : ℕ → Standing) (k : ℕ) → AreMoments moments standing → k < length moments
    → (look : IsLook moments (moment moments k) (front_of (standing k))) × (look.begin ≡ k) × (look.finish ≡ k)

-- A disk that nobody changes is an honest one of one moment: the premises of the laws can be met.
abbrev pub ADiskAtRestIsHonest : Type 0
ADiskAtRestIsHonest =
    (b : List ℕ) (s : Standing) → AreBytes b → Stands b s
    → AreMoments (b ∷ []) (λ k. s) × AreMarked (b ∷ []) s.shape (λ half k. field b (half_start s.shape half + 8) 8)
