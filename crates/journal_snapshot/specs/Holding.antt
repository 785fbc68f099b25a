-- The agreement between a disk and a journal, while its records are appended to and while its other half is written.
use Rattle.std.specs.Prelude.{◌≡◌, ◌≢◌, ℕ, List, slice_index}
use Rattle.disk_model.specs.Places.{part}
use Rattle.disk_model.specs.Moments.{IsSettled}
use Rattle.disk_model.specs.declared.disk.Disk as disk
use Rattle.journal_layout.specs.declared.shape.Half.TheVariants.{A, B}
use Rattle.journal_layout.specs.declared.shape.Shape.{Shape}
use Rattle.journal_layout.specs.Layout.{half_start, data_start}
use Rattle.journal_layout.specs.Folding.{Folded}
use Rattle.journal_layout.specs.Standing.{Standing}
use Rattle.journal_layout.specs.Stands.{Stands}
use Rattle.journal_layout.specs.Rewriting.{other_start, HoldsSnapshot, MayRewrite}

-- the superblock and both halves are the same
abbrev pub SameFront : Shape → List ℕ → List ℕ → Type 0
SameFront s b c = part c 0 (data_start s) ≡ part b 0 (data_start s)

-- both halves have the same headers
pub record SameHeaders (s : Shape) (b c : List ℕ) : Type 0 where
  pub first : part c (half_start s A) 32 ≡ part b (half_start s A) 32
  pub second : part c (half_start s B) 32 ≡ part b (half_start s B) 32

-- Every list that a crash now may leave encodes the journal, and agrees up to the data blocks with the bytes that reads give.
pub record Holds {D : Type 0} (g : disk.Ghosts D) (d : D) (s : Standing) : Type 0 where
  pub stands : (c : List ℕ) → g.may_leave d c → Stands c s
  pub front : (c : List ℕ) → g.may_leave d c → SameFront s.shape (g.seen d) c

-- Every list that a crash now may leave encodes the journal, and the gate of its
-- other half is not open in it, so that the other bytes of that half are not read.
pub record StandsInOtherHalf {D : Type 0} (g : disk.Ghosts D) (d : D) (s : Standing) : Type 0 where
  pub stands : (c : List ℕ) → g.may_leave d c → Stands c s
  pub closed : (c : List ℕ) → g.may_leave d c → slice_index c (other_start s) ≢ 165

-- A crash leaves the bytes that reads give: they encode the journal, and a
-- half holds all that says this after the other gate, which is not open.
pub record IsReady {D : Type 0} (g : disk.Ghosts D) (d : D) (s : Standing) (f : Folded) : Type 0 where
  pub settled : IsSettled g d
  pub stands : Stands (g.seen d) s
  pub may : MayRewrite s f
  pub snapshot : HoldsSnapshot s f (g.seen d)
