-- The content of an archive at one time and at later ones, whoever leads from one to the next: several processes, one after the other.
use Rattle.std.specs.Prelude.{◌≡◌, ◌⊎◌, ℕ, ◌<◌, ◌≤◌, List, [], ◌∷◌, IsTrue}
use Rattle.disk_model.specs.declared.disk.Disk as disk
use Rattle.journal_layout.specs.Standing.{Standing}
use Rattle.journal_layout.specs.Stands.{Stands}
use Rattle.journal_layout.specs.declared.shape.Shape.{Shape}
use Rattle.intake.specs.Blocks.{image_in}
use Rattle.intake.specs.Durable.{Durable, FoundCase, durable_in, durable_of}
use Rattle.intake.specs.Lasting.{HasNumbers}
use Rattle.intake.specs.Lives.{IsAmong}
use Rattle.intake.specs.Making.{Call, ReplyTo, Makes, Made, AreMade, WouldLeave}
use Rattle.intake.specs.Parts.{Parts}

-- The same case, with the same image in the same blocks. Its pin and its label may be others.
pub record IsSameImage (c d : FoundCase) : Type 0 where
  pub number : d.case.seq ≡ c.case.seq
  pub origin : d.case.origin ≡ c.case.origin
  pub len : d.case.len ≡ c.case.len
  pub blocks : d.case.blocks ≡ c.case.blocks
  pub image : d.image ≡ c.image

-- The content that an archive may have later: a case whose number was given by then was there, with the same image in the same blocks.
pub record IsLater (x y : Durable) : Type 0 where
  pub next : x.next ≤ y.next
  pub cases : (d : FoundCase) → IsAmong y.cases d → d.case.seq < x.next → (c : FoundCase) × IsAmong x.cases c × IsSameImage c d

-- each of these is later than the one before it
abbrev pub AreInTurn : Durable → List Durable → Type 0
AreInTurn x [] = Unit {0}
AreInTurn x (y ∷ ys) = IsLater x y × AreInTurn y ys

abbrev pub last_state : Durable → List Durable → Durable
last_state x [] = x
last_state x (y ∷ ys) = last_state y ys

-- it is the first of them or a later one
abbrev pub IsBetween : Durable → List Durable → Durable → Type 0
IsBetween x [] z = z ≡ x
IsBetween x (y ∷ ys) z = (z ≡ x) ⊎ IsBetween y ys z

-- An opening of these bytes finds this, in an archive of this shape.
pub record StandsAs (shape : Shape) (bytes : List ℕ) (x : Durable) : Type 0 where
  pub standing : Standing
  pub stands : Stands bytes standing
  pub shaped : standing.shape ≡ shape
  pub is : durable_in bytes standing ≡ x

-- The archive has the case, and in the case's blocks these bytes have its image.
pub record HasItsBytes (shape : Shape) (bytes : List ℕ) (x : Durable) (c : FoundCase) : Type 0 where
  pub found : FoundCase
  pub there : IsAmong x.cases found
  pub same : IsSameImage c found
  pub image : image_in shape bytes c.case.blocks c.case.len ≡ c.image

-- A case that is there at two times under one number is the same case, was there at each time between, and its blocks had its image
-- then: no number is given twice, and no call writes a block of a case that is there.
abbrev pub ACaseIsThereBetween : Type 0
ACaseIsThereBetween = (x : Durable) (ys : List Durable) (c d : FoundCase) → HasNumbers x → AreInTurn x ys → IsAmong x.cases c → IsAmong (last_state x ys).cases d → d.case.seq ≡ c.case.seq
    → IsSameImage c d × ((y : Durable) (shape : Shape) (bytes : List ℕ) → IsBetween x ys y → StandsAs shape bytes y → HasItsBytes shape bytes y c)

-- Whatever a call answers, the cases of the archive then are later than its cases before the call. If the disk failed, the cases that the
-- call would have left are later too.
abbrev pub ACallLeadsOn : {D : Type 0} → disk.Ghosts D → Type 0
ACallLeadsOn {D} g = (old new : Parts D) (call : Call) (r : ReplyTo call) → IsTrue (g.is_honest old.disk) → Makes g old call r new
    → IsLater (durable_of g.seen old) (durable_of g.seen new) × ((x : Durable) → WouldLeave g old call x → IsLater (durable_of g.seen old) x)

-- the cases of the archive after each of these calls
abbrev pub states_of : {D : Type 0} → (D → List ℕ) → List (Made D) → List Durable
states_of seen [] = []
states_of seen (m ∷ ms) = durable_of seen m.archive ∷ states_of seen ms

-- So it is over calls one after the other.
abbrev pub CallsLeadOn : {D : Type 0} → disk.Ghosts D → Type 0
CallsLeadOn {D} g = (a : Parts D) (made : List (Made D)) → IsTrue (g.is_honest a.disk) → AreMade g a made → AreInTurn (durable_of g.seen a) (states_of g.seen made)
