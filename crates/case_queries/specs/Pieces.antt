-- Pieces of a core's image that are read one by one: each byte once.
use Rattle.std.specs.Prelude.{◌≡◌, ◌≤◌, ◌<◌, ◌⊎◌, ⊤, ℕ, ◌+◌, List, [], ◌∷◌, length, Result, Ok, Err}
use Rattle.disk_model.specs.declared.disk.Disk as disk
use Rattle.address_space.specs.Source.{ExecutableView}
use Rattle.address_space.specs.Whole.{IsFrontOf}
use Rattle.frame_replies.specs.Walking.{HasFound, IsWalkOf}
use Rattle.frame_replies.specs.declared.process.UnwoundProcess.{UnwoundProcess}
use Rattle.frame_replies.specs.declared.walk.Walk as frames
use Rattle.frame_replies.specs.declared.walk.WalkFault as frame_faults
use Rattle.frame_replies.specs.declared.walk.WalkFault.TheVariants as frame_fault
use Rattle.intake.specs.Part.{PartCall}
use Rattle.intake.specs.Parts.{Parts}
use Rattle.seen_memory.specs.Parts.{IsPartOf}
use Rattle.unwind.specs.declared.faults.Stop.{Stop}
use Rattle.case_queries.specs.Seeing.{LooksAt, SeesImage}
use Rattle.case_queries.specs.declared.walk.CaseImage.{CaseImage}
use Rattle.case_queries.specs.declared.walk.WalkFault.{WalkFault}
use Rattle.case_queries.specs.declared.walk.WalkFault.TheVariants.{Unread, OutOfMemory}
use Rattle.case_queries.specs.declared.window.Part.{Part}

abbrev pub piece_view : Part → ℕ × List ℕ
piece_view p = (p.at, p.bytes.items)

-- they are bytes of the image
abbrev pub ArePieces : List ℕ → List Part → Type 0
ArePieces image [] = ⊤
ArePieces image (p ∷ ps) = IsPartOf image p.at p.bytes.items × ArePieces image ps

-- a piece does not have that place
abbrev pub IsBesidePiece : ℕ → Part → Type 0
IsBesidePiece place p = (place < p.at) ⊎ (p.at + length p.bytes.items ≤ place)

abbrev pub AreBeside : ℕ → List Part → Type 0
AreBeside place [] = ⊤
AreBeside place (p ∷ ps) = IsBesidePiece place p × AreBeside place ps

-- a piece has no place from `start` on and before `past`
abbrev pub ApartFrom : ℕ → ℕ → Part → Type 0
ApartFrom start past p = (past ≤ p.at) ⊎ (p.at + length p.bytes.items ≤ start)

abbrev pub AreApart : ℕ → ℕ → List Part → Type 0
AreApart start past [] = ⊤
AreApart start past (p ∷ ps) = ApartFrom start past p × AreApart start past ps

-- an image of that size which begins with these bytes and has these pieces
abbrev pub BeginsWith : CaseImage → List Part → List ℕ → Type 0
BeginsWith o ps image = IsFrontOf o.front.now o.size image × ArePieces image ps

-- The image of the case that is seen is such an image.
abbrev pub SeesPieces : {D : Type 0} → disk.Ghosts D → Parts D → CaseImage → List Part → Parts D → Type 0
SeesPieces g before o ps now = (image : List ℕ) × SeesImage g before o.seq image now × BeginsWith o ps image

-- n bytes of a case's image from place `start` on are read, or why they are not
abbrev pub ReadsPiece : {D : Type 0} → disk.Ghosts D → Parts D → ℕ → ℕ → ℕ → Result Part WalkFault → Parts D → Type 0
ReadsPiece g old seq start n (Ok p) new = (p.at ≡ start) × PartCall g old seq start n (Ok tt) p.bytes.items new
ReadsPiece g old seq start n (Err (Unread f)) new = (bytes : List ℕ) × PartCall g old seq start n (Err f) bytes new
ReadsPiece g old seq start n (Err OutOfMemory) new = new ≡ old

-- the image that is seen has one more piece; or why it can't be read
abbrev pub SeesMore : {D A : Type 0} → disk.Ghosts D → Parts D → CaseImage → List Part → Result A WalkFault → Parts D → Type 0
SeesMore g before o ps (Ok u) now = SeesPieces g before o ps now
SeesMore g before o ps (Err (Unread f)) now = LooksAt g before o.seq (Err f) now
SeesMore g before o ps (Err OutOfMemory) now = (image : List ℕ) × SeesImage g before o.seq image now × IsFrontOf o.front.now o.size image

-- An image that has all has those that were read before, and there is one.
pub record HasMore (o : CaseImage) (old new : List Part) : Type 0 where
  pub fewer : (image : List ℕ) → ArePieces image new → ArePieces image old
  pub some : (image : List ℕ) → BeginsWith o old image → (other : List ℕ) × BeginsWith o new other

abbrev pub HasRead : CaseImage → List Part → Result (Unit {0}) WalkFault → List Part → Type 0
HasRead o old (Ok u) new = HasMore o old new
HasRead o old (Err f) new = ⊤

-- the result of a walk through the frames of a thread, as far as these pieces go
abbrev pub WalkedTo : CaseImage → List Part → Result Stop frame_faults.WalkFault → frames.Walk → Type 0
WalkedTo o ps (Ok stop) w = HasFound w stop
WalkedTo o ps (Err (frame_fault.Unread u)) w = (length o.front.now ≤ u.place) × AreBeside u.place ps × ((image : List ℕ) → BeginsWith o ps image → u.place < o.size)
WalkedTo o ps (Err frame_fault.OutOfMemory) w = ⊤

-- all frames are found of the image that is seen, which has these pieces; or why the walk stops
abbrev pub FindsFrames : {D : Type 0} → disk.Ghosts D → Parts D → CaseImage → List Part → List ExecutableView → ℕ → UnwoundProcess → Result Stop WalkFault → frames.Walk → Parts D → Type 0
FindsFrames g before o ps xs t p (Ok stop) w now =
    (image : List ℕ) × SeesImage g before o.seq image now × BeginsWith o ps image × IsWalkOf image xs t p w × HasFound w stop
FindsFrames g before o ps xs t p (Err (Unread f)) w now = LooksAt g before o.seq (Err f) now
FindsFrames g before o ps xs t p (Err OutOfMemory) w now = (image : List ℕ) × SeesImage g before o.seq image now × IsFrontOf o.front.now o.size image
