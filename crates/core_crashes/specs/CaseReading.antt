-- Words of the memory of a core that is a case of an archive.
use Rattle.std.specs.Prelude.{◌≡◌, ◌+◌, ⊤, ℕ, List, [], ◌∷◌, length, Option, Some, Result, Ok, Err, IsTrue}
use Rattle.address_space.specs.Source.{Space, word_at}
use Rattle.address_space.specs.Whole.{IsFrontOf, space_in}
use Rattle.case_journal.specs.Viewing.{OnlyReads}
use Rattle.disk_model.specs.declared.disk.Disk as disk
use Rattle.intake.specs.Calls.{ChangesNoCase}
use Rattle.intake.specs.Contents.{image_at}
use Rattle.intake.specs.Part.{PartCall}
use Rattle.intake.specs.Parts.{Parts, state_of, contents_of}
use Rattle.intake.specs.State.{ArchiveState}
use Rattle.intake.specs.Step.{HasCase}
use Rattle.journal_layout.specs.Case.{Case}
use Rattle.seen_memory.specs.Parts.{IsPartOf}
use Rattle.seen_memory.specs.declared.memory.Unread.{Unread}
use Rattle.seen_memory.specs.declared.part.Part.{Part}
use Rattle.core_crashes.specs.declared.pieces.Piece.{Piece}

-- a case of this number has an image of this size
abbrev pub HasLength : ArchiveState → ℕ → ℕ → Type 0
HasLength s seq size = (c : Case) × HasCase s seq c × (c.len ≡ size)

abbrev pub piece_view : Piece → ℕ × List ℕ
piece_view p = (p.at, p.bytes.items)

abbrev pub lent_view : Part → ℕ × List ℕ
lent_view p = (p.at, p.bytes.now)

-- they are bytes of the image
abbrev pub ArePieces : List ℕ → List Piece → Type 0
ArePieces image [] = ⊤
ArePieces image (p ∷ ps) = IsPartOf image p.at p.bytes.items × ArePieces image ps

-- So it is in each image of that size that begins with these bytes and has these pieces; or another byte is wanted.
abbrev pub IsSeenIn : List ℕ → ℕ → Space → List Piece → ℕ → Result (Option ℕ) Unread → Type 0
IsSeenIn front size space ps address (Ok word) =
    (image : List ℕ) → IsFrontOf front size image → ArePieces image ps → word ≡ word_at (space_in image space) address 8
IsSeenIn front size space ps address (Err u) = ⊤

-- the piece is read of the case's image
abbrev pub ReadsPiece : {D : Type 0} → disk.Ghosts D → Parts D → ℕ → Piece → Parts D → Type 0
ReadsPiece g old seq p new = PartCall g old seq p.at (length p.bytes.items) (Ok tt) p.bytes.items new

-- An archive is only read: it shows the same as before, and a crash leaves the same as before.
pub record IsOnlyRead {D : Type 0} (g : disk.Ghosts D) (old new : Parts D) : Type 0 where
  pub state : state_of new ≡ state_of old
  pub contents : IsTrue (g.is_honest old.disk) → contents_of g.seen new ≡ contents_of g.seen old
  pub quiet : OnlyReads g old.disk new.disk
  pub stays : ChangesNoCase g old new

-- on an honest disk this is the image of the case, if it has that size and begins with these bytes
abbrev pub IsImageOf : {D : Type 0} → disk.Ghosts D → Parts D → ℕ → ℕ → List ℕ → List ℕ → Type 0
IsImageOf g a seq size front image =
    IsTrue (g.is_honest a.disk) × (image_at seq (state_of a).cases (contents_of g.seen a).images ≡ Some image) × IsFrontOf front size image

-- each image that this can be has these pieces
abbrev pub HasPieces : {D : Type 0} → disk.Ghosts D → Parts D → ℕ → ℕ → List ℕ → List Piece → Type 0
HasPieces g a seq size front ps = (image : List ℕ) → IsImageOf g a seq size front image → ArePieces image ps

-- it is the word of the memory by the case's image
abbrev pub IsWordAt : {D : Type 0} → disk.Ghosts D → Parts D → ℕ → ℕ → List ℕ → Space → ℕ → Option ℕ → Type 0
IsWordAt g a seq size front space address word = (image : List ℕ) → IsImageOf g a seq size front image → word ≡ word_at (space_in image space) address 8

-- It is the word of the memory by the case's image, and the archive is only read.
pub record ReadsWord {D : Type 0} (g : disk.Ghosts D) (old : Parts D) (seq size : ℕ) (front : List ℕ) (space : Space) (address : ℕ) (word : Option ℕ) (new : Parts D) : Type 0 where
  pub told : IsWordAt g old seq size front space address word
  pub reads : IsOnlyRead g old new

-- the words of a memory, each eight addresses after the one before
abbrev pub AreWords : Space → ℕ → List (Option ℕ) → Type 0
AreWords space address [] = ⊤
AreWords space address (word ∷ words) = (word ≡ word_at space address 8) × AreWords space (address + 8) words

-- There are so many words, and they are those of the memory by the case's image. The archive is only read.
pub record ReadsWords {D : Type 0} (g : disk.Ghosts D) (old : Parts D) (seq size : ℕ) (front : List ℕ) (space : Space) (first count : ℕ) (words : List (Option ℕ)) (new : Parts D) : Type 0 where
  pub told : (image : List ℕ) → IsImageOf g old seq size front image → AreWords (space_in image space) first words
  pub number : length words ≡ count
  pub reads : IsOnlyRead g old new
