-- The image of a core, read window by window while its memory is searched.
use Rattle.std.specs.Prelude.{◌≡◌, ◌≤◌, ℕ, ◌+◌, ◌-◌, List, [], ◌∷◌, length, take, Result, Ok, Err}
use Rattle.disk_model.specs.declared.disk.Disk as disk
use Rattle.elf_view.specs.Field.{part}
use Rattle.address_space.specs.Source.{Space}
use Rattle.address_space.specs.Whole.{IsFrontOf, space_in}
use Rattle.intake.specs.Parts.{Parts}
use Rattle.case_queries.specs.Fronts.{ReadsFront}
use Rattle.case_queries.specs.Seeing.{LooksAt}
use Rattle.case_queries.specs.declared.walk.CaseImage.{CaseImage}
use Rattle.case_queries.specs.declared.walk.Walk.{Walk}
use Rattle.case_queries.specs.declared.walk.WalkFault.{WalkFault}
use Rattle.case_queries.specs.declared.walk.WalkFault.TheVariants.{Unread, OutOfMemory}
use Rattle.windowed_search.specs.ScanWords.{Aim, HasScanned, aimed_at}
use Rattle.windowed_search.specs.StepWords.{Leads, bytes_of, count_of}
use Rattle.windowed_search.specs.Runs.{values_from}
use Rattle.windowed_search.specs.declared.steps.Step.{Step}

-- an image of that size which begins with these bytes
abbrev pub BeginsSo : CaseImage → List ℕ → List ℕ → Type 0
BeginsSo o bytes image = (length image ≡ o.size) × (bytes ≡ take (length bytes) image)

-- The bytes of an image up to place `at` are read, or its first bytes if they go on behind it; each was read once.
pub record IsReadTo {D : Type 0} (g : disk.Ghosts D) (before : Parts D) (o : CaseImage) (at : ℕ) (bytes : List ℕ) (now : Parts D) : Type 0 where
  pub reads : ReadsFront g before o.seq bytes now
  pub long : length bytes ≡ at + (length o.front.now - at)
  pub begins : o.front.now ≡ take (length o.front.now) bytes
  pub within : length bytes ≤ o.size

-- The image is read up to this place, the window has the last bytes of that, and the memory of any image which begins with these bytes is
-- searched up to this address.
pub record IsAt {D : Type 0} (g : disk.Ghosts D) (before : Parts D) (space : Space) (aim : Aim) (o : CaseImage) (w : Walk) (now : Parts D) : Type 0 where
  pub bytes : List ℕ
  pub read : IsReadTo g before o w.at bytes now
  pub window : (image : List ℕ) → BeginsSo o bytes image → w.buffer.items ≡ part image (w.at - length w.buffer.items) (length w.buffer.items)
  pub searched : (image : List ℕ) → BeginsSo o bytes image → HasScanned (space_in image space) w.search
  pub asked : aimed_at w.search ≡ aim

-- the result of a walk
abbrev pub Walks : {D : Type 0} → disk.Ghosts D → Parts D → Space → Aim → CaseImage → Walk → Parts D → Result (Unit {0}) WalkFault → Type 0
Walks g before space aim o w now (Ok u) = IsAt g before space aim o w now
Walks g before space aim o w now (Err (Unread f)) = LooksAt g before o.seq (Err f) now
Walks g before space aim o w now (Err OutOfMemory) = (at : ℕ) × (bytes : List ℕ) × IsReadTo g before o at bytes now

-- n bytes of the image from place p on are the values of the addresses from a on
abbrev pub HasValues : Space → CaseImage → ℕ → ℕ → ℕ → Type 0
HasValues space o a p n = (image : List ℕ) → IsFrontOf o.front.now o.size image → values_from (space_in image space) a n ≡ part image p n

-- a step says which bytes are there: so many bytes of the image, or of an executable, or no bytes, are the values of so many addresses
abbrev pub HasStep : Space → CaseImage → ℕ → ℕ → Step → Type 0
HasStep space o p a s = (image : List ℕ) → IsFrontOf o.front.now o.size image → values_from (space_in image space) a (count_of s) ≡ bytes_of image p s

-- the steps lead on from there to address b, whatever the image
abbrev pub LeadsOn : Space → CaseImage → ℕ → ℕ → List Step → ℕ → Type 0
LeadsOn space o p a steps b = (image : List ℕ) → IsFrontOf o.front.now o.size image → (q : ℕ) × Leads image (space_in image space) p a steps q b

-- the address after those of the steps
abbrev pub address_after : ℕ → List Step → ℕ
address_after a [] = a
address_after a (s ∷ ss) = address_after (a + count_of s) ss
