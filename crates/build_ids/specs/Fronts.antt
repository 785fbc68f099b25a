-- The build ID of an image that its first bytes determine.
use Rattle.std.specs.Prelude.{◌≡◌, ◌≤◌, ◌<◌, ℕ, ◌+◌, List, length, take, Option, Result, Ok, Err}
use Rattle.std.specs.Borrow.{Bor}
use Rattle.std.specs.Option.{option_map}
use Rattle.elf_view.specs.Header.{SegmentView}
use Rattle.build_ids.specs.BuildId.{build_id_of}
use Rattle.build_ids.specs.declared.front.ShortFront.{ShortFront}

-- if it is a PT_NOTE (4), all of which lies in an image of that size, it lies before that place
abbrev pub HasNotesBefore : ℕ → ℕ → SegmentView → Type 0
HasNotesBefore size place s = s.kind ≡ 4 → s.offset + s.filesz ≤ size → s.offset + s.filesz ≤ place

-- an image of that size, of which these are the first bytes
abbrev pub BeginsWith : List ℕ → ℕ → List ℕ → Type 0
BeginsWith front size image = (length image ≡ size) × (front ≡ take (length front) image)

-- it is the build ID of each image that begins so; or more bytes are wanted
abbrev pub GivesId : List ℕ → ℕ → Result (Option (Bor (List ℕ))) ShortFront → Type 0
GivesId front size (Ok id) = (image : List ℕ) → BeginsWith front size image → option_map (λ (x : Bor (List ℕ)). x.now) id ≡ build_id_of image
GivesId front size (Err short) = (length front < short.wanted) × (short.wanted ≤ size)
