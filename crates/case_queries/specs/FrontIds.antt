-- The build IDs of fronts in an image that is read piece by piece.
use Rattle.std.specs.Prelude.{◌≡◌, ◌≤◌, ◌<◌, ⊤, ℕ, ◌+◌, List, length, Result, Ok, Err, Vec}
use Rattle.std.specs.Global.{Global}
use Rattle.elf_view.specs.Field.{part}
use Rattle.build_ids.specs.BuildId.{build_id_of}
use Rattle.build_replies.specs.Mapped.{AreIdsOf, id_view}
use Rattle.build_replies.specs.declared.ids.FrontId.{FrontId}
use Rattle.build_replies.specs.declared.mapped.MappedFiles.{MappedFiles}
use Rattle.build_replies.specs.declared.places.FrontPlace.{FrontPlace}
use Rattle.seen_memory.specs.declared.gathered.GatherFault.{GatherFault}
use Rattle.seen_memory.specs.declared.gathered.GatherFault.TheVariants as gather_fault
use Rattle.seen_memory.specs.Parts.{IsPartOf}
use Rattle.case_queries.specs.Pieces.{AreBeside, BeginsWith, HasMore}
use Rattle.case_queries.specs.declared.walk.CaseImage.{CaseImage}
use Rattle.case_queries.specs.declared.walk.WalkFault.{WalkFault}
use Rattle.case_queries.specs.declared.window.Part.{Part}

-- bytes that are those of each image which has these pieces stay so
abbrev pub StaysGathered : CaseImage → List Part → ℕ → List ℕ → List ℕ → Type 0
StaysGathered o ps start old new = (image : List ℕ) → BeginsWith o ps image → IsPartOf image start old → IsPartOf image start new

-- so many bytes from place `start` on are gathered; or one is in none of the pieces
abbrev pub GathersOn : CaseImage → List Part → ℕ → ℕ → List ℕ → Result (Unit {0}) GatherFault → List ℕ → Type 0
GathersOn o ps start count old (Ok u) new = StaysGathered o ps start old new × (length new ≡ count)
GathersOn o ps start count old (Err (gather_fault.Unread u)) new =
    StaysGathered o ps start old new × (length new < count) × (length o.front.now ≤ u.place) × AreBeside u.place ps × (u.place < start + count)
GathersOn o ps start count old (Err gather_fault.OutOfMemory) new = ⊤

-- they are gathered once more pieces are read
abbrev pub GathersRead : CaseImage → List Part → ℕ → ℕ → List ℕ → Result (Unit {0}) WalkFault → List Part → List ℕ → Type 0
GathersRead o ps start count old (Ok u) qs new = HasMore o ps qs × StaysGathered o qs start old new × (length new ≡ count)
GathersRead o ps start count old (Err f) qs new = ⊤

-- it is the name, and the build ID of the bytes there in each image that has these pieces
abbrev pub IsIdAt : CaseImage → List Part → FrontPlace → FrontId → Type 0
IsIdAt o ps p f = (image : List ℕ) → BeginsWith o ps image → id_view f ≡ (p.path.now, build_id_of (part image p.start p.count))

-- the build ID is found once more pieces are read
abbrev pub ReadsId : CaseImage → List Part → FrontPlace → Result FrontId WalkFault → List Part → Type 0
ReadsId o ps p (Ok f) qs = HasMore o ps qs × IsIdAt o qs p f
ReadsId o ps p (Err f) qs = ⊤

-- they are the build IDs of the names, by the bytes there in each image that has these pieces
abbrev pub AreIdsAt : CaseImage → List Part → MappedFiles → List FrontId → Type 0
AreIdsAt o ps m ids = (image : List ℕ) → BeginsWith o ps image → AreIdsOf image m ids

-- they are found once more pieces are read
abbrev pub ReadsIds : CaseImage → List Part → MappedFiles → Result (Vec FrontId Global) WalkFault → List Part → Type 0
ReadsIds o ps m (Ok v) qs = HasMore o ps qs × AreIdsAt o qs m v.items
ReadsIds o ps m (Err f) qs = ⊤
