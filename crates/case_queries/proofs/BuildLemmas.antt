-- What is shown of the build IDs of a core that is read piece by piece.
use Rattle.std.proofs.Common.{◌≡◌, ◌≤◌, inr, ℕ, ◌+◌, List, map, drop, length, Option, None, Some, Result, Ok, Err, ap, sym, ◌∙◌, subst, arith}
use Rattle.std.specs.Prelude.{MatchResult}
use Rattle.std.specs.Borrow.{Bor}
use Rattle.std.specs.Option.{option_map}
use Rattle.std.proofs.lemmas.List.{length-drop, length-take, take-take}
use Rattle.disk_model.specs.declared.disk.Disk as disk
use Rattle.elf_view.specs.Field.{part}
use Rattle.elf_view.specs.ViewWords.{notes_of}
use Rattle.elf_view.specs.declared.faults.Want.TheVariants.{Core}
use Rattle.address_space.specs.Whole.{IsFrontOf}
use Rattle.build_ids.specs.Fronts as ids
use Rattle.build_replies.specs.Builds.{told_of}
use Rattle.build_replies.specs.Mapped.{IsFoundOf, id_view}
use Rattle.build_replies.specs.ToldLaws.{found_ids, missing_ids}
use Rattle.build_replies.specs.declared.mapped.MappedFiles.{MappedFiles}
use Rattle.build_replies.specs.declared.ids.FrontId.{FrontId}
use Rattle.build_replies.specs.declared.places.FrontPlace.{FrontPlace}
use Rattle.intake.specs.Parts.{Parts}
use Rattle.seen_memory.specs.Gathering.{GathersBytes}
use Rattle.seen_memory.specs.declared.gathered.GatherFault.{GatherFault}
use Rattle.seen_memory.specs.declared.gathered.GatherFault.TheVariants as gather_fault
use Rattle.seen_memory.specs.Parts.{IsPartOf}
use Rattle.seen_memory.specs.declared.part.Part as seen
use Rattle.case_queries.specs.FrontIds.{AreIdsAt, GathersOn, ReadsId}
use Rattle.case_queries.specs.ToldWords.{SeesTold}
use Rattle.case_queries.specs.Fronts.{IsSoundFront}
use Rattle.case_queries.specs.PieceWords.{lent_view}
use Rattle.case_queries.specs.Pieces.{BeginsWith, HasMore, SeesMore, SeesPieces, piece_view}
use Rattle.case_queries.specs.declared.walk.CaseImage.{CaseImage}
use Rattle.case_queries.specs.declared.walk.WalkFault.{WalkFault}
use Rattle.case_queries.specs.declared.walk.WalkFault.TheVariants.{OutOfMemory, Unread}
use Rattle.case_queries.specs.declared.window.Part.{Part}
use Rattle.case_queries.proofs.FramesLemmas.{NotesLaw}
use Rattle.case_queries.proofs.MoreLemmas.{beside_by, image_by}
use Rattle.case_queries.proofs.ShowLemmas.{enough_shows}

-- bytes are gathered from lent pieces
pub gathers_on : (o : CaseImage) (ps : List seen.Part) (qs : List Part) (start count : ℕ) (old new : List ℕ) (r : Result (Unit {0}) GatherFault) → map lent_view ps ≡ map piece_view qs → GathersBytes o.front.now ps start count old r new → GathersOn o qs start count old r new
gathers_on o ps qs start count old new (Ok u) is (stays, long) = ((λ image begins. stays o.size image (image_by o ps qs image is begins)), long)
gathers_on o ps qs start count old new (Err (gather_fault.Unread u)) is (stays, few, unread, before) =
    ((λ image begins. stays o.size image (image_by o ps qs image is begins)), few, unread.0, beside_by u.place ps qs is unread.1, before)
gathers_on o ps qs start count old new (Err gather_fault.OutOfMemory) is gathers = tt

-- what was read of a core stays there once more is read
pub begins_still : (o : CaseImage) (ps qs : List Part) (image : List ℕ) → HasMore o ps qs → BeginsWith o qs image → BeginsWith o ps image
begins_still o ps qs image more begins = (begins.0, more.fewer image begins.1)

pub same_pieces : (o : CaseImage) (ps : List Part) → HasMore o ps ps
same_pieces o ps = record { fewer = λ image are. are; some = λ image begins. (image, begins) }

pub more_then : (o : CaseImage) (ps qs rs : List Part) → HasMore o ps qs → HasMore o qs rs → HasMore o ps rs
more_then o ps qs rs first next = record {
  fewer = λ image are. first.fewer image (next.fewer image are);
  some = λ image begins. let other = first.some image begins in next.some other.0 other.1;
}

-- the bytes that are gathered are the first of what the image has there
pub front_begins : (image bytes : List ℕ) (size start count : ℕ) → length image ≡ size → start + count ≤ size → length bytes ≤ count → IsPartOf image start bytes → ids.BeginsWith bytes count (part image start count)
front_begins image bytes size start count long within few is =
    let l1 = length-take count (drop start image) in
    let l2 = length-drop start image in
    (omega (arith, l1, l2, long, within), is ∙ sym (take-take (length bytes) count (drop start image) few))

-- no memory after the image was seen
pub sees_kept : {D A : Type 0} (g : disk.Ghosts D) (before now : Parts D) (o : CaseImage) (ps : List Part) (P : A → Type 0) (r : Result A WalkFault) → SeesPieces g before o ps now → MatchResult r P (λ f. f ≡ OutOfMemory) → SeesMore g before o ps r now
sees_kept g before now o ps P (Ok x) sees told = sees
sees_kept {A = A} g before now o ps P (Err f) sees told = subst (λ e. SeesMore {A = A} g before o ps (Err e) now) (sym told) (sees.0, sees.1, sees.2.0)

-- the build ID is found of what is gathered
pub id_found : (o : CaseImage) (ps qs : List Part) (p : FrontPlace) (bytes : List ℕ) (id : Option (Bor (List ℕ))) (r : Result FrontId WalkFault) → HasMore o ps qs → ((image : List ℕ) → BeginsWith o qs image → IsPartOf image p.start bytes) → length bytes ≤ p.count → p.start + p.count ≤ o.size
    → ids.GivesId bytes p.count (Ok id) → MatchResult r (λ f. id_view f ≡ (p.path.now, option_map (λ (x : Bor (List ℕ)). x.now) id)) (λ f. f ≡ OutOfMemory) → ReadsId o ps p r qs
id_found o ps qs p bytes id (Ok f) earlier gathered few within states told =
    (earlier, λ image begins. told ∙ ap (λ (x : Option (List ℕ)). (p.path.now, x)) (states (part image p.start p.count) (front_begins image bytes o.size p.start p.count begins.0.0 within few (gathered image begins))))
id_found o ps qs p bytes id (Err f) earlier gathered few within states told = tt

-- a fault on the way
pub told_stop : {D : Type 0} (A : Type 0) (g : disk.Ghosts D) (before now : Parts D) (o : CaseImage) (ps : List Part) (f : WalkFault) → SeesMore {A = A} g before o ps (Err f) now → SeesTold g before o (Err f) now
told_stop A g before now o ps (Unread f) sees = sees
told_stop A g before now o ps OutOfMemory sees = sees

module _ (notes : NotesLaw) (o : CaseImage) (sound : IsSoundFront Core o.front.now) where
  -- the first bytes have the notes
  notes_same : (image : List ℕ) → IsFrontOf o.front.now o.size image → notes_of Core o.front.now ≡ notes_of Core image
  notes_same image front = enough_shows (notes_of Core) (λ b n whole fine. notes Core b n whole fine) o.front.now image (inr (front.1, sound))

  -- a core without NT_FILE
  pub missing_told : (ps : List Part) → IsFoundOf o.front.now o.size None → (image : List ℕ) → BeginsWith o ps image → told_of image ≡ None
  missing_told ps none image begins = sym (missing_ids o.front.now image o.size (notes_same image begins.0) none)

  -- what was found
  pub found_told : (ps : List Part) (m : MappedFiles) (ids : List FrontId) → IsFoundOf o.front.now o.size (Some m) → AreIdsAt o ps m ids → (image : List ℕ) → BeginsWith o ps image → told_of image ≡ Some (map id_view ids)
  found_told ps m ids found are image begins = sym (found_ids o.front.now image o.size m ids begins.0 (notes_same image begins.0) found (are image begins))
