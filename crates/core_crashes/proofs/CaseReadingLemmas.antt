-- Pieces of an image of a case, and an archive that is only read.
use Rattle.std.proofs.Common.{◌≡◌, ◌+◌, ◌*◌, ℕ, zero, suc, arith, List, [], ◌∷◌, ◌++◌, map, length, Result, Ok, Err, Option, refl, ap, sym, subst, ◌∙◌, IsTrue}
use Rattle.std.proofs.lemmas.Option.{same_Some}
use Rattle.disk_model.specs.Places.{part as disk_part}
use Rattle.disk_model.specs.PartLaws.{part_is}
use Rattle.disk_model.specs.declared.disk.Disk as disk
use Rattle.intake.specs.Contents.{Contents, image_at}
use Rattle.intake.specs.Parts.{Parts, state_of, contents_of}
use Rattle.intake.specs.QuietLaws.{quiet_none, quiet_then}
use Rattle.intake.specs.State.{ArchiveState}
use Rattle.intake.specs.StayLaws.{stays_none, stays_then}
use Rattle.seen_memory.specs.Parts.{HasParts, IsPartOf}
use Rattle.seen_memory.specs.Seen.{ForEach}
use Rattle.seen_memory.specs.declared.memory.SeenMemory.{SeenMemory}
use Rattle.seen_memory.specs.declared.memory.Unread.{Unread}
use Rattle.seen_memory.specs.declared.part.Part.{Part}
use Rattle.address_space.specs.Source.{Space, word_at}
use Rattle.address_space.specs.SpaceWords.{space_of}
use Rattle.core_crashes.specs.CaseReading.{ArePieces, AreWords, HasLength, IsImageOf, IsOnlyRead, IsSeenIn, ReadsPiece, lent_view, piece_view}
use Rattle.core_crashes.specs.declared.pieces.Piece.{Piece}

-- one more piece
pub pieces_more : (b : List ℕ) (ps : List Piece) (p : Piece) → ArePieces b ps → IsPartOf b p.at p.bytes.items → ArePieces b (ps ++ p ∷ [])
pieces_more b [] p are is = (is, tt)
pieces_more b (q ∷ ps) p are is = (are.0, pieces_more b ps p are.1 is)

-- the image has lent pieces as it has the pieces
pub has_lent : (b : List ℕ) (qs : List Part) (ps : List Piece) → map lent_view qs ≡ map piece_view ps → ArePieces b ps → HasParts b qs
has_lent b [] ps same are = tt
has_lent b (q ∷ qs) [] same are = cc
has_lent b (q ∷ qs) (p ∷ ps) same are =
    let first : lent_view q ≡ piece_view p = cc in
    let rest : map lent_view qs ≡ map piece_view ps = cc in
    (subst (λ (v : ℕ × List ℕ). IsPartOf b v.0 v.1) (sym first) are.0, has_lent b qs ps rest are.1)

-- what is told of the memory is told of each image that has the pieces
pub seen_in : (m : SeenMemory) (ps : List Piece) (address : ℕ) (r : Result (Option ℕ) Unread) → map lent_view m.parts.now ≡ map piece_view ps → ForEach m (λ space. word_at space address 8) r → IsSeenIn m.front.now m.size (space_of m.space.now) ps address r
seen_in m ps address (Ok x) same each = λ image begins are. each image (record { begins = begins; has = has_lent image m.parts.now ps same are })
seen_in m ps address (Err u) same each = tt

module _ {D : Type 0} (g : disk.Ghosts D) where
  pub read_none : ((d : D) (c : List ℕ) → g.left_since d (g.clock d) c → g.may_leave d c) → (a : Parts D) → IsOnlyRead g a a
  read_none only a = record {
    state = refl;
    contents = λ honest. refl;
    quiet = quiet_none g a.disk (only a.disk);
    stays = stays_none g a;
  }

  -- a piece more is read
  pub read_then : (old mid new : Parts D) (seq : ℕ) (p : Piece) → IsOnlyRead g old mid → ReadsPiece g mid seq p new → IsOnlyRead g old new
  read_then old mid new seq p reads call = record {
    state = call.step.2 ∙ reads.state;
    contents = λ honest. (call.bytes (subst IsTrue (sym reads.quiet.honesty) honest)).4 ∙ reads.contents honest;
    quiet = quiet_then g old.disk mid.disk new.disk reads.quiet call.quiet;
    stays = stays_then g old mid new reads.stays call.stays;
  }

  -- it is one of the case's image
  pub is_piece : (old mid new : Parts D) (seq size : ℕ) (front image : List ℕ) (p : Piece) → IsOnlyRead g old mid → ReadsPiece g mid seq p new → IsImageOf g old seq size front image → IsPartOf image p.at p.bytes.items
  is_piece old mid new seq size front image p reads call is =
      let q = call.bytes (subst IsTrue (sym reads.quiet.honesty) is.0) in
      let moved : image_at seq (state_of mid).cases (contents_of g.seen mid).images ≡ image_at seq (state_of old).cases (contents_of g.seen old).images =
      ap (λ (s : ArchiveState). image_at seq s.cases (contents_of g.seen mid).images) reads.state
      ∙ ap (λ (x : Contents). image_at seq (state_of old).cases x.images) (reads.contents is.0) in
      let same : q.0 ≡ image = same_Some q.0 image (sym q.1 ∙ moved ∙ is.1) in
      q.2 ∙ ap (λ x. disk_part x p.at (length p.bytes.items)) same ∙ part_is image p.at (length p.bytes.items)

  -- and the case has its image still
  pub has_then : (old new : Parts D) (seq size : ℕ) → HasLength (state_of old) seq size → IsOnlyRead g old new → HasLength (state_of new) seq size
  has_then old new seq size has reads = subst (λ (s : ArchiveState). HasLength s seq size) (sym reads.state) has

-- one more word
pub words_more : (space : Space) (a : ℕ) (ws : List (Option ℕ)) (w : Option ℕ) → AreWords space a ws → w ≡ word_at space (a + 8 * length ws) 8 → AreWords space a (ws ++ w ∷ [])
words_more space a [] w are is =
    let here : a + 8 * 0 ≡ a = omega arith in
    (subst (λ (at : ℕ). w ≡ word_at space at 8) here is, tt)
words_more space a (v ∷ ws) w are is =
    let here : a + 8 * suc (length ws) ≡ a + 8 + 8 * length ws = omega arith in
    (are.0, words_more space (a + 8) ws w are.1 (subst (λ (at : ℕ). w ≡ word_at space at 8) here is))
