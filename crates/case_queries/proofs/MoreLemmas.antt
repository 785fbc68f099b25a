-- What is seen of an image once one more piece is read.
use Rattle.std.proofs.Common.{◌≡◌, ◌⊎◌, ◌≤◌, ◌<◌, ℕ, ◌+◌, ◌-◌, List, [], ◌∷◌, ◌++◌, map, length, Result, Ok, Err, sym, subst, arith}
use Rattle.disk_model.specs.declared.disk.Disk as disk
use Rattle.address_space.specs.Source.{ExecutableView}
use Rattle.frame_replies.specs.Walking.{GoesOn}
use Rattle.frame_replies.specs.declared.process.UnwoundProcess.{UnwoundProcess}
use Rattle.frame_replies.specs.declared.walk.Walk as frames
use Rattle.frame_replies.specs.declared.walk.WalkFault as frame_faults
use Rattle.frame_replies.specs.declared.walk.WalkFault.TheVariants as frame_fault
use Rattle.intake.specs.Part.{PartCall}
use Rattle.intake.specs.Parts.{Parts, state_of}
use Rattle.intake.specs.State.{ArchiveState}
use Rattle.seen_memory.specs.Parts.{HasParts, IsBeside, IsPartOf}
use Rattle.seen_memory.specs.Seen.{IsImageBy}
use Rattle.seen_memory.specs.declared.part.Part as seen
use Rattle.unwind.specs.declared.faults.Stop.{Stop}
use Rattle.case_queries.specs.Fronts.{HasSize}
use Rattle.case_queries.specs.PieceWords.{lent_view}
use Rattle.case_queries.specs.Pieces.{AreApart, AreBeside, ArePieces, BeginsWith, FindsFrames, HasMore, ReadsPiece, SeesMore, SeesPieces, WalkedTo, piece_view}
use Rattle.case_queries.specs.declared.walk.CaseImage.{CaseImage}
use Rattle.case_queries.specs.declared.walk.WalkFault.{WalkFault}
use Rattle.case_queries.specs.declared.walk.WalkFault.TheVariants.{Unread, OutOfMemory}
use Rattle.case_queries.specs.declared.window.Part.{Part}
use Rattle.case_queries.proofs.FrontLemmas.{later_refused}
use Rattle.case_queries.proofs.PieceLemmas.{are_fewer, begins_more, sees_more}
use Rattle.case_queries.proofs.WindowLemmas.{seen_reads}

-- lent pieces
pub has_by : (b : List ℕ) (ps : List seen.Part) (qs : List Part) → map lent_view ps ≡ map piece_view qs → ArePieces b qs → HasParts b ps
has_by b [] qs is are = tt
has_by b (p ∷ ps) [] is are = cc
has_by b (p ∷ ps) (q ∷ qs) is are =
    let first : lent_view p ≡ piece_view q = cc in
    let rest : map lent_view ps ≡ map piece_view qs = cc in
    (subst (λ (v : ℕ × List ℕ). IsPartOf b v.0 v.1) (sym first) are.0, has_by b ps qs rest are.1)

pub beside_by : (place : ℕ) (ps : List seen.Part) (qs : List Part) → map lent_view ps ≡ map piece_view qs → IsBeside place ps → AreBeside place qs
beside_by place ps [] is beside = tt
beside_by place [] (q ∷ qs) is beside = cc
beside_by place (p ∷ ps) (q ∷ qs) is beside =
    let first : lent_view p ≡ piece_view q = cc in
    let rest : map lent_view ps ≡ map piece_view qs = cc in
    (subst (λ (v : ℕ × List ℕ). (place < v.0) ⊎ (v.0 + length v.1 ≤ place)) first beside.0, beside_by place ps qs rest beside.1)

pub image_by : (o : CaseImage) (ps : List seen.Part) (qs : List Part) (b : List ℕ) → map lent_view ps ≡ map piece_view qs → BeginsWith o qs b → IsImageBy o.front.now o.size ps b
image_by o ps qs b is has = record { begins = has.0; has = has_by b ps qs is has.1 }

pub walked_to : (o : CaseImage) (ps : List seen.Part) (qs : List Part) (r : Result Stop frame_faults.WalkFault) (w : frames.Walk) → map lent_view ps ≡ map piece_view qs → GoesOn o.front.now o.size ps r w → WalkedTo o qs r w
walked_to o ps qs (Ok stop) w is goes = goes
walked_to o ps qs (Err (frame_fault.Unread u)) w is goes = (goes.unread.0, beside_by u.place ps qs is goes.unread.1, λ b has. goes.within b (image_by o ps qs b is has))
walked_to o ps qs (Err frame_fault.OutOfMemory) w is goes = tt

module _ {D : Type 0} (g : disk.Ghosts D) (before mid new : Parts D) (o : CaseImage) (ps : List Part) (start past : ℕ) (has : HasSize (state_of mid) o.seq o.size) where
  has_before : SeesPieces g before o ps mid → HasSize (state_of before) o.seq o.size
  has_before sees = subst (λ (s : ArchiveState). HasSize s o.seq o.size) sees.1.state has

  -- a piece that was read
  module _ (p : Part) (read : ReadsPiece g mid o.seq start (past - start) (Ok p) new) (low : start ≤ past) (after : length o.front.now ≤ start) (within : past ≤ o.size) (apart : AreApart start past ps) where
    ends : p.at + length p.bytes.items ≡ past
    ends = let at = read.0 in let count = read.1.count in omega (arith, at, count, low)

    apart_from : AreApart p.at (p.at + length p.bytes.items) ps
    apart_from = subst (λ e. AreApart p.at e ps) (sym ends) (subst (λ s. AreApart s past ps) (sym read.0) apart)

    call : PartCall g mid o.seq p.at (length p.bytes.items) (Ok tt) p.bytes.items new
    call =
        subst (λ n. PartCall g mid o.seq p.at n (Ok tt) p.bytes.items new) (sym read.1.count)
        (subst (λ s. PartCall g mid o.seq s (past - start) (Ok tt) p.bytes.items new) (sym read.0) read.1)

    pub piece_seen : SeesPieces g before o ps mid → SeesPieces g before o (ps ++ p ∷ []) new
    piece_seen sees = sees_more g before mid new o ps p has sees (let at = read.0 in omega (arith, at, after)) (let end = ends in omega (arith, end, within)) apart_from call

    pub piece_more : HasMore o ps (ps ++ p ∷ [])
    piece_more = record {
      fewer = λ image are. are_fewer image ps p are;
      some = λ image begins. begins_more o ps p image begins (let at = read.0 in omega (arith, at, after)) (let end = ends in omega (arith, end, within)) apart_from;
    }

    pub piece_size : HasSize (state_of new) o.seq o.size
    piece_size = subst (λ (s : ArchiveState). HasSize s o.seq o.size) (sym read.1.step.2) has

    -- if there is no memory for it, the image is seen all the same
    pub piece_dropped : (others : List Part) → SeesPieces g before o ps mid → SeesMore {A = Unit {0}} g before o others (Err OutOfMemory) new
    piece_dropped others sees = let now = piece_seen sees in (now.0, now.1, now.2.0)

  -- one that was not
  pub piece_refused : (f : WalkFault) (others : List Part) → ReadsPiece g mid o.seq start (past - start) (Err f) new → SeesPieces g before o ps mid → SeesMore {A = Unit {0}} g before o others (Err f) new
  piece_refused (Unread f) others read sees =
      let has = has_before sees in
      later_refused g before mid new o.seq start (past - start) o.front.now read.0 f has.0 has.1 (seen_reads g before mid o.seq sees.0 o.front.now sees.1 sees.2.0.1) read.1
  piece_refused OutOfMemory others read sees = subst (λ (x : Parts D). SeesMore {A = Unit {0}} g before o others (Err OutOfMemory) x) (sym read) (sees.0, sees.1, sees.2.0)

-- the walk stops with it
pub stops_so : {D : Type 0} (g : disk.Ghosts D) (before now : Parts D) (o : CaseImage) (ps qs : List Part) (xs : List ExecutableView) (t : ℕ) (p : UnwoundProcess) (w : frames.Walk) (f : WalkFault) → SeesMore {A = Unit {0}} g before o ps (Err f) now → FindsFrames g before o qs xs t p (Err f) w now
stops_so g before now o ps qs xs t p w (Unread f) sees = sees
stops_so g before now o ps qs xs t p w OutOfMemory sees = sees
