use Rattle.std.proofs.Common.{sym, subst}
use Rattle.address_space.specs.SpaceWords.{space_of}
use Rattle.core_crashes.specs.CaseReading.{ArePieces, IsSeenIn}
use Rattle.core_crashes.proofs.CaseReadingLemmas.{has_then, is_piece, pieces_more, read_none, read_then}
use Rattle.core_crashes.proofs.words.word_by.Goals as goal

pub read_piece-requires : goal.read_piece-requires
read_piece-requires g c = c.loop-round.invariant.has

pub loop-round-init : goal.loop-round-init
loop-round-init g c = record {
  has = c.requires.has;
  reads = λ start reads. reads;
  pieces = λ start reads has. has;
}

pub loop-round-preserved : goal.loop-round-preserved
loop-round-preserved g c =
    let mid = c.loop-round.archive in
    let new = c.read_piece.new.archive in
    let so_far = c.loop-round.invariant in
    let p = c.in_ok-piece-in-Err.piece in
    let call = c.in_ok-piece-in-Err.ensures in record {
      has = has_then g.D.Disk mid new c.args.seq c.args.size so_far.has (read_then g.D.Disk mid mid new c.args.seq p (read_none g.D.Disk g.met.D.Disk.only_now mid) call);
      reads = λ start reads. read_then g.D.Disk start mid new c.args.seq p (so_far.reads start reads) call;
      pieces = λ start reads has image is.
          subst (ArePieces image) (sym c.in_ok-push_piece-in-Err.ensures)
          (pieces_more image c.loop-round.pieces.items p (so_far.pieces start reads has image is)
          (is_piece g.D.Disk start mid new c.args.seq c.args.size c.args.front.now image p (so_far.reads start reads) call is));
    }

pub returns-in-Ok : goal.returns-in-Ok
returns-in-Ok g c =
    let so_far = c.loop-round.invariant in
    let seen = subst (IsSeenIn c.args.front.now c.args.size (space_of c.args.space.now) c.deref.result.now c.args.address) c.in-Ok.is c.in_ok-seen.ensures in record {
      told = λ start reads has image is. seen image is.2 (subst (ArePieces image) (sym c.deref.ensures.value) (so_far.pieces start reads has image is));
      reads = λ start reads. so_far.reads start reads;
      pieces = λ start reads has. so_far.pieces start reads has;
      has = so_far.has;
    }
