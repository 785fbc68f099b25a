use Rattle.elf_view.specs.Header.{segments_of}
use Rattle.address_space.specs.SpaceWords.{core_of, space_of}
use Rattle.address_space.specs.Whole.{space_in}
use Rattle.seen_memory.proofs.Bytes.{all_within, front_by, no_piece, piece_shows, within_by}
use Rattle.seen_memory.proofs.memory.SeenMemory.stretch_at.Goals as goal

pub returns-in-Some-clause-content : goal.returns-in-Some-clause-content
returns-in-Some-clause-content c b front =
    let m = c.args.self.now in
    let e = c.stretches-stretches.ensures in
    piece_shows b (space_in b (space_of m.space.now)) c.args.address c.in-Some.stretch _ _ (e.pieces b) (c.in-Some.ensures.steps.pieces b (front_by _ _ _ _ _ b m.own e.front e.size front))

pub returns-in-Some-clause-within : goal.returns-in-Some-clause-within
returns-in-Some-clause-within c b front =
    let m = c.args.self.now in
    let e = c.stretches-stretches.ensures in
    within_by b (space_in b (space_of m.space.now)) m.size c.args.address c.in-Some.stretch _ _ (e.pieces b) (c.in-Some.ensures.steps.pieces b (front_by _ _ _ _ _ b m.own e.front e.size front))
    (c.in-Some.ensures.steps.held 0 m.size (e.within 0 m.size (all_within m.size c.args.address 1 (segments_of (core_of m.space.now)))))

pub returns-in-None-clause-content : goal.returns-in-None-clause-content
returns-in-None-clause-content c b front =
    let m = c.args.self.now in
    let e = c.stretches-stretches.ensures in
    absurd (no_piece (space_in b (space_of m.space.now)) c.args.address _ (e.pieces b) (c.in-None.ensures.steps.pieces b (front_by _ _ _ _ _ b m.own e.front e.size front)).0)
