use Rattle.std.proofs.Common.{◌+◌, ◌-◌, Some, arith}
use Rattle.std.proofs.lemmas.Bool.{cond-true, le-leb}
use Rattle.elf_view.specs.SegmentWords.{segment_view}
use Rattle.address_space.specs.Source.{undumped, placed, entry_at}
use Rattle.address_space.specs.SpaceWords.{space_of}
use Rattle.address_space.specs.Whole.{filled}
use Rattle.address_space.proofs.Filled.{core_content}
use Rattle.address_space.proofs.Places.{extended}
use Rattle.address_space.proofs.space.AddressSpace.locate_within.Goals as goal

pub returns-then-place-segment-clause-stretch : goal.returns-then-place-segment-clause-stretch
returns-then-place-segment-clause-stretch c b i long =
    let space = space_of c.args.self.now in
    let at = c.args.at in
    let s = filled b (segment_view c.args.segment) in
    extended (λ e. placed space e (Some (i, s))) (λ e. undumped space e i (entry_at space.files e)) at c.args.limit c.args.limit c.locate_undumped.result.1
    (c.locate_undumped.ensures.stretch i)
    (λ k h. cond-true _ _ _ (le-leb s.filesz (at + k - s.vaddr) (omega arith)))
    (omega arith)
    (λ h. absurd (omega arith))

pub returns-then-place-segment-clause-count : goal.returns-then-place-segment-clause-count
returns-then-place-segment-clause-count c = let stretch = c.locate_undumped.ensures.stretch 0 in (stretch.some, stretch.within)

pub returns-then-place-segment-clause-from : goal.returns-then-place-segment-clause-from
returns-then-place-segment-clause-from c = c.locate_undumped.ensures.elsewhere c.args.size c.args.at (segment_view c.args.segment)

pub returns-clause-content : goal.returns-clause-content
returns-clause-content c b i long =
    let held = c.held-held.ensures in
    core_content b (space_of c.args.self.now) i (segment_view c.args.segment) c.args.at _ c.args.size long (omega (arith, c.if-place-segment.false)) (omega (arith, held, c.if-place-held.false)) (omega (arith, held, c.min-2.ensures))
