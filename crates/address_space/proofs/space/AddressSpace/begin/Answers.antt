use Rattle.std.proofs.Common.{rules, ◌≡◌, ◌<◌, ◌+◌, ◌++◌, drop, ap, sym, ◌∙◌, arith, Some, None, ◌^◌}
use Rattle.std.specs.Prelude.{slice_get}
use Rattle.std.proofs.lemmas.Option.{slice_get_within}
use Rattle.elf_view.specs.Header.{segments_of}
use Rattle.elf_view.specs.ViewWords.{image_of}
use Rattle.elf_view.specs.SegmentWords.{segment_view}
use Rattle.address_space.specs.Occurrence.{ordered_from, decided_from}
use Rattle.address_space.specs.SpaceWords.{space_of}
use Rattle.address_space.proofs.Ordering.{drop_some, drop_none, span_fits}
use Rattle.address_space.proofs.space.AddressSpace.begin.Goals as goal

pub returns-in_err-segment-clause-same : goal.returns-in_err-segment-clause-same
unfolding space_of
returns-in_err-segment-clause-same c test =
    let segments = segments_of (image_of c.args.self.now.elf) in
    let none : None ≡ slice_get segments c.args.number = c.in_err-segment.ensures in
    rw c.from_residual.ensures (ap (ordered_from (space_of c.args.self.now) test c.args.number) (drop_none c.args.number segments (sym none)))

pub invariant_of-result-clause-fits : goal.invariant_of-result-clause-fits
invariant_of-result-clause-fits c =
    let segments = segments_of (image_of c.args.self.now.elf) in
    let s = segment_view c.in_ok-segment.segment in
    let some : Some s ≡ slice_get segments c.args.number = c.in_ok-segment.ensures in
    let all = c.accepted_segments_fit.ensures.loads c.args.self.now.elf.want (image_of c.args.self.now.elf) c.args.self.now.elf.sound in
    let low : s.vaddr < 2 ^ 64 = search rules in
    let fits = span_fits segments c.args.number s all (sym some) low in
    omega (arith, fits, c.span.ensures)

pub returns-clause-placed : goal.returns-clause-placed
unfolding space_of
returns-clause-placed c =
    let segments = segments_of (image_of c.args.self.now.elf) in
    let s = segment_view c.in_ok-segment.segment in
    let some : Some s ≡ slice_get segments c.args.number = c.in_ok-segment.ensures in
    record {
      number = slice_get_within segments c.args.number s (sym some);
      values = λ k h. absurd (omega arith);
      decided = λ k h. absurd (omega arith);
    }

pub returns-clause-same : goal.returns-clause-same
unfolding space_of
returns-clause-same c test =
    let segments = segments_of (image_of c.args.self.now.elf) in
    let space = space_of c.args.self.now in
    let s = segment_view c.in_ok-segment.segment in
    let some : Some s ≡ slice_get segments c.args.number = c.in_ok-segment.ensures in
    let front = drop_some c.args.number segments s (sym some) in
    ap (ordered_from space test c.args.number) front ∙ ap (λ n. decided_from space test c.args.number s.vaddr n ++ ordered_from space test (c.args.number + 1) (drop (c.args.number + 1) segments)) (sym c.span.ensures)
