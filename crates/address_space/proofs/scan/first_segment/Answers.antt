use Rattle.std.proofs.Common.{◌+◌, sym, ◌∙◌, arith}
use Rattle.elf_view.specs.Header.{SegmentView}
use Rattle.elf_view.specs.SegmentWords.{segment_view, segments_left}
use Rattle.address_space.specs.Source.{span}
use Rattle.address_space.proofs.Scanning.{found_next, ended_next}
use Rattle.address_space.proofs.scan.first_segment.Goals as goal

pub returns-then-is_within-clause-alike : goal.returns-then-is_within-clause-alike
returns-then-is_within-clause-alike c =
    (found_next (λ (s : SegmentView). s.vaddr) (λ (s : SegmentView). s.vaddr + span s) (segments_left c.args.segments) c.args.at c.args.limit c.loop-segment.number (segment_view c.in-Some.segment) (segments_left c.next.new.self) (segments_left c.loop-segment.segments) c.loop-segment.length c.loop-segment.invariant.scan c.in-Some.ensures.steps c.span-size.result (omega arith) (omega arith) (sym c.is_within.ensures ∙ c.if-is_within.true) c.min.result c.min.ensures).1

pub returns-then-is_within-clause-first : goal.returns-then-is_within-clause-first
returns-then-is_within-clause-first c =
    sym (found_next (λ (s : SegmentView). s.vaddr) (λ (s : SegmentView). s.vaddr + span s) (segments_left c.args.segments) c.args.at c.args.limit c.loop-segment.number (segment_view c.in-Some.segment) (segments_left c.next.new.self) (segments_left c.loop-segment.segments) c.loop-segment.length c.loop-segment.invariant.scan c.in-Some.ensures.steps c.span-size.result (omega arith) (omega arith) (sym c.is_within.ensures ∙ c.if-is_within.true) c.min.result c.min.ensures).0

pub returns-clause-alike : goal.returns-clause-alike
returns-clause-alike c =
    (ended_next (λ (s : SegmentView). s.vaddr) (λ (s : SegmentView). s.vaddr + span s) (segments_left c.args.segments) c.args.at c.args.limit c.loop-segment.number (segments_left c.loop-segment.segments) c.loop-segment.length c.loop-segment.invariant.scan c.in_default.ensures.steps.0).1

pub returns-clause-first : goal.returns-clause-first
returns-clause-first c =
    sym (ended_next (λ (s : SegmentView). s.vaddr) (λ (s : SegmentView). s.vaddr + span s) (segments_left c.args.segments) c.args.at c.args.limit c.loop-segment.number (segments_left c.loop-segment.segments) c.loop-segment.length c.loop-segment.invariant.scan c.in_default.ensures.steps.0).0
