use Rattle.std.proofs.Common.{sym, ◌∙◌, ap}
use Rattle.elf_view.specs.SegmentWords.{segment_view, segments_left}
use Rattle.elf_view.specs.Sound.{segment_checks, first_fault_among}
use Rattle.elf_view.proofs.FirstFault.{item_passes, item_fails, no_items}
use Rattle.elf_view.proofs.checks.check_segments.Goals as goal

pub returns-in-Err : goal.returns-in-Err
returns-in-Err c =
    sym (c.loop-segment.invariant ∙ item_fails (segment_checks c.args.want c.args.image.now) _ _ _ (segment_view c.in-Some.segment) _ c.in-Some.ensures.steps c.in-Err.ensures)

pub loop-segment-preserved : goal.loop-segment-preserved
loop-segment-preserved c =
    let checks = segment_checks c.args.want c.args.image.now in
    c.loop-segment.invariant ∙ item_passes checks _ _ _ (segment_view c.in-Some.segment) c.in-Some.ensures.steps c.in-Ok.ensures ∙ ap (λ i. first_fault_among checks i (segments_left c.next.new.self)) (sym c.saturating_add-index.ensures)

pub returns : goal.returns
returns c = sym (c.loop-segment.invariant ∙ no_items (segment_checks c.args.want c.args.image.now) _ _ c.in_default.ensures.steps.0)
