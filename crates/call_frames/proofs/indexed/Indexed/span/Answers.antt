use Rattle.std.proofs.Common.{map, ap, ◌∙◌}
use Rattle.call_frames.specs.Covering as spec
use Rattle.call_frames.specs.FindingWords.{table_in}
use Rattle.call_frames.specs.Walk.{entries_of}
use Rattle.call_frames.proofs.Earliest.{earliest_permuted}
use Rattle.call_frames.proofs.Order.{all_rising}
use Rattle.call_frames.proofs.indexed.Indexed.span.Goals as goal

pub returns : goal.returns
returns c =
    let s = c.args.self.now in
    c.earliest.ensures ∙ ap (spec.earliest c.args.address) c.deref.ensures.value ∙ earliest_permuted c.args.address (map spec.span_of (entries_of (table_in s))) s.spans.items (all_rising (table_in s)) s.whole
