use Rattle.std.proofs.Common.{leb, ◌∙◌, rules}
use Rattle.std.proofs.lemmas.List.Sorted.{IsPartitionPoint-from_clause, IsPartitionedBy-leb}
use Rattle.call_frames.proofs.Search.{kept_front}
use Rattle.call_frames.proofs.spans.earliest.Goals as goal

pub returns : goal.returns
returns c =
    let ss = c.args.spans.now in
    let v = c.args.address in
    let parted = IsPartitionedBy-leb (λ s. s.begin) ss v c.requires.ordered in
    let point = IsPartitionPoint-from_clause (λ s. leb s.begin v) _ _ c.partition_point-count.ensures.partitioned parted (λ a r q k. search rules) in
    c.earliest_among.ensures ∙ kept_front v ss c.partition_point-count.result point.1 c.partition_point-count.ensures.bound
