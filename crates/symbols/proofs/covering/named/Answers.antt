use Rattle.std.proofs.Common.{leb, ◌∙◌, rules}
use Rattle.std.proofs.lemmas.List.Sorted.{IsPartitionPoint-from_clause, IsPartitionedBy-leb}
use Rattle.symbols.proofs.Best.{kept_front}
use Rattle.symbols.proofs.covering.named.Goals as goal

pub returns : goal.returns
returns c =
    let fs = c.args.functions.now in
    let v = c.args.address in
    let parted = IsPartitionedBy-leb (λ f. f.value) fs v c.requires.ordered in
    let point = IsPartitionPoint-from_clause (λ f. leb f.value v) _ _ c.partition_point-count.ensures.partitioned parted (λ a r q k. search rules) in
    c.named_among.ensures ∙ kept_front v fs c.partition_point-count.result point.1 c.partition_point-count.ensures.bound
