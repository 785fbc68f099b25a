use Rattle.std.proofs.Common.{map, ap, ◌∙◌}
use Rattle.case_queries.specs.PieceWords.{lent_view}
use Rattle.case_queries.proofs.BuildLemmas.{gathers_on}
use Rattle.case_queries.proofs.builds.gather_on.Goals as goal

pub returns : goal.returns
returns c =
    gathers_on c.args.image c.deref.result.now c.args.pieces.now c.args.start c.args.count c.args.bytes.now.items c.gather.new.bytes.items c.gather.result
    (ap (map lent_view) c.deref.ensures.value ∙ c.in_ok-parts.ensures) c.gather.ensures
