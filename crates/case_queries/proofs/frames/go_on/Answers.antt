use Rattle.std.proofs.Common.{map, ap, ◌∙◌}
use Rattle.case_queries.specs.PieceWords.{lent_view}
use Rattle.case_queries.proofs.MoreLemmas.{image_by, walked_to}
use Rattle.case_queries.proofs.frames.go_on.Goals as goal

pub returns-clause-walks : goal.returns-clause-walks
returns-clause-walks c b has =
    c.go_on.ensures.walks b (image_by c.args.image c.deref.result.now c.args.pieces.now b (ap (map lent_view) c.deref.ensures.value ∙ c.in_ok-parts.ensures) has)

pub returns-clause-told : goal.returns-clause-told
returns-clause-told c =
    walked_to c.args.image c.deref.result.now c.args.pieces.now c.go_on.result c.go_on.new.self (ap (map lent_view) c.deref.ensures.value ∙ c.in_ok-parts.ensures) c.go_on.ensures.told
