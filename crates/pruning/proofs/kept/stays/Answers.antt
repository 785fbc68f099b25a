use Rattle.std.proofs.Common.{◌&&◌, not, ap, sym, ◌∙◌}
use Rattle.pruning.specs.Cases.{is_among, number}
use Rattle.pruning.proofs.NumberLemmas.{not_found}
use Rattle.pruning.proofs.kept.stays.Goals as goal

pub returns-then-is_core : goal.returns-then-is_core
returns-then-is_core c =
    c.is_err.ensures.value ∙ not_found c.args.gone.now (number c.args.case.now) c.binary_search.result c.requires c.binary_search.ensures.position
    ∙ ap (λ t. t && not (is_among c.args.gone.now (number c.args.case.now))) (sym c.if-is_core.true ∙ c.is_core.ensures)
