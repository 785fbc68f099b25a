use Rattle.intake.specs.Parts.{state_of}
use Rattle.inspector_cli.proofs.GoingLemmas.{none_frees}
use Rattle.inspector_cli.proofs.fitting.may_free.Goals as goal

pub returns-in-Ok : goal.returns-in-Ok
returns-in-Ok g c = λ none.
    none_frees (λ (e : _). e.now) c.in-Ok.cases.now (state_of c.args.archive.now).cases c.first_freeing.result c.is_some.result none c.is_some.ensures c.first_freeing.ensures c.in-Ok.ensures.1
