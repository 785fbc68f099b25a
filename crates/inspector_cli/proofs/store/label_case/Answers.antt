use Rattle.std.proofs.Common.{[], refl}
use Rattle.script_streams.specs.PrintLaws.{prints_nothing}
use Rattle.inspector_cli.proofs.store.label_case.Goals as goal

pub returns-in_default : goal.returns-in_default
returns-in_default g c = rw c.in_default.is ([], (refl, refl, refl), prints_nothing)

pub returns-in-Some-label : goal.returns-in-Some-label
returns-in-Some-label g c = rw (c.in-Some.is, c.in-Some-label.is) c.answer_label.ensures

pub returns-in-None : goal.returns-in-None
returns-in-None g c = rw (c.in-Some.is, c.in-None.is) ([], (refl, refl, refl), prints_nothing)
