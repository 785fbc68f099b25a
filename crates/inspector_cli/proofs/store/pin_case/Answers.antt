use Rattle.std.proofs.Common.{[], refl}
use Rattle.script_streams.specs.PrintLaws.{prints_nothing}
use Rattle.inspector_cli.proofs.store.pin_case.Goals as goal

pub returns-in_default : goal.returns-in_default
returns-in_default g c = rw c.in_default.is ([], (refl, refl, refl), prints_nothing)

pub returns-then-not-pin : goal.returns-then-not-pin
returns-then-not-pin g c = rw (c.in-Some.is, c.if-not-pin.true) ([], (refl, refl, refl), prints_nothing)

pub returns : goal.returns
returns g c = rw (c.in-Some.is, c.if-not-pin.false) c.answer_pin.ensures
