use Rattle.std.proofs.Common.{Some, sym, ap, ◌∙◌}
use Rattle.symbols.proofs.NameEnds.{name_fails, name_passes, no_names}
use Rattle.symbols.proofs.tables.check_names.Goals as goal

pub returns-then-not-is_ended : goal.returns-then-not-is_ended
returns-then-not-is_ended c =
    ap (λ f. Some f) c.fault.ensures ∙ sym (c.loop-function.invariant ∙ name_fails _ _ _ c.in-Some.function c.in-Some.ensures.steps c.if-not-is_ended.ensures)

pub loop-function-preserved : goal.loop-function-preserved
loop-function-preserved c =
    c.loop-function.invariant ∙ name_passes _ _ _ c.in-Some.function c.in-Some.ensures.steps c.if-not-is_ended.ensures

pub returns : goal.returns
returns c = sym (c.loop-function.invariant ∙ no_names _ _ c.in_default.ensures.steps.0)
