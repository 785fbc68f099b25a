use Rattle.std.proofs.Common.{◌≡◌, inr, Option, None, Some, false, refl, sym, ◌∙◌}
use Rattle.std.proofs.lemmas.Bool.{true≢false}
use Rattle.std.specs.Option.{is_some}
use Rattle.salvage.proofs.cases_found.Found.is_whole.Goals as goal

none_is : {A : Type 0} (o : Option A) → is_some o ≡ false → o ≡ None
none_is None is = refl
none_is (Some x) is = absurd (true≢false is)

pub returns-clause-whole : goal.returns-clause-whole
returns-clause-whole c = λ yes. (
  c.is_held.ensures.held c.if-not-is_held.false,
  inr (
    c.has_case.ensures.0 c.if-not-has_case.false,
    c.is_below.ensures c.if-not-is_below.false,
    λ indexed. c.deleting.ensures.none indexed (none_is c.deleting.result (sym c.is_some.ensures ∙ c.if-is_some.false)),
    c.is_contested.ensures c.if-is_contested.false,
  ),
)
