use Rattle.std.proofs.Common.{inr, refl, ◌∙◌, ap, sym}
use Rattle.std.proofs.lemmas.Result.{err_from_is_err_and}
use Rattle.stream_names.specs.Template.{template_fault}
use Rattle.command_line.proofs.LineLemmas.{plain_template}
use Rattle.command_line.proofs.store_words.build_of.Goals as goal

-- The words are in order, so it is the template that is refused.
pub returns-in_err-naming-clause-refused : goal.returns-in_err-naming-clause-refused
returns-in_err-naming-clause-refused c =
    let p = err_from_is_err_and c.from_residual-in_err-naming.result c.from_residual-in_err-naming.ensures.1 in
    rw (p.1, p.2) (inr (inr (
      c.in_ok-policy.field-0,
      c.in_ok-policy.ensures.asked,
      c.in_err-naming.ensures.refused.0,
      ap template_fault (plain_template c.args.given.now (sym c.is_said_twice.ensures ∙ c.if-is_said_twice.false)) ∙ c.in_err-naming.ensures.refused.1,
    )))

pub returns-clause-asked : goal.returns-clause-asked
returns-clause-asked c = record {
  words = c.in_ok-policy.field-0;
  asked = c.in_ok-policy.ensures.asked;
  policy = refl;
  options = refl;
  naming = c.in_ok-naming.ensures.named;
  limit = refl;
  id = c.in_ok-id.ensures.said;
  is_debug = refl;
  alone = sym c.is_said_twice.ensures ∙ c.if-is_said_twice.false;
}
