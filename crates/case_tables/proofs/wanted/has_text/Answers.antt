use Rattle.std.proofs.Common.{ap, sym, ◌∙◌, is_some, option_map}
use Rattle.memchr.proofs.lemmas.ValueLemmas.{FindsNeedle-value}
use Rattle.case_tables.specs.Wanted.{has_text}
use Rattle.case_tables.proofs.wanted.has_text.Goals as goal

pub returns-in-Some : goal.returns-in-Some
returns-in-Some c =
    let found = FindsNeedle-value c.args.text.now c.in-Some.wanted.now c.find.result c.find.ensures in
    c.is_some.ensures ∙ ap is_some found ∙ sym (ap (λ w. has_text (option_map (λ t. t.now) w) c.args.text.now) c.in-Some.is)
