use Rattle.std.proofs.Common.{inl, inr, ⊎_elim, ◌≡◌, ◌⊎◌, ◌∙◌, ap, sym, refl, subst, true, false, Bool, List, ℕ, None, Some}
use Rattle.archive_files.specs.OverDisks.{named_as}
use Rattle.core_handler.specs.Fronts.{named_by}
use Rattle.stream_names.specs.Template.{template_fault}
use Rattle.stream_names.specs.Commands.{stream_found}
use Rattle.inspector_cli.specs.Storing.{line_stream}
use Rattle.script_lines.specs.Said.{said}
use Rattle.std.proofs.lemmas.Result.{err_from_is_err_and}
use Rattle.command_line.specs.Requesting.{IsNamed, found_under, template_said}
use Rattle.command_line.proofs.LineLemmas.{named_refused}
use Rattle.command_line.proofs.store_words.request_of.Goals as goal

pub returns-in_err-name-clause-refused : goal.returns-in_err-name-clause-refused
returns-in_err-name-clause-refused c =
    let p = err_from_is_err_and c.from_residual-in_err-name.result c.from_residual-in_err-name.ensures.1 in
    rw (p.1, p.2) (named_refused c.args.given.now c.in_err-name.field-0.0 c.in_err-name.ensures.refused)

-- The words are in order, so it is the template that is refused.
pub returns-in_err-naming-clause-refused : goal.returns-in_err-naming-clause-refused
returns-in_err-naming-clause-refused c =
    let p = err_from_is_err_and c.from_residual-in_err-naming.result c.from_residual-in_err-naming.ensures.1 in
    rw (p.1, p.2) (inr (c.in_ok-words.words, c.in_ok-words.ensures.asked, c.in_err-naming.ensures.refused.0, ap template_fault (sym c.settings_of.ensures.template) ∙ c.in_err-naming.ensures.refused.1))

pub returns-in-Some-name-clause-asked : goal.returns-in-Some-name-clause-asked
returns-in-Some-name-clause-asked c =
    let words = c.in_ok-words.words in
    let line = c.in-Some-name.line.items in
    let naming =
    c.in_ok-naming.ensures.named
    ∙ ap (λ (t : List ℕ). named_by t c.settings_of.result.uses_pid) c.settings_of.ensures.template
    ∙ ap (λ (p : Bool). named_by (template_said c.args.given.now) p) c.settings_of.ensures.process in record {
      words = words;
      asked = c.in_ok-words.ensures.asked;
      policy = c.named.ensures.policy ∙ c.of-request.ensures.policy;
      name = Some line;
      named = rw c.in-Some-name.is at c.in_ok-name.ensures.named;
      alone = c.in_ok-name.ensures.alone;
      found = subst (λ n. stream_found c.named.result.found ≡ found_under n (Some line) (line_stream n (said words.begin.items))) naming
          (c.named.ensures.found
          ∙ ap (λ (l : List ℕ). named_as (stream_found c.of-request.result.found) (line_stream c.in_ok-naming.naming (said l))) c.deref.ensures.value
          ∙ ap (λ f. named_as f (line_stream c.in_ok-naming.naming (said line))) c.of-request.ensures.found);
      options = c.named.ensures.options ∙ c.of-request.ensures.options;
      limit = c.named.ensures.limit ∙ c.of-request.ensures.limit;
      template = ap template_fault (sym c.settings_of.ensures.template) ∙ c.in_ok-naming.ensures.sound;
    }

pub returns-in-None-clause-asked : goal.returns-in-None-clause-asked
returns-in-None-clause-asked c =
    let words = c.in_ok-words.words in
    let naming =
    c.in_ok-naming.ensures.named
    ∙ ap (λ (t : List ℕ). named_by t c.settings_of.result.uses_pid) c.settings_of.ensures.template
    ∙ ap (λ (p : Bool). named_by (template_said c.args.given.now) p) c.settings_of.ensures.process in record {
      words = words;
      asked = c.in_ok-words.ensures.asked;
      policy = c.of-request.ensures.policy;
      name = None;
      named = rw c.in-None.is at c.in_ok-name.ensures.named;
      alone = c.in_ok-name.ensures.alone;
      found = subst (λ n. stream_found c.of-request.result.found ≡ found_under n None (line_stream n (said words.begin.items))) naming c.of-request.ensures.found;
      options = c.of-request.ensures.options;
      limit = c.of-request.ensures.limit;
      template = ap template_fault (sym c.settings_of.ensures.template) ∙ c.in_ok-naming.ensures.sound;
    }
