use Rattle.std.proofs.Common.{◌≡◌, List, ℕ, MatchResult, Ok, Err, subst}
use Rattle.stream_names.specs.Expansion.{name_of}
use Rattle.stream_names.specs.Naming.{template_bytes}
use Rattle.script_lines.specs.Commands.{process_of}
use Rattle.stream_names.proofs.NameLemmas.{expands_as}
use Rattle.stream_names.proofs.streams.core_name.Goals as goal

pub returns : goal.returns
returns c =
    subst (λ (text : List ℕ). MatchResult c.expand.result (λ name. name_of text ≡ Ok name.items) (λ fault. name_of text ≡ Err fault))
    (expands_as (template_bytes c.args.naming.now.template) c.args.naming.now.uses_pid c.as_slice.result c.as_slice-2.result c.as_slice-3.result (process_of c.args.process.now)
    c.as_slice.ensures.value c.as_slice-2.ensures.value c.as_slice-3.ensures.value)
    c.expand.ensures
