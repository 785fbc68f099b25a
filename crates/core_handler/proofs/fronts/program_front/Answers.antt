use Rattle.std.proofs.Common.{◌≡◌, List, ℕ, Ok, Err, ap, ◌∙◌}
use Rattle.stream_names.specs.Template.{template_fault}
use Rattle.script_lines.specs.Said.{Said, said}
use Rattle.stream_names.specs.Commands.{stream_begun}
use Rattle.core_handler.specs.Fronts.{front_unless, shared_front}
use Rattle.core_handler.proofs.NamingLemmas.{front_found}
use Rattle.core_handler.proofs.fronts.program_front.Goals as goal

of_front : (front whole : List ℕ) (what : Said) → front ≡ whole → front_unless (template_fault front) front what ≡ front_unless (template_fault whole) whole what
of_front front whole what e = ap (λ f. front_unless (template_fault f) f what) e

pub returns-in-Ok-line_stream : goal.returns-in-Ok-line_stream
returns-in-Ok-line_stream c =
    let front : c.program_part.result.now ≡ shared_front c.args.template.now = c.program_part.ensures ∙ ap shared_front c.as_bytes.ensures.value in
    front_found c.in-Ok.template c.program_part.result.now (said c.args.begin.now) (Ok (stream_begun c.in-Ok-line_stream.stream)) c.in-Ok.ensures.0 c.in-Ok.ensures.1 c.in-Ok-line_stream.ensures
    ∙ of_front c.program_part.result.now (shared_front c.args.template.now) (said c.args.begin.now) front

pub returns-in-Err : goal.returns-in-Err
returns-in-Err c =
    let front : c.program_part.result.now ≡ shared_front c.args.template.now = c.program_part.ensures ∙ ap shared_front c.as_bytes.ensures.value in
    c.new-in-Err.ensures
    ∙ front_found c.in-Ok.template c.program_part.result.now (said c.args.begin.now) (Err c.in-Err.field-0.now) c.in-Ok.ensures.0 c.in-Ok.ensures.1 c.in-Err.ensures
    ∙ of_front c.program_part.result.now (shared_front c.args.template.now) (said c.args.begin.now) front
