-- What a template of these bytes names.
use Rattle.std.proofs.Common.{◌≡◌, Bool, false, List, ℕ, Option, None, Some, [], Result, Ok, Err, codes, refl, sym, ap, ◌∙◌, subst}
use Rattle.std.specs.Option.{option_copied}
use Rattle.std.specs.declared.time.Duration.{Duration}
use Rattle.archive_files.specs.OverDisks.{reason_found}
use Rattle.archive_files.specs.declared.storing.StoreRequest.{StoreRequest}
use Rattle.core_handler.specs.declared.config.Config.{Config}
use Rattle.intake.specs.State.{StreamFacts}
use Rattle.stream_names.specs.Naming.{template_bytes}
use Rattle.stream_names.specs.Template.{template_fault}
use Rattle.stream_names.specs.declared.template.Template.{Template}
use Rattle.stream_names.specs.declared.template.TemplateFault.{TemplateFault}
use Rattle.inspector_cli.specs.Storing.{line_stream}
use Rattle.script_lines.specs.Said.{Said, said}
use Rattle.stream_names.specs.Commands.{stream_found}
use Rattle.core_handler.specs.Fronts.{front_unless, name_or_none, named_by}
use Rattle.core_handler.specs.Requesting.{AsksBy, naming_template, template_if_found, template_of}

-- a template is known by its bytes
pub named_by_is : (template : Template) (text : List ℕ) (uses_pid : Bool) (what : Said) → template_bytes template ≡ text
    → line_stream (record { template = template; uses_pid = uses_pid; by_build = false }) what ≡ line_stream (named_by text uses_pid) what
named_by_is template text uses_pid what e =
    let P : List ℕ → Type 0 = λ t. line_stream (record { template = template; uses_pid = uses_pid; by_build = false }) what ≡ line_stream (named_by t uses_pid) what in
    subst P e refl

-- the front that a template gives
pub front_found : (template : Template) (front : List ℕ) (what : Said) (found : Result StreamFacts (List ℕ)) → template_fault front ≡ None → template_bytes template ≡ front
    → found ≡ line_stream (record { template = template; uses_pid = false; by_build = false }) what → name_or_none found ≡ front_unless (template_fault front) front what
front_found template front what found none e f =
    ap name_or_none (f ∙ named_by_is template front false what e) ∙ ap (λ o. front_unless o front what) (sym none)

-- no template, no front
pub front_faulty : (front : List ℕ) (what : Said) (fault : TemplateFault) → template_fault front ≡ Some fault → front_unless (template_fault front) front what ≡ []
front_faulty front what fault e = ap (λ o. front_unless o front what) e

is_none_of : (reason : List ℕ) → Some reason ≡ None → ⊥
is_none_of reason e = cc

plain_if_refused : (found : Result StreamFacts (List ℕ)) (template reason : List ℕ) → Some reason ≡ reason_found found → template_if_found found template ≡ codes "core.%u.%p.%t"
plain_if_refused (Ok stream) template reason e = absurd (is_none_of reason e)
plain_if_refused (Err why) template reason e = refl

-- a core whose stream is refused is named by the plain template
pub plain_named : {E : Type 0} (gives : Result Duration E → Type 0) (config : Config) (begin : List ℕ) (length : Option ℕ) (template : List ℕ) (request : StoreRequest) (reason : List ℕ)
    → template ≡ template_of (option_copied config.template) → AsksBy gives config begin length template request → Some reason ≡ reason_found (stream_found request.found)
    → naming_template config (said begin) ≡ codes "core.%u.%p.%t"
plain_named gives config begin length template request reason taken asked e =
    let by : List ℕ → Result StreamFacts (List ℕ) = λ t. line_stream (named_by t config.uses_pid) (said begin) in
    let found : stream_found request.found ≡ by (template_of (option_copied config.template)) = asked.3.found ∙ ap by taken in
    plain_if_refused (by (template_of (option_copied config.template))) (template_of (option_copied config.template)) reason (e ∙ ap reason_found found)
