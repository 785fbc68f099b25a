use Rattle.std.proofs.Common.{◌≡◌, ap, ◌∙◌, rules}
use Rattle.std.proofs.lemmas.Str.{IsUtf8-string_bytes}
use Rattle.std.specs.String.{string_bytes}
use Rattle.serde_json.specs.Read.{read}
use Rattle.serde_json.specs.View.{view}
use Rattle.case_tables.proofs.EscapeLemmas.{reads_printed}
use Rattle.case_tables.specs.Hidden.{printed_json}
use Rattle.case_tables.proofs.hidden.json_text.Goals as goal

pub returns : goal.returns
returns c =
    let text = string_bytes c.in_ok-written.written in
    let escaped : string_bytes c.push_json.new.text ≡ printed_json text = search rules in
    record {
      text = text;
      escaped = escaped;
      exact = c.in_ok-written.ensures.text;
      reads = λ deep. ap read escaped ∙ reads_printed text (view c.args.value.now) (IsUtf8-string_bytes c.in_ok-written.written) (c.in_ok-written.ensures.reads_back deep);
    }
