use Rattle.std.proofs.Common.{◌≡◌, true, sym, ap, ◌∙◌, List, ℕ}
use Rattle.std.specs.List.{list_any}
use Rattle.std.specs.Str.{is_utf8}
use Rattle.case_tables.specs.Json.{is_text, is_zero}
use Rattle.case_tables.proofs.JsonLemmas.{both_texts, is_utf8_text}
use Rattle.case_tables.proofs.objects.case_value.Goals as goal

utf8 : (text : List ℕ) → is_text text ≡ true → is_utf8 text ≡ true
utf8 text is = is_utf8_text (is_utf8 text) (list_any is_zero text) is

pub text_value-requires : goal.text_value-requires
text_value-requires c = λ e. ap is_utf8 c.as_slice.ensures.value ∙ utf8 _ (both_texts (is_text c.args.case.now.name.items) (is_text c.args.case.now.label.items) (sym c.is_escaped-escaped.ensures ∙ e)).0

pub text_value-requires-2 : goal.text_value-requires-2
text_value-requires-2 c = λ e. ap is_utf8 c.as_slice-2.ensures.value ∙ utf8 _ (both_texts (is_text c.args.case.now.name.items) (is_text c.args.case.now.label.items) (sym c.is_escaped-escaped.ensures ∙ e)).1
