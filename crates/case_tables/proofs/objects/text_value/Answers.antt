use Rattle.std.proofs.lemmas.Str.{IsUtf8-from_is_utf8}
use Rattle.case_tables.proofs.objects.text_value.Goals as goal

pub returns-in_ok-printed-in-Err : goal.returns-in_ok-printed-in-Err
returns-in_ok-printed-in-Err c = absurd (c.in-Err.ensures.cases.0 (IsUtf8-from_is_utf8 c.args.text.now (c.requires c.if-escaped.false)))
