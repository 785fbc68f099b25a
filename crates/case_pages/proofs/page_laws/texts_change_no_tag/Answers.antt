use Rattle.std.proofs.Common.{sym, ◌∙◌}
use Rattle.case_pages.specs.Escaping.{plain}
use Rattle.case_pages.proofs.PageLemmas.{tags_between}
use Rattle.case_pages.proofs.page_laws.texts_change_no_tag.Goals as goal

pub returns : goal.returns
returns c = λ before after text other. tags_between before after (plain text) ∙ sym (tags_between before after (plain other))
