use Rattle.case_pages.proofs.EscapeLemmas.{escape_read}
use Rattle.case_pages.proofs.page_laws.unescaped_is_shown.Goals as goal

pub returns : goal.returns
returns c = escape_read
