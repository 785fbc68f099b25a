-- A page as callers see it.
use Rattle.std.specs.Prelude.{◌≡◌, false, List, ◌++◌}
use Rattle.case_pages.specs.Html.{Token, in_text, read}
use Rattle.case_pages.specs.declared.page.Page.{Page}

-- the tokens that are read of a page so far
abbrev pub tokens_of : Page → List Token
tokens_of page = (read in_text page.text.items).1

-- Unless there was no memory, the tokens that were read of the page before are followed by these.
abbrev pub Writes : Page → Page → List Token → Type 0
Writes page page' tokens = page'.failed ≡ false → (page.failed ≡ false) × (tokens_of page' ≡ tokens_of page ++ tokens)
