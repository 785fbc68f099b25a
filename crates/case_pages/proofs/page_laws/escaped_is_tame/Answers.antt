use Rattle.std.proofs.Common.{◌<◌}
use Rattle.std.proofs.lemmas.List.Elements.{recursion_from_All}
use Rattle.case_pages.proofs.EscapeLemmas.{tame_escape}
use Rattle.case_pages.proofs.page_laws.escaped_is_tame.Goals as goal

pub returns : goal.returns
returns c = λ text bytes. tame_escape text (recursion_from_All (λ c. c < 256) text bytes)
