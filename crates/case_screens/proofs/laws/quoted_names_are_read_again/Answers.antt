use Rattle.script_words.specs.Printing.{shown}
use Rattle.case_screens.proofs.QuoteLemmas.{no_quote, read_between}
use Rattle.case_screens.proofs.laws.quoted_names_are_read_again.Goals as goal

pub returns-clause-whole : goal.returns-clause-whole
returns-clause-whole c = no_quote

pub returns-clause-read : goal.returns-clause-read
returns-clause-read c = λ name bytes some. read_between (shown name) name (c.printed_texts_are_read_again.ensures name bytes some)
