use Rattle.script_words.proofs.LawLemmas.{printed_text}
use Rattle.script_words.proofs.laws.printed_texts_are_read_again.Goals as goal

pub returns : goal.returns
returns c = printed_text
