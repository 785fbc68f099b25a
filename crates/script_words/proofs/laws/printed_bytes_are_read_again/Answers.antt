use Rattle.script_words.proofs.LawLemmas.{printed_bytes}
use Rattle.script_words.proofs.laws.printed_bytes_are_read_again.Goals as goal

pub returns : goal.returns
returns c = printed_bytes
