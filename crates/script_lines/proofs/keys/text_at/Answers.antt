use Rattle.std.proofs.Common.{sym, subst}
use Rattle.script_words.specs.WordsLeft.{words_left}
use Rattle.script_lines.proofs.KeyLemmas.{IsShortValue, value_short}
use Rattle.script_lines.proofs.keys.text_at.Goals as goal

pub decode_text-requires : goal.decode_text-requires
decode_text-requires c = subst IsShortValue (sym c.in-Some.ensures) (value_short c.args.key.now (words_left c.args.words) c.requires)
