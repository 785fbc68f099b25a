use Rattle.script_lines.proofs.WordLemmas.{are_words}
use Rattle.script_lines.proofs.command.parse_short_line.Goals as goal

pub parse_words-requires : goal.parse_words-requires
parse_words-requires c = rw c.new.ensures (are_words c.args.line.now c.requires)
