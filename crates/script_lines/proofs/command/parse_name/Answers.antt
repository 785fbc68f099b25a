use Rattle.script_lines.proofs.KeyLemmas.{text_some}
use Rattle.script_lines.proofs.command.parse_name.Goals as goal

pub invariant_of-result : goal.invariant_of-result
invariant_of-result c = record { some = text_some c.args.word.now c.in_ok-text.text.items c.requires.some c.in_ok-text.ensures }
