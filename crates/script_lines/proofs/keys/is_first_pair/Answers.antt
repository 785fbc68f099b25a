use Rattle.script_lines.proofs.KeyLemmas.{pair_short}
use Rattle.script_lines.proofs.keys.is_first_pair.Goals as goal

pub is_good_value-requires : goal.is_good_value-requires
is_good_value-requires c = pair_short c.args.word.now c.in-Some.key.now c.in-Some.value.now c.requires c.in-Some.ensures
