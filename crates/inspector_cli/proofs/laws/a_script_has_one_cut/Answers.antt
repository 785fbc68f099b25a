use Rattle.inspector_cli.proofs.CutLemmas.{one_cut, some_cut, one_front}
use Rattle.inspector_cli.proofs.laws.a_script_has_one_cut.Goals as goal

pub returns : goal.returns
returns c = record { one = one_cut c.lines_are_cut_one_way.ensures.first c.lines_are_cut_one_way.ensures.last; some = some_cut; front = one_front c.lines_are_cut_one_way.ensures.first c.lines_are_cut_one_way.ensures.last }
