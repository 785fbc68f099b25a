use Rattle.intake.proofs.OneLemmas.{begin_one, abandon_one, finish_one, delete_one, pin_one, label_one, upgrade_one, retire_one, fills_one}
use Rattle.intake.proofs.laws.an_answer_is_one.Goals as goal

pub returns : goal.returns
returns c = record {
  begin = begin_one;
  abandon = abandon_one;
  finish = finish_one;
  delete = delete_one;
  pin = pin_one;
  label = label_one;
  upgrade = upgrade_one;
  retire = retire_one c.a_decision_is_one.ensures;
  fills = fills_one;
}
