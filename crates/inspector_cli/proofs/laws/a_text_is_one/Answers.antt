use Rattle.inspector_cli.proofs.AgreeLines.{lines_agree}
use Rattle.inspector_cli.proofs.AgreeScripts.{scripts_agree}
use Rattle.inspector_cli.proofs.laws.a_text_is_one.Goals as goal

pub returns : goal.returns
returns g c =
    let o = c.an_answer_is_one.ensures in
    let lines = lines_agree g.D.Disk g.E.Disk (record {
      begin = o.begin;
      abandon = o.abandon;
      finish = o.finish;
      delete = o.delete;
      pin = o.pin;
      label = o.label;
      upgrade = o.upgrade;
      retire = o.retire;
      fills = o.fills;
    }) in
    record { lines = lines; scripts = scripts_agree g.D.Disk g.E.Disk lines c.a_script_has_one_cut.ensures.one }
