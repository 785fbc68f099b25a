use Rattle.inspector_cli.proofs.CopyLemmas.{opened_and_copied}
use Rattle.inspector_cli.proofs.copying.copy_image.Goals as goal

pub returns-in-Ok : goal.returns-in-Ok
returns-in-Ok g c = record {
  copies = opened_and_copied g.D.Disk c.args.settings.limit c.args.disk c.in-Ok.archive c.in-Ok.ensures c.args.seq _ _ _ _ c.copy_of.result.0 c.copy_of.result.1 c.copy_of.ensures.ends;
}
