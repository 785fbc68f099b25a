use Rattle.intake.proofs.NameLemmas.{forgotten_more}
use Rattle.intake.proofs.names.forget_names.Goals as goal

pub loop-name-preserved : goal.loop-name-preserved
loop-name-preserved c =
    forgotten_more c.args.gone.now c.loop-name.name-index c.name-item.result c.args.names.now c.loop-name.names c.forget_name.new.names c.loop-name-test.true c.name-item.is c.loop-name.invariant c.forget_name.ensures
