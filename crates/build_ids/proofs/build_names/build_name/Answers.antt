use Rattle.std.proofs.Common.{length, ap, ◌∙◌, arith, rules}
use Rattle.build_ids.specs.BuildName.{build_name}
use Rattle.build_ids.proofs.NameLaws.{few, long_name}
use Rattle.build_ids.proofs.build_names.build_name.Goals as goal

pub returns-clause-name : goal.returns-clause-name
unfolding build_name
returns-clause-name c = search rules

pub returns-clause-long : goal.returns-clause-long
returns-clause-long c =
    let within = few c.args.id.now c.requires in ap length (returns-clause-name c) ∙ long_name c.args.id.now (omega (arith, within.0))
