use Rattle.std.proofs.Common.{◌∙◌}
use Rattle.address_space.specs.Source.{is_named}
use Rattle.address_space.proofs.Naming.{there_is}
use Rattle.address_space.proofs.by_path.ByPath.number.Goals as goal

pub returns-clause-first : goal.returns-clause-first
returns-clause-first c = λ all are. c.number_in.ensures ∙ are c.args.path.now

pub returns-clause-there : goal.returns-clause-there
returns-clause-there c = λ all are. there_is (is_named c.args.path.now) all c.number_in.result (c.number_in.ensures ∙ are c.args.path.now)
