use Rattle.std.proofs.Common.{take}
use Rattle.intake.specs.Names.{ForgetsNames}
use Rattle.intake.proofs.names.forget_names.Given as goal

abbrev pub invariant-loop-name : goal.invariant-loop-name
invariant-loop-name l = ForgetsNames (take l.name-index l.gone) l.initial.names l.names
