use Rattle.std.proofs.Common.{◌∙◌, ap, sym, subst}
use Rattle.extents.specs.FreeSet.{AreUsed, with_runs}
use Rattle.intake.proofs.CountLemmas.{held_used, given}
use Rattle.intake.proofs.blocks.release.Goals as goal

pub give_back-requires : goal.give_back-requires
give_back-requires c =
    subst (AreUsed c.args.free.now) (sym c.runs-2.ensures.shortest) (held_used c.args.free.now c.args.runs c.requires)

pub returns : goal.returns
returns c = given c.args.free.now c.give_back.new.self c.args.runs c.requires (c.give_back.ensures ∙ ap (with_runs c.args.free.now) c.runs-2.ensures.shortest)
