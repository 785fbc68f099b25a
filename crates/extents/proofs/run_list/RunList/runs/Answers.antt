use Rattle.std.proofs.Common.{◌≤◌, ◌∙◌, sym, ap, subst, length, List}
use Rattle.extents.specs.Runs.{runs_of}
use Rattle.extents.specs.declared.run_list.Run.{Run}
use Rattle.extents.proofs.BlockLemmas.{shortest}
use Rattle.extents.specs.RunLaws.{runs_no_more}
use Rattle.extents.proofs.run_list.RunList.runs.Goals as goal

pub returns-clause-shortest : goal.returns-clause-shortest
returns-clause-shortest c = c.as_slice.ensures.value ∙ sym (shortest c.self.inside.runs.items c.self.invariant) ∙ ap runs_of c.self.view_is

pub returns-clause-no_more : goal.returns-clause-no_more
returns-clause-no_more c =
    let P : List Run → Type 0 = λ rs. length rs ≤ length c.args.self.now in
    subst P (sym (returns-clause-shortest c)) (runs_no_more c.args.self.now)
