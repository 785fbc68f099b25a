use Rattle.std.proofs.Common.{◌∙◌, sym, ap}
use Rattle.std.proofs.lemmas.Slice.Eq.{slice_eq-Decides}
use Rattle.extents.specs.Runs.{runs_of}
use Rattle.salvage.proofs.CaseLemmas.{run_decided, same_runs}
use Rattle.salvage.proofs.cases.are_same_blocks.Goals as goal

pub returns : goal.returns
returns c =
    let decides = slice_eq-Decides run_decided c.runs.result.now c.runs-2.result.now c.eq.result c.eq.ensures in (
      λ met. same_runs c.args.one.now c.args.other.now (sym c.runs.ensures.shortest ∙ decides.0 met ∙ c.runs-2.ensures.shortest),
      λ same. decides.1 (c.runs.ensures.shortest ∙ ap runs_of (sym same) ∙ sym c.runs-2.ensures.shortest),
    )
