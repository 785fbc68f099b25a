use Rattle.std.proofs.Common.{[], ◌∷◌, Some, refl, ap, ◌∙◌}
use Rattle.intake.specs.Parts.{state_of}
use Rattle.journal_layout.specs.Case.{Case, case_of}
use Rattle.case_info.specs.Unpacking.{own_file}
use Rattle.case_info.proofs.UnpackLemmas.{same_case}
use Rattle.case_info.proofs.unpacking.executable_unpacking.Goals as goal

pub returns : goal.returns
returns g c = λ other has.
    let own = same_case (state_of c.args.archive.now) c.args.seq (case_of c.in-Ok.case.now) other c.in-Ok.ensures has in
    record {
      case = refl;
      kind = refl;
      files = c.in_ok-own_file.ensures ∙ ap (λ (x : Case). own_file x ∷ []) own;
      program = c.in_ok-kept_name.ensures ∙ ap Some (c.as_slice.ensures.value ∙ ap (λ (x : Case). x.origin.name) own);
      fault = refl;
    }
