use Rattle.std.proofs.Common.{◌∙◌, Err, ap, sym}
use Rattle.archive_files.specs.Copying.{copy_told}
use Rattle.archive_files.specs.declared.failures.Refusal.{Refusal}
use Rattle.archive_files.proofs.salvaging.salvage_onto.Goals as goal

pub returns-in-Ok : goal.returns-in-Ok
returns-in-Ok g c = (c.copy_cases.result, c.copy_cases.ensures, sym (ap copy_told c.in-Ok.is))

pub returns-in-Err : goal.returns-in-Err
returns-in-Err g c = (c.copy_cases.result, c.copy_cases.ensures, ap (λ (f : Refusal). Err f) c.copy_refusal.ensures ∙ sym (ap copy_told c.in-Err.is))
