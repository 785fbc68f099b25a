use Rattle.elf_view.proofs.Rows.{refused, sound_from}
use Rattle.elf_view.proofs.view.Elf.read.Goals as goal

pub returns-in_err-check-clause-sound : goal.returns-in_err-check-clause-sound
returns-in_err-check-clause-sound c =
    refused c.from_residual.result c.in_err-check.field-0.0 c.args.want c.args.image.now c.from_residual.ensures.0 c.in_err-check.ensures.fault

pub invariant_of-result-clause-sound : goal.invariant_of-result-clause-sound
invariant_of-result-clause-sound c = sound_from c.args.want c.args.image.now c.in_ok-check.ensures.fault
