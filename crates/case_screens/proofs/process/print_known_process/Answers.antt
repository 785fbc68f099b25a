use Rattle.std.proofs.Common.{rules, ap, ◌∙◌, w32, w64}
use Rattle.std.specs.Prelude.{decimal}
use Rattle.std.specs.Fmt.{signed_decimal}
use Rattle.core_notes.specs.Descriptor.{pr_psargs}
use Rattle.core_notes.specs.DescriptorWords.{psinfo_bytes}
use Rattle.script_streams.specs.PrintLaws.{prints_then, prints_as}
use Rattle.case_screens.specs.Process.{command_text}
use Rattle.case_screens.proofs.TextLemmas.{signed_as}
use Rattle.case_screens.proofs.process.print_known_process.Goals as goal

pub returns : goal.returns
returns g c =
    prints_then c.print.ensures
    (prints_then (prints_as (ap signed_decimal (signed_as w64 _ _ (c.from.ensures ∙ signed_as w32 _ _ c.pr_pid.ensures (search rules)) (search rules))) c.print_signed.ensures)
    (prints_then c.print-2.ensures
    (prints_then (prints_as (ap signed_decimal (signed_as w64 _ _ (c.from-2.ensures ∙ signed_as w32 _ _ c.pr_ppid.ensures (search rules)) (search rules))) c.print_signed-2.ensures)
    (prints_then c.print-3.ensures
    (prints_then (prints_as (ap decimal (c.from-3.ensures ∙ c.pr_uid.ensures)) c.print_decimal.ensures)
    (prints_then c.print-4.ensures
    (prints_then (prints_as (ap (λ t. command_text t c.pr_fname.result.now) c.pr_psargs.ensures ∙ ap (command_text (pr_psargs (psinfo_bytes c.args.process.now))) c.pr_fname.ensures) c.print_command.ensures) c.print-5.ensures)))))))
