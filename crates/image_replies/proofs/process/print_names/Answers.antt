use Rattle.std.proofs.Common.{[], ◌∷◌, ◌++◌, ap, sym, append_assoc}
use Rattle.std.specs.Prelude.{codes}
use Rattle.core_notes.specs.Descriptor.{pr_fname}
use Rattle.core_notes.specs.DescriptorWords.{psinfo_bytes}
use Rattle.script_words.specs.Printing.{shown}
use Rattle.script_streams.specs.PrintLaws.{prints_then, prints_as}
use Rattle.image_replies.specs.Process.{words_line}
use Rattle.image_replies.proofs.process.print_names.Goals as goal

pub returns : goal.returns
returns g c =
    let d = psinfo_bytes c.args.process.now in
    prints_as (ap (λ t. codes "name " ++ t) (sym (append_assoc (shown (pr_fname d)) (10 ∷ []) (words_line d))))
    (prints_then c.print.ensures
    (prints_then (prints_as (ap shown c.pr_fname.ensures) c.print_text.ensures)
    (prints_then c.print-2.ensures
    (prints_then (prints_as (ap shown c.pr_psargs.ensures) c.print_text-2.ensures) c.print-3.ensures))))
