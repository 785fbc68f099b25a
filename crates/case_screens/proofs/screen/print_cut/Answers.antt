use Rattle.std.proofs.Common.{[], ◌∷◌, ◌++◌, ap, cond, sym, ◌∙◌}
use Rattle.std.proofs.lemmas.Bool.{lt-ltb}
use Rattle.std.specs.Prelude.{codes}
use Rattle.case_tables.specs.Sizes.{size_text}
use Rattle.script_streams.specs.PrintLaws.{prints_as, prints_then}
use Rattle.case_screens.specs.Screen.{cut_line}
use Rattle.case_screens.proofs.screen.print_cut.Goals as goal

pub returns-in-Some : goal.returns-in-Some
returns-in-Some g c =
    let whole = c.in-Some.whole in
    prints_as
    (ap (λ t. cond t (codes "cut       " ++ (size_text c.args.has ++ (codes " of " ++ (size_text whole ++ 10 ∷ [])))) []) (sym (lt-ltb c.args.has whole c.if-has-whole.true))
    ∙ ap (cut_line c.args.has) (sym c.in-Some.is))
    (prints_then c.print.ensures (prints_then c.print_size.ensures (prints_then c.print-in-Some.ensures (prints_then c.print_size-in-Some.ensures c.print-in-Some-2.ensures))))
