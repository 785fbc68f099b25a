use Rattle.std.proofs.Common.{[], ◌-◌, cond, ap, sym}
use Rattle.std.proofs.lemmas.Bool.{le-ltb, lt-ltb}
use Rattle.script_streams.specs.PrintLaws.{prints_as, prints_nothing}
use Rattle.case_screens.specs.Frames.{rest_text}
use Rattle.case_screens.proofs.frames.print_more.Goals as goal

pub returns-then-count-gt-MOST : goal.returns-then-count-gt-MOST
returns-then-count-gt-MOST g c =
    prints_as (ap (λ t. cond t (rest_text (c.args.count - 20)) []) (sym (lt-ltb 20 c.args.count c.if-count-gt-MOST.true))) c.print_rest.ensures

pub returns-else-count-gt-MOST : goal.returns-else-count-gt-MOST
returns-else-count-gt-MOST g c =
    prints_as (ap (λ t. cond t (rest_text (c.args.count - 20)) []) (sym (le-ltb 20 c.args.count c.if-count-gt-MOST.false))) prints_nothing
