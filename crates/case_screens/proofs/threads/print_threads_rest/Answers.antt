use Rattle.std.proofs.Common.{◌≡◌, [], ap, arith, cond, min, sym, ◌∙◌}
use Rattle.std.proofs.lemmas.Bool.{le-ltb, lt-ltb}
use Rattle.std.specs.Prelude.{codes}
use Rattle.script_streams.specs.PrintLaws.{prints_as, prints_nothing}
use Rattle.case_screens.specs.Texts.{rest_after}
use Rattle.case_screens.proofs.threads.print_threads_rest.Goals as goal

pub returns-then-unwound-gt1 : goal.returns-then-unwound-gt1
returns-then-unwound-gt1 g c =
    let most : c.min.result ≡ min c.args.unwound 256 = omega (arith, c.min.ensures) in
    prints_as (ap (λ n. rest_after (codes "thread    ") n c.args.count) most
    ∙ ap (λ t. cond t (rest_after (codes "thread    ") (min c.args.unwound 256) c.args.count) []) (sym (lt-ltb 1 c.args.unwound c.if-unwound-gt1.true)))
    c.print_rest_after.ensures

pub returns-else-unwound-gt1 : goal.returns-else-unwound-gt1
returns-else-unwound-gt1 g c =
    prints_as (ap (λ t. cond t (rest_after (codes "thread    ") (min c.args.unwound 256) c.args.count) []) (sym (le-ltb 1 c.args.unwound c.if-unwound-gt1.false))) prints_nothing
