use Rattle.std.proofs.Common.{List, Some, map, sym, ap, ◌∙◌}
use Rattle.std.specs.List.{flat_map}
use Rattle.script_streams.specs.PrintLaws.{prints_as, prints_then}
use Rattle.build_replies.specs.Builds.{NamedBuild, builds_answer, printed, wants_line}
use Rattle.build_replies.specs.BuildsWords.{asking_view, wanted_view}
use Rattle.build_replies.specs.Mapped.{build_view}
use Rattle.build_replies.specs.declared.builds.BuildsAsked.{BuildsAsked}
use Rattle.build_replies.specs.declared.wanted.WantedBuild.{WantedBuild}
use Rattle.build_replies.proofs.AnswerLemmas.{shown}
use Rattle.build_replies.proofs.builds.print_rows.Goals as goal

pub returns-in-Compared : goal.returns-in-Compared
unfolding builds_answer
returns-in-Compared g c image xs is =
    let answer = ap (printed (asking_view c.args.asked)) is ∙ ap (λ (a : BuildsAsked). printed (asking_view a) (Some (map build_view c.args.rows.now))) c.in-Compared.is in
    (_, shown _ _ (sym answer), prints_then c.print_lines.ensures c.print_ok.ensures)

pub returns-in-Used : goal.returns-in-Used
unfolding builds_answer
returns-in-Used g c image xs is =
    let answer = ap (printed (asking_view c.args.asked)) is ∙ ap (λ (a : BuildsAsked). printed (asking_view a) (Some (map build_view c.args.rows.now))) c.in-Used.is in
    (_, shown _ _ (sym answer), prints_then c.print_used.ensures c.print_ok-in-Used.ensures)

pub returns-in-Ok : goal.returns-in-Ok
unfolding builds_answer
returns-in-Ok g c image xs is =
    let answer = ap (printed (asking_view c.args.asked)) is ∙ ap (λ (a : BuildsAsked). printed (asking_view a) (Some (map build_view c.args.rows.now))) c.in-Wanted.is in
    let builds = ap (λ (ws : List WantedBuild). map wanted_view ws) c.deref.ensures.value ∙ c.in-Ok.ensures in
    (_, shown _ _ (sym answer), prints_then (prints_as (ap (λ (ws : List NamedBuild). flat_map wants_line ws) builds) c.print_each.ensures) c.print_ok-in-Ok.ensures)
