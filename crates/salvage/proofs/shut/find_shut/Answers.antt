use Rattle.std.proofs.Common.{sym, ap, ◌∙◌}
use Rattle.journal_layout.specs.Layout.{half_start}
use Rattle.journal_layout.specs.declared.shape.Half.TheVariants.{B}
use Rattle.journal_layout.specs.declared.shape.Shape.{Shape}
use Rattle.salvage.proofs.ShutLemmas.{first_shut, last_found, other_shut}
use Rattle.salvage.proofs.shut.find_shut.Goals as goal

pub returns-then-is_some : goal.returns-then-is_some
returns-then-is_some g c = λ honest stands.
    first_shut (g.S.Source.seen c.args.source.now) c.args.first.now.standing stands c.in_ok-found.found c.half_start.result
    c.half_start.ensures (sym c.is_some.ensures ∙ c.if-is_some.true) (c.in_ok-found.ensures honest)

pub returns-then-is_some-2 : goal.returns-then-is_some-2
returns-then-is_some-2 g c = λ honest stands.
    other_shut (g.S.Source.seen c.args.source.now) c.args.first.now.standing stands c.in_ok-found.found c.half_start.result
    c.half_start.ensures (sym c.is_some.ensures ∙ c.if-is_some.false) (c.in_ok-found.ensures honest)
    c.in_ok-other.other c.half_start-2.result (c.half_start-2.ensures ∙ ap (λ (s : Shape). half_start s B) c.shape-shape.ensures)
    (sym c.is_some-2.ensures ∙ c.if-is_some-2.true) (c.in_ok-other.ensures honest)

pub returns : goal.returns
returns g c = λ honest stands.
    last_found (g.S.Source.seen c.args.source.now) c.args.first.now.standing stands c.in_ok-found.found c.half_start.result
    c.half_start.ensures (sym c.is_some.ensures ∙ c.if-is_some.false) (c.in_ok-found.ensures honest)
    c.in_ok-other.other c.half_start-2.result c.last_shut.result (c.half_start-2.ensures ∙ ap (λ (s : Shape). half_start s B) c.shape-shape.ensures)
    (sym c.is_some-2.ensures ∙ c.if-is_some-2.false) (c.in_ok-other.ensures honest) (c.last_shut.ensures honest stands)
