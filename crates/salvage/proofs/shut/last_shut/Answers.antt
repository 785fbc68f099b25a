use Rattle.std.proofs.Common.{sym, ap, ◌∙◌}
use Rattle.journal_layout.specs.Layout.{half_start}
use Rattle.journal_layout.specs.declared.shape.Half.TheVariants.{B}
use Rattle.journal_layout.specs.declared.shape.Shape.{Shape}
use Rattle.salvage.proofs.ShutLemmas.{shut_first, shut_second}
use Rattle.salvage.proofs.shut.last_shut.Goals as goal

pub returns-then-is_some : goal.returns-then-is_some
returns-then-is_some g c = λ honest stands.
    shut_first (g.S.Source.seen c.args.source.now) c.args.first.now.standing stands c.in_ok-found.found c.half_start.result c.use_bytes-used.result
    c.half_start.ensures c.use_bytes-used.ensures (sym c.is_some.ensures ∙ c.if-is_some.true) (c.in_ok-found.ensures honest)

pub returns : goal.returns
returns g c = λ honest stands.
    shut_second (g.S.Source.seen c.args.source.now) c.args.first.now.standing stands c.in_ok-found.found c.shut_at-2.result c.half_start.result c.half_start-2.result
    c.use_bytes-used.result c.half_start.ensures (c.half_start-2.ensures ∙ ap (λ (s : Shape). half_start s B) c.shape-shape.ensures) c.use_bytes-used.ensures
    (sym c.is_some.ensures ∙ c.if-is_some.false) (c.in_ok-found.ensures honest) (c.shut_at-2.ensures honest)
