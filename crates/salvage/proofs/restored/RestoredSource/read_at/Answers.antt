use Rattle.std.proofs.Common.{◌∙◌, ℕ, ap, length, subst, sym, arith, IsTrue}
use Rattle.salvage.specs.FrontLaws.{part_first}
use Rattle.salvage.specs.Mending.{stretched}
use Rattle.salvage.proofs.FrontLemmas.{read_through}
use Rattle.salvage.proofs.restored.RestoredSource.read_at.Goals as goal

pub returns-then-at-into : goal.returns-then-at-into
returns-then-at-into g c =
    let r = c.args.self.now in
    record {
      bytes = λ honest.
          c.copy_part.ensures
          ∙ sym (part_first r.front.now (stretched r.count (g.S.Source.seen r.source.now)) c.args.at (length c.args.into.now) (omega (arith, c.if-at-into.true)));
    }

pub returns : goal.returns
returns g c =
    let r = c.args.self.now in
    let shown = c.new.result in
    record {
      bytes =
          read_through (IsTrue (g.S.Source.is_honest r.source.now)) (IsTrue (g.S.Source.is_honest shown.source.now)) c.read_at.result r.front.now (stretched r.count (g.S.Source.seen r.source.now))
          (stretched shown.length (g.S.Source.seen shown.source.now)) c.read_at.new.into c.args.at (length c.args.into.now)
          (λ honest. subst (λ s. IsTrue (g.S.Source.is_honest s)) (sym c.new.ensures.source) honest)
          (ap (λ (n : ℕ). stretched n (g.S.Source.seen shown.source.now)) c.new.ensures.length ∙ ap (λ s. stretched r.count (g.S.Source.seen s)) c.new.ensures.source)
          (omega (arith, c.if-at-end.false)) c.read_at.ensures.bytes;
    }
