use Rattle.std.proofs.Common.{◌≡◌, ◌-◌, ◌∙◌, List, ap, length, min, sym, IsTrue, ℕ}
use Rattle.salvage.proofs.FrontLemmas.{read_padded}
use Rattle.salvage.proofs.stretched.StretchedSource.read_at.Goals as goal

pub returns : goal.returns
returns g c =
    let s = c.args.self.now.source.now in
    let b : List ℕ = g.S.Source.seen s in
    let m : ℕ = length c.args.into.now in
    record {
      bytes =
          read_padded (IsTrue (g.S.Source.is_honest s)) c.fetch.result c.args.self.now.length b c.fetch.new.into c.args.at m c.min-from.result c.min-there.result c.requires
          (λ honest.
          let held : c.length-held.result ≡ length b = c.length-held.ensures ∙ sym (g.met.S.Source.whole s honest) in
          (c.min-from.ensures ∙ ap (min c.args.at) held, c.min-there.ensures ∙ ap (λ (h : ℕ). min (h - c.min-from.result) m) held))
          c.fetch.ensures;
    }
