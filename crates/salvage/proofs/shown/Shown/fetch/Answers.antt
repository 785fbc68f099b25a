use Rattle.std.proofs.Common.{◌≡◌, length, arith}
use Rattle.salvage.proofs.ReadLemmas.{read_patched}
use Rattle.salvage.proofs.shown.Shown.fetch.Goals as goal

pub returns-in-Some : goal.returns-in-Some
returns-in-Some g c = record {
  bytes = λ honest.
      let s = c.args.self.now.source.now in
      let b = g.S.Source.seen s in
      let whole : length b ≡ g.S.Source.size s = g.met.S.Source.whole s honest in
      let within = c.args.self.now.within c.in-Some.patch c.in-Some.is in
      let lies = c.requires in
      read_patched c.args.self.now.patch c.in-Some.patch b c.read_at.new.into c.put_byte.new.into c.args.at (length c.args.into.now) c.in-Some.is
      (omega (arith, whole, within)) (omega (arith, whole, lies)) (c.in_ok-read_at.ensures.bytes honest) c.read_at.auto.into
      c.put_byte.ensures.before c.put_byte.ensures.after c.put_byte.ensures.there;
}
