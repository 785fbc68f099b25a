use Rattle.std.proofs.Common.{◌∙◌, length, sym, arith, IsTrue}
use Rattle.salvage.specs.FrontLaws.{part_first}
use Rattle.salvage.proofs.FrontLemmas.{read_behind}
use Rattle.salvage.proofs.fronted.FrontedSource.read_at.Goals as goal

pub returns-then-at-into : goal.returns-then-at-into
returns-then-at-into g c = record {
  bytes = λ honest.
      let front = c.args.self.now.front.now in
      let n = length c.args.into.now in
      c.copy_part.ensures
      ∙ sym (part_first front (g.S.Source.seen c.args.self.now.source.now) c.args.at n (omega (arith, c.if-at-into.true)));
}

pub returns : goal.returns
returns g c = record {
  bytes =
      read_behind (IsTrue (g.S.Source.is_honest c.args.self.now.source.now)) c.read_at.result c.args.self.now.front.now (g.S.Source.seen c.args.self.now.source.now) c.read_at.new.into c.args.at
      (length c.args.into.now) (omega (arith, c.if-at-end.false)) c.read_at.ensures.bytes;
}
