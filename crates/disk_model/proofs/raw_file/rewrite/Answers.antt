use Rattle.std.proofs.Common.{arith, rules, ◌∙◌}
use Rattle.disk_model.proofs.Rewriting.{one_more, and_synced}
use Rattle.disk_model.proofs.raw_file.rewrite.Goals as goal

pub loop-at-preserved : goal.loop-at-preserved
loop-at-preserved g c = record {
  within = search rules;
  facts = c.in_ok-rewrite_piece.ensures.facts ∙ c.loop-at.invariant.facts;
  again = one_more g.F.HeldFile.made c.loop-at.at c.if-left.size c.args.file.now c.loop-at.file c.rewrite_piece.new.file c.loop-at.invariant.again (search rules);
}

pub returns-clause-again : goal.returns-clause-again
returns-clause-again g c = and_synced g.F.HeldFile.made c.loop-at.at c.args.length c.args.file.now c.loop-at.file c.sync.new.self c.sync.result c.loop-at.invariant.again (omega (arith, c.loop-at.invariant.within, c.loop-at-test.false)) c.sync.ensures.made
