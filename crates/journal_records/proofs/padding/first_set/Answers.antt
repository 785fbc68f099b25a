use Rattle.std.proofs.Common.{sym, ◌∙◌}
use Rattle.journal_records.proofs.ByteLemmas.{zeros_set, zeros_more, zeros_end}
use Rattle.journal_records.proofs.padding.first_set.Goals as goal

pub returns-then-rest-index-ne0-clause-first : goal.returns-then-rest-index-ne0-clause-first
returns-then-rest-index-ne0-clause-first c =
    sym (zeros_set c.loop-index.index c.args.end c.args.rest.now c.loop-index-test.true c.requires.within c.if-rest-index-ne0.true) ∙ c.loop-index.invariant

pub loop-index-preserved : goal.loop-index-preserved
loop-index-preserved c =
    sym (zeros_more c.loop-index.index c.args.end c.args.rest.now c.loop-index-test.true c.requires.within c.if-rest-index-ne0.false) ∙ c.loop-index.invariant

pub returns-clause-first : goal.returns-clause-first
returns-clause-first c = sym (zeros_end c.loop-index.index c.args.end c.args.rest.now c.loop-index-test.false) ∙ c.loop-index.invariant
