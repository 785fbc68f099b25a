use Rattle.std.proofs.Common.{ap}
use Rattle.std.proofs.lemmas.List.{get_or_default}
use Rattle.journal_layout.specs.Folding.{used_blocks}
use Rattle.intake.proofs.ListedLemmas.{gone_nothing, next_free, next_marked, none_taken}
use Rattle.intake.proofs.dropping.hold_listed.Goals as goal

pub loop-seq-init : goal.loop-seq-init
loop-seq-init c = none_taken c.args.free.now _ (ap used_blocks (gone_nothing c.args.journal.now.standing.cases))

pub hold_numbered-requires-clause-free : goal.hold_numbered-requires-clause-free
hold_numbered-requires-clause-free c =
    next_free c.args.journal.now.standing.cases c.args.seqs.now c.requires.rise c.loop-seq.seq-index _ c.loop-seq-test.true (get_or_default c.args.seqs.now c.loop-seq.seq-index 0 _ c.loop-seq-test.true) c.args.free.now c.loop-seq.free c.requires.free c.loop-seq.invariant

pub loop-seq-preserved : goal.loop-seq-preserved
loop-seq-preserved c =
    next_marked c.args.journal.now.standing.cases c.args.seqs.now c.requires.rise c.loop-seq.seq-index _ c.loop-seq-test.true (get_or_default c.args.seqs.now c.loop-seq.seq-index 0 _ c.loop-seq-test.true) c.args.free.now c.loop-seq.free c.requires.free c.loop-seq.invariant
    c.hold_numbered.new.free c.hold_numbered.ensures
