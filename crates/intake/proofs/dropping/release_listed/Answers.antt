use Rattle.std.proofs.Common.{ap}
use Rattle.std.proofs.lemmas.List.{get_or_default}
use Rattle.journal_layout.specs.Folding.{used_blocks}
use Rattle.intake.proofs.ListedLemmas.{gone_nothing, next_held, next_given, none_passed}
use Rattle.intake.proofs.dropping.release_listed.Goals as goal

pub loop-seq-init : goal.loop-seq-init
loop-seq-init c = none_passed c.args.free.now _ (ap used_blocks (gone_nothing c.args.journal.now.standing.cases))

pub release_numbered-requires-clause-held : goal.release_numbered-requires-clause-held
release_numbered-requires-clause-held c =
    next_held c.args.journal.now.standing.cases c.args.seqs.now c.requires.rise c.loop-seq.seq-index _ c.loop-seq-test.true (get_or_default c.args.seqs.now c.loop-seq.seq-index 0 _ c.loop-seq-test.true) c.args.free.now c.loop-seq.free c.requires.held c.loop-seq.invariant

pub loop-seq-preserved : goal.loop-seq-preserved
loop-seq-preserved c =
    next_given c.args.journal.now.standing.cases c.args.seqs.now c.requires.rise c.loop-seq.seq-index _ c.loop-seq-test.true (get_or_default c.args.seqs.now c.loop-seq.seq-index 0 _ c.loop-seq-test.true) c.args.free.now c.loop-seq.free c.requires.held c.loop-seq.invariant
    c.release_numbered.new.free c.release_numbered.ensures
