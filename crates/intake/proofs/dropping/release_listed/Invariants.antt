use Rattle.std.proofs.Common.{[], take}
use Rattle.journal_layout.specs.Folding.{used_blocks}
use Rattle.journal_layout.specs.Live.{gone}
use Rattle.intake.specs.Balance.{Balances}
use Rattle.intake.proofs.dropping.release_listed.Given as goal

abbrev pub invariant-loop-seq : goal.invariant-loop-seq
invariant-loop-seq l = Balances l.initial.free (used_blocks (gone (take l.seq-index l.seqs) l.journal.standing.cases)) l.free []
