use Rattle.std.proofs.Common.{map}
use Rattle.journal_layout.specs.Case.{case_of}
use Rattle.case_journal.proofs.KeptLemmas.{kept_left}
use Rattle.case_journal.proofs.journal.Journal.leave_out.Goals as goal

pub leave_out-requires-clause-order : goal.leave_out-requires-clause-order
leave_out-requires-clause-order c = c.self.invariant.live.rise

pub invariant_of-self : goal.invariant_of-self
invariant_of-self c =
    let j = c.self.inside in
    kept_left j.shape j.version (map case_of j.entries.entries) j.next j.used c.self.invariant c.args.seqs.now (map case_of c.leave_out.new.self.entries) c.leave_out.ensures
