use Rattle.std.proofs.Common.{map}
use Rattle.journal_layout.specs.Case.{case_of}
use Rattle.case_journal.proofs.KeptLemmas.{kept_in_two}
use Rattle.case_journal.proofs.journal.Journal.take_version.Goals as goal

pub invariant_of-self : goal.invariant_of-self
invariant_of-self c =
    let j = c.self.inside in
    kept_in_two j.shape j.version (map case_of j.entries.entries) j.next j.used c.self.invariant
