use Rattle.std.proofs.Common.{map}
use Rattle.journal_layout.specs.Case.{case_of}
use Rattle.case_journal.proofs.KeptLemmas.{kept_pinned}
use Rattle.case_journal.proofs.journal.Journal.pin_entry.Goals as goal

pub set_pin-requires : goal.set_pin-requires
set_pin-requires c = c.self.invariant.live.rise

pub invariant_of-self : goal.invariant_of-self
invariant_of-self c =
    let j = c.self.inside in
    kept_pinned j.shape j.version (map case_of j.entries.entries) j.next j.used c.self.invariant c.args.seq c.args.flag (map case_of c.set_pin.new.self.entries) c.set_pin.ensures
