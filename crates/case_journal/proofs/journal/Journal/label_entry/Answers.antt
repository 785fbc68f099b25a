use Rattle.std.proofs.Common.{map, ap, ◌∙◌}
use Rattle.journal_layout.specs.Case.{case_of}
use Rattle.case_journal.specs.Journaled.{Journaled}
use Rattle.case_journal.proofs.KeptLemmas.{kept_labelled}
use Rattle.case_journal.proofs.journal.Journal.label_entry.Goals as goal

pub set_label-requires : goal.set_label-requires
set_label-requires c = c.self.invariant.live.rise

pub invariant_of-self : goal.invariant_of-self
invariant_of-self c =
    let j = c.self.inside in
    kept_labelled j.shape j.version (map case_of j.entries.entries) j.next j.used c.self.invariant c.args.seq c.args.label.items (map case_of c.set_label.new.self.entries)
    (ap (λ (x : Journaled). x.standing.version) c.self.view_is ∙ c.requires.version) c.requires.label c.set_label.ensures
