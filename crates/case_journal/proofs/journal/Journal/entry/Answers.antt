use Rattle.std.proofs.Common.{◌∙◌, ap, map, List, sym, subst}
use Rattle.journal_layout.specs.Case.{case_of}
use Rattle.journal_layout.specs.Soundness.{Rise, case_numbered}
use Rattle.journal_layout.specs.declared.entry.Entry.{Entry}
use Rattle.case_journal.specs.Journaled.{Journaled}
use Rattle.case_journal.proofs.EntryLemmas.{seqs_of}
use Rattle.case_journal.proofs.journal.Journal.entry.Goals as goal

pub find_entry-requires : goal.find_entry-requires
find_entry-requires c = subst (λ (l : List Entry). Rise 0 (seqs_of l)) (sym c.as_slice.ensures) c.self.invariant.live.rise

pub returns : goal.returns
returns c =
    c.find_entry.ensures
    ∙ ap (λ (l : List Entry). case_numbered c.args.seq (map case_of l)) c.as_slice.ensures
    ∙ ap (λ (j : Journaled). case_numbered c.args.seq j.standing.cases) c.self.view_is
