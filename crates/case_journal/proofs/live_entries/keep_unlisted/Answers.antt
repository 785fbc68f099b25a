use Rattle.std.proofs.Common.{◌∙◌, ap, not, map, rules}
use Rattle.std.proofs.lemmas.Fn.{filter_same}
use Rattle.journal_layout.specs.Case.{case_of}
use Rattle.journal_layout.specs.Folding.{is_among}
use Rattle.journal_layout.specs.declared.entry.Entry.{Entry}
use Rattle.case_journal.proofs.EntryLemmas.{others_are}
use Rattle.case_journal.proofs.live_entries.keep_unlisted.Goals as goal

pub returns : goal.returns
returns c =
    ap (map case_of) (filter_same _ (λ (e : Entry). not (is_among c.args.seqs.now e.seq)) _ (λ x b f' k. search rules) _ _ c.retain.ensures.filtered)
    ∙ others_are c.args.seqs.now c.args.entries.now.items
