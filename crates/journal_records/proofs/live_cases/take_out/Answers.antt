use Rattle.std.proofs.Common.{not, rules, ◌∙◌}
use Rattle.std.proofs.lemmas.Fn.{filter_same}
use Rattle.journal_layout.specs.declared.entry.Entry.{Entry}
use Rattle.journal_records.specs.Stored.{has_number}
use Rattle.journal_records.proofs.StoredLemmas.{none_ended}
use Rattle.journal_records.proofs.live_cases.take_out.Goals as goal

pub returns-then-is_empty : goal.returns-then-is_empty
returns-then-is_empty c = none_ended c.args.ended.now c.args.stored.now.items ((c.is_empty.ensures).0 c.if-is_empty.true)

pub returns : goal.returns
returns c = c.shrink_to_fit.ensures.items ∙ filter_same _ (λ (e : Entry). not (has_number c.args.ended.now e.seq)) _ (λ x b f' k. search rules) _ _ c.retain.ensures.filtered
