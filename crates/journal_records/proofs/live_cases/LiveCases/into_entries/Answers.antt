use Rattle.std.proofs.Common.{ap, ◌∙◌}
use Rattle.std.specs.Map.{values_of}
use Rattle.journal_records.specs.Stored.{Numbered, has_number}
use Rattle.journal_records.proofs.StoredLemmas.{values_staying}
use Rattle.journal_records.proofs.live_cases.LiveCases.into_entries.Goals as goal

pub returns : goal.returns
returns c = c.take_out.ensures ∙ values_staying (has_number c.self.inside.ended) c.self.inside.stored.items ∙ ap (λ (v : Numbered). values_of v.entries) c.self.view_is
