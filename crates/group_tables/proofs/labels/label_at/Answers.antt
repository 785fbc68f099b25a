use Rattle.std.proofs.Common.{◌∙◌}
use Rattle.group_tables.proofs.LabelLemmas.{label_read}
use Rattle.group_tables.proofs.labels.label_at.Goals as goal

pub returns : goal.returns
returns c = c.as_slice.ensures.value ∙ label_read c.args.members.now c.args.at c.index-members-at.result c.requires
