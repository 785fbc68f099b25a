use Rattle.std.proofs.Common.{◌∙◌, ap}
use Rattle.std.specs.List.{remove}
use Rattle.case_journal.specs.LiveList.{LiveList}
use Rattle.case_journal.proofs.live_entries.LiveEntries.take_out.Goals as goal

pub returns : goal.returns
returns c = c.forget_if_many-self-inside.ensures.left ∙ c.take_one-gone.ensures.left ∙ ap (λ (v : LiveList). remove v.entries c.args.place) c.self.view_is
