use Rattle.std.proofs.Common.{Option, sym, ap, ◌∙◌}
use Rattle.std.specs.Option.{option_map, is_none, is_some}
use Rattle.journal_layout.specs.declared.entry.Entry.{Entry}
use Rattle.journal_layout.specs.Case.{case_of}
use Rattle.journal_records.proofs.LiveLemmas.{numbered_found, missing_is}
use Rattle.journal_records.proofs.NameLemmas.{not_back}
use Rattle.journal_records.proofs.pin.is_missing.Goals as goal

pub returns : goal.returns
returns c =
    not_back c.is_none.result (is_some c.find.result) c.is_none.ensures
    ∙ missing_is c.find.result
    ∙ ap (λ (o : Option Entry). is_none (option_map case_of o)) c.find.ensures.value
    ∙ ap is_none (sym (numbered_found 0 4294967296 c.args.seq c.args.live.now.entries c.requires))
