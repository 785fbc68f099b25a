use Rattle.std.proofs.Common.{sym, ap, ◌∙◌, Option}
use Rattle.std.specs.Option.{option_map}
use Rattle.journal_layout.specs.declared.entry.Entry.{Entry}
use Rattle.journal_layout.specs.Case.{case_of}
use Rattle.journal_layout.specs.Checks.{is_kept}
use Rattle.journal_records.proofs.LiveLemmas.{numbered_found}
use Rattle.journal_records.proofs.dropped.is_kept.Goals as goal

pub returns-in-Some : goal.returns-in-Some
returns-in-Some c =
    ap (λ (o : Option Entry). is_kept (option_map case_of o)) c.in-Some.ensures.value
    ∙ ap is_kept (sym (numbered_found 0 4294967296 c.args.seq c.args.live.now.entries c.requires))

pub returns-in-None : goal.returns-in-None
returns-in-None c =
    ap (λ (o : Option Entry). is_kept (option_map case_of o)) c.in-None.ensures.value
    ∙ ap is_kept (sym (numbered_found 0 4294967296 c.args.seq c.args.live.now.entries c.requires))
