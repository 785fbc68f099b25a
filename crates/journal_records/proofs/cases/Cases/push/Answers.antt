use Rattle.std.proofs.Common.{◌+◌, refl, sym, subst}
use Rattle.journal_records.specs.Live.{AreNumbered}
use Rattle.journal_records.proofs.LiveLemmas.{numbered_push}
use Rattle.journal_records.proofs.KeptLemmas.{cases_push}
use Rattle.journal_records.proofs.cases.Cases.push.Goals as goal

pub returns-clause-cases : goal.returns-clause-cases
returns-clause-cases c =
    let old = c.args.self.now in
    cases_push c.args.entry.seq c.args.entry old.live.entries c.push.new.self.entries c.in_ok-push.ensures.entries

pub returns-clause-numbered : goal.returns-clause-numbered
returns-clause-numbered c =
    let old = c.args.self.now in
    let e = c.args.entry in
    subst (AreNumbered 0 (e.seq + 1)) (sym c.in_ok-push.ensures.entries)
    (numbered_push 0 old.next e.seq e old.live.entries c.requires.numbered c.requires.number refl)
