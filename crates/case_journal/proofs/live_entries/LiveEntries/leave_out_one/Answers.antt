use Rattle.std.proofs.Common.{◌≡◌, ◌<◌, ◌∙◌, List, length, map, ap, sym, subst, refl}
use Rattle.std.specs.List.{HoldsAt}
use Rattle.journal_layout.specs.declared.entry.Entry.{Entry}
use Rattle.journal_layout.specs.Case.{case_of}
use Rattle.journal_layout.specs.Soundness.{case_numbered}
use Rattle.case_journal.proofs.EntryLemmas.{dropped_none, removed_at}
use Rattle.case_journal.proofs.live_entries.LiveEntries.leave_out_one.Goals as goal

pub returns-in-Some : goal.returns-in-Some
returns-in-Some c =
    let place = c.in-Some.place in
    let found = subst (λ (l : List Entry). (place < length l) × HoldsAt (λ (e : Entry). e.seq ≡ c.args.seq) l place) c.as_slice.ensures c.in-Some.ensures.found in
    ap (map case_of) c.take_out.ensures ∙ removed_at 0 c.args.seq c.args.self.now.entries place c.requires found.0 found.1

pub returns-in_default : goal.returns-in_default
returns-in_default c =
    sym (dropped_none c.args.seq (map case_of c.args.self.now.entries)
    (ap (λ (l : List Entry). case_numbered c.args.seq (map case_of l)) (sym c.as_slice.ensures) ∙ c.in_default.ensures.absent refl))
