use Rattle.std.proofs.Common.{◌≡◌, ◌<◌, ◌+◌, ◌∙◌, List, length, map, drop, set, ap, sym, subst, refl}
use Rattle.std.specs.List.{HoldsAt}
use Rattle.journal_layout.specs.declared.entry.Entry.{Entry}
use Rattle.journal_layout.specs.Case.{case_of}
use Rattle.journal_layout.specs.Folding.{with_label}
use Rattle.journal_layout.specs.Soundness.{Rise, case_numbered}
use Rattle.case_journal.specs.LiveList.{LiveList}
use Rattle.case_journal.proofs.EntryLemmas.{seqs_of, labelled_none, live_labelled}
use Rattle.case_journal.proofs.live_entries.LiveEntries.set_label.Goals as goal

pub returns-in-Some : goal.returns-in-Some
returns-in-Some c =
    let l = c.self.inside in
    let place = c.in-Some.place in
    let e = c.index_mut.result.now in
    let same : c.as_slice.result.now ≡ drop l.first l.all.items = c.as_slice.ensures ∙ sym (ap (λ (v : LiveList). v.entries) c.self.view_is) in
    let found = subst (λ (x : List Entry). (place < length x) × HoldsAt (λ (y : Entry). y.seq ≡ c.args.seq) x place) same c.in-Some.ensures.found in
    ap (λ (x : Entry). map case_of (drop l.first (set l.all.items (l.first + place) (record x { label = c.args.label })))) c.index_mut.ensures.value
    ∙ live_labelled l.all.items l.first place c.args.seq c.args.label e (subst (λ (v : LiveList). Rise 0 (seqs_of v.entries)) (sym c.self.view_is) c.requires) found.0 (found.1 e)
    ∙ ap (λ (v : LiveList). with_label c.args.seq c.args.label.items (map case_of v.entries)) c.self.view_is

pub returns-in_default : goal.returns-in_default
returns-in_default c =
    sym (labelled_none c.args.seq c.args.label.items (map case_of c.args.self.now.entries)
    (ap (λ (l : List Entry). case_numbered c.args.seq (map case_of l)) (sym c.as_slice.ensures) ∙ c.in_default.ensures.absent refl))
