use Rattle.std.proofs.Common.{◌≤◌, ◌∙◌, ◌++◌, ◌∷◌, [], List, ap, sym, subst}
use Rattle.journal_layout.specs.declared.entry.Entry.{Entry}
use Rattle.journal_records.specs.Stored.{Numbered, has_number, staying, end_after, AreStored}
use Rattle.journal_records.proofs.StoredLemmas.{stored_push, staying_push, end_push, not_ended}
use Rattle.journal_records.proofs.live_cases.LiveCases.push.Goals as goal

pub invariant_of-self-2 : goal.invariant_of-self-2
invariant_of-self-2 c =
    let l = c.self.inside in
    let past = subst (λ (v : Numbered). v.end ≤ c.args.entry.seq) (sym c.self.view_is) c.requires in
    subst (λ (es : List Entry). AreStored (has_number l.ended) es) (sym c.in-Ok.ensures.items) (stored_push (has_number l.ended) c.args.entry l.stored.items c.self.invariant past)

pub returns-clause-entries : goal.returns-clause-entries
returns-clause-entries c =
    let l = c.self.inside in
    let e = c.args.entry in
    let past = subst (λ (v : Numbered). v.end ≤ e.seq) (sym c.self.view_is) c.requires in
    ap (staying (has_number l.ended)) c.in-Ok.ensures.items
    ∙ staying_push (has_number l.ended) e l.stored.items (not_ended (has_number l.ended) e.seq l.stored.items c.self.invariant past)
    ∙ ap (λ (v : Numbered). v.entries ++ (e.seq, e) ∷ []) c.self.view_is

pub returns-clause-end : goal.returns-clause-end
returns-clause-end c = ap (end_after 0) c.in-Ok.ensures.items ∙ end_push 0 c.args.entry c.self.inside.stored.items
