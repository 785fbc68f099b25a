use Rattle.std.proofs.Common.{◌∙◌, ap, sym, subst}
use Rattle.std.specs.BTreeMap.{is_at}
use Rattle.std.specs.Map.{lookup, remove_entry}
use Rattle.std.specs.Option.{is_some}
use Rattle.std.specs.Ordering.{nat_cmp}
use Rattle.std.specs.Bool.{IsTrue}
use Rattle.journal_records.specs.Stored.{Numbered, has_number}
use Rattle.journal_records.proofs.StoredLemmas.{stored_ended, staying_removed}
use Rattle.journal_records.proofs.live_cases.LiveCases.end_case.Goals as goal

pub invariant_of-self-2 : goal.invariant_of-self-2
invariant_of-self-2 c =
    let l = c.self.inside in
    stored_ended (has_number l.ended) (has_number c.insert.new.self) c.args.seq c.in-Ok.ensures.updates.0 l.stored.items c.self.invariant
    (subst (λ (v : Numbered). IsTrue (is_some (lookup (is_at (nat_cmp c.args.seq)) v.entries))) (sym c.self.view_is) c.requires)

pub returns-clause-entries : goal.returns-clause-entries
returns-clause-entries c =
    let l = c.self.inside in
    staying_removed (has_number l.ended) (has_number c.insert.new.self) c.args.seq c.in-Ok.ensures.updates.0 0 l.stored.items c.self.invariant.order
    ∙ ap (λ (v : Numbered). remove_entry (is_at (nat_cmp c.args.seq)) v.entries) c.self.view_is
