use Rattle.std.proofs.Common.{◌≡◌, ◌<◌, ℕ, Option, length, subst, sym, ◌∙◌, IfSome, rules}
use Rattle.std.specs.List.{HoldsAt}
use Rattle.std.proofs.lemmas.List.Sorted.{answers_always}
use Rattle.journal_layout.specs.declared.entry.Entry.{Entry}
use Rattle.journal_records.specs.Stored.{has_number}
use Rattle.journal_records.proofs.StoredLemmas.{place_found, staying_none, staying_ended}
use Rattle.journal_records.proofs.live_cases.place_of.Goals as goal

pub returns-then-contains-clause-absent : goal.returns-then-contains-clause-absent
returns-then-contains-clause-absent c none =
    staying_ended (has_number c.args.ended.now) c.args.seq c.args.stored.now (sym c.contains.ensures ∙ c.if-contains.true)

pub returns-clause-found : goal.returns-clause-found
returns-clause-found c =
    let facts = c.binary_search_by_key.ensures in
    let by_key = facts.position (λ (e : Entry). e.seq) (answers_always _ _ _ (λ f a r g called. search rules)) in
    subst (λ (o : Option ℕ). IfSome o (λ place. (place < length c.args.stored.now) × HoldsAt (λ (e : Entry). e.seq ≡ c.args.seq) c.args.stored.now place)) (sym c.ok.ensures.value)
    (place_found c.args.seq c.args.stored.now c.binary_search_by_key.result c.requires facts.bound by_key).0

pub returns-clause-absent : goal.returns-clause-absent
returns-clause-absent c none =
    let facts = c.binary_search_by_key.ensures in
    let by_key = facts.position (λ (e : Entry). e.seq) (answers_always _ _ _ (λ f a r g called. search rules)) in
    staying_none (has_number c.args.ended.now) c.args.seq c.args.stored.now
    ((place_found c.args.seq c.args.stored.now c.binary_search_by_key.result c.requires facts.bound by_key).1 (sym c.ok.ensures.value ∙ none))
