use Rattle.std.proofs.Common.{◌≡◌, ◌<◌, ℕ, Option, length, subst, sym, ◌∙◌, IfSome, rules}
use Rattle.std.specs.List.{HoldsAt}
use Rattle.std.proofs.lemmas.List.Sorted.{answers_always}
use Rattle.journal_layout.specs.declared.entry.Entry.{Entry}
use Rattle.case_journal.proofs.SeqLemmas.{place_found}
use Rattle.case_journal.proofs.live_entries.place_of.Goals as goal

pub returns-clause-found : goal.returns-clause-found
returns-clause-found c =
    let facts = c.binary_search_by_key.ensures in
    let by_key = facts.position (λ (e : Entry). e.seq) (answers_always _ _ _ (λ f a r g called. search rules)) in
    subst (λ (o : Option ℕ). IfSome o (λ place. (place < length c.args.entries.now) × HoldsAt (λ (e : Entry). e.seq ≡ c.args.seq) c.args.entries.now place)) (sym c.ok.ensures.value)
    (place_found c.args.seq c.args.entries.now c.binary_search_by_key.result c.requires facts.bound by_key).0

pub returns-clause-absent : goal.returns-clause-absent
returns-clause-absent c none =
    let facts = c.binary_search_by_key.ensures in
    let by_key = facts.position (λ (e : Entry). e.seq) (answers_always _ _ _ (λ f a r g called. search rules)) in
    (place_found c.args.seq c.args.entries.now c.binary_search_by_key.result c.requires facts.bound by_key).1 (sym c.ok.ensures.value ∙ none)
