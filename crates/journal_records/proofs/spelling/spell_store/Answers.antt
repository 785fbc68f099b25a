use Rattle.std.proofs.Common.{◌≡◌, false, true, ℕ, List, [], ◌∷◌, ◌++◌, ap, ◌∙◌, arith}
use Rattle.journal_layout.specs.Case.{case_of}
use Rattle.journal_layout.specs.Record.{Store, plain}
use Rattle.journal_records.specs.Spelling.{stored_as}
use Rattle.journal_records.proofs.SpellingLemmas.{resized_open}
use Rattle.journal_records.proofs.spelling.spell_store.Goals as goal

pub returns-in_err-reserve-clause-succeeds : goal.returns-in_err-reserve-clause-succeeds
returns-in_err-reserve-clause-succeeds c capacity_left =
    let ok = c.reserve.ensures.succeeds (omega (arith, capacity_left, c.short_size-size.ensures, c.clear.ensures.len, c.clear.ensures.capacity)) in
    let no : false ≡ true = rw c.in_err-reserve.was at ok in
    absurd (cc)

pub returns-clause-record : goal.returns-clause-record
returns-clause-record c =
    let r = Store (stored_as c.args.seq c.args.pinned (case_of c.args.entry.now)) in
    let v = c.put_store.new.bytes in
    let empty = c.reserve.ensures.items ∙ c.clear.ensures.items in
    c.fill.ensures.items
    ∙ resized_open r v.items v.len c.short_size-size.result
    (c.put_store.ensures.items ∙ ap (λ (l : List ℕ). l ++ plain r) (c.put.ensures.items ∙ ap (λ (l : List ℕ). l ++ 165 ∷ []) empty)) c.short_size-size.ensures v.ok.0
