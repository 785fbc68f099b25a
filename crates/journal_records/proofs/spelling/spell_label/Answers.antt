use Rattle.std.proofs.Common.{◌≡◌, false, true, ℕ, List, [], ◌∷◌, ◌++◌, ap, ◌∙◌, arith}
use Rattle.journal_layout.specs.Record.{Label, plain}
use Rattle.journal_records.proofs.SpellingLemmas.{resized_open}
use Rattle.journal_records.proofs.spelling.spell_label.Goals as goal

pub returns-in_err-reserve-clause-succeeds : goal.returns-in_err-reserve-clause-succeeds
returns-in_err-reserve-clause-succeeds c capacity_left =
    let ok = c.reserve.ensures.succeeds (omega (arith, capacity_left, c.label_size-size.ensures.bytes, c.clear.ensures.len, c.clear.ensures.capacity)) in
    let no : false ≡ true = rw c.in_err-reserve.was at ok in
    absurd (cc)

pub returns-clause-record : goal.returns-clause-record
returns-clause-record c =
    let r = Label c.args.seq c.args.label.now in
    let v = c.put_label.new.bytes in
    let empty = c.reserve.ensures.items ∙ c.clear.ensures.items in
    c.fill.ensures.items
    ∙ resized_open r v.items v.len c.label_size-size.result
    (c.put_label.ensures.items ∙ ap (λ (l : List ℕ). l ++ plain r) (c.put.ensures.items ∙ ap (λ (l : List ℕ). l ++ 165 ∷ []) empty)) (c.label_size-size.ensures.record c.args.seq) v.ok.0
