use Rattle.std.proofs.Common.{ℕ, List, ◌++◌, ap, ◌∙◌}
use Rattle.journal_layout.specs.Record.{Label, plain}
use Rattle.journal_records.proofs.SpellingLemmas.{resized}
use Rattle.journal_records.proofs.spelling.label_record.Goals as goal

pub returns-clause-record : goal.returns-clause-record
returns-clause-record c =
    let r = Label c.args.seq c.args.label.now in
    let v = c.put_label.new.bytes in
    c.fill.ensures.items
    ∙ resized r v.items v.len c.args.size
    (c.put_label.ensures.items ∙ ap (λ (l : List ℕ). l ++ plain r) c.in_ok-bytes.ensures.items) c.requires.size v.ok.0
