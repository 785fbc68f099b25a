use Rattle.std.proofs.Common.{ℕ, List, ◌++◌, ap, ◌∙◌}
use Rattle.journal_layout.specs.Case.{case_of, numbered}
use Rattle.journal_layout.specs.Record.{Store, plain}
use Rattle.journal_records.proofs.SpellingLemmas.{resized}
use Rattle.journal_records.proofs.spelling.store_record.Goals as goal

pub returns-clause-record : goal.returns-clause-record
returns-clause-record c =
    let r = Store (numbered c.args.seq (case_of c.args.entry.now)) in
    let v = c.put_store.new.bytes in
    c.fill.ensures.items
    ∙ resized r v.items v.len c.args.size
    (c.put_store.ensures.items ∙ ap (λ (l : List ℕ). l ++ plain r) c.in_ok-bytes.ensures.items) c.requires.size v.ok.0
