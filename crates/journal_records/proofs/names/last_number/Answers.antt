use Rattle.std.proofs.Common.{◌-◌, length, drop, cond, sym, ap, ◌∙◌}
use Rattle.std.proofs.lemmas.Bool.{lt-ltb, le-ltb}
use Rattle.byteorder.specs.Endian.{big_number}
use Rattle.journal_records.specs.Named.{last_number}
use Rattle.journal_records.proofs.names.last_number.Goals as goal

pub returns-then-bytes-lt8 : goal.returns-then-bytes-lt8
unfolding last_number
returns-then-bytes-lt8 c =
    let bytes = c.args.bytes.now in
    sym (ap (λ t. cond t 0 (big_number 8 (drop (length bytes - 8) bytes))) (lt-ltb (length bytes) 8 c.if-bytes-lt8.true))

pub returns : goal.returns
unfolding last_number
returns c =
    let bytes = c.args.bytes.now in
    c.read_u64.ensures
    ∙ ap (big_number 8) c.split_at.ensures.back
    ∙ sym (ap (λ t. cond t 0 (big_number 8 (drop (length bytes - 8) bytes))) (le-ltb (length bytes) 8 c.if-bytes-lt8.false))
