use Rattle.std.proofs.Common.{◌≡◌, ◌+◌, ◌-◌, ◌*◌, ◌<◌, drop, Some, sym, ap, ◌∙◌, arith, true, false}
use Rattle.std.specs.Option.{option_map}
use Rattle.journal_layout.specs.declared.faults.Field.TheVariants as named
use Rattle.journal_layout.specs.Layout.{field}
use Rattle.journal_layout.specs.Reading.{seqs_at}
use Rattle.journal_layout.specs.Checks.{damaged, first_bad_seq}
use Rattle.journal_records.specs.Live.{cases_of}
use Rattle.journal_records.proofs.DropLemmas.{is_bad, seq_bad, seq_good, seqs_next}
use Rattle.journal_records.proofs.dropped.check_seqs.Goals as goal

pub returns-then-is_bad_seq : goal.returns-then-is_bad_seq
returns-then-is_bad_seq c =
    let cases = cases_of c.args.live.now.entries in
    let p = 12 + 4 * c.loop-index.index in
    let some : 0 < c.u32_at-index-end.result - c.loop-index.index = omega arith in
    let bad : is_bad cases c.loop-index.last (field c.args.rest.now p 4) ≡ true =
    ap (is_bad cases c.loop-index.last) (sym c.u32_at-seq.ensures) ∙ sym c.is_bad_seq.ensures ∙ c.if-is_bad_seq.true in
    ap Some c.damaged.ensures
    ∙ ap (option_map (damaged c.args.at named.Seq))
    (sym (seq_bad cases c.loop-index.last p (c.u32_at-index-end.result - c.loop-index.index) c.args.rest.now some bad) ∙ c.loop-index.invariant)

pub loop-index-preserved : goal.loop-index-preserved
loop-index-preserved c =
    let cases = cases_of c.args.live.now.entries in
    let rest = c.args.rest.now in
    let p = 12 + 4 * c.loop-index.index in
    let n = c.u32_at-index-end.result - c.loop-index.index in
    let some : 0 < n = omega arith in
    let good : is_bad cases c.loop-index.last (field rest p 4) ≡ false =
    ap (is_bad cases c.loop-index.last) (sym c.u32_at-seq.ensures) ∙ sym c.is_bad_seq.ensures ∙ c.if-is_bad_seq.false in
    sym (seqs_next cases c.u32_at-seq.result c.loop-index.index c.u32_at-index-end.result rest)
    ∙ ap (λ k. first_bad_seq cases k (p + 4) (seqs_at (drop (p + 4) rest) (n - 1))) c.u32_at-seq.ensures
    ∙ sym (seq_good cases c.loop-index.last p n rest some good)
    ∙ c.loop-index.invariant
