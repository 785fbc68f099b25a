use Rattle.std.proofs.Common.{◌≡◌, ◌+◌, ◌-◌, ap, ◌∙◌, take, drop, arith}
use Rattle.disk_model.specs.Places.{part}
use Rattle.journal_records.proofs.label.label_at.Goals as goal

pub returns : goal.returns
unfolding part
returns c =
    let got = rw c.unwrap.ensures at c.try_from.ensures in
    let rest = c.args.rest.now in
    let n = c.u16_at-length.result in
    let e : 16 + n - 16 ≡ n = omega arith in
    got.0
    ∙ ap (λ k. take k (drop 16 rest)) e
    ∙ ap (λ k. take k (drop 16 rest)) c.u16_at-length.ensures
