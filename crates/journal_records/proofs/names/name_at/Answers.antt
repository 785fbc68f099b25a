use Rattle.std.proofs.Common.{◌≡◌, ◌+◌, ◌-◌, ◌*◌, ap, ◌∙◌, take, drop, arith}
use Rattle.disk_model.specs.Places.{part}
use Rattle.journal_layout.specs.Reading.{name_place}
use Rattle.journal_records.proofs.names.name_at.Goals as goal

pub returns : goal.returns
unfolding part
returns c =
    let got = rw c.unwrap.ensures at c.try_from.ensures in
    let rest = c.args.rest.now in
    let p = 48 + 8 * c.u32_at.result in
    let e : p + c.u16_at-length.result - p ≡ c.u16_at-length.result = omega arith in
    got.0
    ∙ ap (λ k. take k (drop p rest)) e
    ∙ ap (λ k. take c.u16_at-length.result (drop (48 + 8 * k) rest)) c.u32_at.ensures
    ∙ ap (λ k. take k (drop (name_place rest) rest)) c.u16_at-length.ensures
