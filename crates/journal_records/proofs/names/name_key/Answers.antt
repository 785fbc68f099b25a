use Rattle.std.proofs.Common.{ℕ, List, ap, ◌∙◌}
use Rattle.arrayvec.specs.ArrayVec.{ArrayVec}
use Rattle.journal_records.specs.Named.{last_number, key_of}
use Rattle.journal_records.proofs.names.name_key.Goals as goal

pub returns : goal.returns
returns c =
    let got = rw c.unwrap.ensures at c.try_from.ensures in
    ap (λ (n : ℕ). let k : ℕ × ArrayVec ℕ = (n, c.unwrap.result) in k) c.last_number.ensures
    ∙ ap (λ (l : List ℕ). let k : ℕ × ArrayVec ℕ = (last_number c.as_slice-bytes.result.now, record { items = l }) in k) got.0
    ∙ ap key_of c.as_slice-bytes.ensures.value
