use Rattle.std.proofs.Common.{ℕ, ap, ◌∙◌, cond, false}
use Rattle.std.specs.Ordering.{is_eq}
use Rattle.arrayvec.specs.ArrayVec.{ArrayVec}
use Rattle.journal_records.specs.Named.{has_name, key_of, key_cmp}
use Rattle.journal_records.specs.NamedLaws.{same_key}
use Rattle.intake.proofs.names.forget_name.Goals as goal

pub returns : goal.returns
returns c q =
    c.remove.ensures.updates.0 (key_of q)
    ∙ ap (λ (k : ℕ × ArrayVec ℕ). cond (is_eq (key_cmp k (key_of q))) false (has_name c.args.names.now q)) c.name_key.ensures
    ∙ ap (λ t. cond t false (has_name c.args.names.now q)) (same_key c.args.name.now.items q)
