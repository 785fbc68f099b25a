use Rattle.std.proofs.Common.{ℕ, ap, ◌∙◌}
use Rattle.std.specs.BTreeSet.{contains_by}
use Rattle.arrayvec.specs.ArrayVec.{ArrayVec}
use Rattle.journal_records.specs.Named.{key_cmp}
use Rattle.intake.proofs.names.has_name.Goals as goal

pub returns : goal.returns
returns c = c.contains.ensures ∙ ap (λ (k : ℕ × ArrayVec ℕ). contains_by (key_cmp k) c.args.names.now) c.name_key.ensures
