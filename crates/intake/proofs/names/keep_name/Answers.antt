use Rattle.std.proofs.Common.{◌≡◌, ap, ◌∙◌, cond, true, false, Bool, ◌||◌, ℕ, refl}
use Rattle.std.specs.Ordering.{is_eq}
use Rattle.std.specs.Str.{bytes_eq}
use Rattle.arrayvec.specs.ArrayVec.{ArrayVec}
use Rattle.journal_records.specs.Named.{has_name, key_of, key_cmp}
use Rattle.journal_records.specs.NamedLaws.{same_key}
use Rattle.intake.proofs.names.keep_name.Goals as goal

or_is : (t h : Bool) → cond t true h ≡ (t || h)
or_is true h = refl
or_is false h = refl

pub returns-in-Ok-clause-names : goal.returns-in-Ok-clause-names
returns-in-Ok-clause-names c q =
    c.in-Ok.ensures.updates.0 (key_of q)
    ∙ ap (λ (k : ℕ × ArrayVec ℕ). cond (is_eq (key_cmp k (key_of q))) true (has_name c.args.names.now q)) c.name_key.ensures
    ∙ ap (λ t. cond t true (has_name c.args.names.now q)) (same_key c.args.name.now.items q)
    ∙ or_is (bytes_eq c.args.name.now.items q) (has_name c.args.names.now q)
