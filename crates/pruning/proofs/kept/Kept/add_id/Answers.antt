use Rattle.std.proofs.Common.{true, cond, ◌||◌, ap, sym, ◌∙◌}
use Rattle.std.specs.Str.{bytes_eq}
use Rattle.std.proofs.lemmas.Map.Text.{is_eq-slice_cmp}
use Rattle.pruning.specs.Cases as spec
use Rattle.pruning.specs.KeptWords.{is_in}
use Rattle.pruning.proofs.KeptLemmas.{inserted}
use Rattle.pruning.proofs.kept.Kept.add_id.Goals as goal

pub returns-in_ok-insert-clause-ids : goal.returns-in_ok-insert-clause-ids
returns-in_ok-insert-clause-ids c = λ other.
    c.in_ok-insert.ensures.updates.0 (record { ref_ptr = (0, 0); now = other })
    ∙ ap (λ t. cond t true (is_in c.args.self.now.ids other)) (is_eq-slice_cmp c.in-Some.id.now other)
    ∙ inserted (bytes_eq c.in-Some.id.now other) (is_in c.args.self.now.ids other)
    ∙ ap (λ o. is_in c.args.self.now.ids other || spec.is_id other o) (sym c.in-Some.is)
