use Rattle.std.proofs.Common.{true, cond, ◌||◌, ap, ◌∙◌}
use Rattle.std.specs.Str.{bytes_eq}
use Rattle.std.proofs.lemmas.Map.Text.{is_eq-slice_cmp}
use Rattle.pruning.specs.KeptWords.{is_in}
use Rattle.pruning.proofs.KeptLemmas.{inserted}
use Rattle.pruning.proofs.kept.Kept.add_file.Goals as goal

pub returns-clause-names : goal.returns-clause-names
returns-clause-names c = λ name.
    c.in_ok-insert.ensures.updates.0 (record { ref_ptr = (0, 0); now = name })
    ∙ ap (λ t. cond t true (is_in c.add_id-2.new.self.names name)) (is_eq-slice_cmp c.args.file.now.name.now name)
    ∙ inserted (bytes_eq c.args.file.now.name.now name) (is_in c.add_id-2.new.self.names name)
    ∙ ap (λ t. t || bytes_eq c.args.file.now.name.now name) (c.in_ok-add_id-2.ensures.names name ∙ c.in_ok-add_id.ensures.names name)
