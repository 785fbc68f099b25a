use Rattle.std.proofs.Common.{true, cond, ap, ◌∙◌}
use Rattle.std.proofs.lemmas.Map.Text.{is_eq-slice_cmp}
use Rattle.core_notes.specs.FileWords.{file_view}
use Rattle.memory_replies.specs.FileNameWords.{is_in}
use Rattle.memory_replies.proofs.FileNameLemmas.{one_kept}
use Rattle.memory_replies.proofs.file_names.FileNames.listed.Goals as goal

pub loop-map-preserved : goal.loop-map-preserved
loop-map-preserved c = record {
  can_next = tt;
  is_finite = tt;
  same = λ name.
      one_kept _ (is_in c.loop-map.names name) _ name (file_view c.in-Some.map) _ _ (c.loop-map.invariant.same name) c.in-Some.ensures.steps
      (c.in_ok-insert.ensures.updates.0 (record { ref_ptr = (0, 0); now = name })
      ∙ ap (λ t. cond t true (is_in c.loop-map.names name)) (is_eq-slice_cmp c.in-Some.map.name.now name));
}
