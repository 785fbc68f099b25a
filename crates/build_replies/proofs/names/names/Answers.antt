use Rattle.std.proofs.Common.{rules}
use Rattle.core_notes.specs.FileList.{files_of}
use Rattle.core_notes.specs.FileWords.{file_view, files_bytes, files_left}
use Rattle.build_replies.specs.TableWords.{table_rows}
use Rattle.build_replies.proofs.NameLemmas.{names_start, names_on, names_end}
use Rattle.build_replies.proofs.names.names.Goals as goal

pub loop-map-init : goal.loop-map-init
loop-map-init c = record {
  can_next = tt;
  is_finite = tt;
  so_far = names_start (files_of (files_bytes c.args.files.now)) _ (table_rows c.new-table.result) c.new-table.ensures (search rules);
}

pub loop-map-preserved : goal.loop-map-preserved
loop-map-preserved c = record {
  can_next = tt;
  is_finite = tt;
  so_far = names_on _ _ _ _ _ (file_view c.in-Some.map) c.loop-map.invariant.so_far c.in-Some.ensures.steps c.in_ok-add_name.ensures;
}

pub returns : goal.returns
returns c = names_end _ (files_left c.loop-map.map-iterator) _ c.loop-map.invariant.so_far c.in-None.ensures.steps.0
