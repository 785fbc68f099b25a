use Rattle.core_notes.specs.FileList.{files_of}
use Rattle.core_notes.specs.FileWords.{files_bytes, files_left}
use Rattle.build_replies.specs.TableWords.{table_rows}
use Rattle.build_replies.proofs.NameLemmas.{AreSoFar}
use Rattle.build_replies.proofs.names.names.Given as goal

-- the names of all are those in the table, and those that are left and not in it
abbrev pub invariant-loop-map : goal.invariant-loop-map
invariant-loop-map l = record {
  can_next : goal.iterator-loop-map.can_next l.map-iterator;
  is_finite : goal.iterator-loop-map.is_finite l.map-iterator;
  so_far : AreSoFar (files_of (files_bytes l.files)) (table_rows l.table) (files_left l.map-iterator);
}
