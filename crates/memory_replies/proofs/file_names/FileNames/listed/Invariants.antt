use Rattle.std.proofs.Common.{◌≡◌, ℕ, List, ◌||◌}
use Rattle.std.specs.List.{list_any}
use Rattle.core_notes.specs.FileList.{files_of}
use Rattle.core_notes.specs.FileWords.{files_bytes, files_left}
use Rattle.memory_replies.specs.FileNameWords.{is_in}
use Rattle.memory_replies.specs.Memory.{has_name}
use Rattle.memory_replies.proofs.file_names.FileNames.listed.Given as goal

-- a name is one of those that went by or of those that are left
abbrev pub invariant-loop-map : goal.invariant-loop-map
invariant-loop-map l = record {
  can_next : goal.iterator-loop-map.can_next l.map-iterator;
  is_finite : goal.iterator-loop-map.is_finite l.map-iterator;
  same : (name : List ℕ) → list_any (has_name name) (files_of (files_bytes l.files)) ≡ (is_in l.names name || list_any (has_name name) (files_left l.map-iterator));
}
