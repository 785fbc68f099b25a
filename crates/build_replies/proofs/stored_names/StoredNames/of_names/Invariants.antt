use Rattle.std.proofs.Common.{◌≡◌, map, take}
use Rattle.build_replies.specs.NameWords.{name_bytes}
use Rattle.build_replies.specs.TableWords.{path_of, table_rows}
use Rattle.build_replies.proofs.stored_names.StoredNames.of_names.Given as goal

-- those that went by
abbrev pub invariant-loop-name : goal.invariant-loop-name
invariant-loop-name l = map path_of (table_rows l.table) ≡ map name_bytes (take l.name-index l.names)
