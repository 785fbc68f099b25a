use Rattle.std.proofs.Common.{◌≡◌, ◌++◌, map, take}
use Rattle.build_replies.specs.Mapped.{id_view}
use Rattle.build_replies.specs.NameWords.{file_name, name_bytes}
use Rattle.build_replies.specs.TableWords.{path_of, table_rows}
use Rattle.build_replies.proofs.stored_names.StoredNames.of.Given as goal

-- those of the files, and of the builds that went by
abbrev pub invariant-loop-build : goal.invariant-loop-build
invariant-loop-build l = map path_of (table_rows l.names) ≡ map file_name (map id_view l.files) ++ map name_bytes (take l.build-index l.builds)
