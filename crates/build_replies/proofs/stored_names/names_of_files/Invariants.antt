use Rattle.std.proofs.Common.{◌≡◌, map, take}
use Rattle.build_replies.specs.Mapped.{id_view}
use Rattle.build_replies.specs.NameWords.{file_name}
use Rattle.build_replies.specs.TableWords.{path_of, table_rows}
use Rattle.build_replies.proofs.stored_names.names_of_files.Given as goal

-- those of the files that went by
abbrev pub invariant-loop-file : goal.invariant-loop-file
invariant-loop-file l = map path_of (table_rows l.names) ≡ map file_name (map id_view (take l.file-index l.files))
