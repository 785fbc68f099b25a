use Rattle.std.proofs.Common.{◌≡◌, map, take}
use Rattle.build_replies.specs.Mapped.{id_view}
use Rattle.build_replies.specs.NameWords.{builds_named, name_bytes}
use Rattle.build_replies.proofs.stored_names.build_names.Given as goal

-- those of the files that went by
abbrev pub invariant-loop-file : goal.invariant-loop-file
invariant-loop-file l = map name_bytes l.names.items ≡ builds_named (map id_view (take l.file-index l.files))
