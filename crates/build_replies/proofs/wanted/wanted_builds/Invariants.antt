use Rattle.std.proofs.Common.{◌≡◌, map, take}
use Rattle.build_replies.specs.Builds.{id_in, wants_of}
use Rattle.build_replies.specs.BuildsWords.{wanted_view}
use Rattle.build_replies.specs.Mapped.{build_view}
use Rattle.build_replies.specs.TableWords.{path_of, table_rows}
use Rattle.build_replies.proofs.wanted.wanted_builds.Given as goal

-- those of the files that went by, and their IDs
abbrev pub invariant-loop-row : goal.invariant-loop-row
invariant-loop-row l = record {
  ids : map path_of (table_rows l.ids) ≡ map id_in (map wanted_view l.builds.items);
  builds : map wanted_view l.builds.items ≡ wants_of (map build_view (take l.row-index l.rows));
}
