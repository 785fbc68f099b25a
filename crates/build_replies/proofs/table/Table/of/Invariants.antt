use Rattle.std.proofs.Common.{◌≡◌, map, take}
use Rattle.address_space.specs.SpaceWords.{attached_view}
use Rattle.build_replies.specs.TableWords.{table_rows}
use Rattle.build_replies.proofs.table.Table.of.Given as goal

-- those that went by are in the table
abbrev pub invariant-loop-executable : goal.invariant-loop-executable
invariant-loop-executable l = table_rows l.table ≡ map attached_view (take l.executable-index l.executables)
