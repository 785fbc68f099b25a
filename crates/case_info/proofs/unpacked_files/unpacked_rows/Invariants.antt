use Rattle.std.proofs.Common.{◌≡◌, map, take}
use Rattle.build_replies.specs.Mapped.{build_view}
use Rattle.journal_layout.specs.Case.{case_of}
use Rattle.case_info.specs.Unpacking.{unpacked_of, unpacked_view}
use Rattle.case_info.proofs.unpacked_files.unpacked_rows.Given as goal

-- those that went by are kept
abbrev pub invariant-loop-row : goal.invariant-loop-row
invariant-loop-row l = map unpacked_view l.files.items ≡ map (unpacked_of (map case_of l.cases)) (map build_view (take l.row-index l.rows))
