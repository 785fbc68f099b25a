use Rattle.std.proofs.Common.{◌≡◌, map, take}
use Rattle.case_unpacking.specs.PlaceViews.{file_said}
use Rattle.case_info.specs.Unpacking.{unpacked_view}
use Rattle.case_unpacking.specs.Contents.{files_said}
use Rattle.case_unpacking.proofs.contents.named_cases.Given as goal

-- those of the files that went by
abbrev pub invariant-loop-file : goal.invariant-loop-file
invariant-loop-file l = map file_said l.named.items ≡ files_said (map unpacked_view (take l.file-index l.files))
