use Rattle.std.proofs.Common.{◌≡◌}
use Rattle.core_notes.specs.DescriptorWords.{pairs_left}
use Rattle.frame_replies.specs.Processes.{start_among}
use Rattle.case_info.proofs.unpacked_files.start_among.Given as goal

-- the first of all is the first of those that are left
abbrev pub invariant-loop-pair : goal.invariant-loop-pair
invariant-loop-pair l = start_among (pairs_left l.fn.pairs) ≡ start_among (pairs_left l.rest)
