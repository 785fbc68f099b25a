use Rattle.std.specs.List.{flat_map}
use Rattle.script_streams.specs.Printing.{sink}
use Rattle.core_notes.specs.FileWords.{files_left}
use Rattle.image_replies.specs.Files.{file_line}
use Rattle.image_replies.proofs.TextLemmas.{PrintsFront}
use Rattle.image_replies.proofs.files.print_file_lines.Given as goal

-- the lines of what is left are still to be told
abbrev pub invariant-loop-map : goal.invariant-loop-map
invariant-loop-map g l = PrintsFront (sink g.O.Output l.initial.reply) (sink g.O.Output l.reply) (flat_map file_line (files_left l.fn.maps)) (flat_map file_line (files_left l.rest))
