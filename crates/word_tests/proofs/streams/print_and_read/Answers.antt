use Rattle.std.proofs.Common.{[], rules}
use Rattle.word_tests.proofs.streams.print_and_read.Goals as goal

pub shape_of-script : goal.shape_of-script
shape_of-script c =
    let told = c.print.ensures _ _ _ [] c.new-reply.ensures.told in
    let read = c.next_line.ensures.states _ _ _ _ told in
    search (read.same, rules)
