use Rattle.std.proofs.Common.{[], rules}
use Rattle.word_tests.proofs.streams.print.Goals as goal

pub shape_of-script : goal.shape_of-script
shape_of-script c =
    let told = c.print.ensures _ _ _ [] c.new-reply.ensures.told in
    search (told.same, rules)
