use Rattle.std.proofs.Common.{[], rules}
use Rattle.word_tests.proofs.streams.next_bytes.Goals as goal

pub shape_of-script : goal.shape_of-script
shape_of-script c =
    let told = c.next_raw.ensures.states _ _ _ [] c.new-reply.ensures.told in
    search (told.same, rules)
