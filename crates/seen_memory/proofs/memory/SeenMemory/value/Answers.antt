use Rattle.std.proofs.Common.{sym, ◌∙◌}
use Rattle.seen_memory.proofs.Bytes.{value_is}
use Rattle.seen_memory.proofs.Files.{first_is, some_bytes}
use Rattle.seen_memory.specs.Seen.{space_by}
use Rattle.seen_memory.proofs.memory.SeenMemory.value.Goals as goal

pub returns-in-FromFile : goal.returns-in-FromFile
returns-in-FromFile c image is =
    let content = c.in-FromFile.ensures.content image is.begins in
    let space = space_by c.args.self.now image in
    let some = some_bytes space c.args.address c.in-FromFile.bytes.now content in
    c.copied.ensures ∙ c.first.ensures.value ∙ first_is c.in-FromFile.bytes.now some ∙ sym (value_is space c.args.address _ content)
