use Rattle.memory_replies.specs.Backtrace.{words_of}
use Rattle.backtrace.specs.MemoryWords.{words_in}
use Rattle.memory_replies.proofs.StackLemmas.{link_low, link_missing, links_known, pc_missing}
use Rattle.memory_replies.proofs.stack.is_link_known.Goals as goal

pub returns-then-fp-lt16 : goal.returns-then-fp-lt16
returns-then-fp-lt16 c says image front space is values = link_low (words_of space) (words_in c.args.stack.first c.args.stack.bytes.now) c.args.fp c.if-fp-lt16.true

pub returns-then-has_link : goal.returns-then-has_link
returns-then-has_link c says image front space is values =
    links_known space c.args.stack.first c.args.fp c.args.stack.bytes.now values c.word.result c.word-2.result c.word.ensures c.word-2.ensures c.if-has_pc.ensures c.if-has_link.ensures

pub returns-then-has_no_value : goal.returns-then-has_no_value
returns-then-has_no_value c says image front space is values =
    let none = rw c.elf.ensures.image at (c.has_no_value.ensures c.if-has_no_value.true) in
    pc_missing space c.args.stack.first c.args.fp c.args.stack.bytes.now values (none image front space is)

pub returns : goal.returns
returns c says image front space is values =
    let none = rw c.elf-2.ensures.image at (c.has_no_value-2.ensures says) in
    link_missing space c.args.stack.first c.args.fp c.args.stack.bytes.now values (none image front space is)
