use Rattle.std.proofs.Common.{map, refl, ◌∙◌}
use Rattle.build_replies.specs.ChoosingWords.{choice_view}
use Rattle.image_replies.specs.CoreWords.{core_bytes}
use Rattle.memory_replies.specs.Memory.{attached_view}
use Rattle.frame_replies.specs.WalkLaws.{frame_missing, walk_begins, walk_goes_on}
use Rattle.frame_replies.proofs.AnswerLemmas.{no_memory, refused, whole_image}
use Rattle.frame_replies.proofs.registers.print_frame.Goals as goal

pub returns-in_default : goal.returns-in_default
returns-in_default g c = (_, no_memory _ _ c.print_no_memory.ensures.outcome, c.print_no_memory.ensures.states)

pub returns-in_default-of : goal.returns-in_default-of
returns-in_default-of g c = (_, no_memory _ _ c.print_no_memory-in_default-of.ensures.outcome, c.print_no_memory-in_default-of.ensures.states)

pub returns-in_default-of-2 : goal.returns-in_default-of-2
returns-in_default-of-2 g c = (_, no_memory _ _ c.print_no_memory-in_default-of-2.ensures.outcome, c.print_no_memory-in_default-of-2.ensures.states)

pub returns-in_default-begin : goal.returns-in_default-begin
returns-in_default-begin g c =
    let b = core_bytes c.args.core.now in
    let xs = map attached_view c.args.attached.now in
    (_, refused _ _ (frame_missing b xs c.args.thread c.in_default-begin.ensures c.args.frame), c.print_no.ensures)

pub returns-in-Ok-go_on : goal.returns-in-Ok-go_on
returns-in-Ok-go_on g c =
    let b = core_bytes c.args.core.now in
    let xs = map attached_view c.args.attached.now in
    let p = c.in-Ok-of-2.process in
    let whole = whole_image b c.image-image.result.now _ (c.image-image.ensures ∙ c.elf.ensures.image) refl in
    let begun = walk_begins b b xs (choice_view c.in-Ok.chosen) c.args.thread p c.in-Some.begun c.in-Ok-of-2.ensures c.in-Ok.ensures refl refl refl c.in-Some.ensures in
    let now = walk_goes_on b xs c.args.thread p c.in-Some.begun c.go_on.new.self begun (c.in-Ok-go_on.ensures.walks b whole) in
    c.print_walked_frame.ensures b xs c.args.thread p c.in-Ok-go_on.field-0 now c.in-Ok-go_on.ensures.told

pub returns : goal.returns
returns g c = (_, no_memory _ _ c.print_no_memory-in-Err.ensures.outcome, c.print_no_memory-in-Err.ensures.states)
