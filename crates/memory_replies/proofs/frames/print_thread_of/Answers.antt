use Rattle.std.proofs.Common.{Ok, ap, ◌∙◌}
use Rattle.address_space.specs.SpaceWords.{space_of}
use Rattle.address_space.specs.Whole.{space_in}
use Rattle.image_replies.specs.CoreWords.{core_bytes}
use Rattle.thread_regs.specs.ThreadWords.{thread_bytes}
use Rattle.memory_replies.specs.Backtrace.{thread_lines}
use Rattle.memory_replies.specs.FunctionWords.{places_by}
use Rattle.memory_replies.specs.Memory.{mapped_files}
use Rattle.memory_replies.proofs.FrameLemmas.{desc_is, notes_in_front, thread_missing, thread_shown, walked}
use Rattle.memory_replies.proofs.WindowLemmas.{files_in_front, files_of_memory, memory_in}
use Rattle.memory_replies.proofs.AnswerLemmas.{refused, shown}
use Rattle.script_streams.specs.PrintLaws.{prints_then}
use Rattle.memory_replies.proofs.frames.print_thread_of.Goals as goal

pub returns-in_default : goal.returns-in_default
returns-in_default g c image xs has memory_is =
    let window = c.args.window in
    let notes = notes_in_front c.args.core.now image window.size c.args.thread window.bytes.now has c.a_sound_front_is_enough.ensures.notes in
    (_, refused _ _ (thread_missing image xs (places_by (mapped_files image) c.args.names.now) c.args.thread _ _ c.in_default.ensures c.threads.ensures (c.notes.ensures ∙ notes)), c.print_no.ensures)

pub returns : goal.returns
returns g c image xs has memory_is =
    let core = c.args.core.now in
    let window = c.args.window in
    let space = space_of c.args.space.now in
    let desc = thread_bytes c.in-Some.thread in
    let notes = notes_in_front core image window.size c.args.thread window.bytes.now has c.a_sound_front_is_enough.ensures.notes in
    let files = files_in_front core image window.size has.begins c.a_sound_front_names_the_files.ensures in
    let memory = memory_in (core_bytes core) image xs space memory_is files in
    let own = files_of_memory (core_bytes core) image xs space memory_is files in
    let found = desc_is (core_bytes core) c.args.thread _ _ _ c.in-Some.ensures c.threads.ensures c.notes.ensures in
    let other = walked core image window.size c.args.thread window.bytes.now has c.stack_in.result desc space xs memory_is c.stack_in.ensures.whole c.stack_in.ensures.part c.stack_in.ensures.short found in (
      _,
      shown _ _
          (ap (λ fs. Ok (thread_lines (space_in image space) (places_by fs c.args.names.now) desc)) own
          ∙ thread_shown image xs (places_by (mapped_files image) c.args.names.now) c.args.thread desc _ _ (space_in image space) c.in-Some.ensures c.threads.ensures (c.notes.ensures ∙ notes) memory),
      prints_then (c.print_thread.ensures (space_in image space) other) c.print_ok.ensures,
    )
