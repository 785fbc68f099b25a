use Rattle.std.proofs.Common.{Ok, take}
use Rattle.std.specs.List.{slice_get}
use Rattle.core_notes.specs.Typed.{all_descs, first_desc}
use Rattle.elf_view.specs.declared.faults.Want.TheVariants.{Core}
use Rattle.image_replies.specs.Lines.{if_there}
use Rattle.image_replies.specs.Threads.{thread_lines, registers_of}
use Rattle.image_replies.specs.Process.{process_lines}
use Rattle.image_replies.specs.Signal.{signal_lines}
use Rattle.image_replies.specs.Auxv.{pair_lines}
use Rattle.image_replies.specs.Files.{file_lines}
use Rattle.image_replies.proofs.FrontLemmas.{header_answered, notes_answered, fault_same, core_answered}
use Rattle.image_replies.proofs.laws.a_sound_front_answers.Goals as goal

pub returns-clause-header : goal.returns-clause-header
returns-clause-header c want b n whole sound =
    header_answered (take n b) b want ((c.soundness_has_no_order.ensures.accepted want (take n b)).0 sound) ((c.soundness_has_no_order.ensures.accepted want b).0 (c.a_sound_front_is_enough.ensures.sound want b n whole sound))
    (c.a_sound_front_is_enough.ensures.header b n whole) (c.a_sound_front_is_enough.ensures.segments b n whole)

pub returns-clause-notes : goal.returns-clause-notes
returns-clause-notes c b n whole sound =
    notes_answered (take n b) b ((c.soundness_has_no_order.ensures.accepted Core (take n b)).0 sound) ((c.soundness_has_no_order.ensures.accepted Core b).0 (c.a_sound_front_is_enough.ensures.sound Core b n whole sound))
    (c.a_sound_front_is_enough.ensures.notes Core b n whole sound)

pub returns-clause-fault : goal.returns-clause-fault
returns-clause-fault c b n whole sound =
    fault_same (take n b) b ((c.soundness_has_no_order.ensures.accepted Core (take n b)).0 sound) ((c.soundness_has_no_order.ensures.accepted Core b).0 (c.a_sound_front_is_enough.ensures.sound Core b n whole sound))
    (c.a_sound_front_is_enough.ensures.notes Core b n whole sound)

pub returns-clause-threads : goal.returns-clause-threads
returns-clause-threads c b n whole sound =
    core_answered (take n b) b (λ notes. Ok (thread_lines (all_descs 1 notes)))
    ((c.soundness_has_no_order.ensures.accepted Core (take n b)).0 sound) ((c.soundness_has_no_order.ensures.accepted Core b).0 (c.a_sound_front_is_enough.ensures.sound Core b n whole sound)) (c.a_sound_front_is_enough.ensures.notes Core b n whole sound)

pub returns-clause-regs : goal.returns-clause-regs
returns-clause-regs c b n thread whole sound =
    core_answered (take n b) b (λ notes. registers_of (slice_get (all_descs 1 notes) thread))
    ((c.soundness_has_no_order.ensures.accepted Core (take n b)).0 sound) ((c.soundness_has_no_order.ensures.accepted Core b).0 (c.a_sound_front_is_enough.ensures.sound Core b n whole sound)) (c.a_sound_front_is_enough.ensures.notes Core b n whole sound)

pub returns-clause-process : goal.returns-clause-process
returns-clause-process c b n whole sound =
    core_answered (take n b) b (λ notes. if_there (first_desc 3 notes) process_lines)
    ((c.soundness_has_no_order.ensures.accepted Core (take n b)).0 sound) ((c.soundness_has_no_order.ensures.accepted Core b).0 (c.a_sound_front_is_enough.ensures.sound Core b n whole sound)) (c.a_sound_front_is_enough.ensures.notes Core b n whole sound)

pub returns-clause-signal : goal.returns-clause-signal
returns-clause-signal c b n whole sound =
    core_answered (take n b) b (λ notes. if_there (first_desc 0x53494749 notes) signal_lines)
    ((c.soundness_has_no_order.ensures.accepted Core (take n b)).0 sound) ((c.soundness_has_no_order.ensures.accepted Core b).0 (c.a_sound_front_is_enough.ensures.sound Core b n whole sound)) (c.a_sound_front_is_enough.ensures.notes Core b n whole sound)

pub returns-clause-auxv : goal.returns-clause-auxv
returns-clause-auxv c b n whole sound =
    core_answered (take n b) b (λ notes. if_there (first_desc 6 notes) pair_lines)
    ((c.soundness_has_no_order.ensures.accepted Core (take n b)).0 sound) ((c.soundness_has_no_order.ensures.accepted Core b).0 (c.a_sound_front_is_enough.ensures.sound Core b n whole sound)) (c.a_sound_front_is_enough.ensures.notes Core b n whole sound)

pub returns-clause-files : goal.returns-clause-files
returns-clause-files c b n whole sound =
    core_answered (take n b) b (λ notes. if_there (first_desc 0x46494c45 notes) file_lines)
    ((c.soundness_has_no_order.ensures.accepted Core (take n b)).0 sound) ((c.soundness_has_no_order.ensures.accepted Core b).0 (c.a_sound_front_is_enough.ensures.sound Core b n whole sound)) (c.a_sound_front_is_enough.ensures.notes Core b n whole sound)
