use Rattle.std.proofs.Common.{◌≡◌, List, None, Ok, Vec, Global, inr, map, refl, subst, sym, ap, ◌∙◌}
use Rattle.std.specs.Prelude.{codes}
use Rattle.build_replies.specs.Builds.{NamedId}
use Rattle.build_replies.specs.Choosing.{choice_of}
use Rattle.frame_replies.specs.Processes.{state_of}
use Rattle.frame_replies.specs.Walking.{BeginsAt}
use Rattle.memory_replies.specs.Memory.{attached_view}
use Rattle.case_queries.specs.Asking.{for_frames}
use Rattle.case_queries.specs.Pieces.{SeesPieces}
use Rattle.case_queries.specs.ToldWords.{ShowsTold}
use Rattle.case_queries.specs.declared.window.Part.{Part}
use Rattle.case_queries.proofs.FindLemmas.{memory_outcome}
use Rattle.case_queries.proofs.FramesLemmas.{missing_in, missing_shown}
use Rattle.case_queries.proofs.frames.frames_in_core.Goals as goal

pub returns-in_default : goal.returns-in_default
returns-in_default g c before sees =
    let image = c.args.image in
    let xs = map attached_view c.args.attached.now in
    let none = subst (λ b. state_of b c.args.thread ≡ None) c.requires.front c.in_default.ensures in
    (_, missing_shown g.D.Disk before c.args.archive.now image c.args.told.pieces.items xs c.args.thread c.args.asked sees (missing_in c.a_sound_front_is_enough.ensures.notes image c.requires.sound c.args.thread sees.0 sees.2.0 none), (codes "NoThread", refl), c.print_no.ensures)

pub returns-in_default-of : goal.returns-in_default-of
returns-in_default-of g c before sees = (_, (Ok sees.0, sees.1, (sees.2.0, inr refl)), memory_outcome _ c.print_no_memory.ensures.done, c.print_no_memory.ensures.states)

pub returns-in_default-of-2 : goal.returns-in_default-of-2
returns-in_default-of-2 g c before sees = (_, (Ok sees.0, sees.1, (sees.2.0, inr refl)), memory_outcome _ c.print_no_memory-in_default-of-2.ensures.done, c.print_no_memory-in_default-of-2.ensures.states)

pub returns-in-Ok-process_in_core : goal.returns-in-Ok-process_in_core
returns-in-Ok-process_in_core g c before sees =
    let o = c.args.image in
    let xs = map attached_view c.args.attached.now in
    let begins = subst (λ b. BeginsAt (state_of b c.args.thread) c.in-Some.begun) c.requires.front c.in-Some.ensures in
    let picked = c.in-Ok.ensures ∙ ap (λ (ts : List NamedId). choice_of ts xs) c.listed.ensures in
    let walks = c.in-Ok-process_in_core.ensures.walks o xs c.requires.front c.requires.sound c.requires.told picked in
    let same = ap (λ (v : Vec Part Global). v.items) c.in-Ok-process_in_core.ensures.pieces in
    let told = c.frames_of_walk.ensures before xs c.args.thread (subst (λ ps. SeesPieces g.D.Disk before o ps c.args.archive.now) (sym same) sees) (λ b has. walks.begins c.args.thread c.in-Some.begun begins b has) in
    (told.0, subst (λ ps. ShowsTold g.D.Disk before o ps xs (for_frames c.args.thread c.args.asked) told.0 c.frames_of_walk.new.archive) same told.1, told.2, told.3)

pub returns-in-Err : goal.returns-in-Err
returns-in-Err g c before sees = (_, (Ok sees.0, sees.1, (sees.2.0, inr refl)), memory_outcome _ c.print_no_memory-in-Err.ensures.done, c.print_no_memory-in-Err.ensures.states)
