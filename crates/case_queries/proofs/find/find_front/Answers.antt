use Rattle.std.proofs.Common.{refl}
use Rattle.image_replies.specs.Reasons.{core_reason}
use Rattle.case_queries.specs.Asking.{asking_of}
use Rattle.case_queries.proofs.FindAskLemmas.{fault_asked, front_asked}
use Rattle.case_queries.proofs.find.find_front.Goals as goal

pub returns-in-Ok-clause-answers : goal.returns-in-Ok-clause-answers
returns-in-Ok-clause-answers g c before kind reads =
    let image = c.args.image in
    let told = c.ask_core.ensures.answers before reads in
    (told.0, front_asked g.D.Disk c.a_sound_front_answers.ensures.fault before c.ask_core.new.archive image (asking_of c.args.asked) told.0 kind c.requires.sound c.in-Ok.ensures.fault told.1, told.2, told.3)

pub returns-in-Err-clause-answers : goal.returns-in-Err-clause-answers
returns-in-Err-clause-answers g c before kind reads =
    let image = c.args.image in
    (_, fault_asked g.D.Disk c.a_sound_front_answers.ensures.fault before c.args.archive.now image (asking_of c.args.asked) kind c.in-Err.fault c.requires.has c.requires.short c.requires.sound c.in-Err.ensures.fault reads, (core_reason c.in-Err.fault, refl), c.print_core_fault.ensures)
