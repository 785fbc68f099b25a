use Rattle.std.proofs.Common.{Ok, take, ap, sym, ◌∙◌}
use Rattle.std.specs.Result.{result_err}
use Rattle.elf_view.specs.ViewWords.{header_of}
use Rattle.elf_view.specs.declared.faults.Want.TheVariants.{Exec}
use Rattle.case_screens.specs.Core.{header_in, unless}
use Rattle.case_info.proofs.FrontLemmas.{header_same, says_same}
use Rattle.case_info.proofs.front.header_in.Goals as goal

pub returns-in-Ok : goal.returns-in-Ok
returns-in-Ok c = λ image is.
    let front = c.args.front.now in
    ap (λ h. Ok h) (c.header.ensures ∙ ap header_of c.in-Ok.ensures.image)
    ∙ ap (λ f. unless f (header_of front)) (sym (ap result_err c.in-Ok.is) ∙ c.read.ensures.fault)
    ∙ says_same header_in Exec front image (λ b n whole sound. header_same _ b ((c.soundness_has_no_order.ensures.accepted Exec (take n b)).0 sound)
    ((c.soundness_has_no_order.ensures.accepted Exec b).0 (c.a_sound_front_is_enough.ensures.sound Exec b n whole sound)) (c.a_sound_front_is_enough.ensures.header b n whole)) is

pub returns-in-Err : goal.returns-in-Err
returns-in-Err c = λ image is.
    let front = c.args.front.now in
    ap (λ f. unless f (header_of front)) (sym (ap result_err c.in-Err.is) ∙ c.read.ensures.fault)
    ∙ says_same header_in Exec front image (λ b n whole sound. header_same _ b ((c.soundness_has_no_order.ensures.accepted Exec (take n b)).0 sound)
    ((c.soundness_has_no_order.ensures.accepted Exec b).0 (c.a_sound_front_is_enough.ensures.sound Exec b n whole sound)) (c.a_sound_front_is_enough.ensures.header b n whole)) is
