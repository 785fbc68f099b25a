use Rattle.std.proofs.Common.{◌≤◌, length, subst, ◌∙◌, sym, arith}
use Rattle.elf_view.specs.Sound.{IsHeaderWhole, IsSound}
use Rattle.elf_view.specs.ViewWords.{image_of}
use Rattle.elf_view.specs.declared.faults.Want.TheVariants.{Exec}
use Rattle.build_ids.proofs.FrontIds.{id_by_front, other_file}
use Rattle.build_ids.specs.Fronts.{BeginsWith}
use Rattle.build_ids.proofs.front.build_id_by_front.Goals as goal

pub returns-then-not-starts_with : goal.returns-then-not-starts_with
returns-then-not-starts_with c image begins =
    let long = c.if-count-ge-FILE_HEADER.true in
    other_file c.args.front.now image begins.1 (omega (arith, long)) (sym c.starts_with.ensures.value ∙ c.if-not-starts_with.true)

pub returns : goal.returns
returns c image begins =
    let elf = c.in-Ok.elf in
    let front = image_of elf in
    let cut = subst (λ f. BeginsWith f c.args.size image) (sym c.in-Ok.ensures.image) begins in
    let sound = c.a_sound_front_is_enough.ensures.sound Exec image (length front) (subst IsHeaderWhole cut.1 elf.whole) (subst (IsSound Exec) cut.1 (subst (λ w. IsSound w front) c.in-Ok.ensures.want elf.sound)) in
    let before = c.if-count-wanted.false in
    c.id_of.ensures
    ∙ id_by_front front image c.args.size c.last_end-wanted.result cut.0 cut.1 (subst (λ f. c.last_end-wanted.result ≤ length f) (sym c.in-Ok.ensures.image) before) elf.whole ((c.soundness_has_no_order.ensures.accepted Exec image).0 sound) c.last_end-wanted.ensures.has
