use Rattle.std.proofs.Common.{length, refl, sym, ap, subst, ◌∙◌, arith}
use Rattle.std.proofs.lemmas.List.{take_all}
use Rattle.image_replies.specs.CoreWords.{core_bytes}
use Rattle.build_replies.specs.Mapped.{AreIdsOf, IsFoundOf}
use Rattle.build_replies.specs.ToldLaws.{found_ids, missing_ids}
use Rattle.build_replies.proofs.ids.told_ids.Goals as goal

pub returns-in_ok-all_ids-in-Some : goal.returns-in_ok-all_ids-in-Some
returns-in_ok-all_ids-in-Some c =
    let b = core_bytes c.args.core.now in
    let image = c.image-image.result.now in
    let m = c.in-Some.mapped in
    let ids = c.in_ok-all_ids-in-Some.field-0.items in
    let same = c.image-image.ensures ∙ c.elf.ensures.image in
    found_ids b b (length image) m ids (sym (ap length same), sym (take_all (length b) b (omega arith))) refl
    (subst (IsFoundOf b (length image)) c.in-Some.is c.in_ok-mapped.ensures)
    (subst (λ x. AreIdsOf x m ids) same c.in_ok-all_ids-in-Some.ensures)

pub returns-in-None : goal.returns-in-None
returns-in-None c =
    let b = core_bytes c.args.core.now in
    let n = length c.image-image.result.now in
    missing_ids b b n refl (subst (IsFoundOf b n) c.in-None.is c.in_ok-mapped.ensures)
