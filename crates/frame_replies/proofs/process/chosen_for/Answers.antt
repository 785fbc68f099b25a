use Rattle.std.proofs.Common.{List, map, ap, ◌∙◌, sym}
use Rattle.address_space.specs.SpaceWords.{attached_view}
use Rattle.image_replies.specs.CoreWords.{core_bytes}
use Rattle.build_replies.specs.Builds.{NamedId, told_or_none}
use Rattle.build_replies.specs.Choosing.{choice_for, choice_of}
use Rattle.build_replies.specs.ToldLaws.{told_all}
use Rattle.frame_replies.proofs.process.chosen_for.Goals as goal

pub returns : goal.returns
unfolding choice_for
returns c =
    let b = core_bytes c.args.core.now in
    let xs = map attached_view c.args.stored.now in
    let told = c.listed.ensures ∙ ap told_or_none c.in_ok-files.ensures ∙ sym (told_all b) in
    c.in_ok-of.ensures ∙ ap (λ (ts : List NamedId). choice_of ts xs) told
