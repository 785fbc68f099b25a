use Rattle.std.proofs.Common.{ap}
use Rattle.elf_view.specs.declared.faults.Want.TheVariants.{Core}
use Rattle.case_queries.specs.declared.kept_image.KeptImage.{KeptImage}
use Rattle.case_queries.proofs.WindowLemmas.{all_seen, whole_front_seen}
use Rattle.case_queries.proofs.window.see_parts.Goals as goal

pub returns-then-front-clause-seen : goal.returns-then-front-clause-seen
returns-then-front-clause-seen g c =
    let k = c.in_ok-front.front in
    let sees = whole_front_seen g.D.Disk c.args.archive.now c.see_front.new.archive c.args.seq c.args.size Core k c.requires.has c.in_ok-front.ensures.seen c.in_ok-front.ensures.kept c.in_ok-front.ensures.seq c.if-front.true in
    all_seen g.D.Disk c.args.archive.now c.see_front.new.archive c.args.seq c.args.query.now c.all_of.result k.image.items sees (ap (λ (x : KeptImage). x.image.items) c.all_of.ensures.kept) c.all_of.ensures.size c.all_of.ensures.part.0 c.all_of.ensures.part.1

pub returns-clause-kept : goal.returns-clause-kept
returns-clause-kept g c = c.see_more.ensures.kept c.args.archive.now c.requires.has c.in_ok-front.ensures.seen
