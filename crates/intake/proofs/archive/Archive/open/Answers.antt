use Rattle.std.proofs.Common.{◌∙◌, refl, rules}
use Rattle.intake.proofs.RestLemmas.{stands_now}
use Rattle.intake.proofs.archive.Archive.open.Goals as goal

pub invariant_of-result : goal.invariant_of-result
invariant_of-result g c = let h = c.in-Ok.ensures.sound c.args.settings.limit in h

pub returns-in-Ok : goal.returns-in-Ok
returns-in-Ok g c = record {
  gives = search rules;
  found = search rules;
  found_again = search rules;
  state = search rules;
  settled = λ honest b may.
      let running = (c.in-Ok.ensures.sound c.args.settings.limit).sound.runs refl in
      stands_now g.D.Disk c.open_parts.new.disk c.in-Ok.opened.journal running.keeps running.journal (c.open_parts.ensures.disk.honesty ∙ honest) b may;
  any_moment = search rules;
  seen = search rules;
  cause = search rules;
  later = search rules;
  honesty = search rules;
  size = search rules;
}
