use Rattle.intake.proofs.NameLemmas.{taken_dropped}
use Rattle.std.proofs.Common.{sym, refl, rules}
use Rattle.intake.proofs.ChangeLemmas.{stopped_quiet, taken_quiet}
use Rattle.intake.specs.StayLaws.{stays_still}
use Rattle.intake.proofs.SoundLemmas.{sound_dropped, stream_held}
use Rattle.intake.proofs.StepLemmas.{abandon_step, abandon_bytes}
use Rattle.intake.proofs.archive.Archive.abandon.Goals as goal

pub release-requires : goal.release-requires
release-requires g c =
    stream_held g.D.Disk c.self.inside.disk c.self.inside.journal c.self.inside.settings.limit c.self.inside.free c.self.inside.slots c.args.slot _ (c.self.invariant.sound.runs c.if-self.false) (sym c.in-Some.ensures.stream)

pub invariant_of-self-2 : goal.invariant_of-self-2
invariant_of-self-2 g c =
    record {
      sound =
          sound_dropped g.D.Disk c.self.inside.disk c.self.inside.disk c.self.inside.journal c.self.inside.settings.limit c.self.inside.free c.release.new.free c.self.inside.slots c.take.new.self c.args.slot _ c.self.inside.stopped
          c.self.invariant.sound c.if-self.false (sym c.in-Some.ensures.stream) c.in-Some.ensures.slots (c.self.invariant.sound.runs c.if-self.false).keeps c.release.ensures;
      taken = λ on. taken_dropped c.self.inside.journal.standing.cases c.self.inside.slots c.take.new.self c.args.slot _ c.self.inside.names c.forget_name.new.names (c.self.invariant.taken on) (sym c.in-Some.ensures.stream) c.in-Some.ensures.slots c.forget_name.ensures;
    }

pub returns-then-self : goal.returns-then-self
returns-then-self g c = record {
  step = search rules;
  bytes = search rules;
  disk = search rules;
  stays = stays_still g.D.Disk c.args.self.now _ refl refl;
  slots = search rules;
  quiet = rw (← c.self.view_is) (stopped_quiet g.D.Disk c.self.inside.disk c.self.inside.journal c.self.inside.settings.limit c.self.inside.free c.self.inside.slots c.self.inside.stopped c.args.slot c.self.invariant.sound c.if-self.true);
}

pub returns : goal.returns
returns g c = record {
  step = rw (← c.self.view_is)
      (abandon_step g.D.Disk c.self.inside.disk c.self.inside.journal c.self.inside.settings.limit c.self.inside.slots c.take.new.self c.args.slot _ c.self.inside.stopped
      c.if-self.false (sym c.in-Some.ensures.stream) c.in-Some.ensures.slots tt);
  bytes = rw (← c.self.view_is)
      (abandon_bytes g.D.Disk c.self.inside.disk c.self.inside.journal c.self.inside.settings.limit c.self.inside.slots c.take.new.self c.args.slot _ c.self.inside.stopped
      c.if-self.false (sym c.in-Some.ensures.stream) c.in-Some.ensures.slots tt);
  disk = search rules;
  stays = stays_still g.D.Disk c.args.self.now _ (search rules) (search rules);
  slots = search rules;
  quiet = taken_quiet c.self.inside.slots c.take.new.self c.args.slot c.in-Some.ensures.slots;
}
