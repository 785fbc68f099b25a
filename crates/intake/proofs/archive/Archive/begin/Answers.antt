use Rattle.std.proofs.lemmas.Result.{err_from_is_err_and}
use Rattle.std.proofs.Common.{◌≡◌, length, map}
use Rattle.std.specs.Prelude.{option_map}
use Rattle.std.proofs.lemmas.List.{length-map}
use Rattle.intake.specs.Parts.{stream_facts}
use Rattle.std.proofs.Common.{arith, refl, rules, sym, ap, ◌∙◌}
use Rattle.extents.specs.FreeSet.{one_if}
use Rattle.intake.proofs.NameLemmas.{taken_is, taken_begun}
use Rattle.intake.specs.StayLaws.{stays_still}
use Rattle.intake.proofs.SoundLemmas.{fine_new}
use Rattle.intake.proofs.StepLemmas.{none_there, not_open, sound_begun, begin_step, begin_bytes}
use Rattle.intake.proofs.archive.Archive.begin.Goals as goal

pub invariant_of-self-2 : goal.invariant_of-self-2
invariant_of-self-2 g c =
    record {
      sound =
          sound_begun g.D.Disk c.self.inside.disk c.self.inside.journal c.self.inside.settings.limit c.self.inside.free c.self.inside.slots c.put.new.self c.args.slot _ c.self.inside.stopped
          c.self.invariant.sound c.if-self.false (omega arith) (not_open _ _ c.is_open.ensures c.if-is_open.false)
          (sym (taken_is (record { disk = c.self.inside.disk; journal = c.self.inside.journal; limit = c.self.inside.settings.limit; streams = c.self.inside.slots; stopped = c.self.inside.stopped }) c.self.inside.names c.args.name.items (c.self.invariant.taken c.if-self.false)) ∙ sym c.has_name.ensures ∙ c.if-has_name.false) c.put.ensures
          (fine_new c.self.inside.settings.limit _ (record { name = c.requires.name; pid = c.ranges.pid.fits; signal = c.ranges.signal.fits; time = c.ranges.time.fits }) refl c.new.ensures c.in_ok-block.ensures)
          c.new.ensures;
      taken = λ on. taken_begun c.self.inside.journal.standing.cases c.self.inside.slots c.put.new.self c.args.slot _ c.self.inside.names c.keep_name.new.names (c.self.invariant.taken on) (let e = c.self.invariant.sound.slots in omega arith) (not_open _ _ c.is_open.ensures c.if-is_open.false) c.put.ensures
          (sym c.has_name.ensures ∙ c.if-has_name.false) c.in_ok-keep_name.ensures.names;
    }

pub returns : goal.returns
returns g c = record {
  step = rw (← c.self.view_is)
      (begin_step g.D.Disk c.self.inside.disk c.self.inside.journal c.self.inside.settings.limit c.self.inside.free c.self.inside.slots c.put.new.self c.args.slot _ c.self.inside.stopped
      c.self.invariant.sound c.if-self.false (omega arith) (not_open _ _ c.is_open.ensures c.if-is_open.false)
      (sym (taken_is (record { disk = c.self.inside.disk; journal = c.self.inside.journal; limit = c.self.inside.settings.limit; streams = c.self.inside.slots; stopped = c.self.inside.stopped }) c.self.inside.names c.args.name.items (c.self.invariant.taken c.if-self.false)) ∙ sym c.has_name.ensures ∙ c.if-has_name.false) c.put.ensures tt c.new.ensures);
  bytes = rw (← c.self.view_is)
      (begin_bytes g.D.Disk c.self.inside.disk c.self.inside.journal c.self.inside.settings.limit c.self.inside.free c.self.inside.slots c.put.new.self c.args.slot _ c.self.inside.stopped
      c.self.invariant.sound c.if-self.false (omega arith) (not_open _ _ c.is_open.ensures c.if-is_open.false)
      (sym (taken_is (record { disk = c.self.inside.disk; journal = c.self.inside.journal; limit = c.self.inside.settings.limit; streams = c.self.inside.slots; stopped = c.self.inside.stopped }) c.self.inside.names c.args.name.items (c.self.invariant.taken c.if-self.false)) ∙ sym c.has_name.ensures ∙ c.if-has_name.false) c.put.ensures tt refl c.new.ensures c.in_ok-block.ensures);
  disk = search rules;
  stays = stays_still g.D.Disk c.args.self.now _ (search rules) (search rules);
}

pub invariant_of-self : goal.invariant_of-self
invariant_of-self g c =
    record {
      sound = c.self.invariant.sound;
      taken = λ on q. c.self.invariant.taken on q ∙ ap one_if (sym (c.in_err-keep_name.ensures.names q));
    }

pub returns-then-has_name : goal.returns-then-has_name
returns-then-has_name g c = record {
  step = rw (← c.self.view_is) (c.if-self.false, (let e : length (map (option_map stream_facts) c.self.inside.slots) ≡ length c.self.inside.slots = simp length-map in let f = c.self.invariant.sound.slots in omega arith), none_there c.self.inside.slots c.args.slot (not_open _ _ c.is_open.ensures c.if-is_open.false), (sym (taken_is (record { disk = c.self.inside.disk; journal = c.self.inside.journal; limit = c.self.inside.settings.limit; streams = c.self.inside.slots; stopped = c.self.inside.stopped }) c.self.inside.names c.args.name.items (c.self.invariant.taken c.if-self.false)) ∙ sym c.has_name.ensures ∙ c.if-has_name.true), refl);
  bytes = search rules;
  disk = search rules;
  stays = stays_still g.D.Disk c.args.self.now _ (search rules) (search rules);
}

pub returns-in_err-block : goal.returns-in_err-block
returns-in_err-block g c =
    let p = err_from_is_err_and c.from_residual.result c.from_residual.ensures.1 in
    rw (p.1, p.2) (record {
      step = rw (← c.self.view_is) ((c.if-self.false, (let e : length (map (option_map stream_facts) c.self.inside.slots) ≡ length c.self.inside.slots = simp length-map in let f = c.self.invariant.sound.slots in omega arith), none_there c.self.inside.slots c.args.slot (not_open _ _ c.is_open.ensures c.if-is_open.false), (sym (taken_is (record { disk = c.self.inside.disk; journal = c.self.inside.journal; limit = c.self.inside.settings.limit; streams = c.self.inside.slots; stopped = c.self.inside.stopped }) c.self.inside.names c.args.name.items (c.self.invariant.taken c.if-self.false)) ∙ sym c.has_name.ensures ∙ c.if-has_name.false)), refl);
      bytes = search rules;
      disk = search rules;
      stays = stays_still g.D.Disk c.args.self.now _ (search rules) (search rules);
    })

pub returns-in_err-keep_name : goal.returns-in_err-keep_name
returns-in_err-keep_name g c =
    let p = err_from_is_err_and c.from_residual-in_err-keep_name.result c.from_residual-in_err-keep_name.ensures.1 in
    rw (p.1, p.2, c.in_err-keep_name.ensures.only) (record {
      step = rw (← c.self.view_is) ((c.if-self.false, (let e : length (map (option_map stream_facts) c.self.inside.slots) ≡ length c.self.inside.slots = simp length-map in let f = c.self.invariant.sound.slots in omega arith), none_there c.self.inside.slots c.args.slot (not_open _ _ c.is_open.ensures c.if-is_open.false), (sym (taken_is (record { disk = c.self.inside.disk; journal = c.self.inside.journal; limit = c.self.inside.settings.limit; streams = c.self.inside.slots; stopped = c.self.inside.stopped }) c.self.inside.names c.args.name.items (c.self.invariant.taken c.if-self.false)) ∙ sym c.has_name.ensures ∙ c.if-has_name.false)), refl);
      bytes = search rules;
      disk = search rules;
      stays = stays_still g.D.Disk c.args.self.now _ (search rules) (search rules);
    })
