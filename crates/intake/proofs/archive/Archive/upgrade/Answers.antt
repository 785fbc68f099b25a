use Rattle.std.proofs.Common.{rules, ◌≡◌, sym, subst, List, false, Err}
use Rattle.journal_layout.specs.Case.{Case}
use Rattle.intake.specs.Contents.{UnmovedBytes}
use Rattle.intake.specs.Ending.{EndsStreams}
use Rattle.intake.specs.Faults.{fault_of}
use Rattle.intake.specs.Names.{AreTaken}
use Rattle.intake.specs.Parts.{Parts, state_of, contents_of}
use Rattle.intake.specs.Step.{UpgradeStep}
use Rattle.intake.specs.declared.faults.ArchiveFault.{ArchiveFault}
use Rattle.intake.proofs.ChangeLemmas.{sound_stands, changes_none}
use Rattle.intake.proofs.NameLemmas.{taken_still}
use Rattle.intake.proofs.UntouchedLemmas.{journal_spares}
use Rattle.intake.proofs.UpgradeLemmas.{upgrade_ok, upgrade_err, upgrade_guards, upgrade_sound, upgrade_cases, upgrade_bytes, upgrade_crash, refused_guards, refused_sound, refused_cases, refused_bytes, refused_crash}
use Rattle.intake.proofs.FrontLemmas.{same_superblock}
use Rattle.intake.proofs.archive.Archive.upgrade.Goals as goal

pub invariant_of-self : goal.invariant_of-self
invariant_of-self g c =
    record {
      sound =
          upgrade_sound g.D.Disk c.self.inside.disk c.upgrade.new.disk c.self.inside.journal c.upgrade.new.self c.self.inside.settings.limit c.self.inside.free c.self.inside.slots c.self.inside.slots c.self.inside.stopped c.self.inside.stopped c.self.invariant.sound c.if-self.false c.in_default.field-0 c.in_default.ensures.step
          (upgrade_guards g.D.Disk c.self.inside.disk c.upgrade.new.disk c.self.inside.journal c.upgrade.new.self c.self.inside.settings.limit c.self.inside.free c.self.inside.slots c.self.inside.slots c.self.inside.stopped c.self.inside.stopped c.self.invariant.sound c.if-self.false c.in_default.field-0 c.in_default.ensures.step c.upgrade.ensures.nothing c.upgrade.ensures.disk.honesty (g.met.D.Disk.counts_now c.upgrade.new.disk) c.upgrade.ensures.keeps
          c.upgrade.ensures.outside c.upgrade.ensures.others);
      taken = λ on. subst (λ (cs : List Case). AreTaken cs c.self.inside.slots c.self.inside.names)
          (sym (upgrade_cases g.D.Disk c.self.inside.disk c.upgrade.new.disk c.self.inside.journal c.upgrade.new.self c.self.inside.settings.limit c.self.inside.free c.self.inside.slots c.self.inside.slots c.self.inside.stopped c.self.inside.stopped c.self.invariant.sound c.if-self.false c.in_default.field-0 c.in_default.ensures.step))
          (c.self.invariant.taken on);
    }

pub invariant_of-self-2 : goal.invariant_of-self-2
invariant_of-self-2 g c =
    record {
      sound =
          refused_sound g.D.Disk c.self.inside.disk c.upgrade.new.disk c.self.inside.journal c.upgrade.new.self c.self.inside.settings.limit c.self.inside.free c.self.inside.slots c.end_streams-self-inside.new.slots c.self.inside.stopped c.end_streams-self-inside.result c.self.invariant.sound c.if-self.false c.in-Err.fault c.in-Err.ensures.step
          (refused_guards g.D.Disk c.self.inside.disk c.upgrade.new.disk c.self.inside.journal c.upgrade.new.self c.self.inside.settings.limit c.self.inside.free c.self.inside.slots c.end_streams-self-inside.new.slots c.self.inside.stopped c.end_streams-self-inside.result c.self.invariant.sound c.if-self.false c.in-Err.fault c.in-Err.ensures.step c.in-Err.ensures.untouched c.upgrade.ensures.keeps)
          (subst (λ (f : ArchiveFault). EndsStreams f c.self.inside.slots c.end_streams-self-inside.result c.end_streams-self-inside.new.slots) c.from-fault.ensures c.end_streams-self-inside.ensures);
      taken = subst (λ (cs : List Case). c.end_streams-self-inside.result ≡ false → AreTaken cs c.end_streams-self-inside.new.slots c.self.inside.names)
          (sym (refused_cases g.D.Disk c.self.inside.disk c.upgrade.new.disk c.self.inside.journal c.upgrade.new.self c.self.inside.settings.limit c.self.inside.free c.self.inside.slots c.end_streams-self-inside.new.slots c.self.inside.stopped c.end_streams-self-inside.result c.self.invariant.sound c.if-self.false c.in-Err.fault c.in-Err.ensures.step))
          (taken_still c.from-fault.result c.self.inside.journal.standing.cases c.self.inside.slots c.end_streams-self-inside.new.slots c.end_streams-self-inside.result c.self.inside.names c.end_streams-self-inside.ensures (c.self.invariant.taken c.if-self.false));
    }

pub returns-then-self : goal.returns-then-self
returns-then-self g c = record {
  step = search rules;
  bytes = search rules;
  changes = changes_none g.D.Disk (Unit {0}) c.self.inside.disk c.self.inside.journal c.self.inside.settings.limit c.self.inside.free c.self.inside.slots c.self.inside.stopped _ _ _ c.self.invariant.sound c.self.view_is (λ fault. cc);
  superblock = same_superblock g.D.Disk _ _ (search rules);
  untouched = search rules;
}

pub returns-in_default : goal.returns-in_default
returns-in_default g c = record {
  step = rw (← c.self.view_is) (upgrade_ok g.D.Disk c.self.inside.disk c.upgrade.new.disk c.self.inside.journal c.upgrade.new.self c.self.inside.settings.limit c.self.inside.free c.self.inside.slots c.self.inside.slots c.self.inside.stopped c.self.inside.stopped c.self.invariant.sound c.if-self.false c.in_default.field-0 c.in_default.ensures.step);
  bytes = λ honest.
      let real = rw (← c.self.view_is) at honest in
      rw (← c.self.view_is) (upgrade_bytes g.D.Disk c.self.inside.disk c.upgrade.new.disk c.self.inside.journal c.upgrade.new.self c.self.inside.settings.limit c.self.inside.free c.self.inside.slots c.self.inside.slots c.self.inside.stopped c.self.inside.stopped c.self.invariant.sound c.if-self.false c.in_default.field-0 c.in_default.ensures.step (c.upgrade.ensures.others real));
  changes = record {
    disk = record { cause = search rules; later = search rules; honesty = search rules; size = search rules };
    crash = λ honest.
        let real = rw (← c.self.view_is) at honest in
        let running = c.self.invariant.sound.runs c.if-self.false in
        rw (← c.self.view_is)
        (upgrade_crash g.D.Disk c.self.inside.disk c.upgrade.new.disk c.self.inside.journal c.upgrade.new.self c.self.inside.settings.limit c.self.inside.free c.self.inside.slots c.self.inside.slots c.self.inside.stopped c.self.inside.stopped c.self.invariant.sound c.if-self.false real (c.upgrade.ensures.any_moment real running.journal) (c.upgrade.ensures.outside real) c.in_default.field-0 c.in_default.ensures.step (c.upgrade.ensures.others real));
    stands = sound_stands g.D.Disk c.upgrade.new.disk c.upgrade.new.self c.self.inside.settings.limit c.self.inside.free c.self.inside.slots c.self.inside.stopped (invariant_of-self g c).sound;
  };
  superblock = rw (← c.self.view_is) (λ honest. (c.upgrade.ensures.others honest).before);
  untouched = rw (← c.self.view_is) c.upgrade.ensures.nothing;
}

pub returns : goal.returns
returns g c = record {
  step = subst (λ (f : ArchiveFault). UpgradeStep (state_of c.args.self.now) (Err f) (state_of (record { disk = c.upgrade.new.disk; journal = c.upgrade.new.self; limit = c.self.inside.settings.limit; streams = c.end_streams-self-inside.new.slots; stopped = c.end_streams-self-inside.result }))) (sym c.from-fault.ensures)
      (subst (λ (a : Parts g.row.D.Denot). UpgradeStep (state_of a) (Err (fault_of c.in-Err.fault)) (state_of (record { disk = c.upgrade.new.disk; journal = c.upgrade.new.self; limit = c.self.inside.settings.limit; streams = c.end_streams-self-inside.new.slots; stopped = c.end_streams-self-inside.result }))) c.self.view_is
      (upgrade_err g.D.Disk c.self.inside.disk c.upgrade.new.disk c.self.inside.journal c.upgrade.new.self c.self.inside.settings.limit c.self.inside.free c.self.inside.slots c.end_streams-self-inside.new.slots c.self.inside.stopped c.end_streams-self-inside.result c.self.invariant.sound c.if-self.false c.in-Err.fault c.in-Err.ensures.step
      (subst (λ (f : ArchiveFault). EndsStreams f c.self.inside.slots c.end_streams-self-inside.result c.end_streams-self-inside.new.slots) c.from-fault.ensures c.end_streams-self-inside.ensures)));
  bytes = λ honest.
      let real = rw (← c.self.view_is) at honest in
      subst (λ (f : ArchiveFault). UnmovedBytes (contents_of g.D.Disk.seen c.args.self.now) f (contents_of g.D.Disk.seen (record { disk = c.upgrade.new.disk; journal = c.upgrade.new.self; limit = c.self.inside.settings.limit; streams = c.end_streams-self-inside.new.slots; stopped = c.end_streams-self-inside.result }))) (sym c.from-fault.ensures)
      (subst (λ (a : Parts g.row.D.Denot). UnmovedBytes (contents_of g.D.Disk.seen a) (fault_of c.in-Err.fault) (contents_of g.D.Disk.seen (record { disk = c.upgrade.new.disk; journal = c.upgrade.new.self; limit = c.self.inside.settings.limit; streams = c.end_streams-self-inside.new.slots; stopped = c.end_streams-self-inside.result }))) c.self.view_is
      (refused_bytes g.D.Disk c.self.inside.disk c.upgrade.new.disk c.self.inside.journal c.upgrade.new.self c.self.inside.settings.limit c.self.inside.free c.self.inside.slots c.end_streams-self-inside.new.slots c.self.inside.stopped c.end_streams-self-inside.result c.self.invariant.sound c.if-self.false c.in-Err.fault c.in-Err.ensures.step (c.upgrade.ensures.others real)
      (subst (λ (f : ArchiveFault). EndsStreams f c.self.inside.slots c.end_streams-self-inside.result c.end_streams-self-inside.new.slots) c.from-fault.ensures c.end_streams-self-inside.ensures)));
  changes = record {
    disk = record { cause = search rules; later = search rules; honesty = search rules; size = search rules };
    crash = λ honest.
        let real = rw (← c.self.view_is) at honest in
        let running = c.self.invariant.sound.runs c.if-self.false in
        rw (← c.self.view_is)
        (refused_crash g.D.Disk c.self.inside.disk c.upgrade.new.disk c.self.inside.journal c.upgrade.new.self c.self.inside.settings.limit c.self.inside.free c.self.inside.slots c.end_streams-self-inside.new.slots c.self.inside.stopped c.end_streams-self-inside.result c.self.invariant.sound c.if-self.false real (c.upgrade.ensures.any_moment real running.journal) (c.upgrade.ensures.outside real)
        c.in-Err.fault _ _ c.from-fault.ensures c.in-Err.ensures.untouched (g.met.D.Disk.only_now c.self.inside.disk));
    stands = sound_stands g.D.Disk c.upgrade.new.disk c.upgrade.new.self c.self.inside.settings.limit c.self.inside.free c.end_streams-self-inside.new.slots c.end_streams-self-inside.result (invariant_of-self-2 g c).sound;
  };
  superblock = rw (← c.self.view_is) (λ honest. (c.upgrade.ensures.others honest).before);
  untouched = rw (← c.self.view_is) (journal_spares (Unit {0}) c.in-Err.fault _ _ _ c.from-fault.ensures c.in-Err.ensures.untouched);
}
