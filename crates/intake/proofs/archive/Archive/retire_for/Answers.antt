use Rattle.std.proofs.Common.{refl, subst}
use Rattle.intake.specs.Parts.{state_of, contents_of}
use Rattle.intake.specs.Retiring.{KeepsTheName}
use Rattle.intake.specs.declared.faults.ArchiveFault.TheVariants as fault
use Rattle.retention.specs.declared.Decision.{Decision}
use Rattle.intake.proofs.ChangeLemmas.{changes_none}
use Rattle.intake.proofs.KeptNameLemmas.{cleared, kept_before, no_disk_fault, not_full, refused_bytes, refused_spares, refused_step}
use Rattle.intake.proofs.UntouchedLemmas.{fault_answered}
use Rattle.intake.proofs.archive.Archive.retire_for.Goals as goal

pub returns-then-is_kept : goal.returns-then-is_kept
returns-then-is_kept g c =
    let kept = subst (KeepsTheName (state_of c.args.self.now) c.args.policy.now c.args.name.now.items) c.if-is_kept.true c.in-Ok.ensures in
    (refl, kept, kept_before (state_of c.args.self.now) c.args.policy.now c.args.name.now.items kept)

pub returns : goal.returns
returns g c =
    let kept = subst (KeepsTheName (state_of c.args.self.now) c.args.policy.now c.args.name.now.items) c.if-is_kept.false c.in-Ok.ensures in (
      c.retire.ensures,
      cleared c.a_decision_is_one.ensures (state_of c.args.self.now) (state_of c.retire.new.self) c.args.policy.now c.args.name.now.items c.retire.result kept c.retire.ensures.step,
    )

pub returns-in-Err : goal.returns-in-Err
returns-in-Err g c =
    let reply = c.in-Err.ensures in
    let s = state_of c.args.self.now in (
      record {
        step = refused_step s c.args.policy.now c.args.name.now.items c.in-Err.fault reply;
        bytes = λ honest. refused_bytes s c.args.policy.now c.args.name.now.items c.in-Err.fault (contents_of g.D.Disk.seen c.args.self.now) reply;
        changes = changes_none g.D.Disk Decision c.self.inside.disk c.self.inside.journal c.self.inside.settings.limit c.self.inside.free c.self.inside.slots c.self.inside.stopped _ _ _ c.self.invariant.sound c.self.view_is (no_disk_fault s c.args.policy.now c.args.name.now.items c.in-Err.fault reply);
        full = λ honest e. absurd (not_full s c.args.policy.now c.args.name.now.items c.in-Err.fault reply (fault_answered Decision c.in-Err.fault fault.JournalFull e));
        superblock = λ honest. refl;
        untouched = refused_spares s c.args.policy.now c.args.name.now.items c.in-Err.fault c.args.self.now.disk reply;
      },
      tt,
    )
