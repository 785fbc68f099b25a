use Rattle.std.proofs.Common.{sym, subst, List, false}
use Rattle.journal_layout.specs.Case.{Case}
use Rattle.intake.specs.Names.{AreTaken}
use Rattle.case_journal.specs.Journaled.{Journaled}
use Rattle.intake.proofs.DropLemmas.{still_cases}
use Rattle.intake.proofs.NameLemmas.{names_pinned, taken_still}
use Rattle.std.proofs.Common.{rules, ◌≡◌, refl, sym, subst, Err}
use Rattle.intake.specs.Contents.{UnmovedBytes}
use Rattle.intake.specs.Ending.{EndsStreams}
use Rattle.intake.specs.Faults.{fault_of}
use Rattle.intake.specs.Parts.{Parts, state_of, contents_of}
use Rattle.intake.specs.Step.{PinStep}
use Rattle.intake.specs.declared.faults.ArchiveFault.{ArchiveFault}
use Rattle.case_journal.specs.declared.faults.JournalFault.TheVariants as journal_fault
use Rattle.journal_layout.specs.Case.{case_of}
use Rattle.journal_layout.specs.Record.{Pin}
use Rattle.intake.proofs.AfterLemmas.{flags_differ, flags_same, sound_refusal, refusal_bytes}
use Rattle.intake.proofs.PinLemmas.{pin_behind, pin_same, pin_ok, pin_err, pin_sound_after, pin_bytes}
use Rattle.intake.specs.Durable.{durable_in, flagged}
use Rattle.intake.proofs.CrashLemmas.{record_ok, record_err}
use Rattle.intake.proofs.DurableLemmas.{durable_pinned}
use Rattle.intake.proofs.LeaveLemmas.{done_guards, refusal_guards, whole_pinned}
use Rattle.intake.proofs.ChangeLemmas.{sound_stands, changes_none}
use Rattle.intake.proofs.UntouchedLemmas.{flag_differs, journal_answered, journal_spares}
use Rattle.intake.proofs.FrontLemmas.{same_superblock}
use Rattle.intake.proofs.archive.Archive.pin.Goals as goal

pub invariant_of-self : goal.invariant_of-self
invariant_of-self g c =
    record {
      sound =
          pin_sound_after g.D.Disk c.self.inside.disk c.append_pin.new.disk c.self.inside.journal c.append_pin.new.self c.self.inside.settings.limit c.self.inside.free c.self.inside.slots c.self.inside.slots c.self.inside.stopped c.self.inside.stopped
          c.args.seq c.args.flag (case_of c.in-Some.entry.now) c.self.invariant.sound c.if-self.false c.in-Some.ensures c.in_default-append_pin.field-0 c.in_default-append_pin.ensures.step
          (done_guards g.D.Disk c.self.inside.disk c.append_pin.new.disk c.self.inside.journal c.append_pin.new.self (Pin c.args.seq c.args.flag) c.in_default-append_pin.ensures.step.2 c.append_pin.ensures.disk.honesty (g.met.D.Disk.counts_now c.append_pin.new.disk) c.append_pin.ensures.keeps
          (λ honest. whole_pinned g.D.Disk c.self.inside.disk c.self.inside.journal c.args.seq c.args.flag (λ b may. (c.self.invariant.sound.runs c.if-self.false).keeps.whole (c.self.invariant.sound.runs c.if-self.false).journal honest b may))
          c.append_pin.ensures.outside c.append_pin.ensures.others);
      taken = λ on. subst (λ (k : Journaled). AreTaken k.standing.cases c.self.inside.slots c.self.inside.names) (sym c.in_default-append_pin.ensures.step.2) (names_pinned c.args.seq c.args.flag c.self.inside.journal.standing.cases c.self.inside.slots c.self.inside.names (c.self.invariant.taken on));
    }

pub invariant_of-self-2 : goal.invariant_of-self-2
invariant_of-self-2 g c =
    record {
      sound =
          sound_refusal g.D.Disk c.self.inside.disk c.append_pin.new.disk c.self.inside.journal c.append_pin.new.self (Pin c.args.seq c.args.flag) c.self.inside.settings.limit c.self.inside.free c.self.inside.slots c.end_streams-self-inside.new.slots c.self.inside.stopped c.end_streams-self-inside.result c.if-self.false
          c.self.inside.free c.in-Err.fault c.self.invariant.sound c.in-Err.ensures.step
          (refusal_guards g.D.Disk c.self.inside.disk c.append_pin.new.disk c.self.inside.journal c.append_pin.new.self (Pin c.args.seq c.args.flag) c.in-Err.fault c.in-Err.ensures.step c.in-Err.ensures.untouched c.append_pin.ensures.keeps (c.self.invariant.sound.runs c.if-self.false).keeps)
          (subst (λ (f : ArchiveFault). EndsStreams f c.self.inside.slots c.end_streams-self-inside.result c.end_streams-self-inside.new.slots) c.from-fault.ensures c.end_streams-self-inside.ensures)
          (λ _. refl);
      taken = subst (λ (cs : List Case). c.end_streams-self-inside.result ≡ false → AreTaken cs c.end_streams-self-inside.new.slots c.self.inside.names) (sym (still_cases c.self.inside.journal c.append_pin.new.self (Pin c.args.seq c.args.flag) c.in-Err.fault c.in-Err.ensures.step))
          (taken_still c.from-fault.result c.self.inside.journal.standing.cases c.self.inside.slots c.end_streams-self-inside.new.slots c.end_streams-self-inside.result c.self.inside.names c.end_streams-self-inside.ensures (c.self.invariant.taken c.if-self.false));
    }

pub returns-then-self : goal.returns-then-self
returns-then-self g c = record {
  step = search rules;
  bytes = search rules;
  changes = changes_none g.D.Disk (Unit {0}) c.self.inside.disk c.self.inside.journal c.self.inside.settings.limit c.self.inside.free c.self.inside.slots c.self.inside.stopped _ _ _ c.self.invariant.sound c.self.view_is (λ fault. cc);
  never = λ e. absurd (cc);
  superblock = same_superblock g.D.Disk _ _ (search rules);
  untouched = search rules;
}

pub returns-in_default : goal.returns-in_default
returns-in_default g c = record {
  step = rw (← c.self.view_is) (c.if-self.false, (sym c.in_default.ensures), refl);
  bytes = search rules;
  changes = changes_none g.D.Disk (Unit {0}) c.self.inside.disk c.self.inside.journal c.self.inside.settings.limit c.self.inside.free c.self.inside.slots c.self.inside.stopped _ _ _ c.self.invariant.sound c.self.view_is (λ fault. cc);
  never = λ e. absurd (cc);
  superblock = same_superblock g.D.Disk _ _ (search rules);
  untouched = search rules;
}

pub returns-then-entry-flag : goal.returns-then-entry-flag
returns-then-entry-flag g c = record {
  step = rw (← c.self.view_is)
      (pin_same g.D.Disk c.self.inside.disk c.self.inside.disk c.self.inside.journal c.self.inside.journal c.self.inside.settings.limit c.self.inside.free c.self.inside.slots c.self.inside.slots c.self.inside.stopped c.self.inside.stopped
      c.args.seq c.args.flag (case_of c.in-Some.entry.now) c.self.invariant.sound c.if-self.false c.in-Some.ensures tt (flags_same c.in-Some.entry.now.pinned c.args.flag c.if-entry-flag.true));
  bytes = search rules;
  changes = changes_none g.D.Disk (Unit {0}) c.self.inside.disk c.self.inside.journal c.self.inside.settings.limit c.self.inside.free c.self.inside.slots c.self.inside.stopped _ _ _ c.self.invariant.sound c.self.view_is (λ fault. fault);
  never = λ e. absurd (cc);
  superblock = same_superblock g.D.Disk _ _ (search rules);
  untouched = λ x has is. search rules;
}

pub returns-in_default-append_pin : goal.returns-in_default-append_pin
returns-in_default-append_pin g c = record {
  step = rw (← c.self.view_is)
      (pin_ok g.D.Disk c.self.inside.disk c.append_pin.new.disk c.self.inside.journal c.append_pin.new.self c.self.inside.settings.limit c.self.inside.free c.self.inside.slots c.self.inside.slots c.self.inside.stopped c.self.inside.stopped
      c.args.seq c.args.flag (case_of c.in-Some.entry.now) c.self.invariant.sound c.if-self.false c.in-Some.ensures tt (flags_differ c.in-Some.entry.now.pinned c.args.flag c.if-entry-flag.false) c.in_default-append_pin.ensures.step);
  bytes = λ honest.
      let real = rw (← c.self.view_is) at honest in
      rw (← c.self.view_is)
      (pin_bytes g.D.Disk c.self.inside.disk c.append_pin.new.disk c.self.inside.journal c.append_pin.new.self c.self.inside.settings.limit c.self.inside.free c.self.inside.slots c.self.inside.slots c.self.inside.stopped c.self.inside.stopped
      c.args.seq c.args.flag (case_of c.in-Some.entry.now) c.self.invariant.sound c.if-self.false c.in-Some.ensures tt c.in_default-append_pin.ensures.step (c.append_pin.ensures.others real));
  changes = record {
    disk = record { cause = search rules; later = search rules; honesty = search rules; size = search rules };
    crash = λ honest.
        let real = rw (← c.self.view_is) at honest in
        let running = c.self.invariant.sound.runs c.if-self.false in
        rw (← c.self.view_is)
        (record_ok g.D.Disk c.self.inside.disk c.append_pin.new.disk c.self.inside.journal c.append_pin.new.self (Pin c.args.seq c.args.flag) running.keeps running.journal real
        (whole_pinned g.D.Disk c.self.inside.disk c.self.inside.journal c.args.seq c.args.flag (λ b may. running.keeps.whole running.journal real b may))
        (c.append_pin.ensures.any_moment real running.journal) (c.append_pin.ensures.outside real)
        (λ z. z ≡ flagged (durable_in (g.D.Disk.seen c.self.inside.disk) c.self.inside.journal.standing) c.args.seq c.args.flag) tt (c.append_pin.ensures.others real) c.in_default-append_pin.ensures.step.2);
    stands = sound_stands g.D.Disk c.append_pin.new.disk c.append_pin.new.self c.self.inside.settings.limit c.self.inside.free c.self.inside.slots c.self.inside.stopped (invariant_of-self g c).sound;
  };
  never = λ e. absurd (cc);
  superblock = rw (← c.self.view_is) (λ honest. (c.append_pin.ensures.others honest).before);
  untouched = rw (← c.self.view_is)
      (λ x has is. absurd (flag_differs c.args.seq c.args.flag c.self.inside.journal.standing.cases (case_of c.in-Some.entry.now) x c.in-Some.ensures (flags_differ c.in-Some.entry.now.pinned c.args.flag c.if-entry-flag.false) has.1 is));
}

pub returns : goal.returns
returns g c = record {
  step = subst (λ (f : ArchiveFault). PinStep (state_of c.args.self.now) c.args.seq c.args.flag (Err f) (state_of (record { disk = c.append_pin.new.disk; journal = c.append_pin.new.self; limit = c.self.inside.settings.limit; streams = c.end_streams-self-inside.new.slots; stopped = c.end_streams-self-inside.result }))) (sym c.from-fault.ensures)
      (subst (λ (a : Parts g.row.D.Denot). PinStep (state_of a) c.args.seq c.args.flag (Err (fault_of c.in-Err.fault)) (state_of (record { disk = c.append_pin.new.disk; journal = c.append_pin.new.self; limit = c.self.inside.settings.limit; streams = c.end_streams-self-inside.new.slots; stopped = c.end_streams-self-inside.result }))) c.self.view_is
      (pin_err g.D.Disk c.self.inside.disk c.append_pin.new.disk c.self.inside.journal c.append_pin.new.self c.self.inside.settings.limit c.self.inside.free c.self.inside.slots c.end_streams-self-inside.new.slots c.self.inside.stopped c.end_streams-self-inside.result
      c.args.seq c.args.flag (case_of c.in-Some.entry.now) c.self.invariant.sound c.if-self.false c.in-Some.ensures c.in-Err.fault (flags_differ c.in-Some.entry.now.pinned c.args.flag c.if-entry-flag.false) c.in-Err.ensures.step
      (subst (λ (f : ArchiveFault). EndsStreams f c.self.inside.slots c.end_streams-self-inside.result c.end_streams-self-inside.new.slots) c.from-fault.ensures c.end_streams-self-inside.ensures)));
  bytes = λ honest.
      let real = rw (← c.self.view_is) at honest in
      subst (λ (f : ArchiveFault). UnmovedBytes (contents_of g.D.Disk.seen c.args.self.now) f (contents_of g.D.Disk.seen (record { disk = c.append_pin.new.disk; journal = c.append_pin.new.self; limit = c.self.inside.settings.limit; streams = c.end_streams-self-inside.new.slots; stopped = c.end_streams-self-inside.result }))) (sym c.from-fault.ensures)
      (subst (λ (a : Parts g.row.D.Denot). UnmovedBytes (contents_of g.D.Disk.seen a) (fault_of c.in-Err.fault) (contents_of g.D.Disk.seen (record { disk = c.append_pin.new.disk; journal = c.append_pin.new.self; limit = c.self.inside.settings.limit; streams = c.end_streams-self-inside.new.slots; stopped = c.end_streams-self-inside.result }))) c.self.view_is
      (refusal_bytes g.D.Disk.seen c.self.inside.disk c.append_pin.new.disk c.self.inside.journal c.self.inside.settings.limit c.self.inside.slots c.self.inside.stopped (c.append_pin.ensures.others real)
      (Pin c.args.seq c.args.flag) c.append_pin.new.self c.in-Err.fault c.end_streams-self-inside.result c.end_streams-self-inside.new.slots (c.self.invariant.sound.runs c.if-self.false).journal c.in-Err.ensures.step
      (subst (λ (f : ArchiveFault). EndsStreams f c.self.inside.slots c.end_streams-self-inside.result c.end_streams-self-inside.new.slots) c.from-fault.ensures c.end_streams-self-inside.ensures)));
  changes = record {
    disk = record { cause = search rules; later = search rules; honesty = search rules; size = search rules };
    crash = λ honest.
        let real = rw (← c.self.view_is) at honest in
        let running = c.self.invariant.sound.runs c.if-self.false in
        rw (← c.self.view_is)
        (record_err g.D.Disk c.self.inside.disk c.append_pin.new.disk c.self.inside.journal c.append_pin.new.self (Pin c.args.seq c.args.flag) running.keeps running.journal real
        (whole_pinned g.D.Disk c.self.inside.disk c.self.inside.journal c.args.seq c.args.flag (λ b may. running.keeps.whole running.journal real b may))
        (c.append_pin.ensures.any_moment real running.journal) (c.append_pin.ensures.outside real)
        (λ z. z ≡ flagged (durable_in (g.D.Disk.seen c.self.inside.disk) c.self.inside.journal.standing) c.args.seq c.args.flag) c.in-Err.fault _ _ c.from-fault.ensures c.in-Err.ensures.untouched (durable_pinned c.self.inside.journal.standing c.args.seq c.args.flag (g.D.Disk.seen c.self.inside.disk)) (g.met.D.Disk.only_now c.self.inside.disk));
    stands = sound_stands g.D.Disk c.append_pin.new.disk c.append_pin.new.self c.self.inside.settings.limit c.self.inside.free c.end_streams-self-inside.new.slots c.end_streams-self-inside.result (invariant_of-self-2 g c).sound;
  };
  never = rw (← c.self.view_is)
      (λ e. pin_behind g.D.Disk c.self.inside.disk c.self.inside.disk c.self.inside.journal c.self.inside.journal c.self.inside.settings.limit c.self.inside.free c.self.inside.slots c.self.inside.slots c.self.inside.stopped c.self.inside.stopped
      c.args.seq c.args.flag (case_of c.in-Some.entry.now) c.self.invariant.sound c.if-self.false c.in-Some.ensures
      (c.in-Err.ensures.never (journal_answered (Unit {0}) c.in-Err.fault journal_fault.OutOfMemory _ c.from-fault.ensures e)));
  superblock = rw (← c.self.view_is) (λ honest. (c.append_pin.ensures.others honest).before);
  untouched = rw (← c.self.view_is) (journal_spares (Unit {0}) c.in-Err.fault _ _ _ c.from-fault.ensures c.in-Err.ensures.untouched);
}
