use Rattle.std.proofs.Common.{sym, subst, List, false}
use Rattle.journal_layout.specs.Case.{Case}
use Rattle.intake.specs.Names.{AreTaken}
use Rattle.case_journal.specs.Journaled.{Journaled}
use Rattle.intake.proofs.DropLemmas.{still_cases}
use Rattle.intake.proofs.NameLemmas.{names_labelled, taken_still}
use Rattle.std.proofs.Common.{rules, arith, ◌≡◌, ◌∙◌, refl, sym, subst, Ok, Err}
use Rattle.intake.specs.Contents.{UnmovedBytes}
use Rattle.intake.specs.Ending.{EndsStreams}
use Rattle.intake.specs.Faults.{fault_of}
use Rattle.intake.specs.Parts.{Parts, state_of, contents_of}
use Rattle.intake.specs.Step.{LabelStep}
use Rattle.intake.specs.declared.faults.ArchiveFault.{ArchiveFault}
use Rattle.journal_layout.specs.Case.{case_of}
use Rattle.journal_layout.specs.Record.{Label}
use Rattle.intake.proofs.AfterLemmas.{sound_refusal, refusal_bytes}
use Rattle.intake.proofs.LabelLemmas.{labels_same, labels_differ, two_is, label_append, label_differs, label_may, label_old, label_same, label_ok, label_err, label_sound_after, label_bytes}
use Rattle.intake.specs.Durable.{durable_in, labelled}
use Rattle.intake.proofs.CrashLemmas.{record_ok, record_err}
use Rattle.intake.proofs.DurableLemmas.{durable_labelled}
use Rattle.intake.proofs.LeaveLemmas.{done_guards, refusal_guards, whole_labelled}
use Rattle.intake.proofs.ChangeLemmas.{sound_stands, changes_none}
use Rattle.intake.proofs.UntouchedLemmas.{journal_spares}
use Rattle.intake.proofs.FrontLemmas.{same_superblock}
use Rattle.intake.proofs.archive.Archive.label.Goals as goal

pub append_label-requires-clause-labelable : goal.append_label-requires-clause-labelable
append_label-requires-clause-labelable g c =
    label_may g.D.Disk c.self.inside.disk c.self.inside.disk c.self.inside.journal c.self.inside.journal c.self.inside.settings.limit c.self.inside.free c.self.inside.slots c.self.inside.slots c.self.inside.stopped c.self.inside.stopped
    c.args.seq c.args.text.now (case_of c.in-Some.entry.now) c.self.invariant.sound c.if-self.false c.in-Some.ensures (record { short = c.requires.short; bytes = λ k. omega (arith, c.type_inv.text k) })

pub invariant_of-self : goal.invariant_of-self
invariant_of-self g c =
    record {
      sound =
          label_sound_after g.D.Disk c.self.inside.disk c.append_label.new.disk c.self.inside.journal c.append_label.new.self c.self.inside.settings.limit c.self.inside.free c.self.inside.slots c.self.inside.slots c.self.inside.stopped c.self.inside.stopped
          c.args.seq c.args.text.now (case_of c.in-Some.entry.now) c.self.invariant.sound c.if-self.false c.in-Some.ensures c.in_default-append_label.field-0 (record { short = c.requires.short; bytes = λ k. omega (arith, c.type_inv.text k) }) (two_is _ _ c.version.ensures.value c.version.ensures.known (λ e. (let not_one = c.if-version-eq1.false in absurd (omega (arith, e, not_one))))) (label_append c.self.inside.journal c.append_label.new.self c.args.seq c.args.text.now (Ok c.in_default-append_label.field-0) (two_is _ _ c.version.ensures.value c.version.ensures.known (λ e. (let not_one = c.if-version-eq1.false in absurd (omega (arith, e, not_one))))) c.in_default-append_label.ensures.step)
          (done_guards g.D.Disk c.self.inside.disk c.append_label.new.disk c.self.inside.journal c.append_label.new.self (Label c.args.seq c.args.text.now) (label_append c.self.inside.journal c.append_label.new.self c.args.seq c.args.text.now (Ok c.in_default-append_label.field-0) (two_is _ _ c.version.ensures.value c.version.ensures.known (λ e. (let not_one = c.if-version-eq1.false in absurd (omega (arith, e, not_one))))) c.in_default-append_label.ensures.step).2 c.append_label.ensures.disk.honesty (g.met.D.Disk.counts_now c.append_label.new.disk) c.append_label.ensures.keeps
          (λ honest. whole_labelled g.D.Disk c.self.inside.disk c.self.inside.journal c.args.seq c.args.text.now (λ b may. (c.self.invariant.sound.runs c.if-self.false).keeps.whole (c.self.invariant.sound.runs c.if-self.false).journal honest b may))
          c.append_label.ensures.outside c.append_label.ensures.others);
      taken = λ on. subst (λ (k : Journaled). AreTaken k.standing.cases c.self.inside.slots c.self.inside.names) (sym (label_append c.self.inside.journal c.append_label.new.self c.args.seq c.args.text.now (Ok c.in_default-append_label.field-0) (two_is _ _ c.version.ensures.value c.version.ensures.known (λ e. (let not_one = c.if-version-eq1.false in absurd (omega (arith, e, not_one))))) c.in_default-append_label.ensures.step).2) (names_labelled c.args.seq c.args.text.now c.self.inside.journal.standing.cases c.self.inside.slots c.self.inside.names (c.self.invariant.taken on));
    }

pub invariant_of-self-2 : goal.invariant_of-self-2
invariant_of-self-2 g c =
    record {
      sound =
          sound_refusal g.D.Disk c.self.inside.disk c.append_label.new.disk c.self.inside.journal c.append_label.new.self (Label c.args.seq c.args.text.now) c.self.inside.settings.limit c.self.inside.free c.self.inside.slots c.end_streams-self-inside.new.slots c.self.inside.stopped c.end_streams-self-inside.result c.if-self.false
          c.self.inside.free c.in-Err.fault c.self.invariant.sound (label_append c.self.inside.journal c.append_label.new.self c.args.seq c.args.text.now (Err c.in-Err.fault) (two_is _ _ c.version.ensures.value c.version.ensures.known (λ e. (let not_one = c.if-version-eq1.false in absurd (omega (arith, e, not_one))))) c.in-Err.ensures.step)
          (refusal_guards g.D.Disk c.self.inside.disk c.append_label.new.disk c.self.inside.journal c.append_label.new.self (Label c.args.seq c.args.text.now) c.in-Err.fault (label_append c.self.inside.journal c.append_label.new.self c.args.seq c.args.text.now (Err c.in-Err.fault) (two_is _ _ c.version.ensures.value c.version.ensures.known (λ e. (let not_one = c.if-version-eq1.false in absurd (omega (arith, e, not_one))))) c.in-Err.ensures.step) c.in-Err.ensures.untouched c.append_label.ensures.keeps (c.self.invariant.sound.runs c.if-self.false).keeps)
          (subst (λ (f : ArchiveFault). EndsStreams f c.self.inside.slots c.end_streams-self-inside.result c.end_streams-self-inside.new.slots) c.from-fault.ensures c.end_streams-self-inside.ensures)
          (λ _. refl);
      taken = subst (λ (cs : List Case). c.end_streams-self-inside.result ≡ false → AreTaken cs c.end_streams-self-inside.new.slots c.self.inside.names) (sym (still_cases c.self.inside.journal c.append_label.new.self (Label c.args.seq c.args.text.now) c.in-Err.fault (label_append c.self.inside.journal c.append_label.new.self c.args.seq c.args.text.now (Err c.in-Err.fault) (two_is _ _ c.version.ensures.value c.version.ensures.known (λ e. (let not_one = c.if-version-eq1.false in absurd (omega (arith, e, not_one))))) c.in-Err.ensures.step)))
          (taken_still c.from-fault.result c.self.inside.journal.standing.cases c.self.inside.slots c.end_streams-self-inside.new.slots c.end_streams-self-inside.result c.self.inside.names c.end_streams-self-inside.ensures (c.self.invariant.taken c.if-self.false));
    }

pub returns-then-self : goal.returns-then-self
returns-then-self g c = record {
  step = search rules;
  bytes = search rules;
  changes = changes_none g.D.Disk (Unit {0}) c.self.inside.disk c.self.inside.journal c.self.inside.settings.limit c.self.inside.free c.self.inside.slots c.self.inside.stopped _ _ _ c.self.invariant.sound c.self.view_is (λ fault. cc);
  superblock = same_superblock g.D.Disk _ _ (search rules);
  untouched = search rules;
}

pub returns-in_default : goal.returns-in_default
returns-in_default g c = record {
  step = rw (← c.self.view_is) (c.if-self.false, (sym c.in_default.ensures), refl);
  bytes = search rules;
  changes = changes_none g.D.Disk (Unit {0}) c.self.inside.disk c.self.inside.journal c.self.inside.settings.limit c.self.inside.free c.self.inside.slots c.self.inside.stopped _ _ _ c.self.invariant.sound c.self.view_is (λ fault. cc);
  superblock = same_superblock g.D.Disk _ _ (search rules);
  untouched = search rules;
}

pub returns-then-version-eq1 : goal.returns-then-version-eq1
returns-then-version-eq1 g c = record {
  step = rw (← c.self.view_is)
      (label_old g.D.Disk c.self.inside.disk c.self.inside.disk c.self.inside.journal c.self.inside.journal c.self.inside.settings.limit c.self.inside.free c.self.inside.slots c.self.inside.slots c.self.inside.stopped c.self.inside.stopped
      c.args.seq c.args.text.now (case_of c.in-Some.entry.now) c.self.invariant.sound c.if-self.false c.in-Some.ensures (sym c.version.ensures.value ∙ c.if-version-eq1.true));
  bytes = search rules;
  changes = changes_none g.D.Disk (Unit {0}) c.self.inside.disk c.self.inside.journal c.self.inside.settings.limit c.self.inside.free c.self.inside.slots c.self.inside.stopped _ _ _ c.self.invariant.sound c.self.view_is (λ fault. cc);
  superblock = same_superblock g.D.Disk _ _ (search rules);
  untouched = search rules;
}

pub returns-then-has_label : goal.returns-then-has_label
returns-then-has_label g c = record {
  step = rw (← c.self.view_is)
      (label_same g.D.Disk c.self.inside.disk c.self.inside.disk c.self.inside.journal c.self.inside.journal c.self.inside.settings.limit c.self.inside.free c.self.inside.slots c.self.inside.slots c.self.inside.stopped c.self.inside.stopped
      c.args.seq c.args.text.now (case_of c.in-Some.entry.now) c.self.invariant.sound c.if-self.false c.in-Some.ensures tt (two_is _ _ c.version.ensures.value c.version.ensures.known (λ e. (let not_one = c.if-version-eq1.false in absurd (omega (arith, e, not_one))))) (labels_same _ _ (sym c.has_label.ensures ∙ c.if-has_label.true)));
  bytes = search rules;
  changes = changes_none g.D.Disk (Unit {0}) c.self.inside.disk c.self.inside.journal c.self.inside.settings.limit c.self.inside.free c.self.inside.slots c.self.inside.stopped _ _ _ c.self.invariant.sound c.self.view_is (λ fault. fault);
  superblock = same_superblock g.D.Disk _ _ (search rules);
  untouched = λ x has is. search rules;
}

pub returns-in_default-append_label : goal.returns-in_default-append_label
returns-in_default-append_label g c = record {
  step = rw (← c.self.view_is)
      (label_ok g.D.Disk c.self.inside.disk c.append_label.new.disk c.self.inside.journal c.append_label.new.self c.self.inside.settings.limit c.self.inside.free c.self.inside.slots c.self.inside.slots c.self.inside.stopped c.self.inside.stopped
      c.args.seq c.args.text.now (case_of c.in-Some.entry.now) c.self.invariant.sound c.if-self.false c.in-Some.ensures tt (two_is _ _ c.version.ensures.value c.version.ensures.known (λ e. (let not_one = c.if-version-eq1.false in absurd (omega (arith, e, not_one))))) (labels_differ _ _ (sym c.has_label.ensures ∙ c.if-has_label.false)) (label_append c.self.inside.journal c.append_label.new.self c.args.seq c.args.text.now (Ok c.in_default-append_label.field-0) (two_is _ _ c.version.ensures.value c.version.ensures.known (λ e. (let not_one = c.if-version-eq1.false in absurd (omega (arith, e, not_one))))) c.in_default-append_label.ensures.step));
  bytes = λ honest.
      let real = rw (← c.self.view_is) at honest in
      rw (← c.self.view_is)
      (label_bytes g.D.Disk c.self.inside.disk c.append_label.new.disk c.self.inside.journal c.append_label.new.self c.self.inside.settings.limit c.self.inside.free c.self.inside.slots c.self.inside.slots c.self.inside.stopped c.self.inside.stopped
      c.args.seq c.args.text.now (case_of c.in-Some.entry.now) c.self.invariant.sound c.if-self.false c.in-Some.ensures tt (label_append c.self.inside.journal c.append_label.new.self c.args.seq c.args.text.now (Ok c.in_default-append_label.field-0) (two_is _ _ c.version.ensures.value c.version.ensures.known (λ e. (let not_one = c.if-version-eq1.false in absurd (omega (arith, e, not_one))))) c.in_default-append_label.ensures.step) (c.append_label.ensures.others real));
  changes = record {
    disk = record { cause = search rules; later = search rules; honesty = search rules; size = search rules };
    crash = λ honest.
        let real = rw (← c.self.view_is) at honest in
        let running = c.self.invariant.sound.runs c.if-self.false in
        rw (← c.self.view_is)
        (record_ok g.D.Disk c.self.inside.disk c.append_label.new.disk c.self.inside.journal c.append_label.new.self (Label c.args.seq c.args.text.now) running.keeps running.journal real
        (whole_labelled g.D.Disk c.self.inside.disk c.self.inside.journal c.args.seq c.args.text.now (λ b may. running.keeps.whole running.journal real b may))
        (c.append_label.ensures.any_moment real running.journal) (c.append_label.ensures.outside real)
        (λ z. z ≡ labelled (durable_in (g.D.Disk.seen c.self.inside.disk) c.self.inside.journal.standing) c.args.seq c.args.text.now) tt (c.append_label.ensures.others real) (label_append c.self.inside.journal c.append_label.new.self c.args.seq c.args.text.now (Ok c.in_default-append_label.field-0) (two_is _ _ c.version.ensures.value c.version.ensures.known (λ e. (let not_one = c.if-version-eq1.false in absurd (omega (arith, e, not_one))))) c.in_default-append_label.ensures.step).2);
    stands = sound_stands g.D.Disk c.append_label.new.disk c.append_label.new.self c.self.inside.settings.limit c.self.inside.free c.self.inside.slots c.self.inside.stopped (invariant_of-self g c).sound;
  };
  superblock = rw (← c.self.view_is) (λ honest. (c.append_label.ensures.others honest).before);
  untouched = rw (← c.self.view_is)
      (λ x has is. absurd (label_differs c.args.seq c.args.text.now c.self.inside.journal.standing.cases (case_of c.in-Some.entry.now) x c.in-Some.ensures (labels_differ _ _ (sym c.has_label.ensures ∙ c.if-has_label.false)) has.1 is));
}

pub returns : goal.returns
returns g c = record {
  step = subst (λ (f : ArchiveFault). LabelStep (state_of c.args.self.now) c.args.seq c.args.text.now (Err f) (state_of (record { disk = c.append_label.new.disk; journal = c.append_label.new.self; limit = c.self.inside.settings.limit; streams = c.end_streams-self-inside.new.slots; stopped = c.end_streams-self-inside.result }))) (sym c.from-fault.ensures)
      (subst (λ (a : Parts g.row.D.Denot). LabelStep (state_of a) c.args.seq c.args.text.now (Err (fault_of c.in-Err.fault)) (state_of (record { disk = c.append_label.new.disk; journal = c.append_label.new.self; limit = c.self.inside.settings.limit; streams = c.end_streams-self-inside.new.slots; stopped = c.end_streams-self-inside.result }))) c.self.view_is
      (label_err g.D.Disk c.self.inside.disk c.append_label.new.disk c.self.inside.journal c.append_label.new.self c.self.inside.settings.limit c.self.inside.free c.self.inside.slots c.end_streams-self-inside.new.slots c.self.inside.stopped c.end_streams-self-inside.result
      c.args.seq c.args.text.now (case_of c.in-Some.entry.now) c.self.invariant.sound c.if-self.false c.in-Some.ensures c.in-Err.fault (two_is _ _ c.version.ensures.value c.version.ensures.known (λ e. (let not_one = c.if-version-eq1.false in absurd (omega (arith, e, not_one))))) (labels_differ _ _ (sym c.has_label.ensures ∙ c.if-has_label.false)) (label_append c.self.inside.journal c.append_label.new.self c.args.seq c.args.text.now (Err c.in-Err.fault) (two_is _ _ c.version.ensures.value c.version.ensures.known (λ e. (let not_one = c.if-version-eq1.false in absurd (omega (arith, e, not_one))))) c.in-Err.ensures.step)
      (subst (λ (f : ArchiveFault). EndsStreams f c.self.inside.slots c.end_streams-self-inside.result c.end_streams-self-inside.new.slots) c.from-fault.ensures c.end_streams-self-inside.ensures)));
  bytes = λ honest.
      let real = rw (← c.self.view_is) at honest in
      subst (λ (f : ArchiveFault). UnmovedBytes (contents_of g.D.Disk.seen c.args.self.now) f (contents_of g.D.Disk.seen (record { disk = c.append_label.new.disk; journal = c.append_label.new.self; limit = c.self.inside.settings.limit; streams = c.end_streams-self-inside.new.slots; stopped = c.end_streams-self-inside.result }))) (sym c.from-fault.ensures)
      (subst (λ (a : Parts g.row.D.Denot). UnmovedBytes (contents_of g.D.Disk.seen a) (fault_of c.in-Err.fault) (contents_of g.D.Disk.seen (record { disk = c.append_label.new.disk; journal = c.append_label.new.self; limit = c.self.inside.settings.limit; streams = c.end_streams-self-inside.new.slots; stopped = c.end_streams-self-inside.result }))) c.self.view_is
      (refusal_bytes g.D.Disk.seen c.self.inside.disk c.append_label.new.disk c.self.inside.journal c.self.inside.settings.limit c.self.inside.slots c.self.inside.stopped (c.append_label.ensures.others real)
      (Label c.args.seq c.args.text.now) c.append_label.new.self c.in-Err.fault c.end_streams-self-inside.result c.end_streams-self-inside.new.slots (c.self.invariant.sound.runs c.if-self.false).journal (label_append c.self.inside.journal c.append_label.new.self c.args.seq c.args.text.now (Err c.in-Err.fault) (two_is _ _ c.version.ensures.value c.version.ensures.known (λ e. (let not_one = c.if-version-eq1.false in absurd (omega (arith, e, not_one))))) c.in-Err.ensures.step)
      (subst (λ (f : ArchiveFault). EndsStreams f c.self.inside.slots c.end_streams-self-inside.result c.end_streams-self-inside.new.slots) c.from-fault.ensures c.end_streams-self-inside.ensures)));
  changes = record {
    disk = record { cause = search rules; later = search rules; honesty = search rules; size = search rules };
    crash = λ honest.
        let real = rw (← c.self.view_is) at honest in
        let running = c.self.invariant.sound.runs c.if-self.false in
        rw (← c.self.view_is)
        (record_err g.D.Disk c.self.inside.disk c.append_label.new.disk c.self.inside.journal c.append_label.new.self (Label c.args.seq c.args.text.now) running.keeps running.journal real
        (whole_labelled g.D.Disk c.self.inside.disk c.self.inside.journal c.args.seq c.args.text.now (λ b may. running.keeps.whole running.journal real b may))
        (c.append_label.ensures.any_moment real running.journal) (c.append_label.ensures.outside real)
        (λ z. z ≡ labelled (durable_in (g.D.Disk.seen c.self.inside.disk) c.self.inside.journal.standing) c.args.seq c.args.text.now) c.in-Err.fault _ _ c.from-fault.ensures c.in-Err.ensures.untouched (durable_labelled c.self.inside.journal.standing c.args.seq c.args.text.now (g.D.Disk.seen c.self.inside.disk)) (g.met.D.Disk.only_now c.self.inside.disk));
    stands = sound_stands g.D.Disk c.append_label.new.disk c.append_label.new.self c.self.inside.settings.limit c.self.inside.free c.end_streams-self-inside.new.slots c.end_streams-self-inside.result (invariant_of-self-2 g c).sound;
  };
  superblock = rw (← c.self.view_is) (λ honest. (c.append_label.ensures.others honest).before);
  untouched = rw (← c.self.view_is) (journal_spares (Unit {0}) c.in-Err.fault _ _ _ c.from-fault.ensures c.in-Err.ensures.untouched);
}
