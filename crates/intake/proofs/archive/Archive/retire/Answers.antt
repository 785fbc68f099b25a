use Rattle.std.proofs.lemmas.Result.{err_from_is_err_and}
use Rattle.std.proofs.Common.{map}
use Rattle.journal_layout.specs.Soundness.{Rise}
use Rattle.intake.specs.Names.{items_of, names_gone}
use Rattle.intake.proofs.RetireLemmas.{retire_rises}
use Rattle.std.proofs.Common.{◌≡◌, ◌≢◌, ◌∙◌, inl, inr, ap, sym, subst, refl, List, [], ℕ, Result, Ok, Err, rules}
use Rattle.journal_layout.specs.Case.{Case}
use Rattle.journal_layout.specs.Record.{Drop}
use Rattle.case_journal.specs.Append.{MayFollow}
use Rattle.intake.specs.Blocks.{image_in}
use Rattle.intake.specs.Parts.{state_of, contents_of}
use Rattle.intake.specs.Step.{DropStep}
use Rattle.intake.proofs.RetireLemmas.{all_stay, decision_of, entries_rise, none_dropped, retire_err, retire_may, some_dropped}
use Rattle.disk_model.specs.MomentLaws.{adds_weakened}
use Rattle.intake.specs.Durable.{Durable, durable_of, without}
use Rattle.intake.specs.Guarding.{Leaves, MayBeRetired}
use Rattle.intake.specs.Step.{RetiresSome}
use Rattle.retention.specs.declared.Decision.{Decision}
use Rattle.intake.specs.declared.faults.ArchiveFault.{ArchiveFault}
use Rattle.intake.specs.declared.faults.ArchiveFault.TheVariants as fault
use Rattle.intake.proofs.CrashLemmas.{leaves_of}
use Rattle.intake.proofs.ChangeLemmas.{changes_none}
use Rattle.intake.proofs.UntouchedLemmas.{fault_answered, other_spares}
use Rattle.intake.proofs.FrontLemmas.{same_superblock}
use Rattle.intake.proofs.archive.Archive.retire.Goals as goal

pub decide_for-requires : goal.decide_for-requires
decide_for-requires g c =
    entries_rise c.self.inside.journal.standing.shape.data_blocks c.entries.result.now c.self.inside.journal.standing.cases c.self.inside.journal.standing.next c.entries.ensures (c.self.invariant.sound.runs c.if-self.false).cases

pub drop_cases-requires-clause-may : goal.drop_cases-requires-clause-may
drop_cases-requires-clause-may g c =
    let some : c.in_ok-decision.decision.dropped.items ≢ [] = search rules in
    rw (← c.self.view_is)
    (subst (λ (xs : List ℕ). MayFollow c.self.inside.journal.standing (Drop xs)) (sym c.as_slice-seqs.ensures.value)
    (retire_may c.self.inside.journal c.args.policy.now c.in_ok-decision.decision.dropped.items c.in_ok-decision.decision.unmet (c.self.invariant.sound.runs c.if-self.false).cases
    (decision_of c.args.policy.now c.entries.result.now c.self.inside.journal.standing.cases c.in_ok-decision.decision.dropped.items c.in_ok-decision.decision.unmet c.entries.ensures c.in_ok-decision.ensures.decision) c.in_ok-decision.ensures.rising (some_dropped c.in_ok-decision.decision.dropped.items some)))

pub names_of-requires : goal.names_of-requires
names_of-requires g c =
    let some : c.in_ok-decision.decision.dropped.items ≢ [] = search rules in
    subst (Rise 0) (sym c.as_slice-seqs.ensures.value)
    (retire_rises c.self.inside.journal c.args.policy.now c.in_ok-decision.decision.dropped.items c.in_ok-decision.decision.unmet (c.self.invariant.sound.runs c.if-self.false).cases
    (decision_of c.args.policy.now c.entries.result.now c.self.inside.journal.standing.cases c.in_ok-decision.decision.dropped.items c.in_ok-decision.decision.unmet c.entries.ensures c.in_ok-decision.ensures.decision) c.in_ok-decision.ensures.rising (some_dropped c.in_ok-decision.decision.dropped.items some))

pub drop_cases-requires-clause-names : goal.drop_cases-requires-clause-names
drop_cases-requires-clause-names g c =
    rw (← c.self.view_is) (ap (map items_of) c.deref.ensures.value ∙ c.in_ok-names.ensures ∙ ap (names_gone c.as_slice-seqs.result.now) c.entries-2.ensures)

pub returns-then-self : goal.returns-then-self
returns-then-self g c = record {
  step = search rules;
  bytes = search rules;
  changes = changes_none g.D.Disk Decision c.self.inside.disk c.self.inside.journal c.self.inside.settings.limit c.self.inside.free c.self.inside.slots c.self.inside.stopped _ _ _ c.self.invariant.sound c.self.view_is (λ fault. cc);
  full = λ honest e. absurd (cc);
  superblock = same_superblock g.D.Disk _ _ (search rules);
  untouched = search rules;
}

pub returns-in_err-decision : goal.returns-in_err-decision
returns-in_err-decision g c =
    let p = err_from_is_err_and c.from_residual.result c.from_residual.ensures.1 in
    rw (p.1, p.2) (record {
      step = search rules;
      bytes = search rules;
      changes = changes_none g.D.Disk Decision c.self.inside.disk c.self.inside.journal c.self.inside.settings.limit c.self.inside.free c.self.inside.slots c.self.inside.stopped _ _ _ c.self.invariant.sound c.self.view_is (λ fault. cc);
      full = λ honest e. absurd (cc);
      superblock = same_superblock g.D.Disk _ _ (search rules);
      untouched = search rules;
    })

pub returns-then-is_empty : goal.returns-then-is_empty
returns-then-is_empty g c = record {
  step = let none = none_dropped c.in_ok-decision.decision.dropped.items (search rules) in
      rw (← c.self.view_is) (c.if-self.false, (decision_of c.args.policy.now c.entries.result.now c.self.inside.journal.standing.cases c.in_ok-decision.decision.dropped.items c.in_ok-decision.decision.unmet c.entries.ensures c.in_ok-decision.ensures.decision), inl (none, refl));
  bytes = λ honest.
      let none = none_dropped c.in_ok-decision.decision.dropped.items (search rules) in
      rw none (ap (λ (x : List (List ℕ)). record (contents_of g.D.Disk.seen c.args.self.now) { images = x })
      (sym (all_stay (λ (x : Case). image_in c.args.self.now.journal.standing.shape (g.D.Disk.seen c.args.self.now.disk) x.blocks x.len) c.args.self.now.journal.standing.cases)));
  changes = changes_none g.D.Disk Decision c.self.inside.disk c.self.inside.journal c.self.inside.settings.limit c.self.inside.free c.self.inside.slots c.self.inside.stopped _ _ _ c.self.invariant.sound c.self.view_is (λ fault. fault);
  full = λ honest e. absurd (cc);
  superblock = same_superblock g.D.Disk _ _ (search rules);
  untouched = λ none. search rules;
}

pub returns-in_err-drop_cases : goal.returns-in_err-drop_cases
returns-in_err-drop_cases g c =
    let p = err_from_is_err_and c.from_residual-in_err-drop_cases.result c.from_residual-in_err-drop_cases.ensures.1 in
    rw (p.1, p.2) (record {
      step = let some : c.in_ok-decision.decision.dropped.items ≢ [] = search rules in
          retire_err (state_of c.args.self.now) c.args.policy.now c.in_ok-decision.decision.dropped.items c.in_ok-decision.decision.unmet c.in_err-drop_cases.field-0.0 (state_of c.drop_cases.new.self)
          (rw (← c.self.view_is) (c.if-self.false, (decision_of c.args.policy.now c.entries.result.now c.self.inside.journal.standing.cases c.in_ok-decision.decision.dropped.items c.in_ok-decision.decision.unmet c.entries.ensures c.in_ok-decision.ensures.decision), some))
          (subst (λ (xs : List ℕ). DropStep (state_of c.args.self.now) xs (Err c.in_err-drop_cases.field-0.0) (state_of c.drop_cases.new.self)) c.as_slice-seqs.ensures.value c.in_err-drop_cases.ensures.step);
      bytes = search rules;
      changes = record {
        disk = record { cause = c.in_err-drop_cases.ensures.changes.disk.cause; later = c.in_err-drop_cases.ensures.changes.disk.later; honesty = c.in_err-drop_cases.ensures.changes.disk.honesty; size = c.in_err-drop_cases.ensures.changes.disk.size };
        crash = λ honest.
            let some : c.in_ok-decision.decision.dropped.items ≢ [] = search rules in
            let retires : RetiresSome (state_of c.args.self.now) c.args.policy.now c.in_ok-decision.decision.dropped.items c.in_ok-decision.decision.unmet =
            rw (← c.self.view_is) (c.if-self.false, (decision_of c.args.policy.now c.entries.result.now c.self.inside.journal.standing.cases c.in_ok-decision.decision.dropped.items c.in_ok-decision.decision.unmet c.entries.ensures c.in_ok-decision.ensures.decision), some) in
            let x : Durable = durable_of g.D.Disk.seen c.args.self.now in
            let y : Durable = durable_of g.D.Disk.seen c.drop_cases.new.self in
            adds_weakened g.D.Disk c.args.self.now.disk c.drop_cases.new.self.disk
            (Leaves {T = Unit {0}} x (Err c.in_err-drop_cases.field-0.0) y (λ z. z ≡ without x c.as_slice-seqs.result.now))
            (Leaves {T = Decision} x (Err c.in_err-drop_cases.field-0.0) y (MayBeRetired (state_of c.args.self.now) c.args.policy.now x))
            (λ b h. leaves_of (Unit {0}) Decision c.in_err-drop_cases.field-0.0 x y y (λ z. z ≡ without x c.as_slice-seqs.result.now) (MayBeRetired (state_of c.args.self.now) c.args.policy.now x) b
            (λ z is. (c.in_ok-decision.decision.dropped.items, c.in_ok-decision.decision.unmet, retires, is ∙ ap (without x) c.as_slice-seqs.ensures.value)) h)
            (c.in_err-drop_cases.ensures.changes.crash honest);
        stands = c.in_err-drop_cases.ensures.changes.stands;
      };
      full = λ honest e. c.in_err-drop_cases.ensures.full honest (ap (λ (f : ArchiveFault). let r : Result (Unit {0}) ArchiveFault = Err f in r) (fault_answered Decision c.in_err-drop_cases.field-0.0 fault.JournalFull e));
      superblock = c.in_err-drop_cases.ensures.superblock;
      untouched = other_spares (Unit {0}) Decision c.in_err-drop_cases.field-0.0 _ _ c.in_err-drop_cases.ensures.untouched;
    })

pub returns : goal.returns
returns g c = record {
  step = let some : c.in_ok-decision.decision.dropped.items ≢ [] = search rules in
      let step = subst (λ (xs : List ℕ). DropStep (state_of c.args.self.now) xs (Ok c.in_ok-drop_cases.field-0) (state_of c.drop_cases.new.self)) c.as_slice-seqs.ensures.value c.in_ok-drop_cases.ensures.step in (
        rw (← c.self.view_is) c.if-self.false,
        rw (← c.self.view_is) (decision_of c.args.policy.now c.entries.result.now c.self.inside.journal.standing.cases c.in_ok-decision.decision.dropped.items c.in_ok-decision.decision.unmet c.entries.ensures c.in_ok-decision.ensures.decision),
        inr (some, step.0, step.1),
      );
  bytes = search rules;
  changes = record {
    disk = record { cause = λ fault. absurd fault; later = search rules; honesty = search rules; size = search rules };
    crash = search rules;
    stands = c.in_ok-drop_cases.ensures.changes.stands;
  };
  full = λ honest e. absurd (cc);
  superblock = c.in_ok-drop_cases.ensures.superblock;
  untouched = λ none. (let some : c.in_ok-decision.decision.dropped.items ≢ [] = search rules in absurd (some none));
}
