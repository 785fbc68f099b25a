use Rattle.std.proofs.Common.{List, ℕ, [], ◌∷◌, map}
use Rattle.intake.specs.Names.{name_of_case}
use Rattle.intake.proofs.ListedLemmas.{gone_one}
use Rattle.std.proofs.Common.{rules, ◌∙◌, ap, sym, refl}
use Rattle.intake.specs.Parts.{state_of}
use Rattle.journal_layout.specs.Case.{case_of}
use Rattle.intake.proofs.DropLemmas.{delete_may, delete_step}
use Rattle.intake.proofs.ChangeLemmas.{changes_none}
use Rattle.intake.proofs.FrontLemmas.{same_superblock}
use Rattle.intake.proofs.archive.Archive.delete.Goals as goal

pub drop_cases-requires-clause-may : goal.drop_cases-requires-clause-may
drop_cases-requires-clause-may g c =
    rw (← c.self.view_is)
    (delete_may g.D.Disk c.self.inside.disk c.self.inside.journal c.self.inside.settings.limit c.self.inside.free c.self.inside.slots c.args.seq (case_of c.in-Some.entry.now) (c.self.invariant.sound.runs c.if-self.false) c.in-Some.ensures c.if-entry.false)

pub drop_cases-requires-clause-names : goal.drop_cases-requires-clause-names
drop_cases-requires-clause-names g c =
    let cases = c.self.inside.journal.standing.cases in
    rw (← c.self.view_is)
    (ap (λ (n : List ℕ). n ∷ []) c.copied-name.ensures
    ∙ sym (ap (map name_of_case) (gone_one c.args.seq 0 cases (case_of c.in-Some.entry.now) (c.self.invariant.sound.runs c.if-self.false).cases.rise c.in-Some.ensures)))

pub returns-then-self : goal.returns-then-self
returns-then-self g c = record {
  step = search rules;
  bytes = search rules;
  changes = changes_none g.D.Disk (Unit {0}) c.self.inside.disk c.self.inside.journal c.self.inside.settings.limit c.self.inside.free c.self.inside.slots c.self.inside.stopped _ _ _ c.self.invariant.sound c.self.view_is (λ fault. cc);
  full = λ honest e. absurd (cc);
  superblock = same_superblock g.D.Disk _ _ (search rules);
  untouched = search rules;
}

pub returns-in_default : goal.returns-in_default
returns-in_default g c = record {
  step = rw (← c.self.view_is) (c.if-self.false, (sym c.in_default.ensures), refl);
  bytes = search rules;
  changes = changes_none g.D.Disk (Unit {0}) c.self.inside.disk c.self.inside.journal c.self.inside.settings.limit c.self.inside.free c.self.inside.slots c.self.inside.stopped _ _ _ c.self.invariant.sound c.self.view_is (λ fault. cc);
  full = λ honest e. absurd (cc);
  superblock = same_superblock g.D.Disk _ _ (search rules);
  untouched = search rules;
}

pub returns-then-entry : goal.returns-then-entry
returns-then-entry g c = record {
  step = rw (← c.self.view_is)
      ((case_of c.in-Some.entry.now), (c.if-self.false, (sym c.in-Some.ensures)), c.if-entry.true, refl);
  bytes = search rules;
  changes = changes_none g.D.Disk (Unit {0}) c.self.inside.disk c.self.inside.journal c.self.inside.settings.limit c.self.inside.free c.self.inside.slots c.self.inside.stopped _ _ _ c.self.invariant.sound c.self.view_is (λ fault. cc);
  full = λ honest e. absurd (cc);
  superblock = same_superblock g.D.Disk _ _ (search rules);
  untouched = search rules;
}

pub returns : goal.returns
returns g c = record {
  step = delete_step (state_of c.args.self.now) c.args.seq (case_of c.in-Some.entry.now) c.drop_cases.result (state_of c.drop_cases.new.self)
      (rw (← c.self.view_is) (c.if-self.false, (sym c.in-Some.ensures)))
      c.if-entry.false c.drop_cases.ensures.step;
  bytes = search rules;
  changes = c.drop_cases.ensures.changes;
  full = c.drop_cases.ensures.full;
  superblock = c.drop_cases.ensures.superblock;
  untouched = c.drop_cases.ensures.untouched;
}
