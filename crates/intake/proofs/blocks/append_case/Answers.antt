use Rattle.std.proofs.Common.{◌≡◌, ap, sym, subst, List, ℕ, refl}
use Rattle.case_journal.specs.Keeping.{Keeps}
use Rattle.disk_model.specs.Moments.{LeavesOnly}
use Rattle.journal_layout.specs.Case.{case_of}
use Rattle.journal_layout.specs.Rewriting.{appended}
use Rattle.journal_layout.specs.Standing.{store_of}
use Rattle.intake.specs.Durable.{Durable, durable_in}
use Rattle.intake.specs.Guarding.{Guards, LeavesStored}
use Rattle.intake.specs.declared.faults.ArchiveFault.{ArchiveFault}
use Rattle.std.proofs.Common.{Err}
use Rattle.intake.proofs.LeaveLemmas.{store_moments, guards_appended, refused_moments, store_guards}
use Rattle.intake.proofs.RestLemmas.{stands_now}
use Rattle.intake.proofs.UntouchedLemmas.{journal_spares}
use Rattle.intake.proofs.blocks.append_case.Goals as goal

pub returns-in-Ok-clause-guards : goal.returns-in-Ok-clause-guards
returns-in-Ok-clause-guards g c =
    let j = c.args.journal.now in
    let r = store_of j.standing (case_of c.args.entry) in
    subst (Guards g.D.Disk c.append_store.new.disk) (sym c.in-Ok.ensures.step.4)
    (guards_appended g.D.Disk c.args.disk.now c.append_store.new.disk j r c.append_store.ensures.disk.honesty (g.met.D.Disk.counts_now c.append_store.new.disk)
    (subst (Keeps g.D.Disk c.append_store.new.disk) c.in-Ok.ensures.step.4 c.append_store.ensures.keeps)
    (λ honest b may. ap (λ (x : List ℕ). durable_in x (appended j.standing r)) (c.requires.settled honest b may))
    c.append_store.ensures.outside c.append_store.ensures.others)

pub returns-in-Ok-clause-any_moment : goal.returns-in-Ok-clause-any_moment
returns-in-Ok-clause-any_moment g c honest =
    store_moments g.D.Disk c.args.disk.now c.append_store.new.disk c.args.journal.now (case_of c.args.entry) c.requires.guards c.requires.runs honest (c.requires.settled honest)
    (c.append_store.ensures.any_moment honest c.requires.runs) (c.append_store.ensures.outside honest)

pub returns-in-Err-clause-any_moment : goal.returns-in-Err-clause-any_moment
returns-in-Err-clause-any_moment g c honest =
    let j = c.args.journal.now in
    let d = c.args.disk.now in
    let x : Durable = durable_in (g.D.Disk.seen d) j.standing in
    let y : Durable = durable_in (g.D.Disk.seen d) (appended j.standing (store_of j.standing (case_of c.args.entry))) in
    subst (λ (f : ArchiveFault). LeavesOnly g.D.Disk d c.append_store.new.disk (LeavesStored {T = ℕ} (Err f) x y)) (sym c.from.ensures)
    (refused_moments ℕ g.D.Disk d c.append_store.new.disk c.in-Err.fault x y y (λ z. z ≡ y) refl c.in-Err.ensures.untouched
    (λ b was. stands_now g.D.Disk d j c.requires.guards c.requires.runs honest b (g.met.D.Disk.only_now d b was))
    (store_moments g.D.Disk d c.append_store.new.disk j (case_of c.args.entry) c.requires.guards c.requires.runs honest (c.requires.settled honest)
    (c.append_store.ensures.any_moment honest c.requires.runs) (c.append_store.ensures.outside honest)))

pub returns-in-Err-clause-spared : goal.returns-in-Err-clause-spared
returns-in-Err-clause-spared g c = journal_spares ℕ c.in-Err.fault _ _ _ c.from.ensures c.in-Err.ensures.untouched

pub returns-in-Err-clause-guards : goal.returns-in-Err-clause-guards
returns-in-Err-clause-guards g c =
    store_guards g.D.Disk c.args.disk.now c.append_store.new.disk c.args.journal.now c.append_store.new.self (case_of c.args.entry) c.in-Err.fault c.in-Err.ensures.step c.in-Err.ensures.untouched
    c.append_store.ensures.keeps c.requires.guards
