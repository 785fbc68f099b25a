use Rattle.std.proofs.Common.{◌∙◌, ◌+◌, ◌≤◌, ℕ, List, Ok, Err, IsTrue, ap, sym, subst}
use Rattle.std.specs.List.{All}
use Rattle.std.proofs.lemmas.Result.{err_from_is_err_and}
use Rattle.journal_layout.specs.declared.faults.OpenFault.TheVariants.{Disk}
use Rattle.journal_layout.specs.Stands.{Stands}
use Rattle.case_journal.specs.Settling.{WritesAgain, gates_of}
use Rattle.case_journal.specs.Opening.{journal_of}
use Rattle.case_journal.proofs.SettleLemmas.{again_quiet, opened_quiet, settles_found, settles_nothing}
use Rattle.case_journal.proofs.settling.settle.Goals as goal

pub returns-in_err-opened-clause-settles : goal.returns-in_err-opened-clause-settles
returns-in_err-opened-clause-settles g c honest =
    let made = err_from_is_err_and c.from_residual.result c.from_residual.ensures.1 in
    let quiet = opened_quiet g.D.Disk c.args.disk.now c.open.new.disk (g.met.D.Disk.counts_now c.open.new.disk) c.open.ensures.any_moment c.open.ensures.seen c.open.ensures.disk.honesty
    c.open.ensures.disk.size in
    rw (made.1, made.2) (settles_nothing g.D.Disk c.args.disk.now c.open.new.disk (journal_of c.open.result) c.in_err-opened.field-0.0 (ap journal_of c.in_err-opened.was) (λ s there. c.open.ensures.found s honest there) quiet)

pub write_each_again-requires : goal.write_each_again-requires
write_each_again-requires g c =
    subst (All (λ (p : ℕ). p + 1 ≤ g.D.Disk.size c.open.new.disk)) (sym c.gates.ensures) c.in_ok-opened.ensures.gates

pub returns-in_default-clause-settles : goal.returns-in_default-clause-settles
returns-in_default-clause-settles g c honest =
    let d = g.D.Disk in
    let old = c.args.disk.now in
    let mid = c.open.new.disk in
    let new = c.write_each_again.new.disk in
    let opened = c.in_ok-opened.opened in
    let gives = c.in_ok-opened.ensures.gives in
    let quiet = opened_quiet d old mid (g.met.D.Disk.counts_now mid) c.open.ensures.any_moment c.open.ensures.seen c.open.ensures.disk.honesty c.open.ensures.disk.size in
    settles_found d old mid new honest quiet opened.journal.standing opened.last_gate (Err Disk) c.in_ok-opened.ensures.last (λ s there. c.in_ok-opened.ensures.found s honest there)
    (subst (λ (b : List ℕ). Stands b opened.journal.standing) (gives.view.is honest) gives.gives)
    (subst (λ (places : List ℕ). WritesAgain d places mid new) c.gates.ensures c.write_each_again.ensures.again)
    tt tt tt

pub returns-in_default-sync-clause-settles : goal.returns-in_default-sync-clause-settles
returns-in_default-sync-clause-settles g c honest =
    let d = g.D.Disk in
    let old = c.args.disk.now in
    let mid = c.open.new.disk in
    let new = c.sync.new.self in
    let opened = c.in_ok-opened.opened in
    let gives = c.in_ok-opened.ensures.gives in
    let quiet = opened_quiet d old mid (g.met.D.Disk.counts_now mid) c.open.ensures.any_moment c.open.ensures.seen c.open.ensures.disk.honesty c.open.ensures.disk.size in
    settles_found d old mid new honest quiet opened.journal.standing opened.last_gate (Err Disk) c.in_ok-opened.ensures.last (λ s there. c.in_ok-opened.ensures.found s honest there)
    (subst (λ (b : List ℕ). Stands b opened.journal.standing) (gives.view.is honest) gives.gives)
    (again_quiet d (gates_of opened.journal.standing opened.last_gate) mid c.write_each_again.new.disk new
    (subst (λ (places : List ℕ). WritesAgain d places mid c.write_each_again.new.disk) c.gates.ensures c.write_each_again.ensures.again)
    c.sync.ensures.crash c.sync.ensures.seen c.sync.ensures.time c.sync.ensures.honesty c.sync.ensures.size)
    tt tt tt

pub returns-clause-settles : goal.returns-clause-settles
returns-clause-settles g c honest =
    let d = g.D.Disk in
    let old = c.args.disk.now in
    let mid = c.open.new.disk in
    let written = c.write_each_again.new.disk in
    let new = c.sync.new.self in
    let opened = c.in_ok-opened.opened in
    let gives = c.in_ok-opened.ensures.gives in
    let quiet = opened_quiet d old mid (g.met.D.Disk.counts_now mid) c.open.ensures.any_moment c.open.ensures.seen c.open.ensures.disk.honesty c.open.ensures.disk.size in
    let first : IsTrue (d.is_honest mid) = subst IsTrue (sym c.open.ensures.disk.honesty) honest in
    let second : IsTrue (d.is_honest written) = subst IsTrue (sym c.write_each_again.ensures.again.honesty) first in
    settles_found d old mid new honest quiet opened.journal.standing opened.last_gate (Ok tt) c.in_ok-opened.ensures.last (λ s there. c.in_ok-opened.ensures.found s honest there)
    (subst (λ (b : List ℕ). Stands b opened.journal.standing) (gives.view.is honest) gives.gives)
    (again_quiet d (gates_of opened.journal.standing opened.last_gate) mid written new
    (subst (λ (places : List ℕ). WritesAgain d places mid written) c.gates.ensures c.write_each_again.ensures.again)
    c.sync.ensures.crash c.sync.ensures.seen c.sync.ensures.time c.sync.ensures.honesty c.sync.ensures.size)
    tt
    (c.sync.ensures.seen second ∙ c.in-Ok.ensures.seen first ∙ c.open.ensures.seen honest)
    (λ b may. c.in-Ok-sync.ensures.durable second b may ∙ sym (c.sync.ensures.seen second))
