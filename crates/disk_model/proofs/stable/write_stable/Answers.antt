use Rattle.std.proofs.Common.{ℕ, subst, List, IsTrue, sym, length}
use Rattle.disk_model.specs.Disk.{ChangedIn}
use Rattle.disk_model.specs.MomentLaws.{changed_nowhere, started, goes_on}
use Rattle.disk_model.proofs.stable.write_stable.Goals as goal

pub returns-clause-any_moment : goal.returns-clause-any_moment
returns-clause-any_moment g c honest =
    let d = g.D.Disk in
    let old = c.args.disk.now in
    let mid = c.write_at.new.self in
    let new = c.sync.new.self in
    let P : List ℕ → Type 0 = ChangedIn c.args.at (length c.args.from.now) (d.may_leave old) in
    let still = subst IsTrue (sym c.write_at.ensures.honesty) honest in
    let from = started d old P (λ b left. changed_nowhere c.args.at (length c.args.from.now) (d.may_leave old) b (g.met.D.Disk.only_now old b left)) in
    let written = goes_on d old old mid P from c.write_at.ensures.time (c.write_at.ensures.crash honest) in
    goes_on d old mid new P written c.sync.ensures.time (λ b left. c.write_at.ensures.crash honest b (c.sync.ensures.crash still b left))
