use Rattle.std.proofs.Common.{ℕ, List, IsTrue, sym, subst, ◌∙◌}
use Rattle.std.proofs.lemmas.Option.{MatchOption-at_some}
use Rattle.shared_disk.specs.Outcome.{IsSeen}
use Rattle.shared_disk.specs.declared.look.Seen.{Seen}
use Rattle.shared_disk.proofs.LookLemmas.{seen_wider}
use Rattle.shared_disk.proofs.lockless.look_lockless.Goals as goal

pub returns-in-Some-2-clause-seen : goal.returns-in-Some-2-clause-seen
returns-in-Some-2-clause-seen g c = λ done honest.
    let w = g.W.WatchedDisk in
    let now = c.loop.disk in
    let end = c.look_once.new.disk in
    let before = c.loop.invariant in
    let real = subst IsTrue (sym before.honesty) honest in
    let seen = MatchOption-at_some _ (λ (s : Seen). IsTrue (w.is_honest now) → IsSeen (w.moments now) (w.reached now) (w.reached end) c.in-Some.shape s.half s.front.items) c.in-Some-2.seen c.in-Some-2.is c.in_ok-seen.ensures.seen real in (
      c.in-Some.shape,
      c.in-Some-2.seen.half,
      subst (λ (bytes : List ℕ). IsSeen (w.moments c.args.disk.now) (w.reached c.args.disk.now) (w.reached end) c.in-Some.shape c.in-Some-2.seen.half bytes) (sym (c.copy_from_slice.ensures.after ∙ c.deref.ensures.value))
          (seen_wider (w.moments c.args.disk.now) (w.reached c.args.disk.now) (w.reached now) (w.reached end) c.in-Some.shape c.in-Some-2.seen.half c.in-Some-2.seen.front.items (before.later honest)
          (subst (λ (m : List (List ℕ)). IsSeen m (w.reached now) (w.reached end) c.in-Some.shape c.in-Some-2.seen.half c.in-Some-2.seen.front.items) before.moments seen)),
    )
