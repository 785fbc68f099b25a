-- A session's marks, cut at any of them, are a life.
use Rattle.std.proofs.Common.{◌≡◌, List, [], ◌∷◌, ◌++◌, sym, subst}
use Rattle.std.specs.Prelude.{IsTrue}
use Rattle.disk_model.specs.declared.disk.Disk as disk
use Rattle.intake.specs.Lives.{Life, IsLived}
use Rattle.intake.specs.Marks.{Mark, IsRunOfMarks, IsMarkSettled, last_of}

-- a run, cut at any of its marks, is two
run_split : {D : Type 0} (g : disk.Ghosts D) (m : Mark D) (ns later : List (Mark D)) → IsRunOfMarks g m (ns ++ later) → IsRunOfMarks g m ns × IsRunOfMarks g (last_of m ns) later
run_split g m [] later run = (tt, run)
run_split g m (n ∷ ns) later run = let more = run_split g n ns later run.1 in ((run.0, more.0), more.1)

pub lived : {D : Type 0} (g : disk.Ghosts D) (m : Mark D) (ms : List (Mark D)) (l : Life D) → IsTrue (g.is_honest m.disk) → IsMarkSettled g m → IsRunOfMarks g m ms → l.first ≡ m → l.acknowledged ++ l.later ≡ ms → IsLived g l
lived {D} g m ms l honest settled run first all =
    let marks : IsRunOfMarks g m (l.acknowledged ++ l.later) = subst (λ (x : List (Mark D)). IsRunOfMarks g m x) (sym all) run in
    let parts = run_split g l.first l.acknowledged l.later (subst (λ (x : Mark D). IsRunOfMarks g x (l.acknowledged ++ l.later)) (sym first) marks) in
    record {
      honest = subst (λ (x : Mark D). IsTrue (g.is_honest x.disk)) (sym first) honest;
      settled = subst (λ (x : Mark D). IsMarkSettled g x) (sym first) settled;
      before = parts.0;
      after = parts.1;
    }
