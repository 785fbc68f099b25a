-- An archive over many stops, told by the marks of its lives.
use Rattle.std.proofs.Common.{◌≡◌, ◌⊎◌, ℕ, ◌<◌, ◌≤◌, List, [], ◌∷◌, ◌++◌, Ok, refl, ap, sym, subst, ◌∙◌, ⊎_elim, inl, inr, arith}
use Rattle.std.specs.List.{AllByRecursion}
use Rattle.std.specs.Prelude.{IsTrue, Result}
use Rattle.disk_model.specs.declared.disk.Disk as disk
use Rattle.intake.specs.Durable.{Durable, FoundCase, StandsFor}
use Rattle.intake.specs.Calls.{OpenCall, FinishCall}
use Rattle.intake.specs.Opened.{disk_in}
use Rattle.journal_layout.specs.declared.faults.OpenFault.{OpenFault}
use Rattle.disk_model.specs.Anew.{Restarts}
use Rattle.intake.specs.Lives.{Life, IsLived, IsLeftBy, IsAmong, IsReached, IsFollowed, IsTried, AreTried, Attempt, disk_after, HoldsCase, AllHoldCase, AreLived, AreKept, last_acknowledged}
use Rattle.intake.specs.Marks.{Mark, IsOneOf, Has, IsMarkSettled, FindsOne, HasOne, IsRunOfMarks, last_of, mark_of}
use Rattle.intake.specs.Parts.{Parts, state_of}
use Rattle.intake.specs.State.{ArchiveState}
use Rattle.intake.specs.Step.{FinishStep}
use Rattle.intake.proofs.LastingLemmas.{one_stands}
use Rattle.intake.proofs.MarkLemmas.{found_from}

-- what is found is what one of the marks has
has_one : {D : Type 0} (c : List ℕ) (x : Durable) (m : Mark D) (ns : List (Mark D)) → StandsFor c x → FindsOne c m ns → HasOne m ns x
has_one c x m [] stands found = subst (Has m) (one_stands c found.0 x found.1 stands) found.2
has_one c x m (n ∷ ns) stands found =
    ⊎_elim (λ here. inl (subst (Has m) (one_stands c here.0 x here.1 stands) here.2)) (λ there. inr (has_one c x n ns stands there)) found

-- what the last mark of a run or a later one has, the run with the later ones has
one_later : {D : Type 0} (m : Mark D) (ns later : List (Mark D)) (x : Durable) → HasOne (last_of m ns) later x → HasOne m (ns ++ later) x
one_later m [] later x has = has
one_later m (n ∷ ns) later x has = inr (one_later n ns later x has)

run_on : {D : Type 0} (g : disk.Ghosts D) (m : Mark D) (ns later : List (Mark D)) → IsRunOfMarks g m ns → IsRunOfMarks g (last_of m ns) later → IsRunOfMarks g m (ns ++ later)
run_on g m [] later run more = more
run_on g m (n ∷ ns) later run more = (run.0, run_on g n ns later run.1 more)

-- what is found stands for something
one_stands_for : {D : Type 0} (m : Mark D) (ns : List (Mark D)) (c : List ℕ) → FindsOne c m ns → (x : Durable) × StandsFor c x
one_stands_for m [] c found = (found.0, found.1)
one_stands_for m (n ∷ ns) c found = ⊎_elim (λ here. (here.0, here.1)) (λ there. one_stands_for n ns c there) found

begins_clear : {D : Type 0} {g : disk.Ghosts D} (l n : Life D) → IsFollowed g l n → n.first.in_doubt ≡ []
begins_clear l n followed = ap (λ (m : Mark _). m.in_doubt) followed.first

module _ {D : Type 0} (g : disk.Ghosts D) (counts : (d : D) (t : ℕ) (c : List ℕ) → t ≤ g.clock d → g.may_leave d c → g.left_since d t c) where
  -- an opening leaves a disk that restarts
  opened_restarts : (left : List ℕ) (d : D) (limit : ℕ) (r : Result (Parts D) (OpenFault × D)) → Restarts g left d → OpenCall g limit d r → Restarts g left (disk_in r)
  opened_restarts left d limit r starts call = record {
    honest = call.honesty ∙ starts.honest;
    seen = call.seen starts.honest ∙ starts.seen;
    settled = λ c may. (let quiet = call.any_moment starts.honest in starts.settled c (quiet.each c (counts (disk_in r) (g.clock d) c quiet.later may)));
  }

  tried_restarts : (left : List ℕ) (d : D) (t : Attempt D) → Restarts g left d → IsTried g d t → Restarts g left t.next
  tried_restarts left d t starts tried =
      ⊎_elim
      (λ back. subst (Restarts g left) (sym back.1) (opened_restarts left d t.limit t.answer starts tried.0))
      (⊎_elim
      (λ anew. again anew.left (counts (disk_in t.answer) (g.clock d) anew.left (tried.0.any_moment starts.honest).later anew.may) anew.restarts)
      (λ stop. again stop.0 stop.1 stop.2))
      tried.1
    where
      again : (was : List ℕ) → g.left_since (disk_in t.answer) (g.clock d) was → Restarts g was t.next → Restarts g left t.next
      again was since restarts = subst (λ (b : List ℕ). Restarts g b t.next) (starts.settled was ((tried.0.any_moment starts.honest).each was since)) restarts

  all_restart : (left : List ℕ) (d : D) (ts : List (Attempt D)) → Restarts g left d → AreTried g d ts → Restarts g left (disk_after d ts)
  all_restart left d [] starts tried = starts
  all_restart left d (t ∷ ts) starts tried = all_restart left t.next ts (tried_restarts left d t starts tried.0) tried.1

  -- a life begins with what the bytes stand for that were left
  begins : (l n : Life D) (followed : IsFollowed g l n) (x : Durable) → StandsFor followed.left x → n.first.durable ≡ x
  begins l n followed x stands =
      let starts = all_restart followed.left followed.disk followed.attempts followed.restarts followed.tried in
      ap (λ (m : Mark D). m.durable) followed.first ∙ followed.opening.found_again x starts.honest (subst (λ (b : List ℕ). StandsFor b x) (sym starts.seen) stands)

module _ {D : Type 0} (g : disk.Ghosts D) (counts : (d : D) (t : ℕ) (c : List ℕ) → t ≤ g.clock d → g.may_leave d c → g.left_since d t c) (only : (d : D) (c : List ℕ) → g.left_since d (g.clock d) c → g.may_leave d c) where
  pub found_has : (m : Mark D) (ns : List (Mark D)) (c : List ℕ) (x : Durable) → IsTrue (g.is_honest m.disk) → IsMarkSettled g m → IsRunOfMarks g m ns
      → g.left_since (last_of m ns).disk (g.clock m.disk) c → StandsFor c x → HasOne m ns x
  found_has m ns c x honest settled run left stands = has_one c x m ns stands (found_from g only m ns honest settled run c left)

  -- a run ends on an honest disk, settled
  pub run_settled : (m : Mark D) (ns : List (Mark D)) → IsTrue (g.is_honest m.disk) → IsMarkSettled g m → IsRunOfMarks g m ns → IsTrue (g.is_honest (last_of m ns).disk) × IsMarkSettled g (last_of m ns)
  run_settled m [] honest settled run = (honest, settled)
  run_settled m (n ∷ ns) honest settled run = run_settled n ns (run.0.honesty ∙ honest) (run.0.settled honest settled) run.1

  pub kept_once : (l : Life D) (left : List ℕ) (x : Durable) → IsLived g l → g.left_since (last_of (last_acknowledged l) l.later).disk (g.clock (last_acknowledged l).disk) left
      → StandsFor left x → HasOne (last_acknowledged l) l.later x
  kept_once l left x lived was stands =
      let end = run_settled l.first l.acknowledged lived.honest lived.settled lived.before in
      found_has (last_acknowledged l) l.later left x end.0 end.1 lived.after was stands

  -- time goes on in a run
  later_clock : (m : Mark D) (ns : List (Mark D)) → IsTrue (g.is_honest m.disk) → IsRunOfMarks g m ns → g.clock m.disk ≤ g.clock (last_of m ns).disk
  later_clock m [] honest run = omega arith
  later_clock m (n ∷ ns) honest run =
      let now = (run.0.crash honest).later in
      let rest = later_clock n ns (run.0.honesty ∙ honest) run.1 in
      omega (arith, now, rest)

  pub left_by_a_stop : (l : Life D) (left : List ℕ) → IsLived g l → IsLeftBy g l left → g.left_since (last_of (last_acknowledged l) l.later).disk (g.clock (last_acknowledged l).disk) left
  left_by_a_stop l left lived ends =
      let end = run_settled l.first l.acknowledged lived.honest lived.settled lived.before in
      ⊎_elim (λ stop. stop) (λ may. counts (last_of (last_acknowledged l) l.later).disk (g.clock (last_acknowledged l).disk) left (later_clock (last_acknowledged l) l.later end.0 lived.after) may) ends

  pub kept : (l : Life D) (ls : List (Life D)) → AreLived g l ls → AreKept l ls
  kept l [] lived = tt
  kept l (n ∷ ns) lived =
      let end = run_settled l.first l.acknowledged lived.0.honest lived.0.settled lived.0.before in
      let stop = left_by_a_stop l lived.1.left lived.0 lived.1.ends in
      let some = one_stands_for (last_acknowledged l) l.later lived.1.left (found_from g only (last_acknowledged l) l.later end.0 end.1 lived.0.after lived.1.left stop) in
      (subst (HasOne (last_acknowledged l) l.later) (sym (begins g counts l n lived.1 some.0 some.1)) (found_has (last_acknowledged l) l.later lived.1.left some.0 end.0 end.1 lived.0.after stop some.1), kept n ns lived.2)

  all_hold : (c : FoundCase) (xs : List Durable) (x : Durable) → AllByRecursion (λ (y : Durable). IsAmong y.cases c) xs → IsOneOf xs x → IsAmong x.cases c
  all_hold c [] x all one = absurd one
  all_hold c (y ∷ ys) x all one = ⊎_elim (λ is. subst (λ (z : Durable). IsAmong z.cases c) (sym is) all.0) (λ there. all_hold c ys x all.1 there) one

  mark_holds : (c : FoundCase) (m : Mark D) (x : Durable) → HoldsCase c m → Has m x → IsAmong x.cases c
  mark_holds c m x holds has = ⊎_elim (λ is. subst (λ (z : Durable). IsAmong z.cases c) (sym is) holds.0) (λ one. all_hold c m.in_doubt x holds.1 one) has

  one_holds : (c : FoundCase) (m : Mark D) (ns : List (Mark D)) (x : Durable) → AllHoldCase c m ns → HasOne m ns x → IsAmong x.cases c
  one_holds c m [] x holds has = mark_holds c m x holds has
  one_holds c m (n ∷ ns) x holds has = ⊎_elim (λ here. mark_holds c m x holds.0 here) (λ there. one_holds c n ns x holds.1 there) has

  pub case_found : (m : Mark D) (ns : List (Mark D)) (c : FoundCase) (left : List ℕ) (x : Durable) → IsTrue (g.is_honest m.disk) → IsMarkSettled g m → IsRunOfMarks g m ns
      → AllHoldCase c m ns → g.left_since (last_of m ns).disk (g.clock m.disk) left → StandsFor left x → IsAmong x.cases c
  case_found m ns c left x honest settled run holds was stands = one_holds c m ns x holds (found_has m ns left x honest settled run was stands)

  -- what a mark of a run has was in doubt at its first mark, or has no lower next number
  not_below : (m : Mark D) (ns : List (Mark D)) (x : Durable) → IsTrue (g.is_honest m.disk) → IsRunOfMarks g m ns → HasOne m ns x → IsOneOf m.in_doubt x ⊎ (m.durable.next ≤ x.next)
  not_below m [] x honest run has = at_mark m x has
    where
      at_mark : (n : Mark D) (y : Durable) → Has n y → IsOneOf n.in_doubt y ⊎ (n.durable.next ≤ y.next)
      at_mark n y here = ⊎_elim (λ is. inr (let e = ap (λ (z : Durable). z.next) is in omega (arith, e))) (λ one. inl one) here
  not_below m (n ∷ ns) x honest run has =
      ⊎_elim
      (λ here. ⊎_elim (λ is. inr (let e = ap (λ (z : Durable). z.next) is in omega (arith, e))) (λ one. inl one) here)
      (λ there.
      ⊎_elim
      (λ one. run.0.doubts honest x one)
      (λ above. inr (let a = run.0.number honest in omega (arith, a, above)))
      (not_below n ns x (run.0.honesty ∙ honest) run.1 there))
      has

  pub numbers_stay : (m : Mark D) (ns : List (Mark D)) (left : List ℕ) (x : Durable) → IsTrue (g.is_honest m.disk) → IsMarkSettled g m → IsRunOfMarks g m ns → m.in_doubt ≡ []
      → g.left_since (last_of m ns).disk (g.clock m.disk) left → StandsFor left x → m.durable.next ≤ x.next
  numbers_stay m ns left x honest settled run none was stands =
      ⊎_elim (λ one. absurd (subst (λ (l : List Durable). IsOneOf l x) none one)) (λ above. above)
      (not_below m ns x honest run (found_has m ns left x honest settled run was stands))

  -- where nothing is in doubt, what a later mark has does not have a lower next number
  above_here : (m : Mark D) (ns later : List (Mark D)) (x : Durable) → IsTrue (g.is_honest m.disk) → IsRunOfMarks g m ns → IsRunOfMarks g (last_of m ns) later → HasOne (last_of m ns) later x → m.in_doubt ≡ []
      → m.durable.next ≤ x.next
  above_here m ns later x honest run more has none =
      ⊎_elim (λ one. absurd (subst (λ (l : List Durable). IsOneOf l x) none one)) (λ above. above)
      (not_below m (ns ++ later) x honest (run_on g m ns later run more) (one_later m ns later x has))

  above_from : (m first : Mark D) (ns later : List (Mark D)) (x : Durable) → IsTrue (g.is_honest first.disk) → IsRunOfMarks g first ns → IsRunOfMarks g (last_of first ns) later → HasOne (last_of first ns) later x
      → IsReached m first ns → m.in_doubt ≡ [] → m.durable.next ≤ x.next
  above_from m first [] later x honest run more has is none =
      let a = above_here first [] later x honest run more has (sym (ap (λ (n : Mark D). n.in_doubt) is) ∙ none) in
      let e = ap (λ (n : Mark D). n.durable.next) is in
      omega (arith, a, e)
  above_from m first (n ∷ ns) later x honest run more has (inl is) none =
      let a = above_here first (n ∷ ns) later x honest run more has (sym (ap (λ (n : Mark D). n.in_doubt) is) ∙ none) in
      let e = ap (λ (n : Mark D). n.durable.next) is in
      omega (arith, a, e)
  above_from m first (n ∷ ns) later x honest run more has (inr there) none = above_from m n ns later x (run.0.honesty ∙ honest) run.1 more has there none

  -- what each later life begins with does not have a lower next number than what the one before may leave
  above_all : (k : ℕ) (l : Life D) (ls : List (Life D)) → AreLived g l ls → ((x : Durable) → HasOne (last_acknowledged l) l.later x → k ≤ x.next)
      → AllByRecursion (λ (n : Life D). k ≤ n.first.durable.next) ls
  above_all k l [] lived above = tt
  above_all k l (n ∷ ns) lived above =
      let here = above n.first.durable (kept l (n ∷ ns) lived).0 in (
        here,
        above_all k n ns lived.2 (λ x has.
            let life = first_life n ns lived.2 in
            let a = above_here n.first n.acknowledged n.later x life.honest life.before life.after has (begins_clear l n lived.1) in
            omega (arith, here, a)),
      )
    where
      first_life : (m : Life D) (ms : List (Life D)) → AreLived g m ms → IsLived g m
      first_life m [] one = one
      first_life m (o ∷ os) more = more.0

  next_given : (old : ArchiveState) (new : ArchiveState) (slot seq : ℕ) → FinishStep old slot (Ok seq) new → seq < new.next
  next_given old new slot seq step = let e = ap (λ (s : ArchiveState). s.next) step.7 in let s = step.6 in omega (arith, e, s)

  below_all : (seq k : ℕ) (ls : List (Life D)) → seq < k → AllByRecursion (λ (n : Life D). k ≤ n.first.durable.next) ls → AllByRecursion (λ (n : Life D). seq < n.first.durable.next) ls
  below_all seq k [] below all = tt
  below_all seq k (n ∷ ns) below all = (let a = all.0 in omega (arith, below, a), below_all seq k ns below all.1)

  pub given_once : (l : Life D) (ls : List (Life D)) (old new : Parts D) (slot seq : ℕ) → AreLived g l ls → FinishCall g old slot (Ok seq) new
      → IsReached (mark_of g.seen new []) l.first l.acknowledged → AllByRecursion (λ (n : Life D). seq < n.first.durable.next) ls
  given_once l [] old new slot seq lived finish is = tt
  given_once l (n ∷ ns) old new slot seq lived finish is =
      below_all seq (state_of new).next (n ∷ ns) (next_given (state_of old) (state_of new) slot seq finish.step)
      (above_all (state_of new).next l (n ∷ ns) lived (λ x has.
      above_from (mark_of g.seen new []) l.first l.acknowledged l.later x lived.0.honest lived.0.before lived.0.after has is refl))
