-- A session or a store over a disk that was settled before it.
use Rattle.std.proofs.Common.{◌≡◌, ◌⊎◌, ◌≤◌, inl, inr, ⊎_elim, ℕ, List, [], ◌∷◌, Ok, sym, subst}
use Rattle.std.specs.Prelude.{IsTrue}
use Rattle.case_journal.specs.Settling.{SettlesGates, Settles}
use Rattle.disk_model.specs.declared.disk.Disk as disk
use Rattle.intake.specs.Durable.{Durable, StandsFor}
use Rattle.inspector_cli.specs.Headline.{FindsMoment, FindsSince, Moment}
use Rattle.inspector_cli.specs.Settled.{IsSafeAfterSettling, SettledSessionsAreSafe, SettledStoresAreSafe}

-- what opens as the first moment opens as one of them
found_first : {D : Type 0} (left : List ℕ) (m : Moment D) (later : List (Moment D)) → FindsMoment left m → FindsSince left m later
found_first left m [] found = found
found_first left m (n ∷ ns) found = inl found

module _ {D : Type 0} (g : disk.Ghosts D) (old mid after : D) (x : Durable) (begin : Moment D) (later : List (Moment D)) (honest : IsTrue (g.is_honest old)) (stands : StandsFor (g.seen old) x) (settles : Settles g old mid (Ok tt))
    (found : (y : Durable) → StandsFor (g.seen mid) y → begin.holds ≡ y)
    (earlier : (time : ℕ) (left : List ℕ) → time ≤ g.clock mid → g.left_since after time left → g.left_since mid time left ⊎ (g.may_leave mid left ⊎ FindsSince left begin later)) where
  gates : SettlesGates g old mid stands.standing (Ok tt)
  gates = settles.0 stands.standing stands.stands

  begins : begin.holds ≡ x
  begins = found x (subst (λ (b : List ℕ). StandsFor b x) (sym gates.seen) stands)

  -- a stop right after the settling leaves the bytes that reads give
  first : (left : List ℕ) → g.may_leave mid left → FindsMoment left begin
  first left may = (x, subst (λ (b : List ℕ). StandsFor b x) (sym (gates.settled left may)) (subst (λ (b : List ℕ). StandsFor b x) (sym gates.seen) stands), inl (sym begins))

  pub after_settling : IsSafeAfterSettling g old after x begin later
  after_settling = record {
    begins = begins;
    stops = λ left was.
        ⊎_elim (λ settling. inl (record { standing = stands.standing; stands = stands.stands; last = gates.last; last_gate = gates.last_gate; touched = (gates.again.moments honest).each left settling }))
        (λ rest. inr (⊎_elim (λ may. found_first left begin later (first left may)) (λ since. since) rest))
        (earlier (g.clock old) left (gates.again.moments honest).later was);
  }

pub sessions_after_settling : {D : Type 0} (g : disk.Ghosts D) → SettledSessionsAreSafe g
sessions_after_settling g naming t old mid after x answer honest stands settles s =
    after_settling g old mid after x s.course.begin _ honest stands settles s.found s.earlier

pub stores_after_settling : {D : Type 0} (g : disk.Ghosts D) → SettledStoresAreSafe g
stores_after_settling g t asked found options old mid after x answer honest stands settles s =
    after_settling g old mid after x s.course.begin _ honest stands settles s.found_again s.earlier
