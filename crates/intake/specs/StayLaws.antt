-- Calls that change no case, one after the other.
use Rattle.std.proofs.Common.{◌≡◌, sym, ap, subst, ◌∙◌, refl, arith}
use Rattle.disk_model.specs.Moments.{AddsOnly}
use Rattle.disk_model.specs.MomentLaws.{adds_nothing, adds_again, adds_weakened}
use Rattle.disk_model.specs.declared.disk.Disk as disk
use Rattle.intake.specs.Calls.{ChangesNoCase}
use Rattle.intake.specs.Durable.{StandsFor, durable_of}
use Rattle.intake.specs.Parts.{Parts}

module _ {D : Type 0} (g : disk.Ghosts D) where
  -- no disk call, and no case is changed
  pub stays_still : (old new : Parts D) → new.disk ≡ old.disk → durable_of g.seen new ≡ durable_of g.seen old → ChangesNoCase g old new
  stays_still old new disk same = record {
    honesty = ap g.is_honest disk;
    later = omega (arith, ap g.failures disk);
    size = ap g.size disk;
    crash = λ honest. subst (λ (d : D). AddsOnly g old.disk d (λ c. StandsFor c (durable_of g.seen old))) (sym disk) (adds_nothing g old.disk (λ c. StandsFor c (durable_of g.seen old)));
    durable = λ honest. same;
  }

  pub stays_none : (a : Parts D) → ChangesNoCase g a a
  stays_none a = stays_still a a refl refl

  pub stays_as : (a b : Parts D) → b ≡ a → ChangesNoCase g a b
  stays_as a b is = subst (λ (x : Parts D). ChangesNoCase g a x) (sym is) (stays_none a)

  pub stays_then : (a b c : Parts D) → ChangesNoCase g a b → ChangesNoCase g b c → ChangesNoCase g a c
  stays_then a b c first second = record {
    honesty = second.honesty ∙ first.honesty;
    later = omega (arith, first.later, second.later);
    size = second.size ∙ first.size;
    crash = λ honest.
        adds_again g a.disk b.disk c.disk (λ x. StandsFor x (durable_of g.seen a)) (first.crash honest)
        (adds_weakened g b.disk c.disk (λ x. StandsFor x (durable_of g.seen b)) (λ x. StandsFor x (durable_of g.seen a)) (λ x stands. subst (StandsFor x) (first.durable honest) stands)
        (second.crash (first.honesty ∙ honest)));
    durable = λ honest. second.durable (first.honesty ∙ honest) ∙ first.durable honest;
  }
