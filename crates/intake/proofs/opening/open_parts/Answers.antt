use Rattle.intake.proofs.NameLemmas.{taken_opened}
use Rattle.std.proofs.Common.{◌∙◌, ap, sym, refl, ℕ, List}
use Rattle.intake.specs.Durable.{durable_in}
use Rattle.intake.proofs.HoldLemmas.{opened_sound}
use Rattle.intake.proofs.opening.open_parts.Goals as goal

pub returns-clause-sound : goal.returns-clause-sound
returns-clause-sound g c most =
    let j = c.in_ok-opened.opened.journal in
    record {
      sound = opened_sound g.D.Disk c.args.disk.now c.open.new.disk j most j.standing.shape c.in_ok-opened.opened.free j.standing.cases c.in-Ok.slots
          c.in_ok-opened.ensures.gives
          (record {
            keeps = c.in_ok-opened.ensures.keeps;
            whole = λ runs real b may. ap (λ (x : List ℕ). durable_in x j.standing) (c.in_ok-opened.ensures.settled (sym c.open.ensures.disk.honesty ∙ real) b may);
          })
          c.in_ok-opened.ensures.live c.in_ok-opened.ensures.runs
          refl refl c.in_ok-opened.ensures.free c.in-Ok.ensures;
      taken = λ on. taken_opened j.standing.cases c.in-Ok.slots c.in_ok-opened.opened.names c.in_ok-opened.ensures.names c.in-Ok.ensures;
    }
