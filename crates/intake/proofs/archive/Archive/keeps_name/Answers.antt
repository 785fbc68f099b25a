use Rattle.std.proofs.Common.{◌∙◌, ap, sym, subst, List, ℕ}
use Rattle.journal_layout.specs.Soundness.{Rise}
use Rattle.intake.specs.Retiring.{stays_named}
use Rattle.intake.proofs.RetireLemmas.{decision_of, entries_rise, retired_rise}
use Rattle.intake.proofs.archive.Archive.keeps_name.Goals as goal

pub decide_for-requires : goal.decide_for-requires
decide_for-requires g c =
    entries_rise c.self.inside.journal.standing.shape.data_blocks c.entries.result.now c.self.inside.journal.standing.cases c.self.inside.journal.standing.next c.entries.ensures (c.self.invariant.sound.runs c.if-self.false).cases

pub is_name_kept-requires : goal.is_name_kept-requires
is_name_kept-requires g c =
    subst (Rise 0) (sym c.as_slice-seqs.ensures.value)
    (retired_rise c.self.inside.journal c.args.policy.now c.in_ok-decision.decision.dropped.items c.in_ok-decision.decision.unmet (c.self.invariant.sound.runs c.if-self.false).cases
    (decision_of c.args.policy.now c.entries.result.now c.self.inside.journal.standing.cases c.in_ok-decision.decision.dropped.items c.in_ok-decision.decision.unmet c.entries.ensures c.in_ok-decision.ensures.decision) c.in_ok-decision.ensures.rising)

pub returns : goal.returns
returns g c =
    rw (← c.self.view_is) (record {
      runs = c.if-self.false;
      dropped = c.in_ok-decision.decision.dropped.items;
      unmet = c.in_ok-decision.decision.unmet;
      decision = decision_of c.args.policy.now c.entries.result.now c.self.inside.journal.standing.cases c.in_ok-decision.decision.dropped.items c.in_ok-decision.decision.unmet c.entries.ensures c.in_ok-decision.ensures.decision;
      is = c.is_name_kept.ensures
          ∙ ap (stays_named c.args.name.now.items c.as_slice-seqs.result.now) c.entries-2.ensures
          ∙ ap (λ (xs : List ℕ). stays_named c.args.name.now.items xs c.self.inside.journal.standing.cases) c.as_slice-seqs.ensures.value;
    })
