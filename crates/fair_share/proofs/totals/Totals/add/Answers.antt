use Rattle.std.proofs.Common.{◌+◌, ◌≤◌, ap, subst, sym, ◌∙◌}
use Rattle.std.proofs.lemmas.Map.Text.{btree_map_updates_str}
use Rattle.journal_layout.specs.Case.{case_of}
use Rattle.fair_share.specs.Fairness.{owner_of}
use Rattle.fair_share.specs.Totals.{total_in}
use Rattle.fair_share.specs.Weighing.{counted}
use Rattle.fair_share.proofs.TotalLemmas.{added, slowly}
use Rattle.fair_share.proofs.totals.Totals.add.Goals as goal

pub returns-clause-grows : goal.returns-clause-grows
returns-clause-grows c =
    added c.args.scope c.args.self.now (record { blocks = c.insert.new.self }) (case_of c.args.core.now) c.owner_of-owner.result.now _
    (c.owner_of-owner.ensures ∙ ap (owner_of c.args.scope) c.deref.ensures.0)
    (ap (λ n. n + c.counted.result) c.total.ensures ∙ ap (λ n. total_in c.args.self.now c.owner_of-owner.result.now + n) c.counted.ensures.value)
    (λ k. btree_map_updates_str c.owner_of-owner.result.now c.args.self.now.blocks c.insert.new.self _ c.in_ok-insert.ensures.updates k)

pub returns-clause-slowly : goal.returns-clause-slowly
returns-clause-slowly c =
    slowly c.args.scope c.args.self.now (record { blocks = c.insert.new.self }) (case_of c.args.core.now) c.owner_of-owner.result.now _
    (c.owner_of-owner.ensures ∙ ap (owner_of c.args.scope) c.deref.ensures.0)
    (ap (λ n. n + c.counted.result) c.total.ensures ∙ ap (λ n. total_in c.args.self.now c.owner_of-owner.result.now + n) c.counted.ensures.value)
    (λ k. btree_map_updates_str c.owner_of-owner.result.now c.args.self.now.blocks c.insert.new.self _ c.in_ok-insert.ensures.updates k)
    (subst (λ n. n ≤ 18446744073709551615) c.counted.ensures.value c.counted.ensures.small)
