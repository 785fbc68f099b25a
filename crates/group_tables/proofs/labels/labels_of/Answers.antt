use Rattle.std.proofs.Common.{ℕ, List, [], ◌∷◌, map, ap, ◌∙◌}
use Rattle.std.proofs.lemmas.List.{map-append}
use Rattle.std.specs.Borrow.{Bor}
use Rattle.group_tables.proofs.LabelLemmas.{new_label, old_label}
use Rattle.group_tables.proofs.labels.labels_of.Goals as goal

pub loop-at-preserved-then-is_old_label : goal.loop-at-preserved-then-is_old_label
loop-at-preserved-then-is_old_label c =
    old_label c.args.members.now c.loop-at.at c.label_at-label.result.now c.loop-at-test.true c.label_at-label.ensures (map (λ (t : Bor (List ℕ)). t.now) c.loop-at.labels.items) c.is_old_label.result
    c.is_old_label.ensures c.if-is_old_label.true c.loop-at.invariant

pub loop-at-preserved : goal.loop-at-preserved
loop-at-preserved c =
    new_label c.args.members.now c.loop-at.at c.label_at-label.result.now c.loop-at-test.true c.label_at-label.ensures (map (λ (t : Bor (List ℕ)). t.now) c.loop-at.labels.items)
    (map (λ (t : Bor (List ℕ)). t.now) c.push.new.self.items) c.is_old_label.result c.is_old_label.ensures c.if-is_old_label.false c.loop-at.invariant
    (ap (map (λ (t : Bor (List ℕ)). t.now)) c.in_ok-push.ensures.items ∙ map-append (λ (t : Bor (List ℕ)). t.now) c.loop-at.labels.items (c.label_at-label.result ∷ []))
