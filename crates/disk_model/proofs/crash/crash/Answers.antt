use Rattle.std.proofs.Common.{◌≡◌, ℕ, List, length, take, drop, subst, sym, ◌∙◌, ap}
use Rattle.disk_model.specs.Notes.{AllFit}
use Rattle.disk_model.specs.Crash.{replayed}
use Rattle.disk_model.specs.declared.crash.Pick.TheVariants.{Whole}
use Rattle.disk_model.proofs.Replays.{fit_take, fit_drop, crashed_is}
use Rattle.disk_model.proofs.crash.crash.Goals as goal

pub replay-requires : goal.replay-requires
replay-requires c =
    let n = length c.args.bytes.now in
    let front = c.split_at.ensures.front in
    subst (AllFit n) (sym front) (fit_take n c.args.notes.now c.synced_count.result c.requires)

pub replay-requires-2 : goal.replay-requires-2
replay-requires-2 c =
    let n = length c.args.bytes.now in
    let fits : AllFit n c.split_at.result.1.now = subst (AllFit n) (sym c.split_at.ensures.back) (fit_drop n c.args.notes.now c.synced_count.result c.requires) in
    subst (λ (m : ℕ). AllFit m c.split_at.result.1.now) (sym c.replay.auto.bytes) fits

pub returns : goal.returns
returns c =
    let first = c.args.bytes.now in
    let k = c.synced_count.result in
    let whole : c.replay.new.bytes ≡ replayed Whole first (take k c.args.notes.now) = c.replay.ensures ∙ ap (replayed Whole first) c.split_at.ensures.front in
    c.replay-2.ensures
    ∙ ap (replayed c.args.pick c.replay.new.bytes) c.split_at.ensures.back
    ∙ ap (λ (b : List ℕ). replayed c.args.pick b (drop k c.args.notes.now)) whole
    ∙ crashed_is c.args.pick first c.args.notes.now k (c.synced_count.ensures.synced first) c.synced_count.ensures.writes
