use Rattle.std.proofs.Common.{◌+◌, take, drop, get_or, refl, ap, subst, ◌∙◌, arith, List, ℕ}
use Rattle.std.proofs.lemmas.List.{append-nil, take_all}
use Rattle.std.proofs.lemmas.Result.{err_from_is_err_and}
use Rattle.std.specs.List.{flat_map}
use Rattle.archive_replies.specs.Texts.{dropped_line}
use Rattle.script_streams.specs.PrintLaws.{prints_as, prints_nothing, prints_then}
use Rattle.inspector_cli.specs.Deleting.{DeletesEach}
use Rattle.inspector_cli.proofs.DeletingLemmas.{each_more, line_more, next_more, parted}
use Rattle.inspector_cli.proofs.deleting.delete_each.Goals as goal

pub loop-seq-init : goal.loop-seq-init
loop-seq-init g c = record { gone = refl; told = prints_nothing }

pub loop-seq-preserved : goal.loop-seq-preserved
loop-seq-preserved g c =
    let all = c.args.numbers.now in
    let i = c.loop-seq.seq-index in
    let n = get_or all i 0 in
    let one = c.in_ok-delete_one.ensures in
    let next = next_more all i c.loop-seq-test.true in
    record {
      gone = subst (λ (ns : List ℕ). DeletesEach g.D.Disk c.args.archive.now ns c.delete_one.new.archive) next
          (each_more g.D.Disk (take i all) c.args.archive.now c.loop-seq.archive c.delete_one.new.archive n c.loop-seq.invariant.gone one.deletes);
      told = prints_as (line_more (take i all) n ∙ ap (flat_map dropped_line) next) (prints_then c.loop-seq.invariant.told one.states);
    }

pub returns : goal.returns
returns g c =
    let all = c.args.numbers.now in
    let whole = take_all c.loop-seq.seq-index all (omega (arith, c.loop-seq-test.false)) in (
      flat_map dropped_line all,
      (all, (refl, subst (λ (ns : List ℕ). DeletesEach g.D.Disk c.args.archive.now ns c.loop-seq.archive) whole c.loop-seq.invariant.gone), refl),
      prints_as (ap (flat_map dropped_line) whole) c.loop-seq.invariant.told,
    )

pub returns-in_err-delete_one : goal.returns-in_err-delete_one
returns-in_err-delete_one g c =
    let all = c.args.numbers.now in
    let i = c.loop-seq.seq-index in
    let one = c.in_err-delete_one.ensures in
    let p = err_from_is_err_and c.from_residual.result c.from_residual.ensures.1 in
    rw (p.1, p.2) (
      flat_map dropped_line (take i all),
      (take i all, record { seq = get_or all i 0; rest = drop (i + 1) all; all = parted all i c.loop-seq-test.true; mid = c.loop-seq.archive; deleted = c.loop-seq.invariant.gone; refused = one.deletes }, refl),
      prints_as (append-nil (flat_map dropped_line (take i all))) (prints_then c.loop-seq.invariant.told one.states),
    )
