use Rattle.std.specs.Result.{is_ok}
use Rattle.std.proofs.Common.{true, ◌≡◌, ◌-◌, ◌++◌, length, ap, sym, subst, ◌∙◌, arith}
use Rattle.std.proofs.lemmas.Result.{err_from_is_err_and}
use Rattle.elf_view.specs.Field.{part}
use Rattle.case_queries.specs.Fronts.{ReadsFront}
use Rattle.case_queries.proofs.FrontLemmas.{memory_refused}
use Rattle.case_queries.proofs.RestLemmas.{after_range, with_range}
use Rattle.case_queries.proofs.stack.read_to_part.Goals as goal

pub returns-in_err-read_on-clause-reads : goal.returns-in_err-read_on-clause-reads
returns-in_err-read_on-clause-reads g c before mid has reads range =
    let p = err_from_is_err_and c.from_residual.result c.from_residual.ensures.1 in
    let stack = c.args.stack.now in
    let front = c.args.image.now.items in
    rw (p.1, p.2)
    (c.in_err-read_on.ensures.reads before has (after_range g.D.Disk before mid c.args.archive.now c.args.seq stack.at (length stack.bytes.items) front stack.bytes.items reads range))

pub returns-then-is_err-clause-reads : goal.returns-then-is_err-clause-reads
returns-then-is_err-clause-reads g c before mid has reads range =
    let stack = c.args.stack.now in
    let bytes = stack.bytes.items in
    let more = c.in_ok-read_on.ensures.reads before has (after_range g.D.Disk before mid c.args.archive.now c.args.seq stack.at (length bytes) c.args.image.now.items bytes reads range) in
    memory_refused g.D.Disk before c.read_on.new.archive c.args.seq c.args.size c.read_on.new.image.items has more

pub returns-clause-reads : goal.returns-clause-reads
returns-clause-reads g c before mid has reads range =
    let stack = c.args.stack.now in
    let front = c.args.image.now.items in
    let bytes = stack.bytes.items in
    let x = c.read_on.new.image.items in
    let more = c.in_ok-read_on.ensures.reads before has (after_range g.D.Disk before mid c.args.archive.now c.args.seq stack.at (length bytes) front bytes reads range) in
    let end = c.max-end.result in
    let count : c.len-2.result ≡ length bytes = omega (arith, c.len-2.ensures) in
    let long : end ≡ length x = omega (arith, c.in_ok-read_on.ensures.long) in
    let slice : c.part-rest.result.now ≡ part bytes (length x - stack.at) (length bytes) =
    c.part-rest.ensures
    ∙ ap (part c.deref.result.now (end - stack.at)) count
    ∙ ap (λ b. part b (end - stack.at) (length bytes)) c.deref.ensures.value
    ∙ ap (λ k. part bytes (k - stack.at) (length bytes)) long in
    let fine : is_ok c.extend_from_slice.result ≡ true = c.if-is_err.ensures.negation in
    let items = rw fine at c.extend_from_slice.ensures.items in
    subst (λ y. ReadsFront g.D.Disk before c.args.seq y c.read_on.new.archive) (sym (items ∙ ap (λ b. x ++ b) slice))
    (with_range g.D.Disk before mid c.args.archive.now c.read_on.new.archive c.args.seq stack.at front bytes x reads range more (omega (arith, c.in_ok-read_on.ensures.long, c.max-end.ensures)))
