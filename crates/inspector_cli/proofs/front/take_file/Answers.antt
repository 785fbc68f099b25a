use Rattle.std.proofs.Common.{ℕ, ◌+◌, [], length, refl, sym, subst, ap, ◌∙◌, arith}
use Rattle.std.proofs.KnownBytes.{Consumes-nil}
use Rattle.script_streams.specs.PrintLaws.{prints_nothing}
use Rattle.std.proofs.lemmas.Result.{err_from_is_err_and}
use Rattle.intake.specs.Parts.{state_of}
use Rattle.script_streams.specs.Printing.{sink}
use Rattle.inspector_cli.specs.Stated.{HashesOn, IsHashed}
use Rattle.inspector_cli.proofs.StatedLemmas.{hashed_at_end}
use Rattle.inspector_cli.proofs.StoreLemmas.{file_went_on, file_ended, file_stopped, behind_after, behind_well, end_well, under_within, within_none}
use Rattle.inspector_cli.proofs.SpentLemmas.{end_serves_all, stop_as}
use Rattle.inspector_cli.proofs.front.take_file.Goals as goal

pub returns-in_err-count-clause-all : goal.returns-in_err-count-clause-all
returns-in_err-count-clause-all g c =
    let p = err_from_is_err_and c.from_residual.result c.from_residual.ensures.1 in
    let i = c.loop.invariant in
    rw (p.1, p.2) (file_stopped g.D.Disk c.args.order c.args.fit (g.I.Input.remaining c.args.file.now) (g.I.Input.remaining c.loop.file) (g.I.Input.remaining c.take_step.new.file)
    (g.I.Input.failures c.args.file.now) (g.I.Input.failures c.loop.file) (g.I.Input.failures c.take_step.new.file)
    (sink g.O.Output c.args.reply.now) (sink g.O.Output c.loop.reply) (sink g.O.Output c.take_step.new.reply)
    c.args.archive.now c.loop.archive c.take_step.new.archive c.loop.counter c.args.stated (HashesOn c.loop.hasher c.take_step.new.hasher)
    (i.gone, i.told, i.raw, i.consumed, i.counted, i.failures, i.takes, i.unasked) c.in_err-count.field-0.0 (behind_after c.args.fit c.args.cut c.args.stated.length c.loop.taken (length i.raw) (state_of c.take_step.new.archive) c.in_err-count.field-0.0 i.length c.in_err-count.ensures.behind c.in_err-count.ensures.meets) (c.in_err-count.ensures.next c.args.archive.now i.raw i.gone i.takes))

pub returns-then-count-eq0-clause-all : goal.returns-then-count-eq0-clause-all
returns-then-count-eq0-clause-all g c =
    let i = c.loop.invariant in
    file_ended g.D.Disk c.args.order c.args.fit (g.I.Input.remaining c.args.file.now) (g.I.Input.remaining c.loop.file) (g.I.Input.remaining c.take_step.new.file)
    (g.I.Input.failures c.args.file.now) (g.I.Input.failures c.loop.file) (g.I.Input.failures c.take_step.new.file)
    (sink g.O.Output c.args.reply.now) (sink g.O.Output c.loop.reply) (sink g.O.Output c.take_step.new.reply)
    c.args.archive.now c.loop.archive c.take_step.new.archive c.loop.counter c.args.stated (HashesOn c.loop.hasher c.take_step.new.hasher)
    (i.gone, i.told, i.raw, i.consumed, i.counted, i.failures, i.takes, i.unasked) c.in_ok-count.count c.if-count-eq0.true (c.in_ok-count.ensures.next c.args.archive.now i.raw i.gone i.takes)
    c.end_at.result (c.end_at.ensures i.raw i.length (hashed_at_end g.D.Disk c.args.order (g.I.Input.remaining c.loop.file) (g.I.Input.remaining c.take_step.new.file) (g.I.Input.failures c.loop.file) (g.I.Input.failures c.take_step.new.file)
    c.args.archive.now c.take_step.new.archive i.raw i.gone c.args.fit c.loop.hasher c.take_step.new.hasher _ c.args.stated.digest c.in_ok-count.count c.if-count-eq0.true (c.in_ok-count.ensures.next c.args.archive.now i.raw i.gone i.takes) i.hashed))

pub loop-init : goal.loop-init
loop-init g c = record {
  gone = [];
  told = prints_nothing;
  raw = [];
  consumed = Consumes-nil (g.I.Input.remaining c.args.file.now);
  counted = omega arith;
  failures = refl;
  takes = c.requires.takes;
  unasked = λ no. refl;
  length = refl;
  within = under_within c.args.cut c.requires.some;
  stated = within_none c.args.stated.length;
  hashed = c.hasher_for-hasher.ensures;
  few = omega arith;
  served = λ fits was. was;
}

pub loop-preserved : goal.loop-preserved
loop-preserved g c =
    let i = c.loop.invariant in
    let w = file_went_on g.D.Disk c.args.order c.args.fit (g.I.Input.remaining c.args.file.now) (g.I.Input.remaining c.loop.file) (g.I.Input.remaining c.take_step.new.file)
    (g.I.Input.failures c.args.file.now) (g.I.Input.failures c.loop.file) (g.I.Input.failures c.take_step.new.file)
    (sink g.O.Output c.args.reply.now) (sink g.O.Output c.loop.reply) (sink g.O.Output c.take_step.new.reply)
    c.args.archive.now c.loop.archive c.take_step.new.archive c.loop.counter c.args.stated (HashesOn c.loop.hasher c.take_step.new.hasher)
    (i.gone, i.told, i.raw, i.consumed, i.counted, i.failures, i.takes, i.unasked) c.in_ok-count.count c.if-count-eq0.false (c.in_ok-count.ensures.next c.args.archive.now i.raw i.gone i.takes) in record {
      gone = w.0.0;
      told = w.0.1;
      raw = w.0.2;
      consumed = w.0.3;
      counted = w.0.4;
      failures = w.0.5;
      takes = w.0.6;
      unasked = w.0.7;
      length = ap (λ (n : ℕ). n + c.in_ok-count.count) i.length ∙ sym w.1;
      within = c.in_ok-count.ensures.within;
      stated = c.in_ok-count.ensures.stated;
      hashed = subst (IsHashed c.args.stated.digest c.take_step.new.hasher) (sym w.3) (w.4 c.args.stated.digest i.raw i.hashed);
      few = (let n = c.in_ok-count.ensures.few in let m = i.few in omega (arith, n, m));
      served = λ fits was. c.in_ok-count.ensures.served fits (i.served fits was);
    }

pub returns-in_err-count-clause-served : goal.returns-in_err-count-clause-served
returns-in_err-count-clause-served g c = λ fits was.
    let p = err_from_is_err_and c.from_residual.result c.from_residual.ensures.1 in
    rw (p.1, p.2) (stop_as c.args.order ℕ (Unit {0}) (state_of c.take_step.new.archive) c.in_err-count.field-0.0 (c.in_err-count.ensures.served fits (c.loop.invariant.served fits was)))

pub returns-then-count-eq0-clause-served : goal.returns-then-count-eq0-clause-served
returns-then-count-eq0-clause-served g c = λ fits was.
    let i = c.loop.invariant in
    end_serves_all c.args.order c.args.stated i.raw (state_of c.take_step.new.archive) c.end_at.result (c.end_at.ensures i.raw i.length (hashed_at_end g.D.Disk c.args.order (g.I.Input.remaining c.loop.file) (g.I.Input.remaining c.take_step.new.file) (g.I.Input.failures c.loop.file) (g.I.Input.failures c.take_step.new.file)
    c.args.archive.now c.take_step.new.archive i.raw i.gone c.args.fit c.loop.hasher c.take_step.new.hasher _ c.args.stated.digest c.in_ok-count.count c.if-count-eq0.true (c.in_ok-count.ensures.next c.args.archive.now i.raw i.gone i.takes) i.hashed))
    (c.in_ok-count.ensures.served fits (c.loop.invariant.served fits was))

pub returns-then-count-eq0-clause-well : goal.returns-then-count-eq0-clause-well
returns-then-count-eq0-clause-well g c =
    let i = c.loop.invariant in
    end_well c.args.fit c.args.cut c.args.stated i.raw (state_of c.take_step.new.archive) c.end_at.result (c.end_at.ensures i.raw i.length (hashed_at_end g.D.Disk c.args.order (g.I.Input.remaining c.loop.file) (g.I.Input.remaining c.take_step.new.file) (g.I.Input.failures c.loop.file) (g.I.Input.failures c.take_step.new.file)
    c.args.archive.now c.take_step.new.archive i.raw i.gone c.args.fit c.loop.hasher c.take_step.new.hasher _ c.args.stated.digest c.in_ok-count.count c.if-count-eq0.true (c.in_ok-count.ensures.next c.args.archive.now i.raw i.gone i.takes) i.hashed))

pub returns-in_err-count-clause-well : goal.returns-in_err-count-clause-well
returns-in_err-count-clause-well g c =
    let p = err_from_is_err_and c.from_residual.result c.from_residual.ensures.1 in
    rw (p.1, p.2) (behind_well c.args.fit c.args.cut c.loop.taken (state_of c.take_step.new.archive) c.in_err-count.field-0.0 c.in_err-count.ensures.behind)
