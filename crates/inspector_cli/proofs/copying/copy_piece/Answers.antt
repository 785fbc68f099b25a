use Rattle.std.proofs.Common.{[], refl, sym, ◌∙◌, arith, rules}
use Rattle.std.proofs.lemmas.List.{append-nil}
use Rattle.diagnostics.specs.CountLaws.{next_risen}
use Rattle.script_streams.specs.PrintLaws.{prints_nothing}
use Rattle.inspector_cli.proofs.CopyLemmas.{quiet_read}
use Rattle.inspector_cli.proofs.copying.copy_piece.Goals as goal

pub returns-in-Err : goal.returns-in-Err
returns-in-Err g c = record {
  text = [];
  told = prints_nothing;
  front = λ honest. (_, refl);
  quiet = quiet_read g.D.Disk c.args.disk.now c.read_at.new.self (g.met.D.Disk.only_now c.args.disk.now) c.in-Err.ensures.seen c.in-Err.ensures.crash c.in-Err.ensures.time c.in-Err.ensures.honesty c.in-Err.ensures.size;
  later = omega (arith, c.in-Err.ensures.cause.err);
  cause = λ is. next_risen _ _ c.in-Err.ensures.cause.err;
  blamed = search rules;
}

pub returns-then-has_failed : goal.returns-then-has_failed
returns-then-has_failed g c = record {
  text = c.read_at.new.into;
  told = c.print.ensures;
  front = λ honest. ([], append-nil c.read_at.new.into ∙ c.in-Ok.ensures.bytes honest);
  quiet = quiet_read g.D.Disk c.args.disk.now c.read_at.new.self (g.met.D.Disk.only_now c.args.disk.now) c.in-Ok.ensures.seen c.in-Ok.ensures.crash c.in-Ok.ensures.time c.in-Ok.ensures.honesty c.in-Ok.ensures.size;
  later = omega (arith, c.in-Ok.ensures.cause.ok);
  cause = search rules;
  blamed = λ is. sym c.has_failed.ensures.failed ∙ c.if-has_failed.true;
}

pub returns-else-has_failed : goal.returns-else-has_failed
returns-else-has_failed g c = record {
  text = c.read_at.new.into;
  told = c.print.ensures;
  front = λ honest. c.in-Ok.ensures.bytes honest;
  quiet = quiet_read g.D.Disk c.args.disk.now c.read_at.new.self (g.met.D.Disk.only_now c.args.disk.now) c.in-Ok.ensures.seen c.in-Ok.ensures.crash c.in-Ok.ensures.time c.in-Ok.ensures.honesty c.in-Ok.ensures.size;
  later = omega (arith, c.in-Ok.ensures.cause.ok);
  cause = search rules;
  blamed = search rules;
}
