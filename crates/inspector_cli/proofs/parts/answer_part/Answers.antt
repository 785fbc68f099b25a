use Rattle.std.proofs.Common.{◌≡◌, length, arith, refl}
use Rattle.std.proofs.lemmas.Result.{err_from_is_err_and}
use Rattle.std.specs.Prelude.{codes}
use Rattle.script_streams.specs.Replies.{no_reply}
use Rattle.archive_replies.specs.Texts.{plain_reply}
use Rattle.script_streams.specs.PrintLaws.{prints_then}
use Rattle.inspector_cli.proofs.parts.answer_part.Goals as goal

pub returns-in_err-missing-clause-answers : goal.returns-in_err-missing-clause-answers
returns-in_err-missing-clause-answers g c = λ naming.
    let p = err_from_is_err_and c.from_residual.result c.from_residual.ensures.1 in
    let ends = c.in_err-missing.ensures.takes in
    rw p.1 (ends.0, ends.1, ends.2, ends.3, (ends.4, ends.5), c.in_err-missing.ensures.states)

pub returns-then-missing-eq0-clause-answers : goal.returns-then-missing-eq0-clause-answers
returns-then-missing-eq0-clause-answers g c = λ naming.
    let ends = c.in_ok-missing.ensures.takes in
    let size : length ends.0 ≡ c.args.count = omega (arith, ends.1) in (
      ends.0,
      size,
      ends.2,
      (plain_reply c.in_ok-missing.verdict, (c.in_ok-missing.verdict, ends.4, refl), prints_then c.in_ok-missing.ensures.states c.print_outcome.ensures),
    )

pub returns-clause-answers : goal.returns-clause-answers
returns-clause-answers g c = λ naming.
    let ends = c.in_ok-missing.ensures.takes in
    let some = c.if-missing-eq0.false in (
      ends.0,
      omega (arith, ends.1, some),
      ends.2,
      ends.3 some,
      no_reply (codes "Truncated"),
      (
        c.take_part.new.archive,
        c.in_ok-missing.verdict,
        c.abandon.result,
        ends.4,
        c.abandon.ensures,
        refl,
      ),
      prints_then c.in_ok-missing.ensures.states c.print_no.ensures,
    )
