use Rattle.std.proofs.Common.{refl}
use Rattle.std.specs.Prelude.{codes}
use Rattle.script_streams.specs.Replies.{no_reply}
use Rattle.archive_replies.specs.Texts.{plain_reply}
use Rattle.script_lines.specs.Said.{part_of}
use Rattle.inspector_cli.proofs.FeedLemmas.{fed_none}
use Rattle.inspector_cli.proofs.LineLemmas.{last_whole, last_cut}
use Rattle.inspector_cli.proofs.script.answer_cut.Goals as goal

pub returns-then-count-eq0 : goal.returns-then-count-eq0
returns-then-count-eq0 g c = λ naming.
    let old = c.args.archive.now in
    let new = c.advance-verdict.new.self in
    let call = c.advance-verdict.ensures in (
      plain_reply c.advance-verdict.result,
      last_whole g.D.Disk naming c.args.count old new (part_of c.args.slot c.args.count) (plain_reply c.advance-verdict.result) c.if-count-eq0.true (
        c.advance-verdict.result,
        fed_none g.D.Disk old new c.args.slot c.advance-verdict.result call,
        refl,
      ),
      c.print_outcome.ensures,
    )

pub returns : goal.returns
returns g c = λ naming.
    let old = c.args.archive.now in
    let mid = c.advance-verdict.new.self in
    let new = c.abandon.new.self in
    let call = c.advance-verdict.ensures in (
      no_reply (codes "Truncated"),
      last_cut g.D.Disk naming c.args.count old new (part_of c.args.slot c.args.count) (no_reply (codes "Truncated")) c.if-count-eq0.false (
        mid,
        c.advance-verdict.result,
        c.abandon.result,
        fed_none g.D.Disk old mid c.args.slot c.advance-verdict.result call,
        c.abandon.ensures,
        refl,
      ),
      c.print_no.ensures,
    )
