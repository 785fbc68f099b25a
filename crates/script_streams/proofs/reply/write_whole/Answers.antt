use Rattle.std.proofs.Common.{◌++◌, ◌∙◌, ap, take, append_assoc, take-append-drop}
use Rattle.std.proofs.KnownBytes.{Appends-trans}
use Rattle.script_streams.proofs.reply.write_whole.Goals as goal

pub loop-rest-preserved : goal.loop-rest-preserved
loop-rest-preserved g c =
    let so_far = c.loop-rest.invariant in
    let wrote = c.in_ok-count.ensures in
    let rest = c.loop-rest.rest.now in
    record {
      out = so_far.out ++ take c.in_ok-count.count rest;
      split = append_assoc so_far.out (take c.in_ok-count.count rest) c.split_at.result.1.now
          ∙ ap (λ back. so_far.out ++ (take c.in_ok-count.count rest ++ back)) c.split_at.ensures.back
          ∙ ap (λ all. so_far.out ++ all) (take-append-drop c.in_ok-count.count rest)
          ∙ so_far.split;
      appended = Appends-trans _ _ _ so_far.out (take c.in_ok-count.count rest) so_far.appended wrote.bytes;
      failures = wrote.ok ∙ so_far.failures;
    }
