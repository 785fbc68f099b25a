use Rattle.std.proofs.Common.{◌∙◌, [], Err, rules}
use Rattle.inspector_cli.proofs.CopyLemmas.{ended, front_of}
use Rattle.inspector_cli.proofs.copying.write_out.Goals as goal

pub returns-in-Ok-written : goal.returns-in-Ok-written
returns-in-Ok-written g c =
    let so_far = c.in-Ok.ensures in record {
      text = so_far.text;
      appended =
          (let told = so_far.told _ _ _ [] c.new-reply.ensures.told in
          let taken = c.in-Ok-written.ensures.delivered _ _ _ so_far.text told in
          search (told.same, c.finish-written.ensures.same, taken, rules));
      front = so_far.front;
      quiet = so_far.quiet;
      later = so_far.later;
      cause = search rules;
      lost = search rules;
    }

pub returns-in-Err-written : goal.returns-in-Err-written
returns-in-Err-written g c =
    let so_far = c.in-Ok.ensures in
    let one = so_far.told _ _ _ [] c.new-reply.ensures.told in
    let told = c.in-Err-written.ensures.delivered _ _ _ so_far.text one in
    let taken = told.3 in
    let lost = told.4 in record {
      text = told.0;
      appended = search (one.same, c.finish-written.ensures.same, taken, rules);
      front = λ honest. (told.1, told.2 ∙ so_far.front honest);
      quiet = so_far.quiet;
      later = so_far.later;
      cause = search rules;
      lost = λ is. search (one.same, c.finish-written.ensures.same, lost, rules);
    }

pub returns-in-Err : goal.returns-in-Err
returns-in-Err g c =
    let so_far = c.in-Err.ensures in
    let one = so_far.told _ _ _ [] c.new-reply.ensures.told in
    let told = ended _ _ _ (g.O.Output.failures c.finish-written.new.self.output.now) so_far.text c.finish-written.result _ (c.finish-written.ensures.delivered _ _ _ so_far.text one) c.finish-written.ensures.unfailed in
    let taken = told.3 in record {
      text = told.0;
      appended = search (one.same, c.finish-written.ensures.same, taken, rules);
      front = λ honest. front_of (Err c.in-Err.halt) c.in-Err.halt told.0 told.1 so_far.text _ told.2 (so_far.front honest);
      quiet = so_far.quiet;
      later = so_far.later;
      cause = so_far.cause;
      lost = λ is. (let lost = told.4 (so_far.blamed is) in search (one.same, c.finish-written.ensures.same, lost, rules));
    }
