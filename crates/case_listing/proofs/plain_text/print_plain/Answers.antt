use Rattle.std.proofs.Common.{◌++◌, [], ◌∙◌, ap, sym, refl, append_assoc, drop}
use Rattle.script_streams.specs.PrintLaws.{prints_then, prints_nothing}
use Rattle.case_listing.specs.PlainText.{plain_of}
use Rattle.case_listing.proofs.plain_text.print_plain.Goals as goal

pub loop-rest-init : goal.loop-rest-init
loop-rest-init g c = record { front = []; split = refl; told = prints_nothing }

pub loop-rest-preserved : goal.loop-rest-preserved
loop-rest-preserved g c =
    let so_far = c.loop-rest.invariant in
    let piece = c.print_front-count.ensures.states in
    record {
      front = so_far.front ++ piece.0;
      split = so_far.split
          ∙ ap (λ all. so_far.front ++ all) piece.2
          ∙ sym (append_assoc so_far.front piece.0 (plain_of (drop c.print_front-count.result c.loop-rest.rest.now)))
          ∙ ap (λ back. (so_far.front ++ piece.0) ++ plain_of back) (sym c.split_at.ensures.back);
      told = prints_then so_far.told piece.1;
    }
