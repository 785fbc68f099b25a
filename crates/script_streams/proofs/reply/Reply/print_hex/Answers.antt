use Rattle.std.proofs.Common.{◌++◌, ℕ, List, [], ◌∙◌, ap, sym, refl, take, append_assoc, take-append-drop}
use Rattle.std.proofs.lemmas.Grind.{flat_map-append}
use Rattle.std.specs.List.{flat_map}
use Rattle.script_words.specs.Hex.{hex_pair, hex_of}
use Rattle.script_streams.specs.PrintLaws.{prints_then, prints_nothing, prints_as}
use Rattle.script_streams.proofs.reply.Reply.print_hex.Goals as goal

pub loop-rest-init : goal.loop-rest-init
loop-rest-init g c = record { front = []; split = refl; told = prints_nothing }

pub loop-rest-preserved : goal.loop-rest-preserved
loop-rest-preserved g c =
    let so_far = c.loop-rest.invariant in
    let rest = c.loop-rest.rest.now in
    let piece = take c.min.result rest in
    record {
      front = so_far.front ++ piece;
      split = append_assoc so_far.front piece c.split_at.result.1.now
          ∙ ap (λ back. so_far.front ++ (piece ++ back)) c.split_at.ensures.back
          ∙ ap (λ all. so_far.front ++ all) (take-append-drop c.min.result rest)
          ∙ so_far.split;
      told = prints_as (ap (λ (digits : List ℕ). flat_map hex_pair so_far.front ++ digits) (c.as_slice.ensures.value ∙ c.print_hex_row.ensures ∙ ap hex_of c.split_at.ensures.front) ∙ sym (flat_map-append hex_pair so_far.front piece))
          (prints_then so_far.told c.print.ensures);
    }
