use Rattle.std.proofs.Common.{ap, arith, ◌∙◌, sym}
use Rattle.script_words.specs.Text.{text_of}
use Rattle.script_words.proofs.TextLemmas.{with_front, with_front-push}
use Rattle.script_words.proofs.texts.decode_text.Goals as goal

pub loop-rest-preserved : goal.loop-rest-preserved
loop-rest-preserved c =
    let found = c.in_ok-byte.ensures in
    let front = c.loop-rest.text.items in
    record {
      so_far = ap (λ items. with_front items (text_of c.in_ok-byte.after.now)) c.push.ensures.items
          ∙ with_front-push front c.in_ok-byte.byte (text_of c.in_ok-byte.after.now)
          ∙ sym (ap (with_front front) found.text)
          ∙ c.loop-rest.invariant.so_far;
      room = omega (arith, c.push.ensures.len, found.shorter, c.loop-rest.invariant.room);
    }
