use Rattle.std.proofs.Common.{true, List, [], ◌∷◌, ◌++◌, map, take, ap, ◌∙◌}
use Rattle.std.specs.Option.{option_map}
use Rattle.crash_signatures.specs.SignatureViews.{handled_said, signature_said}
use Rattle.crash_signatures.specs.WordViews.{said}
use Rattle.crash_signatures.specs.declared.words.Word.{Word}
use Rattle.crash_signatures.specs.Signature.{behind, unhandled}
use Rattle.crash_signatures.proofs.SignatureLemmas.{had_failed, handler_failed}
use Rattle.crash_signatures.proofs.signature.handling.Goals as goal

pub returns-then-had_failed : goal.returns-then-had_failed
returns-then-had_failed c =
    had_failed c.args.words.now c.args.at (option_map handled_said c.args.handled) c.args.is_whole c.had_failed.result c.signal_mark-mark.result (signature_said c.unhandled.result)
    c.had_failed.ensures c.signal_mark-mark.ensures c.push.new.self.items c.if-had_failed.true
    (c.push.ensures.items ∙ ap (λ (l : List Word). l ++ c.signal_mark-mark.result ∷ []) c.new-lead.ensures) c.unhandled.ensures

pub returns : goal.returns
returns c =
    handler_failed c.args.words.now c.args.at (option_map handled_said c.args.handled) c.args.is_whole c.had_failed.result c.signal_mark-mark.result (signature_said c.unhandled-2.result)
    c.had_failed.ensures c.signal_mark-mark.ensures c.new.result.items c.push-2.new.self.items c.add_words.new.list.items c.if-had_failed.false c.new.ensures c.push-2.ensures.items
    (c.add_words.ensures.value ∙ ap (λ (l : List Word). map said l ++ map said (take c.args.at c.args.words.now)) c.new-ended.ensures)
    (c.unhandled-2.ensures ∙ ap (λ (l : List Word). behind (map said c.new.result.items) (unhandled (map said l) true)) c.as_slice.ensures.value)
