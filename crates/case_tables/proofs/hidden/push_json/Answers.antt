use Rattle.std.proofs.Common.{◌++◌, flat_map, sym, ap, ◌∙◌, map-id}
use Rattle.std.proofs.lemmas.Iterator.{YieldsList-from_chars}
use Rattle.std.proofs.lemmas.Iterator.Consumers.{YieldsList-end}
use Rattle.std.specs.String.{string_bytes}
use Rattle.case_tables.specs.Hidden.{printed_char, printed_json}
use Rattle.case_tables.proofs.hidden.push_json.Goals as goal

pub returns : goal.returns
unfolding printed_json
returns c =
    let end = YieldsList-end (YieldsList-from_chars c.args.json.now c.utf8.json cc) c.loop-character.yielded _ c.loop-character.yielded_by _ _ c.in-None.is c.next.ensures.steps in
    c.loop-character.invariant ∙ ap (λ own. string_bytes c.args.text.now ++ flat_map printed_char own) (sym (map-id c.loop-character.yielded) ∙ end.0)
