use Rattle.std.proofs.Common.{length, ap, sym, ◌∙◌, arith}
use Rattle.std.specs.Option.{option_map, option_or}
use Rattle.line_tables.specs.InfoEntryWords.{attribute_view}
use Rattle.line_tables.proofs.InfoLoops.{either, attributes_missing, attributes_ended, attributes_cut, attributes_on, attributes_none}
use Rattle.line_tables.proofs.info_entries.Entry.attribute.Goals as goal

pub returns-in_err-attribute_name : goal.returns-in_err-attribute_name
returns-in_err-attribute_name c =
    rw c.from_residual.ensures (sym (c.loop-i.invariant ∙ attributes_missing (length c.args.self.now.specifications.now) c.loop-i.i c.args.name c.args.self.now.version (option_map attribute_view c.loop-i.found) c.loop-i.specifications.now c.loop-i.values.now (omega arith) c.in_err-attribute_name.ensures))

pub returns-then-is_end : goal.returns-then-is_end
returns-then-is_end c =
    sym (c.loop-i.invariant ∙ attributes_ended (length c.args.self.now.specifications.now) c.loop-i.i c.args.name c.args.self.now.version (option_map attribute_view c.loop-i.found) c.loop-i.specifications.now c.loop-i.values.now _ _ _ (omega arith) c.in_ok-attribute_name.ensures c.if-is_end.ensures)

pub returns-in_err-attribute : goal.returns-in_err-attribute
returns-in_err-attribute c =
    rw c.from_residual-in_err-attribute.ensures (sym (c.loop-i.invariant ∙ attributes_cut (length c.args.self.now.specifications.now) c.loop-i.i c.args.name c.args.self.now.version (option_map attribute_view c.loop-i.found) c.loop-i.specifications.now c.loop-i.values.now _ _ _ (omega arith) c.in_ok-attribute_name.ensures c.if-is_end.ensures c.in_err-attribute.ensures))

pub loop-i-preserved : goal.loop-i-preserved
loop-i-preserved c =
    let joins = either c.loop-i.found c.if_named.result c.or-found.result c.or-found.ensures ∙ ap (option_or (option_map attribute_view c.loop-i.found)) c.if_named.ensures in
    c.loop-i.invariant ∙ attributes_on (length c.args.self.now.specifications.now) c.loop-i.i c.args.name c.args.self.now.version (option_map attribute_view c.loop-i.found) c.loop-i.specifications.now c.loop-i.values.now _ _ _ _ (attribute_view c.in_ok-attribute.attribute) _ (omega arith) c.in_ok-attribute_name.ensures c.if-is_end.ensures c.in_ok-attribute.ensures joins

pub returns : goal.returns
returns c =
    sym (c.loop-i.invariant ∙ attributes_none (length c.args.self.now.specifications.now) c.loop-i.i c.args.name c.args.self.now.version (option_map attribute_view c.loop-i.found) c.loop-i.specifications.now c.loop-i.values.now (omega arith))
