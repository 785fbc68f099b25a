use Rattle.std.proofs.Common.{◌∙◌}
use Rattle.std.proofs.lemmas.List.{with_items_is}
use Rattle.extents.proofs.MapLemmas.{run_fits, run_counted, run_in_words, view_without, is_map_without}
use Rattle.extents.proofs.free_map.FreeMap.use_run.Goals as goal

pub clear_bits-requires-clause-fits : goal.clear_bits-requires-clause-fits
clear_bits-requires-clause-fits c =
    let s = c.self.inside in
    run_fits s.words.items s.groups.items s.blocks s.free s.first c.self.invariant c.args.self.now c.self.view_is c.args.run c.requires.within

pub clear_bits-requires-clause-within : goal.clear_bits-requires-clause-within
clear_bits-requires-clause-within c =
    let s = c.self.inside in
    run_in_words s.words.items s.groups.items s.blocks s.free s.first c.self.invariant c.args.self.now c.self.view_is c.args.run c.requires.within c.deref_mut.result.now c.deref_mut.ensures.value

pub overflow_sub-self : goal.overflow_sub-self
overflow_sub-self c =
    let s = c.self.inside in
    run_counted s.words.items s.groups.items s.blocks s.free s.first c.self.invariant c.args.self.now c.self.view_is c.args.run c.requires.within c.requires.free

pub invariant_of-self : goal.invariant_of-self
invariant_of-self c =
    let s = c.self.inside in
    is_map_without s.words.items s.groups.items s.blocks s.free s.first c.self.invariant c.args.self.now c.self.view_is c.args.run c.requires.within
    c.deref_mut.result.now c.deref_mut-2.result.now c.clear_bits.new.words c.clear_bits.new.groups _ _
    c.deref_mut.ensures.value c.deref_mut-2.ensures.value c.clear_bits.auto.words c.clear_bits.auto.groups
    (with_items_is s.words c.clear_bits.new.words (c.clear_bits.auto.words ∙ c.deref_mut.ensures.len))
    (with_items_is s.groups c.clear_bits.new.groups (c.clear_bits.auto.groups ∙ c.deref_mut-2.ensures.len))
    c.clear_bits.ensures.second c.clear_bits.ensures.bits c.requires.free

pub returns : goal.returns
returns c =
    let s = c.self.inside in
    view_without s.words.items s.groups.items s.blocks s.free s.first c.self.invariant c.args.self.now c.self.view_is c.args.run c.requires.within
    c.deref_mut.result.now c.deref_mut-2.result.now c.clear_bits.new.words c.clear_bits.new.groups _ _
    c.deref_mut.ensures.value c.deref_mut-2.ensures.value c.clear_bits.auto.words c.clear_bits.auto.groups
    (with_items_is s.words c.clear_bits.new.words (c.clear_bits.auto.words ∙ c.deref_mut.ensures.len))
    (with_items_is s.groups c.clear_bits.new.groups (c.clear_bits.auto.groups ∙ c.deref_mut-2.ensures.len))
    c.clear_bits.ensures.bits
