use Rattle.std.proofs.Common.{◌∙◌, arith}
use Rattle.std.proofs.lemmas.List.{with_items_is}
use Rattle.extents.proofs.MapLemmas.{run_fits, more_counted, run_in_words, view_with, is_map_with}
use Rattle.extents.proofs.free_map.FreeMap.free_run.Goals as goal

pub set_bits-requires-clause-fits : goal.set_bits-requires-clause-fits
set_bits-requires-clause-fits c =
    let s = c.self.inside in
    run_fits s.words.items s.groups.items s.blocks s.free s.first c.self.invariant c.args.self.now c.self.view_is c.args.run c.requires.within

pub set_bits-requires-clause-within : goal.set_bits-requires-clause-within
set_bits-requires-clause-within c =
    let s = c.self.inside in
    run_in_words s.words.items s.groups.items s.blocks s.free s.first c.self.invariant c.args.self.now c.self.view_is c.args.run c.requires.within c.deref_mut.result.now c.deref_mut.ensures.value

pub overflow_add-self : goal.overflow_add-self
overflow_add-self c =
    let s = c.self.inside in
    let few = more_counted s.words.items s.groups.items s.blocks s.free s.first c.self.invariant c.args.self.now c.self.view_is c.args.run c.requires.within c.requires.used in
    omega (arith, few)

pub invariant_of-self : goal.invariant_of-self
invariant_of-self c =
    let s = c.self.inside in
    is_map_with s.words.items s.groups.items s.blocks s.free s.first c.self.invariant c.args.self.now c.self.view_is c.args.run c.requires.within
    c.deref_mut.result.now c.deref_mut-2.result.now c.set_bits.new.words c.set_bits.new.groups _ _
    c.deref_mut.ensures.value c.deref_mut-2.ensures.value c.set_bits.auto.words c.set_bits.auto.groups
    (with_items_is s.words c.set_bits.new.words (c.set_bits.auto.words ∙ c.deref_mut.ensures.len))
    (with_items_is s.groups c.set_bits.new.groups (c.set_bits.auto.groups ∙ c.deref_mut-2.ensures.len))
    c.set_bits.ensures.second c.set_bits.ensures.bits c.requires.used _ c.min-self-inside.ensures

pub returns : goal.returns
returns c =
    let s = c.self.inside in
    view_with s.words.items s.groups.items s.blocks s.free s.first c.self.invariant c.args.self.now c.self.view_is c.args.run c.requires.within
    c.deref_mut.result.now c.deref_mut-2.result.now c.set_bits.new.words c.set_bits.new.groups _ _
    c.deref_mut.ensures.value c.deref_mut-2.ensures.value c.set_bits.auto.words c.set_bits.auto.groups
    (with_items_is s.words c.set_bits.new.words (c.set_bits.auto.words ∙ c.deref_mut.ensures.len))
    (with_items_is s.groups c.set_bits.new.groups (c.set_bits.auto.groups ∙ c.deref_mut-2.ensures.len))
    c.set_bits.ensures.bits
