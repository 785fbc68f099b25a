use Rattle.std.proofs.Common.{◌+◌, ◌/◌, ◌∙◌, refl, arith}
use Rattle.extents.proofs.MapLemmas.{length_flags_of, map_at_start, none_free, all_freed}
use Rattle.extents.specs.FreeWords.{flags_of}
use Rattle.extents.proofs.free_map.FreeMap.new.Goals as goal

pub invariant_of-map : goal.invariant_of-map
invariant_of-map c =
    let v = c.in_ok-words.words.ok.0 in
    let l = c.len.ensures in
    map_at_start c.in_ok-words.words.items c.in_ok-groups.groups.items ((c.args.count + 63) / 64) ((c.len.result + 63) / 64) c.args.count
    (c.in_ok-words.ensures.items_if_clones_equal (λ y e. e)) (c.in_ok-groups.ensures.items_if_clones_equal (λ y e. e)) refl
    (omega (arith, v, l, c.in_ok-words.ensures.len)) c.requires

pub free_run-requires-clause-within : goal.free_run-requires-clause-within
free_run-requires-clause-within c = omega (arith, length_flags_of c.in_ok-words.words.items c.args.count)

pub free_run-requires-clause-used : goal.free_run-requires-clause-used
free_run-requires-clause-used c k from below =
    none_free c.in_ok-words.words.items ((c.args.count + 63) / 64) c.args.count (c.in_ok-words.ensures.items_if_clones_equal (λ y e. e)) k

pub returns : goal.returns
returns c = c.free_run.ensures ∙ all_freed (flags_of c.in_ok-words.words.items c.args.count) c.args.count (length_flags_of c.in_ok-words.words.items c.args.count)
