use Rattle.std.proofs.Common.{◌-◌, ◌∙◌}
use Rattle.elf_view.specs.Header.{segments_of}
use Rattle.address_space.specs.SpaceWords.{core_of, space_of}
use Rattle.address_space.specs.Whole.{space_in}
use Rattle.core_notes.specs.FileWords.{file_view}
use Rattle.build_replies.proofs.PlaceLemmas.{all_within, begins_too, no_bytes, none_is, piece_is}
use Rattle.build_replies.proofs.places.front_of.Goals as goal

pub returns-in-Some-clause-front : goal.returns-in-Some-clause-front
returns-in-Some-clause-front c b begins =
    let space = c.args.space.now in
    let e = c.stretches-stretches.ensures in
    c.place_of.ensures.front b ∙ piece_is (space_in b (space_of space)) (file_view c.args.map) _ (e.pieces b) b c.in-Some.stretch _ (c.in-Some.ensures.steps.pieces b (begins_too (core_of space) _ _ _ b e.front e.size begins))

pub returns-in-Some-clause-within : goal.returns-in-Some-clause-within
returns-in-Some-clause-within c =
    let map = c.args.map in
    let e = c.stretches-stretches.ensures in
    c.place_of.ensures.within c.args.size (c.in-Some.ensures.steps.held 0 c.args.size (e.within 0 c.args.size (all_within c.args.size map.start (map.past - map.start) (segments_of (core_of c.args.space.now)))))

pub returns-in-None-clause-front : goal.returns-in-None-clause-front
returns-in-None-clause-front c b begins =
    let space = c.args.space.now in
    let e = c.stretches-stretches.ensures in
    no_bytes c.no_front.result c.args.map.name b c.no_front.ensures.path (c.no_front.ensures.none b) ∙ none_is (space_in b (space_of space)) (file_view c.args.map) _ (e.pieces b) (c.in-None.ensures.steps.pieces b (begins_too (core_of space) _ _ _ b e.front e.size begins)).0

pub returns-in-None-clause-within : goal.returns-in-None-clause-within
returns-in-None-clause-within c = c.no_front.ensures.within c.args.size
