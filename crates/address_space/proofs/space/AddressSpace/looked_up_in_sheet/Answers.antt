use Rattle.std.proofs.Common.{sym, ap, ◌∙◌}
use Rattle.std.specs.Option.{option_map}
use Rattle.elf_view.specs.Header.{segments_of}
use Rattle.elf_view.specs.ViewWords.{image_of}
use Rattle.address_space.specs.Source.{decider}
use Rattle.address_space.specs.Disjoint.{segment_extent}
use Rattle.address_space.specs.Layers.{holder}
use Rattle.address_space.specs.SpaceWords.{space_of}
use Rattle.address_space.specs.ScanWords.{decided_view}
use Rattle.address_space.specs.declared.row.Row.{Row}
use Rattle.address_space.proofs.Extents.{has_start}
use Rattle.address_space.proofs.Sheets.{alike_numbers, number_found, number_none}
use Rattle.address_space.proofs.space.AddressSpace.looked_up_in_sheet.Goals as goal

pub returns-in-Some-clause-first : goal.returns-in-Some-clause-first
unfolding space_of decider
returns-in-Some-clause-first c =
    let segments = segments_of (image_of c.args.self.now.elf) in
    let found = ap (option_map (λ (row : Row). row.number)) (sym c.in-Some.is) ∙ c.find-row.ensures.number c.requires.laid ∙ c.requires.deciding c.args.at in
    c.segment_at.ensures ∙ sym (number_found segment_extent segments c.args.at c.in-Some.row.number found)

pub returns-in-Some-clause-alike : goal.returns-in-Some-clause-alike
unfolding space_of decider
returns-in-Some-clause-alike c =
    let segments = segments_of (image_of c.args.self.now.elf) in
    alike_numbers segment_extent segments (holder c.args.sheet.now.rows.items) c.args.at c.args.limit c.find-row.result.1 c.requires.deciding (c.find-row.ensures.held c.requires.laid)

pub returns-in-Some-clause-covers : goal.returns-in-Some-clause-covers
unfolding space_of decider
returns-in-Some-clause-covers c =
    has_start segment_extent decided_view (segments_of (image_of c.args.self.now.elf)) c.args.at c.segment_at.result (returns-in-Some-clause-first c)

pub returns-in-None-clause-first : goal.returns-in-None-clause-first
unfolding space_of decider
returns-in-None-clause-first c =
    let segments = segments_of (image_of c.args.self.now.elf) in
    let found = ap (option_map (λ (row : Row). row.number)) (sym c.in-None.is) ∙ c.find-row.ensures.number c.requires.laid ∙ c.requires.deciding c.args.at in
    sym (number_none segment_extent segments c.args.at found)

pub returns-in-None-clause-alike : goal.returns-in-None-clause-alike
unfolding space_of decider
returns-in-None-clause-alike c =
    let segments = segments_of (image_of c.args.self.now.elf) in
    alike_numbers segment_extent segments (holder c.args.sheet.now.rows.items) c.args.at c.args.limit c.find-row.result.1 c.requires.deciding (c.find-row.ensures.held c.requires.laid)
