use Rattle.std.proofs.Common.{Option, None, find, ap, sym, ◌∙◌}
use Rattle.std.specs.Option.{option_map}
use Rattle.address_space.specs.PieceWords.{mapping_view}
use Rattle.address_space.specs.Source.{MappingView, mappings_of}
use Rattle.address_space.specs.SpaceWords.{space_of}
use Rattle.core_notes.specs.FileList.{FileView}
use Rattle.core_notes.specs.FileWords.{file_view}
use Rattle.core_notes.specs.declared.file_list.FileMap.{FileMap}
use Rattle.image_replies.specs.CoreWords.{core_bytes}
use Rattle.memory_replies.specs.At.{has_address}
use Rattle.script_words.specs.Printing.{shown}
use Rattle.script_streams.specs.PrintLaws.{prints_as, prints_then}
use Rattle.case_screens.specs.WordRows.{unnamed_by}
use Rattle.case_screens.proofs.word_rows.print_unnamed.Goals as goal

pub returns-in-Some-default : goal.returns-in-Some-default
returns-in-Some-default g c =
    let a = c.args.address in
    let core = core_bytes c.args.memory.core.now in
    let found = find (has_address a) (mappings_of (space_of c.args.memory.space.now)) in
    prints_as
    (ap (λ (f : Option FileMap). unnamed_by core (option_map file_view f) found a) (sym c.in-Some-default.is-0)
    ∙ ap (λ (f : Option FileView). unnamed_by core f found a) c.file_at.ensures)
    (prints_then c.print.ensures (prints_as (ap shown (c.deref.ensures.0 ∙ c.file_place.ensures)) c.print_text.ensures))

pub returns-in-None-Some : goal.returns-in-None-Some
returns-in-None-Some g c =
    let a = c.args.address in
    let core = core_bytes c.args.memory.core.now in
    let found = find (has_address a) (mappings_of (space_of c.args.memory.space.now)) in
    prints_as
    (ap (λ m. unnamed_by core None (option_map mapping_view m) a) (sym c.in-None-Some.is-1)
    ∙ ap (λ (m : Option MappingView). unnamed_by core None m a) c.mapping_at.ensures
    ∙ ap (λ (f : Option FileMap). unnamed_by core (option_map file_view f) found a) (sym c.in-None-Some.is-0)
    ∙ ap (λ (f : Option FileView). unnamed_by core f found a) c.file_at.ensures)
    c.print_mapping.ensures
