use Rattle.std.proofs.Common.{ap, sym, subst, ◌∙◌}
use Rattle.std.specs.Option.{option_map}
use Rattle.address_space.specs.PieceWords.{mapping_view}
use Rattle.address_space.specs.SpaceWords.{space_of}
use Rattle.address_space.specs.Whole.{IsFrontOf, space_in}
use Rattle.core_notes.specs.Typed.{all_descs}
use Rattle.image_replies.specs.CoreWords.{core_bytes}
use Rattle.memory_replies.specs.NamedWords.{place_view}
use Rattle.thread_regs.specs.ThreadWords.{threads_left}
use Rattle.memory_replies.proofs.AtLemmas.{located, mapping_begins, nothing_at, refused, shown}
use Rattle.memory_replies.proofs.AtFrontLemmas.{files_in_front, memory_in, notes_in_front}
use Rattle.script_streams.specs.PrintLaws.{prints_then}
use Rattle.memory_replies.proofs.at.print_located.Goals as goal

pub returns-in_default : goal.returns-in_default
returns-in_default g c image xs begins memory_is =
    let core = c.args.core.now in
    let notes = notes_in_front core image c.args.size begins c.a_sound_front_is_enough.ensures.notes in
    let same = mapping_begins core image c.args.size begins c.a_sound_front_is_enough.ensures.segments notes xs (space_of c.args.space.now) memory_is c.args.address in
    (_, refused _ _ (nothing_at image xs (option_map place_view c.args.place) c.args.address (c.in_default.ensures ∙ same)), c.print_no.ensures)

pub returns : goal.returns
returns g c image xs begins memory_is =
    let core = c.args.core.now in
    let space = space_of c.args.space.now in
    let notes = notes_in_front core image c.args.size begins c.a_sound_front_is_enough.ensures.notes in
    let same = mapping_begins core image c.args.size begins c.a_sound_front_is_enough.ensures.segments notes xs space memory_is c.args.address in
    let files = files_in_front core image c.args.size begins c.a_sound_front_names_the_files.ensures in
    let memory = memory_in (core_bytes core) image xs space memory_is files in (
      _,
      shown _ _
          (located image xs (option_map place_view c.args.place) c.args.address (mapping_view c.in-Some.mapping) (space_in image space) (threads_left c.threads_of-threads.result)
          (c.in-Some.ensures ∙ same) memory (c.threads_of-threads.ensures.threads ∙ ap (all_descs 1) notes)),
      prints_then (c.print_address.ensures image (subst (λ f. IsFrontOf f c.args.size image) (sym c.requires) begins)) c.print_ok.ensures,
    )
