use Rattle.std.proofs.Common.{◌+◌, length, map, sym, subst, refl}
use Rattle.elf_view.specs.Header.{segments_of}
use Rattle.address_space.specs.SpaceWords.{space_of}
use Rattle.address_space.specs.Whole.{AreHeldWithin, IsFrontOf, space_in}
use Rattle.image_replies.specs.CoreWords.{core_bytes}
use Rattle.memory_replies.specs.Memory.{attached_view}
use Rattle.memory_replies.proofs.AnswerLemmas.{range_refused, range_shown, refused, shown}
use Rattle.memory_replies.proofs.WindowLemmas.{files_in_front, memory_in}
use Rattle.script_streams.specs.PrintLaws.{prints_then}
use Rattle.memory_replies.proofs.dump.print_dump.Goals as goal

pub returns-in_default : goal.returns-in_default
returns-in_default g c image hand = (_, refl, c.print_no.ensures)

pub returns-then-is_out_of_range : goal.returns-then-is_out_of_range
returns-then-is_out_of_range g c image hand = (_, refused _ _ (range_refused _ _ _ _ (sym c.if-is_out_of_range.ensures)), c.print_no-then-is_out_of_range.ensures)

pub returns : goal.returns
returns g c image hand =
    let space = c.in-Ok.space in
    let window = c.args.window in
    let core = c.args.core.now in
    let n = c.args.length in
    let same = sym c.in-Ok.ensures.core in
    let memory = memory_in (core_bytes core) image (map attached_view c.args.attached.now) (space_of space) c.in-Ok.ensures.memory (files_in_front core image window.size hand.begins c.a_sound_front_names_the_files.ensures) in
    let told = c.print_stretches.ensures image (subst (λ f. IsFrontOf f window.size image) same hand.begins) hand.has
    (subst (λ f. AreHeldWithin window.size c.args.first n window.at (window.at + length window.bytes.now) (segments_of f)) same (hand.all (sym c.if-is_out_of_range.ensures))) in
    (_, shown _ _ (range_shown image (map attached_view c.args.attached.now) c.args.first n (space_in image (space_of space)) (sym c.if-is_out_of_range.ensures) memory), prints_then told c.print_ok.ensures)
