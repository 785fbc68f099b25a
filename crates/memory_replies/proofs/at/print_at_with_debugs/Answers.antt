use Rattle.std.proofs.Common.{map, refl, ap, subst, ◌∙◌}
use Rattle.std.specs.Prelude.{Some}
use Rattle.address_space.specs.SpaceWords.{space_of}
use Rattle.image_replies.specs.CoreWords.{core_bytes}
use Rattle.memory_replies.specs.Answers.{AnswersWith}
use Rattle.memory_replies.specs.Memory.{attached_view, mapped_files}
use Rattle.memory_replies.specs.Naming.{function_of}
use Rattle.memory_replies.specs.NamingWords.{named_file}
use Rattle.memory_replies.specs.At.{located_answer}
use Rattle.memory_replies.proofs.AtFrontLemmas.{files_in_front, files_of_memory}
use Rattle.memory_replies.proofs.at.print_at_with_debugs.Goals as goal

pub returns-in_default : goal.returns-in_default
returns-in_default g c image begins = (_, refl, c.print_no.ensures)

pub returns : goal.returns
returns g c image begins =
    let core = c.args.core.now in
    let a = c.args.address in
    let xs = map attached_view c.args.attached.now in
    let files = files_in_front core image c.args.size begins c.a_sound_front_names_the_files.ensures in
    let own = files_of_memory (core_bytes core) image xs (space_of c.in-Ok.space) c.in-Ok.ensures.space files in
    let place = (rw c.deref.ensures.value at c.function_of-place.ensures) ∙ ap (λ fs. function_of fs (map named_file c.in-Ok.named.items) a (Some a)) own ∙ ap (λ named. function_of (mapped_files image) named a (Some a)) c.in-Ok.ensures.named in
    let told = c.print_located.ensures image xs begins c.in-Ok.ensures.space in
    (told.0, subst (λ p. AnswersWith c.print_located.result (located_answer image xs p a) told.0) place told.1, told.2)
