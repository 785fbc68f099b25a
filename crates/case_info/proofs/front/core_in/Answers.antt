use Rattle.std.proofs.Common.{ap, take, ◌∙◌}
use Rattle.core_checks.specs.Whole.{whole_length}
use Rattle.core_checks.specs.Unread.{unread_notes}
use Rattle.elf_view.specs.declared.faults.Want.TheVariants.{Core}
use Rattle.case_screens.specs.Core.{notes_in}
use Rattle.case_info.proofs.FrontLemmas.{first_same, notes_same, read_as, says_same}
use Rattle.case_info.proofs.front.core_in.Goals as goal

pub returns-clause-says : goal.returns-clause-says
returns-clause-says c = λ image is.
    let front = c.args.front.now in
    let first = c.split_at.ensures.front ∙ ap (λ n. take n front) c.min.ensures ∙ first_same Core front image is in
    record {
      notes_are = read_as front c.read.result c.read.ensures.fault c.read.ensures.image ∙ says_same notes_in Core front image
          (λ b n whole sound. notes_same _ b (c.a_sound_front_answers.ensures.fault b n whole sound) (c.a_sound_front_is_enough.ensures.notes Core b n whole sound)) is;
      whole_is = c.whole_length.ensures ∙ ap whole_length first;
      unread_is = c.unread_notes.ensures ∙ ap unread_notes first;
    }

pub returns-clause-bytes : goal.returns-clause-bytes
returns-clause-bytes c = c.read.ensures.image
