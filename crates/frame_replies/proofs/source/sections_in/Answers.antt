use Rattle.std.proofs.Common.{ap, sym, ◌∙◌}
use Rattle.inflate.specs.SectionWords.{data_in, data_view}
use Rattle.elf_view.specs.ViewWords.{image_of}
use Rattle.frame_replies.proofs.SectionLemmas.{sources_read}
use Rattle.frame_replies.proofs.source.sections_in.Goals as goal

pub returns : goal.returns
returns c =
    sources_read (image_of c.args.elf.now) (data_view c.in-Data.data) _ _ (sym (c.in_ok-data.ensures).found ∙ ap data_in c.in-Data.is) (c.in_ok-line_texts.ensures) (c.in_ok-texts.ensures)
