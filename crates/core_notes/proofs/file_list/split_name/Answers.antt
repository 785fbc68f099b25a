use Rattle.std.proofs.Common.{◌+◌, length, take, drop, ap, ◌∙◌}
use Rattle.std.specs.List.{position_or_len}
use Rattle.memchr.specs.Find.{is_byte}
use Rattle.core_notes.proofs.Names.{behind_front}
use Rattle.core_notes.proofs.file_list.split_name.Goals as goal

pub returns-clause-others : goal.returns-clause-others
returns-clause-others c =
    let names = c.args.names.now in
    c.part-others.ensures
    ∙ ap (λ name. take (length names) (drop (length name + 1) names)) c.text_before_nul-name.ensures
    ∙ behind_front (position_or_len (is_byte 0) names) names
