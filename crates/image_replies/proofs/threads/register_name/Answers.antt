use Rattle.std.proofs.Common.{ap, ◌∙◌, slice_get}
use Rattle.thread_regs.specs.Register.{abi_names}
use Rattle.image_replies.specs.Threads.{register_name}
use Rattle.image_replies.proofs.NameLemmas.{name_found}
use Rattle.image_replies.proofs.threads.register_name.Goals as goal

pub returns : goal.returns
unfolding register_name
returns c = name_found _ _ (c.name.ensures ∙ ap (slice_get abi_names) c.of_word.ensures)
