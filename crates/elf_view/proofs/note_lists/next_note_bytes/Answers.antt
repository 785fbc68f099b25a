use Rattle.std.proofs.Common.{◌∙◌, rules}
use Rattle.elf_view.proofs.NotePlaces.{rests_pass}
use Rattle.elf_view.proofs.note_lists.next_note_bytes.Goals as goal

pub loop-segment-preserved : goal.loop-segment-preserved
loop-segment-preserved c =
    c.loop-segment.invariant ∙ rests_pass _ _ _ c.note_bytes-bytes.result.now c.in-Some.ensures.steps c.note_bytes-bytes.ensures (search rules)
