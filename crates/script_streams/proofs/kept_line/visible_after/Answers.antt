use Rattle.std.proofs.Common.{sym, ◌∙◌}
use Rattle.script_streams.proofs.LineLemmas.{first_visible_of-append-none, first_visible_of-append-some}
use Rattle.script_streams.proofs.kept_line.visible_after.Goals as goal

pub returns-in-None : goal.returns-in-None
returns-in-None c = λ line so_far.
    c.first_visible.ensures ∙ sym (first_visible_of-append-none line c.args.piece.now (sym so_far ∙ c.in-None.is))

pub returns-in-Some : goal.returns-in-Some
returns-in-Some c = λ line so_far.
    sym (first_visible_of-append-some line c.args.piece.now c.in-Some.byte (sym so_far ∙ c.in-Some.is))
