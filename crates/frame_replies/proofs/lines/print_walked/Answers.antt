use Rattle.std.proofs.Common.{[], if◌then◌else◌, is_ok, ap, ◌∙◌}
use Rattle.address_space.specs.SpaceWords.{space_of}
use Rattle.image_replies.specs.Lines.{numbered_lines}
use Rattle.frame_replies.specs.ProcessWords.{named_in}
use Rattle.script_streams.specs.PrintLaws.{prints_as, prints_then}
use Rattle.frame_replies.specs.Walking.{walked_line}
use Rattle.frame_replies.specs.WalkLaws.{shown_told}
use Rattle.frame_replies.proofs.AnswerLemmas.{no_memory, shown}
use Rattle.frame_replies.proofs.lines.print_walked.Goals as goal

pub returns-in_default : goal.returns-in_default
returns-in_default g c image executables thread is ended =
    let p = c.args.process.now in
    let none = prints_as (ap (λ r. if is_ok r then numbered_lines (walked_line c.args.shown (space_of p.space).files (named_in p.executables.now.images)) 0 c.deref.result.now else []) c.in_default.is) c.print_shown.ensures in
    (_, no_memory _ _ c.print_no_memory.ensures.outcome, prints_then none c.print_no_memory.ensures.states)

pub returns : goal.returns
returns g c image executables thread is ended =
    let p = c.args.process.now in
    let lines =
    prints_as (ap (λ r. if is_ok r then numbered_lines (walked_line c.args.shown (space_of p.space).files (named_in p.executables.now.images)) 0 c.deref.result.now else []) c.in-Ok.is
    ∙ ap (numbered_lines (walked_line c.args.shown (space_of p.space).files (named_in p.executables.now.images)) 0) c.deref.ensures.value) c.print_shown.ensures in (
      _,
      shown _ _ (shown_told image executables thread p c.args.walk.now c.args.stop is ended c.args.shown),
      prints_then (prints_then lines c.print_stop.ensures) c.print_ok.ensures,
    )
