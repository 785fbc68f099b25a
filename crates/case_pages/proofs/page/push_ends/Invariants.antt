use Rattle.std.proofs.Common.{length}
use Rattle.case_pages.specs.Pages.{IsFront}
use Rattle.case_pages.proofs.page.push_ends.Given as goal

-- What is read so far leaves the others open.
abbrev pub invariant-loop-element : goal.invariant-loop-element
invariant-loop-element l = IsFront l.fn.page.items l.fn.outer.items → IsFront l.page.items l.outer.items

abbrev pub decreases-loop-element : goal.decreases-loop-element
decreases-loop-element l = length l.outer.items
