use Rattle.core_notes.proofs.Looking.{core_statuses_whole}
use Rattle.core_notes.proofs.core_view.CoreNotes.of.Goals as goal

pub invariant_of-result : goal.invariant_of-result
invariant_of-result c = record {
  whole = core_statuses_whole _ c.in_ok-first.ensures.fault;
  first_is = c.in_ok-first.ensures.first;
}
