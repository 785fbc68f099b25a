use Rattle.journal_layout.specs.LabelledLaws.{stands_labelled, no_labels_in_one}
use Rattle.journal_layout.proofs.laws.labels_are_of_version_two.Goals as goal

pub returns-clause-labelled : goal.returns-clause-labelled
returns-clause-labelled c = stands_labelled

pub returns-clause-none : goal.returns-clause-none
returns-clause-none c = no_labels_in_one
