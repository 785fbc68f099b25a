use Rattle.elf_view.proofs.FirstFault.{each_loadable, each_note_within, loadable_at, note_within_at}
use Rattle.elf_view.proofs.laws.accepted_segments_fit.Goals as goal

pub returns-clause-loads : goal.returns-clause-loads
returns-clause-loads c = each_loadable

pub returns-clause-notes : goal.returns-clause-notes
returns-clause-notes c = each_note_within

pub returns-clause-load_at : goal.returns-clause-load_at
returns-clause-load_at c = loadable_at

pub returns-clause-note_at : goal.returns-clause-note_at
returns-clause-note_at c = note_within_at
