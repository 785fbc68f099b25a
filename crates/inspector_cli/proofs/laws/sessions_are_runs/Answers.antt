use Rattle.std.proofs.Common.{⊎_elim}
use Rattle.inspector_cli.proofs.StageLemmas.{marks_run}
use Rattle.inspector_cli.proofs.ClearLemmas.{all_clear}
use Rattle.inspector_cli.proofs.LifeLemmas.{lived}
use Rattle.inspector_cli.specs.Stages.{mark_at, marks_of}
use Rattle.inspector_cli.proofs.laws.sessions_are_runs.Goals as goal

pub returns-clause-whole : goal.returns-clause-whole
returns-clause-whole g c naming read out old stages end new answers closes =
    marks_run g.D.Disk naming old answers.items answers.replies stages end new answers.run answers.moves.passes
    (c.calls_lead_from_mark_to_mark.ensures.stays end.archive new end.in_doubt closes.stays)

pub returns-clause-front : goal.returns-clause-front
returns-clause-front g c naming read out old stages end new answers closes =
    marks_run g.D.Disk naming old answers.items out stages end new answers.run answers.moves.passes
    (c.calls_lead_from_mark_to_mark.ensures.stays end.archive new end.in_doubt closes.stays)

pub returns-clause-clear : goal.returns-clause-clear
returns-clause-clear g c naming read out old stages end clear answers = all_clear g.D.Disk naming read out old stages end clear answers

pub returns-clause-lives : goal.returns-clause-lives
returns-clause-lives g c naming read out old stages end new l honest settled answers closes is =
    lived g.D.Disk (mark_at g.D.Disk.seen old) (marks_of g.D.Disk.seen stages end new) l honest settled
    (⊎_elim (λ all. returns-clause-whole g c naming read out old stages end new all closes) (λ front. returns-clause-front g c naming read out old stages end new front closes) answers)
    is.0 is.1
