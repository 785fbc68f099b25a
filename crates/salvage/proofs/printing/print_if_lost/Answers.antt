use Rattle.std.proofs.Common.{[], ◌∷◌, inl, inr, refl, ap}
use Rattle.journal_layout.specs.Case.{case_of}
use Rattle.script_streams.specs.PrintLaws.{prints_as, prints_nothing}
use Rattle.salvage.specs.Texts.{case_line}
use Rattle.salvage.specs.Told.{Line}
use Rattle.salvage.specs.declared.printing.Mark.TheVariants.{Lost}
use Rattle.salvage.proofs.PrintLemmas.{told_one}
use Rattle.salvage.proofs.printing.print_if_lost.Goals as goal

pub returns-in_default : goal.returns-in_default
returns-in_default g c = ([], inl (refl, c.loss.ensures.none c.in_default.is), prints_nothing)

pub returns : goal.returns
returns g c =
    let l : Line = record { case = case_of c.args.read.now.entry; mark = Lost c.in-Some.loss c.deleted_at.result } in (
      l ∷ [],
      inr (c.in-Some.loss, c.deleted_at.result, c.loss.ensures.some c.in-Some.loss c.in-Some.is, c.deleted_at.ensures, refl),
      told_one l (prints_as (ap (case_line l.case.seq l.mark) c.as_slice.ensures.value) c.print_case.ensures),
    )
