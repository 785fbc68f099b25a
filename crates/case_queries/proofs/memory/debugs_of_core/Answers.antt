use Rattle.std.proofs.Common.{List, IfOk, Vec, Global, map, ap, sym, subst, ◌≡◌, ◌∙◌}
use Rattle.image_replies.specs.CoreWords.{core_bytes}
use Rattle.intake.specs.Parts.{state_of}
use Rattle.build_replies.specs.Builds.{NamedId, told_or_none}
use Rattle.build_replies.specs.ToldLaws.{told_all}
use Rattle.case_queries.specs.Collecting.{debugs_by}
use Rattle.case_queries.specs.CollectingWords.{executable_view, wanted_view}
use Rattle.case_queries.specs.declared.collect_executables.WantedCase.{WantedCase}
use Rattle.case_queries.proofs.memory.debugs_of_core.Goals as goal

pub returns : goal.returns
returns g c =
    let told = c.listed.ensures ∙ ap told_or_none c.in_ok-told.ensures ∙ sym (told_all (core_bytes c.args.core.now)) in
    subst (λ (ts : List NamedId). IfOk c.wanted_debugs.result (λ (v : Vec WantedCase Global). map wanted_view v.items ≡ debugs_by ts (map executable_view c.args.executables.now) (state_of c.args.archive.now).cases)) told c.wanted_debugs.ensures
