use Rattle.std.proofs.Common.{◌++◌, List, map, ap, sym, ◌∙◌}
use Rattle.build_replies.specs.Builds.{NamedId, told_or_none}
use Rattle.build_replies.specs.Choosing.{Choice, debugs_of, used_of}
use Rattle.build_replies.specs.ToldLaws.{told_all}
use Rattle.image_replies.specs.CoreWords.{core_bytes}
use Rattle.case_queries.specs.CollectingWords.{executable_view}
use Rattle.case_queries.proofs.with_builds.lent_used.Goals as goal

pub returns-clause-attached : goal.returns-clause-attached
returns-clause-attached c =
    let told = c.listed.ensures ∙ ap told_or_none c.in_ok-told.ensures ∙ sym (told_all (core_bytes c.args.core.now)) in
    let chosen = rw c.in_ok-all.ensures.attached at (rw c.deref.ensures.value at c.in_ok-chosen.ensures) in
    ap (λ (x : Choice). x.used) chosen ∙ ap (λ (ts : List NamedId). used_of (map executable_view c.args.executables.now ++ map executable_view c.args.debug_files.now) ts) told

pub returns-clause-debugs : goal.returns-clause-debugs
returns-clause-debugs c =
    let told = c.listed.ensures ∙ ap told_or_none c.in_ok-told.ensures ∙ sym (told_all (core_bytes c.args.core.now)) in
    let chosen = rw c.in_ok-all.ensures.attached at (rw c.deref.ensures.value at c.in_ok-chosen.ensures) in
    ap (λ (x : Choice). x.debugs) chosen ∙ ap (λ (ts : List NamedId). debugs_of (map executable_view c.args.executables.now ++ map executable_view c.args.debug_files.now) ts) told
