use Rattle.std.proofs.Common.{List, ℕ, map, ap, ◌∙◌}
use Rattle.build_replies.specs.Builds.{NamedId}
use Rattle.build_replies.specs.Choosing.{Choice, choice_of}
use Rattle.build_replies.specs.Mapped.{id_view}
use Rattle.build_replies.specs.NameWords.{debug_names, name_bytes, names_in, wanted_debugs}
use Rattle.memory_replies.specs.Memory.{attached_view}
use Rattle.case_queries.specs.CollectingWords.{executable_view, wanted_view}
use Rattle.case_queries.specs.Executables.{named_of}
use Rattle.case_queries.specs.ToldWords.{files_told}
use Rattle.case_queries.specs.declared.collect_executables.WantedCase.{WantedCase}
use Rattle.case_queries.proofs.ExecutableLemmas.{named_again}
use Rattle.case_queries.proofs.executable_cases.ExecutableCases.debugs_for.Goals as goal

pub returns : goal.returns
returns c = λ cases of.
    let xs = map executable_view c.args.executables.now in
    let told = map id_view c.listed.result.now in
    let stored = ap (map attached_view) c.deref.ensures.value ∙ c.in_ok-lent.ensures.attached in
    let used = ap (map attached_view) c.deref-2.ensures.value ∙ ap (λ (k : Choice). k.used) (c.in_ok-chosen.ensures ∙ ap (choice_of told) stored) in
    let names = c.in_ok-stored.ensures ∙ ap (map name_bytes) c.deref-3.ensures.value ∙ c.in_ok-names.ensures ∙ ap debug_names used ∙ ap (λ (ts : List NamedId). wanted_debugs ts xs) c.listed.ensures in
    let all = wanted_debugs (files_told c.args.told.now) xs in
    c.in_ok-named_in.ensures
    ∙ ap (λ (ws : List WantedCase). named_of (names_in c.in_ok-stored.stored) (map wanted_view ws)) c.deref-4.ensures.value
    ∙ ap (λ (ns : List (List ℕ)). named_of ns (map wanted_view c.args.self.now.cases.items)) names
    ∙ ap (named_of all) of
    ∙ named_again all cases
