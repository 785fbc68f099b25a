use Rattle.std.proofs.Common.{List, ℕ, ◌++◌, map, ap, ◌∙◌}
use Rattle.build_replies.specs.Mapped.{id_view}
use Rattle.build_replies.specs.NameWords.{file_name, name_bytes, names_in, stored_names}
use Rattle.case_queries.specs.CollectingWords.{wanted_view}
use Rattle.case_queries.specs.Executables.{named_of}
use Rattle.case_queries.specs.ToldWords.{files_told}
use Rattle.case_queries.specs.declared.collect_executables.WantedCase.{WantedCase}
use Rattle.case_queries.proofs.ExecutableLemmas.{named_again}
use Rattle.case_queries.proofs.executable_cases.ExecutableCases.stored_for.Goals as goal

pub returns : goal.returns
returns c = λ cases of.
    let told = map id_view c.listed-files.result.now in
    let names = c.in_ok-names.ensures ∙ ap (λ (ns : List (List ℕ)). map file_name told ++ ns) (ap (map name_bytes) c.deref.ensures.value ∙ c.in_ok-builds.ensures) ∙ ap stored_names c.listed-files.ensures in
    c.in_ok-named_in.ensures
    ∙ ap (λ (ws : List WantedCase). named_of (names_in c.in_ok-names.names) (map wanted_view ws)) c.deref-2.ensures.value
    ∙ ap (λ (ns : List (List ℕ)). named_of ns (map wanted_view c.args.self.now.cases.items)) names
    ∙ ap (named_of (stored_names (files_told c.args.told.now))) of
    ∙ named_again (stored_names (files_told c.args.told.now)) cases
