use Rattle.std.proofs.Common.{List, ℕ, IfOk, Vec, Global, ◌≡◌, ◌++◌, map, ap, subst, ◌∙◌}
use Rattle.build_replies.specs.Mapped.{id_view}
use Rattle.build_replies.specs.NameWords.{file_name, name_bytes}
use Rattle.journal_layout.specs.Case.{case_of}
use Rattle.case_queries.specs.Collecting.{named_by}
use Rattle.case_queries.specs.CollectingWords.{wanted_view}
use Rattle.case_queries.specs.declared.collect_executables.WantedCase.{WantedCase}
use Rattle.case_queries.proofs.collect_executables.wanted_for_files.Goals as goal

pub returns : goal.returns
returns c =
    let told = map id_view c.args.files.now in
    let names = c.in_ok-names.ensures ∙ ap (λ (ns : List (List ℕ)). map file_name told ++ ns) (ap (map name_bytes) c.deref.ensures.value ∙ c.in_ok-builds.ensures) in
    subst (λ (ns : List (List ℕ)). IfOk c.named_among.result (λ (v : Vec WantedCase Global). map wanted_view v.items ≡ named_by ns (map case_of c.args.entries.now))) names c.named_among.ensures
