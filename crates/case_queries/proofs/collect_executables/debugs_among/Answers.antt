use Rattle.std.proofs.Common.{List, ℕ, IfOk, Vec, Global, ◌≡◌, map, ap, subst, ◌∙◌}
use Rattle.build_replies.specs.Choosing.{Choice, choice_of}
use Rattle.build_replies.specs.Mapped.{id_view}
use Rattle.build_replies.specs.NameWords.{debug_names, name_bytes}
use Rattle.journal_layout.specs.Case.{case_of}
use Rattle.memory_replies.specs.Memory.{attached_view}
use Rattle.case_queries.specs.Collecting.{named_by}
use Rattle.case_queries.specs.CollectingWords.{wanted_view}
use Rattle.case_queries.specs.declared.collect_executables.WantedCase.{WantedCase}
use Rattle.case_queries.proofs.collect_executables.debugs_among.Goals as goal

pub returns : goal.returns
returns c =
    let told = map id_view c.args.files.now in
    let stored = ap (map attached_view) c.deref.ensures.value ∙ c.in_ok-lent.ensures.attached in
    let used = ap (map attached_view) c.deref-2.ensures.value ∙ ap (λ (k : Choice). k.used) (c.in_ok-chosen.ensures ∙ ap (choice_of told) stored) in
    let names = c.in_ok-stored.ensures ∙ ap (map name_bytes) c.deref-3.ensures.value ∙ c.in_ok-names.ensures ∙ ap debug_names used in
    subst (λ (ns : List (List ℕ)). IfOk c.named_among.result (λ (v : Vec WantedCase Global). map wanted_view v.items ≡ named_by ns (map case_of c.args.entries.now))) names c.named_among.ensures
