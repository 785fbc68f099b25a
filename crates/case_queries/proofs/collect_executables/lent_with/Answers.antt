use Rattle.std.proofs.Common.{List, ◌++◌, map, ap, ◌∙◌}
use Rattle.std.proofs.lemmas.List.{map-append}
use Rattle.address_space.specs.Source.{ExecutableView}
use Rattle.build_replies.specs.BuildsWords.{numbered_view}
use Rattle.memory_replies.specs.Memory.{attached_view}
use Rattle.case_queries.specs.Collecting.{Wanted}
use Rattle.case_queries.specs.CollectingWords.{executable_view, read_as}
use Rattle.case_queries.proofs.collect_executables.lent_with.Goals as goal

pub returns-clause-attached : goal.returns-clause-attached
returns-clause-attached c =
    let first = c.in_ok-first.first.attached.items in
    let more = c.in_ok-more.more.attached.items in
    ap (map attached_view) (c.in_ok-extend_from_slice.ensures.items ∙ ap (λ xs. first ++ xs) c.deref.ensures.value)
    ∙ map-append attached_view first more
    ∙ ap (λ (xs : List ExecutableView). xs ++ map attached_view more) c.in_ok-first.ensures.attached
    ∙ ap (λ (xs : List ExecutableView). map executable_view c.args.executables.now ++ xs) c.in_ok-more.ensures.attached

pub returns-clause-cases : goal.returns-clause-cases
returns-clause-cases c =
    let first = c.in_ok-first.first.cases.items in
    let more = c.in_ok-more.more.cases.items in
    ap (map numbered_view) (c.in_ok-extend_from_slice-2.ensures.items ∙ ap (λ xs. first ++ xs) c.deref-2.ensures.value)
    ∙ map-append numbered_view first more
    ∙ ap (λ (xs : List Wanted). xs ++ map numbered_view more) c.in_ok-first.ensures.cases
    ∙ ap (λ (xs : List Wanted). map read_as c.args.executables.now ++ xs) c.in_ok-more.ensures.cases
