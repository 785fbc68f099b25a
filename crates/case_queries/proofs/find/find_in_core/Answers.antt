use Rattle.std.specs.Prelude.{IfOk, IfSome}
use Rattle.std.proofs.Common.{Option, Some, Result, Ok, ◌≡◌, ◌-◌, ◌^◌, List, ℕ, map, sym, subst, ◌∙◌}
use Rattle.address_space.specs.SpaceWords.{core_of, space_of}
use Rattle.address_space.specs.Whole.{IsFrontOf, space_in}
use Rattle.image_replies.specs.CoreWords.{core_bytes}
use Rattle.memory_replies.specs.Memory.{attached_view}
use Rattle.memory_replies.proofs.WindowLemmas.{files_in_front, memory_in}
use Rattle.windowed_search.specs.StepWords.{Leads}
use Rattle.windowed_search.specs.declared.steps.Step.{Step}
use Rattle.windowed_search.specs.ScanWords.{aim_of}
use Rattle.case_queries.specs.Asking.{for_aim}
use Rattle.case_queries.proofs.FindLemmas.{found_outcome, found_shown, memory_outcome, none_shown}
use Rattle.case_queries.proofs.find.find_in_core.Goals as goal

given_some : {A E : Type 0} (P : A → Type 0) (r : Result (Option A) E) (o : Option A) (v : A) → r ≡ Ok o → o ≡ Some v → IfOk r (λ o. IfSome o P) → P v
given_some P r o v is some told = subst (λ x. IfSome x P) some (subst (λ x. IfOk x (λ y. IfSome y P)) is told)

pub returns-in_default : goal.returns-in_default
returns-in_default g c before reads =
    let image = c.args.image in
    (_, none_shown g.D.Disk before image c.args.archive.now _ (for_aim (aim_of c.args.sought)) c.requires.has c.requires.short reads, memory_outcome _ c.print_no_memory.ensures.done, c.print_no_memory.ensures.states)

pub returns : goal.returns
returns g c before reads =
    let image = c.args.image in
    (_, none_shown g.D.Disk before image c.args.archive.now _ (for_aim (aim_of c.args.sought)) c.requires.has c.requires.short reads, memory_outcome _ c.print_no_memory-in-Err.ensures.done, c.print_no_memory-in-Err.ensures.states)

pub returns-in-Ok-Some : goal.returns-in-Ok-Some
returns-in-Ok-Some g c before reads =
    let image = c.args.image in
    let core = c.args.core.now in
    let space = c.in-Ok.space in
    let xs = map attached_view c.args.attached.now in
    let own : core_of space ≡ image.front.now = c.in-Ok.ensures.core ∙ c.requires.front in
    let of_space = λ (b : List ℕ) (front : IsFrontOf image.front.now image.size b). subst (λ f. IsFrontOf f image.size b) (sym own) front in
    let memory = λ (b : List ℕ) (front : IsFrontOf image.front.now image.size b).
    memory_in (core_bytes core) b xs (space_of space) c.in-Ok.ensures.memory (files_in_front core b image.size (subst (λ f. IsFrontOf f image.size b) (sym c.requires.front) front) c.a_sound_front_names_the_files.ensures) in
    let finds = c.search_windows-found.ensures before (space_of space) reads (λ b front. subst (λ (ss : List Step). (q : ℕ) × Leads b (space_in b (space_of space)) 0 0 ss q (2 ^ 64 - 1)) (sym c.deref.ensures.value) (given_some _ c.plan.result _ c.in-Ok-Some.steps c.in-Ok-Some.is c.in-Ok-Some.field-0-is c.plan.ensures.way b (of_space b front))) (λ b front. given_some _ c.plan.result _ c.in-Ok-Some.steps c.in-Ok-Some.is c.in-Ok-Some.field-0-is c.plan.ensures.rising b (of_space b front)) in
    (_, found_shown g.D.Disk before image (space_of space) (aim_of c.args.sought) xs memory c.search_windows-found.new.archive c.search_windows-found.result finds, found_outcome c.search_windows-found.result _ c.print_found.ensures.done, c.print_found.ensures.states)
