use Rattle.std.proofs.Common.{Option, None, Some, Result, Ok, Err, subst}
use Rattle.std.specs.Prelude.{IfOk, IfSome}
use Rattle.elf_view.specs.ViewWords.{image_of}
use Rattle.address_space.specs.Whole.{IsFrontOf}
use Rattle.address_space.proofs.Filled.{front_headed}
use Rattle.elf_view.specs.Header.{segments_of}
use Rattle.windowed_search.proofs.RisingLemmas.{rising_headed}
use Rattle.windowed_search.proofs.steps.plan.Goals as goal

whatever : {A B : Type 0} (r : Result (Option A) B) (P : Type 0) → P → IfOk r (λ o. IfSome o (λ v. P))
whatever (Ok (Some v)) P p = p
whatever (Ok None) P p = tt
whatever (Err e) P p = tt

pub returns-clause-rising : goal.returns-clause-rising
returns-clause-rising c =
    let elf = c.args.elf.now in
    let rises = rw c.segments.ensures.headers at c.is_rising.ensures c.if-not-is_rising.false in
    whatever c.steps_of.result _ (λ image front.
    let own = subst (λ f. IsFrontOf f c.args.size image) c.requires front in
    rising_headed (segments_of (image_of elf)) (segments_of image) 0 (front_headed (image_of elf) image own.1 elf.whole c.a_sound_front_is_enough.ensures.segments) rises)
