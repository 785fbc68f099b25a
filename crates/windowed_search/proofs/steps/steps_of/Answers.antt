use Rattle.std.proofs.Common.{◌≡◌, ◌≤◌, ℕ, ◌-◌, ◌^◌, List, [], ◌∷◌, ◌++◌, length, replicate, take, sym, subst, ◌∙◌, arith}
use Rattle.elf_view.specs.Header.{segments_of}
use Rattle.address_space.specs.SpaceWords.{core_of, space_of}
use Rattle.address_space.specs.StretchesWords.{AreLeft, front_of, pieces_left_in}
use Rattle.address_space.specs.Whole.{IsFrontOf, space_in}
use Rattle.address_space.specs.declared.stretches.Stretches.{Stretches}
use Rattle.windowed_search.specs.StepWords.{place_after}
use Rattle.windowed_search.specs.declared.steps.Step.{Step}
use Rattle.windowed_search.proofs.PlanLemmas.{LeadTo, all_within, at_end, leads_fit, none_yet, one_more, some_image}
use Rattle.windowed_search.proofs.steps.steps_of.Goals as goal

begins : (s : Stretches) (front : List ℕ) (size : ℕ) (image : List ℕ) → front_of s ≡ front → s.size ≡ size → IsFrontOf front size image → IsFrontOf (front_of s) s.size image
begins s front size image same count is = (is.0 ∙ sym count, subst (λ f. f ≡ take (length f) image) (sym same) is.1)

pub loop-stretch-init : goal.loop-stretch-init
loop-stretch-init c =
    let space = c.args.space.now in
    let n = 2 ^ 64 - 1 in
    let left = subst (AreLeft (space_of space) (core_of space) c.args.size 0 n) (sym c.into_iter-stretch-iterator.ensures.into_iter_gives) c.stretches-stretch-items.ensures in record {
      can_next = tt;
      is_finite = tt;
      front = left.front;
      size = left.size;
      at = omega arith;
      within = left.within 0 c.args.size (all_within c.args.size 0 n (segments_of (core_of space)));
      led = λ image front. none_yet image (space_in image (space_of space)) n _ _ c.new-steps.ensures.items (left.pieces image);
    }

pub loop-stretch-preserved : goal.loop-stretch-preserved
loop-stretch-preserved c =
    let so_far = c.loop-stretch.invariant in
    let went = c.in-Some.ensures.steps in
    let next = c.in-Some-next_step.ensures.step in
    let space = c.args.space.now in
    let fits = next.fits c.args.size so_far.at (went.held 0 c.args.size so_far.within) in
    record {
      can_next = tt;
      is_finite = tt;
      front = went.front ∙ so_far.front;
      size = went.size ∙ so_far.size;
      at = subst (λ n. n ≤ c.args.size) (sym c.place_after-at.ensures) fits;
      within = went.within 0 c.args.size so_far.within;
      led = λ image front.
          subst (λ (xs : List Step). LeadTo image (space_in image (space_of space)) (2 ^ 64 - 1) xs c.place_after-at.result (pieces_left_in image c.next.new.self)) (sym c.in_ok-push.ensures.items)
          (subst (λ n. LeadTo image (space_in image (space_of space)) (2 ^ 64 - 1) (c.loop-stretch.steps.items ++ c.in-Some-next_step.step ∷ []) n (pieces_left_in image c.next.new.self)) (sym c.place_after-at.ensures)
          (one_more image (space_in image (space_of space)) (2 ^ 64 - 1) c.loop-stretch.at c.args.size c.loop-stretch.steps.items c.in-Some.stretch c.in-Some-next_step.step _ _ (so_far.led image front)
          (went.pieces image (begins c.loop-stretch.stretch-iterator _ _ image so_far.front so_far.size front)) next (subst (λ n. place_after c.loop-stretch.at c.in-Some-next_step.step ≤ n) (sym front.0) fits)));
    }

pub place_after-at-requires : goal.place_after-at-requires
place_after-at-requires c =
    let so_far = c.loop-stretch.invariant in
    let fits = c.in-Some-next_step.ensures.step.fits c.args.size so_far.at (c.in-Some.ensures.steps.held 0 c.args.size so_far.within) in
    omega (arith, fits)

pub returns-clause-way : goal.returns-clause-way
returns-clause-way c image front =
    let so_far = c.loop-stretch.invariant in (
      c.loop-stretch.at,
      at_end image (space_in image (space_of c.args.space.now)) (2 ^ 64 - 1) c.loop-stretch.at c.loop-stretch.steps.items _ (so_far.led image front)
          (c.in-None.ensures.steps.pieces image (begins c.loop-stretch.stretch-iterator _ _ image so_far.front so_far.size front)).0,
    )

pub returns-clause-fits : goal.returns-clause-fits
returns-clause-fits c short =
    let so_far = c.loop-stretch.invariant in
    let space = c.args.space.now in
    let core = core_of space in
    let image = core ++ replicate (c.args.size - length core) 0 in
    let front = some_image core c.args.size short in
    leads_fit image (space_in image (space_of space)) c.args.size c.loop-stretch.steps.items 0 0 c.loop-stretch.at (2 ^ 64 - 1) front.0 (omega arith)
    (at_end image (space_in image (space_of space)) (2 ^ 64 - 1) c.loop-stretch.at c.loop-stretch.steps.items _ (so_far.led image front)
    (c.in-None.ensures.steps.pieces image (begins c.loop-stretch.stretch-iterator _ _ image so_far.front so_far.size front)).0)
