use Rattle.std.proofs.Common.{◌≡◌, ℕ, ◌+◌, List, length, take, ap, sym, subst, ◌∙◌}
use Rattle.std.specs.List.{flat_map}
use Rattle.memory_replies.specs.Dump.{piece_lines}
use Rattle.address_space.specs.Pieces.{pieces_of}
use Rattle.address_space.specs.SpaceWords.{core_of, space_of}
use Rattle.address_space.specs.StretchesWords.{AreLeft, front_of}
use Rattle.address_space.specs.Whole.{IsFrontOf, space_in}
use Rattle.address_space.specs.declared.stretches.Stretches.{Stretches}
use Rattle.memory_replies.proofs.PrintLemmas.{up_to_start_as, up_to_then, up_to_end}
use Rattle.memory_replies.proofs.dump.print_stretches.Goals as goal

begins : (s : Stretches) (front : List ℕ) (size : ℕ) (image : List ℕ) → front_of s ≡ front → s.size ≡ size → IsFrontOf front size image → IsFrontOf (front_of s) s.size image
begins s front size image same count is = (is.0 ∙ sym count, subst (λ f. f ≡ take (length f) image) (sym same) is.1)

pub loop-stretch-init : goal.loop-stretch-init
loop-stretch-init g c =
    let left = subst (AreLeft (space_of c.args.space.now) (core_of c.args.space.now) c.args.window.size c.args.first c.args.length) (sym c.into_iter-stretch-iterator.ensures.into_iter_gives) c.stretches-stretch-items.ensures in record {
      can_next = tt;
      is_finite = tt;
      front = left.front;
      size = left.size;
      told = λ image front has all. (left.within c.args.window.at (c.args.window.at + length c.args.window.bytes.now) all, up_to_start_as (ap (flat_map piece_lines) (sym (left.pieces image))));
    }

pub loop-stretch-preserved : goal.loop-stretch-preserved
loop-stretch-preserved g c =
    let so_far = c.loop-stretch.invariant in
    let step = c.in-Some.ensures.steps in record {
      can_next = tt;
      is_finite = tt;
      front = step.front ∙ so_far.front;
      size = step.size ∙ so_far.size;
      told = λ image front has all.
          let before = so_far.told image front has all in (
            step.within c.args.window.at (c.args.window.at + length c.args.window.bytes.now) before.0,
            up_to_then (ap (flat_map piece_lines) (step.pieces image (begins c.loop-stretch.stretch-iterator _ _ image so_far.front so_far.size front))) before.1
                (c.print_stretch.ensures image has (step.held c.args.window.at (c.args.window.at + length c.args.window.bytes.now) before.0)),
          );
    }

-- all of them
pub returns : goal.returns
returns g c image front has all =
    let so_far = c.loop-stretch.invariant in
    let whole = flat_map piece_lines (pieces_of (space_in image (space_of c.args.space.now)) c.args.first c.args.length) in
    up_to_end {whole = whole} (ap (flat_map piece_lines) (c.in-None.ensures.steps.pieces image (begins c.loop-stretch.stretch-iterator _ _ image so_far.front so_far.size front)).0) (so_far.told image front has all).1
