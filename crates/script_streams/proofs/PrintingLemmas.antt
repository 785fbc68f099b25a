-- What was told, over several writes.
use Rattle.std.proofs.Common.{◌≡◌, ℕ, ◌-◌, Bool, true, false, List, [], ◌++◌, Option, refl, sym, ap, subst, ◌∙◌, arith, append_assoc}
use Rattle.std.proofs.lemmas.List.{append-nil}
use Rattle.std.proofs.lemmas.Bool.{true≢false, false≢true}
use Rattle.std.proofs.KnownBytes.{Appends-trans}
use Rattle.std.specs.Io.KnownBytes.{Appends}
use Rattle.diagnostics.specs.Counts.{HasRisen}
use Rattle.diagnostics.specs.CountLaws.{risen_since}
use Rattle.script_streams.specs.Writing.{PassesOn}
use Rattle.script_streams.specs.Printing.{Sink, Told, Prints}

-- a text is passed on after what was held, or together with it
module _ (start : Option (List ℕ)) (count name : ℕ) (old new : Sink) (told text passed : List ℕ) (is : passed ≡ old.unwritten.held.items ++ text)
    (empty : new.unwritten.held.items ≡ []) (same : new.name ≡ old.name) (so_far : Told start count name old told) where
  -- all that was told, where what was held has not been dropped
  whole : old.unwritten.failed ≡ false → so_far.out ++ passed ≡ told ++ text
  whole running =
      ap (λ x. so_far.out ++ x) (is ∙ ap (λ held. held ++ text) (sym (so_far.held running)))
      ∙ sym (append_assoc so_far.out so_far.rest text)
      ∙ ap (λ x. x ++ text) so_far.split

  by_cases : (was now : Bool) → old.unwritten.failed ≡ was → new.unwritten.failed ≡ now → PassesOn was old.taken new.taken old.failures new.failures passed now → Told start count name new (told ++ text)
  by_cases true now was_is now_is passes = record {
    out = so_far.out;
    rest = so_far.rest ++ text;
    appended = subst (λ (x : Option (List ℕ)). Appends start x so_far.out) (sym passes.1) so_far.appended;
    split = sym (append_assoc so_far.out so_far.rest text) ∙ ap (λ x. x ++ text) so_far.split;
    held = λ no. absurd (true≢false (sym (now_is ∙ passes.0) ∙ no));
    counted = omega (arith, so_far.counted, passes.2);
    blamed = λ yes. subst (HasRisen count) (sym passes.2) (so_far.blamed was_is);
    same = same ∙ so_far.same;
  }
  by_cases false false was_is now_is passes = record {
    out = so_far.out ++ passed;
    rest = [];
    appended = Appends-trans start old.taken new.taken so_far.out passed so_far.appended passes.0;
    split = append-nil (so_far.out ++ passed) ∙ whole was_is;
    held = λ no. sym empty;
    counted = omega (arith, so_far.counted, passes.1);
    blamed = λ yes. absurd (false≢true (sym now_is ∙ yes));
    same = same ∙ so_far.same;
  }
  by_cases false true was_is now_is passes = record {
    out = so_far.out ++ passes.0;
    rest = passes.1;
    appended = Appends-trans start old.taken new.taken so_far.out passes.0 so_far.appended passes.3;
    split = append_assoc so_far.out passes.0 passes.1 ∙ ap (λ x. so_far.out ++ x) passes.2 ∙ whole was_is;
    held = λ no. absurd (true≢false (sym now_is ∙ no));
    counted = omega (arith, so_far.counted, passes.4.0);
    blamed = λ yes. risen_since count old.failures new.failures so_far.counted passes.4;
    same = same ∙ so_far.same;
  }

pub told_on : (old new : Sink) (text passed : List ℕ) → passed ≡ old.unwritten.held.items ++ text
    → PassesOn old.unwritten.failed old.taken new.taken old.failures new.failures passed new.unwritten.failed → new.unwritten.held.items ≡ [] → new.name ≡ old.name → Prints old new text
told_on old new text passed is passes empty same start count name told so_far =
    by_cases start count name old new told text passed is empty same so_far old.unwritten.failed new.unwritten.failed refl refl passes

-- where no write has failed and nothing is held, all was taken
pub all_taken : (start : Option (List ℕ)) (count name : ℕ) (now : Sink) (told : List ℕ) → Told start count name now told → now.unwritten.failed ≡ false → now.unwritten.held.items ≡ []
    → Appends start now.taken told
all_taken start count name now told so_far running empty =
    subst (Appends start now.taken) (sym (append-nil so_far.out) ∙ ap (λ x. so_far.out ++ x) (sym (so_far.held running ∙ empty)) ∙ so_far.split) so_far.appended

-- telling nothing changes nothing of what was told
pub told_nothing : (start : Option (List ℕ)) (count name : ℕ) (now : Sink) (told : List ℕ) → Told start count name now (told ++ []) → Told start count name now told
told_nothing start count name now told so_far = subst (Told start count name now) (append-nil told) so_far
