-- Laws of the bytes that notes make, and of those that a crash leaves.
use Rattle.std.proofs.Common.{◌≡◌, ℕ, ◌+◌, ◌≤◌, List, [], ◌∷◌, length, fold, refl, sym, ◌∙◌, ap, subst, arith}
use Rattle.std.proofs.lemmas.List.{take_all}
use Rattle.std.specs.Coded.{×_prop, Π_prop, Unit-prop, le_prop}
use Rattle.disk_model.specs.Places.{AreBytes}
use Rattle.disk_model.specs.PlaceLaws.{overwritten_bytes, overwritten_length, overwritten_outside}
use Rattle.disk_model.specs.Notes.{Held, after, stable, held, MayLeave, LeftSince, Fits, AllFit}
use Rattle.disk_model.specs.declared.note.Note.{Note}
use Rattle.disk_model.specs.declared.note.Note.TheVariants.{Wrote, Synced}

AreBytes-prop : (bytes : List ℕ) → IsProp (AreBytes bytes)
AreBytes-prop bytes = Π_prop (λ k. le_prop)

Fits-prop : (n : ℕ) (note : Note) → IsProp (Fits n note)
Fits-prop n (Wrote at bytes) = ×_prop le_prop (AreBytes-prop bytes.items)
Fits-prop n Synced = Unit-prop

-- such facts have one proof at most
pub AllFit-prop : (n : ℕ) (notes : List Note) → IsProp (AllFit n notes)
AllFit-prop n [] = Unit-prop
AllFit-prop n (note ∷ notes) = ×_prop (Fits-prop n note) (AllFit-prop n notes)

-- bytes that notes made of n bytes
pub record IsKept (n : ℕ) (h : Held) : Type 0 where
  pub now_length : length h.now ≡ n
  pub now_bytes : AreBytes h.now
  pub now_stays : MayLeave h h.now
  pub left_length : (c : List ℕ) → MayLeave h c → length c ≡ n
  pub left_bytes : (c : List ℕ) → MayLeave h c → AreBytes c

pub stable_kept : (first : List ℕ) → AreBytes first → IsKept (length first) (stable first)
stable_kept first are = record {
  now_length = refl;
  now_bytes = are;
  now_stays = refl;
  left_length = λ c is. ap length is;
  left_bytes = λ c is. subst AreBytes (sym is) are;
}

pub after_kept : (n : ℕ) (h : Held) (note : Note) → IsKept n h → Fits n note → IsKept n (after h note)
after_kept n h (Wrote at bytes) kept fits =
    let within : at + length bytes.items ≤ length h.now = omega (arith, fits.0, kept.now_length) in
    let are = overwritten_bytes h.now at bytes.items kept.now_bytes fits.1 in
    record {
      now_length = overwritten_length h.now at bytes.items within ∙ kept.now_length;
      now_bytes = are;
      now_stays = (h.now, kept.now_stays, overwritten_outside h.now at bytes.items within, are);
      left_length = λ c left. left.2.same_length ∙ kept.left_length left.0 left.1;
      left_bytes = λ c left. left.3;
    }
after_kept n h Synced kept fits = record {
  now_length = kept.now_length;
  now_bytes = kept.now_bytes;
  now_stays = refl;
  left_length = λ c is. ap length is ∙ kept.now_length;
  left_bytes = λ c is. subst AreBytes (sym is) kept.now_bytes;
}

pub fold_kept : (n : ℕ) (h : Held) (notes : List Note) → IsKept n h → AllFit n notes → IsKept n (fold after h notes)
fold_kept n h [] kept fit = kept
fold_kept n h (note ∷ notes) kept fit = fold_kept n (after h note) notes (after_kept n h note kept fit.0) fit.1

pub held_kept : (first : List ℕ) (notes : List Note) → AreBytes first → AllFit (length first) notes → IsKept (length first) (held first notes)
held_kept first notes are fit = fold_kept (length first) (stable first) notes (stable_kept first are) fit

-- this moment is one of those since an earlier one
pub now_counts : (first : List ℕ) (notes : List Note) (t : ℕ) (c : List ℕ) → t ≤ length notes → MayLeave (held first notes) c → LeftSince first notes t c
now_counts first notes t c le left =
    (length notes, le, omega arith, subst (λ (l : List Note). MayLeave (held first l) c) (sym (take_all (length notes) notes (omega arith))) left)

-- since this moment there is no other
pub now_alone : (first : List ℕ) (notes : List Note) (c : List ℕ) → LeftSince first notes (length notes) c → MayLeave (held first notes) c
now_alone first notes c left =
    subst (λ (l : List Note). MayLeave (held first l) c) (take_all left.0 notes left.1) left.3

-- the numbers that reads give of such notes are bytes, and may stay
pub shown_bytes : (first : List ℕ) (notes : List Note) (present : List ℕ) → AreBytes first → AllFit (length first) notes → present ≡ (held first notes).now → AreBytes present
shown_bytes first notes present are fit shown = subst AreBytes (sym shown) (held_kept first notes are fit).now_bytes

pub shown_stays : (first : List ℕ) (notes : List Note) (present : List ℕ) → AreBytes first → AllFit (length first) notes → present ≡ (held first notes).now → MayLeave (held first notes) present
shown_stays first notes present are fit shown = subst (MayLeave (held first notes)) (sym shown) (held_kept first notes are fit).now_stays
