-- Laws of bytes whose first ones are replaced.
use Rattle.std.proofs.Common.{◌≡◌, ℕ, ◌+◌, ◌-◌, ◌≤◌, List, length, take, drop, refl, sym, ap, ◌∙◌, arith, length-append, length-drop}
use Rattle.std.proofs.lemmas.List.{take_at, drop_at, drop-drop}
use Rattle.disk_model.specs.Places.{AreBytes, part}
use Rattle.disk_model.specs.PartLaws.{part_part, part_is}
use Rattle.disk_model.specs.PlaceLaws.{append_bytes, drop_bytes}
use Rattle.salvage.specs.Fronts.{fronted}

pub fronted_length : (front b : List ℕ) (size : ℕ) → length b ≡ size → length front ≤ size → length (fronted front b) ≡ size
fronted_length front b size long within = omega (arith, length-append front (drop (length front) b), length-drop (length front) b, long, within)

pub fronted_bytes : (front b : List ℕ) → AreBytes front → AreBytes b → AreBytes (fronted front b)
fronted_bytes front b first second = append_bytes front (drop (length front) b) first (drop_bytes (length front) b second)

-- a part of the first bytes
pub part_first : (front b : List ℕ) (at n : ℕ) → at + n ≤ length front → part (fronted front b) at n ≡ part front at n
part_first front b at n within =
    let e : 0 + at ≡ at = omega arith in
    sym (ap (λ (p : ℕ). part (fronted front b) p n) e)
    ∙ sym (part_part (fronted front b) 0 (length front) at n within)
    ∙ ap (λ (l : List ℕ). part l at n) (part_is (fronted front b) 0 (length front) ∙ take_at front (drop (length front) b) (length front) refl)

-- a part of the others
pub part_other : (front b : List ℕ) (at n : ℕ) → length front ≤ at → part (fronted front b) at n ≡ part b at n
unfolding part
part_other front b at n behind =
    let m = length front in
    let e : m + (at - m) ≡ at = omega (arith, behind) in
    let back : (l : List ℕ) → drop at l ≡ drop (at - m) (drop m l) = λ l. sym (ap (λ (k : ℕ). drop k l) e) ∙ sym (drop-drop (at - m) m l) in
    ap (take n) (back (fronted front b) ∙ ap (drop (at - m)) (drop_at front (drop m b) m refl) ∙ sym (back b))
