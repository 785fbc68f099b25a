-- Another image that begins with the same bytes and has the same parts, and is not the same at a place.
use Rattle.std.proofs.Common.{◌≡◌, ◌<◌, ◌≤◌, ◌⊎◌, inl, inr, ℕ, suc, ◌+◌, List, [], ◌∷◌, length, take, drop, set, get_or, sym, ap, ◌∙◌, arith, length-set, get_or-set_same}
use Rattle.std.proofs.lemmas.List.{drop-take, take-set-le, drop-set-lt}
use Rattle.elf_view.specs.Field.{part}
use Rattle.address_space.specs.Whole.{IsFrontOf}
use Rattle.seen_memory.specs.Parts.{HasParts, IsBeside}
use Rattle.seen_memory.specs.Seen.{IsImageOf}
use Rattle.seen_memory.specs.Unread.{UnreadBytesAreNotTold}
use Rattle.seen_memory.specs.declared.part.Part.{Part}

-- a part that does not have the place
part_stays : (image : List ℕ) (place y at n : ℕ) → (place < at) ⊎ (at + n ≤ place) → part (set image place y) at n ≡ part image at n
part_stays image place y at n (inl before) = ap (take n) (drop-set-lt at image place y before)
part_stays image place y at n (inr behind) = sym (drop-take at n (set image place y)) ∙ ap (drop at) (take-set-le (at + n) image place y behind) ∙ drop-take at n image

parts_stay : (image : List ℕ) (place y : ℕ) (ps : List Part) → IsBeside place ps → HasParts image ps → HasParts (set image place y) ps
parts_stay image place y [] beside has = tt
parts_stay image place y (p ∷ ps) beside has =
    (has.0 ∙ sym (part_stays image place y p.at (length p.bytes.now) beside.0), parts_stay image place y ps beside.1 has.1)

front_stays : (front image : List ℕ) (size place y : ℕ) → length front ≤ place → IsFrontOf front size image → IsFrontOf front size (set image place y)
front_stays front image size place y low begins =
    (length-set image place y ∙ begins.0, begins.1 ∙ sym (take-set-le (length front) image place y low))

pub not_told : UnreadBytesAreNotTold
not_told m told place image x is inside unread depends each =
    let y = suc (get_or image place 0) in
    let other : IsImageOf m (set image place y) = record {
      begins = front_stays m.front.now image m.size place y unread.0 is.begins;
      has = parts_stay image place y m.parts.now unread.1 is.has;
    } in
    let here = is.begins.0 in
    let there = get_or-set_same image place y 0 (omega (arith, inside, here)) in
    depends image (set image place y) is other (λ same. let e : get_or image place 0 ≡ y = same ∙ there in omega (arith, e)) (sym (each image is) ∙ each _ other)
