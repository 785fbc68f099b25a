-- The spots of a table are its walk.
use Rattle.std.proofs.Common.{◌≡◌, ◌≤◌, ◌+◌, ℕ, zero, suc, Bool, true, false, List, [], ◌∷◌, length, drop, refl, ap, ◌∙◌, sym, subst, arith}
use Rattle.std.proofs.lemmas.List.{length-drop}
use Rattle.call_frames.specs.Grammar.{IsWalk}
use Rattle.call_frames.specs.Walk.{is_end, entry_len, spots_past}
use Rattle.call_frames.specs.declared.spots.Spot.{Spot}
use Rattle.call_frames.proofs.SpotPlaces.{spots_end, spots_next, some_left, entry_len_above}

walk_by : (b : List ℕ) (p i n : ℕ) (t : Bool) → is_end (drop p b) ≡ t → length (drop p b) ≤ n → IsWalk b p i (spots_past 0 i p (drop p b))
walk_by b p i n true h few = subst (IsWalk b p i) (sym (spots_end i p (drop p b) h)) h
walk_by b p i zero false h few =
    let some = some_left (drop p b) h in absurd (omega arith)
walk_by b p i (suc n) false h few =
    let some = some_left (drop p b) h in
    let above = entry_len_above (drop p b) some in
    let q = p + entry_len (drop p b) in
    let shorter : length (drop q b) ≤ n = omega (arith, length-drop p b, length-drop q b, few) in
    subst (IsWalk b p i) (sym (spots_next b (drop p b) i p (entry_len (drop p b)) refl h refl)) (h, refl, walk_by b q (i + 1) n (is_end (drop q b)) refl shorter)

pub walk : (b : List ℕ) (p i : ℕ) → IsWalk b p i (spots_past 0 i p (drop p b))
walk b p i = walk_by b p i (length (drop p b)) (is_end (drop p b)) refl (omega arith)

pub walk_only : (b : List ℕ) (p i : ℕ) (ss : List Spot) → IsWalk b p i ss → ss ≡ spots_past 0 i p (drop p b)
walk_only b p i [] h = sym (spots_end i p (drop p b) h)
walk_only b p i (s ∷ ss) h =
    let n = entry_len (drop p b) in
    ap (λ r. r ∷ ss) h.1 ∙ ap (λ rs. (record { index = i; place = p }) ∷ rs) (walk_only b (p + n) (i + 1) ss h.2) ∙ sym (spots_next b (drop p b) i p n refl h.0 refl)
