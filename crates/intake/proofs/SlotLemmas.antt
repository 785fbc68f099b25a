-- What stands in the slots, whichever way they are kept.
use Rattle.std.proofs.Common.{◌≡◌, ℕ, ◌%◌, ◌<◌, ◌≤◌, Bool, true, false, List, [], ◌∷◌, ◌++◌, length, map, set, get_or, take, drop, refl, sym, ap, ◌∙◌, subst, arith, Option, None, Some, Result, Ok, Err}
use Rattle.std.specs.Prelude.{option_map, nat_lt}
use Rattle.std.specs.List.{All}
use Rattle.std.proofs.lemmas.List.{map-set, get_or-map, get_or_past, length-map, set-get_or, take_all, take_at, drop_all}
use Rattle.std.proofs.lemmas.Bool.{ltb-true, ltb-false}
use Rattle.intake.specs.Lending.{refilled, reblocked, with_room, slots_left}
use Rattle.intake.specs.Room.{IsFreeFrom, HasBlock, SlotReply, room_in, free_part}
use Rattle.std.proofs.lemmas.List.Elements.{All-head, All-tail}
use Rattle.intake.specs.declared.slots.Slot.{Slot}
use Rattle.intake.specs.declared.stream.Stream.{Stream}
use Rattle.intake.specs.declared.faults.ArchiveFault.{ArchiveFault}
use Rattle.intake.specs.declared.faults.ArchiveFault.TheVariants as fault
use Rattle.intake.specs.Slots.{stream_at, closed}
use Rattle.intake.specs.Parts.{StreamParts}
use Rattle.intake.specs.StreamView.{parts_of, parts_in}

-- slots that hold nothing
pub all_closed : (now : List Slot) (old : List Slot) → length now ≡ length old → All (λ (s : Slot). parts_in s ≡ None) now → map parts_in now ≡ closed (map parts_in old)
all_closed [] [] long none = refl
all_closed [] (y ∷ ys) long none = absurd (omega arith)
all_closed (x ∷ xs) [] long none = absurd (omega arith)
all_closed (x ∷ xs) (y ∷ ys) long none =
    ap (λ (o : Option StreamParts). o ∷ map parts_in xs) (All-head (λ (s : Slot). parts_in s ≡ None) x xs none)
    ∙ ap (λ (l : List (Option StreamParts)). None ∷ l) (all_closed xs ys (omega arith) (All-tail (λ (s : Slot). parts_in s ≡ None) x xs none))

-- what stands in a slot
pub in_slot : (slots : List Slot) (slot : ℕ) (d : Slot) → slot < length slots → stream_at (map parts_in slots) slot ≡ parts_in (get_or slots slot d)
in_slot slots slot d below = get_or-map parts_in slots slot d None below

pub put_in : (slots : List Slot) (slot : ℕ) (s : Slot) (o : Option StreamParts) → parts_in s ≡ o → map parts_in (set slots slot s) ≡ set (map parts_in slots) slot o
put_in slots slot s o is = map-set parts_in slots slot s ∙ ap (set (map parts_in slots) slot) is

block_in : (b : List ℕ) (o : Option Stream) (t : StreamParts) → option_map (parts_of b) o ≡ Some t → t.block ≡ b
block_in b None t e = cc
block_in b (Some x) t e = let f : parts_of b x ≡ t = cc in sym (ap (λ (s : StreamParts). s.block) f)

below_eight : (slot : ℕ) → nat_lt slot 8 ≡ true → slot < 8
below_eight slot e = ltb-true slot 8 e

-- The free part of what stands in slot `slot`, where s is the slot of that number, or some slot where there is none.
module _ (slots : List Slot) (streams : List (Option StreamParts)) (slot at : ℕ) (s : Slot) (stopped : Bool)
    (is : map parts_in slots ≡ streams) (eight : length slots ≡ 8) (place : at ≡ slot % 8) (there : s ≡ get_or slots at s) where
  stands : nat_lt slot 8 ≡ true → stream_at streams slot ≡ parts_in s
  stands low =
      let lt = below_eight slot low in
      let e : at ≡ slot = omega arith in
      ap (λ (l : List (Option StreamParts)). stream_at l slot) (sym is) ∙ in_slot slots slot s (omega arith) ∙ ap (λ (k : ℕ). parts_in (get_or slots k s)) (sym e) ∙ ap parts_in (sym there)

  past : nat_lt slot 8 ≡ false → stream_at streams slot ≡ None
  past high = let le = ltb-false slot 8 high in get_or_past streams slot None (let e = ap length is in let f : length (map parts_in slots) ≡ length slots = simp length-map in omega arith)

  pub free_low : (r : Result (Unit {0}) ArchiveFault) (from : ℕ) → IsFreeFrom stopped (nat_lt slot 8) (parts_in s) (length s.block) r from
      → (stopped ≡ false → HasBlock (stream_at streams slot)) → from ≤ length s.block
  free_low (Ok u) from h whole =
      let long : HasBlock (Some h.2) = subst HasBlock (stands h.1 ∙ h.3) (whole h.0) in
      let same = ap length (block_in s.block s.stream h.2 h.3) in
      let e = h.4 in
      omega arith
  free_low (Err fault.Stopped) from h whole = omega (arith, h.1)
  free_low (Err fault.NoStream) from h whole = omega (arith, h.2)
  free_low (Err _) from h whole = absurd h

  pub slot_reply : (r : Result (Unit {0}) ArchiveFault) (from : ℕ) → IsFreeFrom stopped (nat_lt slot 8) (parts_in s) (length s.block) r from → SlotReply stopped streams slot r
  slot_reply (Ok u) from h = (h.0, (λ none. let e : Some h.2 ≡ None = sym h.3 ∙ sym (stands h.1) ∙ none in cc))
  slot_reply (Err fault.Stopped) from h = h.0
  slot_reply (Err fault.NoStream) from h = (
    h.0,
    bool_cases (nat_lt slot 8) (λ low. stands low ∙ h.1 low) past,
  )
    where
      bool_cases : (t : Bool) → (t ≡ true → stream_at streams slot ≡ None) → (t ≡ false → stream_at streams slot ≡ None) → stream_at streams slot ≡ None
      bool_cases true f g = f refl
      bool_cases false f g = g refl
  slot_reply (Err _) from h = absurd h

  refilled_end : (b ws : List ℕ) → refilled b (length b) ws ≡ b
  refilled_end b ws =
      let all : take (length b) b ≡ b = take_all (length b) b (omega arith) in
      take_at (take (length b) b) (ws ++ drop (length ws) (drop (length b) b)) (length b) (ap length all) ∙ all

  refilled_in : (b : List ℕ) (o : Option Stream) (from : ℕ) (ws : List ℕ) (t : StreamParts) → option_map (parts_of b) o ≡ Some t → from ≡ t.facts.len % 4096
      → option_map (parts_of (refilled b from ws)) o ≡ option_map (with_room ws) (option_map (parts_of b) o)
  refilled_in b None from ws t e low = refl
  refilled_in b (Some x) from ws t e low =
      let f : parts_of b x ≡ t = cc in
      let g : from ≡ x.length % 4096 = low ∙ ap (λ (p : StreamParts). p.facts.len % 4096) (sym f) in
      ap (λ (k : ℕ). Some (parts_of (refilled b k ws) x)) g

  still : (from : ℕ) (ws : List ℕ) → from ≡ length s.block → map parts_in (set slots at (reblocked s from ws)) ≡ streams
  still from ws e =
      let same : reblocked s from ws ≡ s = ap (λ (k : ℕ). reblocked s k ws) e ∙ ap (λ (b : List ℕ). record s { block = b }) (refilled_end s.block ws) in
      ap (λ (x : Slot). map parts_in (set slots at x)) (same ∙ there) ∙ ap (map parts_in) (set-get_or slots at s) ∙ is

  pub slots_are_left : (r : Result (Unit {0}) ArchiveFault) (from : ℕ) (ws : List ℕ) → IsFreeFrom stopped (nat_lt slot 8) (parts_in s) (length s.block) r from
      → map parts_in (set slots at (reblocked s from ws)) ≡ slots_left streams slot r ws
  slots_are_left (Ok u) from ws h =
      let lt = below_eight slot h.1 in
      let e : at ≡ slot = omega arith in
      put_in slots at (reblocked s from ws) (option_map (with_room ws) (parts_in s)) (refilled_in s.block s.stream from ws h.2 h.3 h.4)
      ∙ ap (λ (l : List (Option StreamParts)). set l at (option_map (with_room ws) (parts_in s))) is
      ∙ ap (λ (k : ℕ). set streams k (option_map (with_room ws) (parts_in s))) e
      ∙ ap (λ (o : Option StreamParts). set streams slot (option_map (with_room ws) o)) (sym (stands h.1))
  slots_are_left (Err fault.Stopped) from ws h = still from ws h.1
  slots_are_left (Err fault.NoStream) from ws h = still from ws h.2
  slots_are_left (Err _) from ws h = absurd h

  free_in : (b : List ℕ) (o : Option Stream) (from : ℕ) (t : StreamParts) → option_map (parts_of b) o ≡ Some t → from ≡ t.facts.len % 4096 → drop from b ≡ free_part (option_map (parts_of b) o)
  free_in b None from t e low = cc
  free_in b (Some x) from t e low =
      let f : parts_of b x ≡ t = cc in
      ap (λ (k : ℕ). drop k b) (low ∙ ap (λ (p : StreamParts). p.facts.len % 4096) (sym f))

  pub lent_is : (r : Result (Unit {0}) ArchiveFault) (from : ℕ) → IsFreeFrom stopped (nat_lt slot 8) (parts_in s) (length s.block) r from → drop from s.block ≡ room_in streams slot r
  lent_is (Ok u) from h = free_in s.block s.stream from h.2 h.3 h.4 ∙ ap free_part (sym (stands h.1))
  lent_is (Err fault.Stopped) from h = drop_all from s.block (omega (arith, h.1))
  lent_is (Err fault.NoStream) from h = drop_all from s.block (omega (arith, h.2))
  lent_is (Err _) from h = absurd h
