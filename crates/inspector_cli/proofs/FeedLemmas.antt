-- The bytes of a part are those that the stream takes, in order.
use Rattle.std.proofs.Common.{◌≡◌, ℕ, zero, suc, ◌+◌, ◌%◌, ◌<◌, ◌≤◌, List, [], ◌∷◌, ◌++◌, length, map, min, take, drop, Option, Some, None, Result, Ok, Err, refl, sym, ap, subst, ◌∙◌, arith, append_assoc, length-append, length-take-le}
use Rattle.std.proofs.lemmas.Bool.{false≢true}
use Rattle.std.proofs.lemmas.List.{append-nil, length-drop}
use Rattle.std.proofs.Math.Seq.{take-append_seam, drop-append_seam, take-length, drop-length}
use Rattle.std.specs.Prelude.{slice_set, option_map, IsTrue}
use Rattle.diagnostics.specs.CountLaws.{risen_since}
use Rattle.disk_model.specs.declared.disk.Disk as disk
use Rattle.intake.specs.declared.faults.ArchiveFault.{ArchiveFault}
use Rattle.intake.specs.declared.faults.ArchiveFault.TheVariants.{Stopped, NoStream, Disk}
use Rattle.intake.specs.Blocks.{joined}
use Rattle.intake.specs.Calls.{ChangesNoCase, AdvanceCall}
use Rattle.intake.specs.Contents.{Contents, Taken, AdvanceBytes, with_taken, without_streams, advanced, next_free}
use Rattle.intake.specs.Lending.{refilled, with_room}
use Rattle.intake.specs.Parts.{Parts, StreamParts, state_of, contents_of, taken_in}
use Rattle.intake.specs.Room.{room_left, free_part, FitsFree}
use Rattle.intake.specs.Slots.{stream_at}
use Rattle.intake.specs.State.{ArchiveState, StreamFacts}
use Rattle.inspector_cli.specs.Reply.{TakeStep, TakeBytes, Takes}
use Rattle.inspector_cli.proofs.GiveLemmas.{took_as}
use Rattle.inspector_cli.proofs.RoomLemmas.{states_agree, still_fits, fits_state}
use Rattle.inspector_cli.proofs.SlotLemmas.{set_again, at_set, at_mapped, closed_set}
use Rattle.intake.specs.StayLaws.{stays_then}
use Rattle.inspector_cli.proofs.TakeLemmas.{took_piece, took_none, refused_yet}

-- what is lent goes back to the end of the block
module _ (old ws : List ℕ) (used : ℕ) (whole : used + length ws ≡ length old) where
  front : length (take used old) ≡ used
  front = length-take-le used old (omega (arith, whole))

  nothing_left : drop (length ws) (drop used old) ≡ []
  nothing_left = ap (λ (n : ℕ). drop n (drop used old)) (let e = length-drop used old in omega (arith, e, whole)) ∙ drop-length (drop used old)

  refilled_is : refilled old used ws ≡ take used old ++ ws
  refilled_is =
      ap (λ (xs : List ℕ). take (length old) (take used old ++ (ws ++ xs))) nothing_left
      ∙ ap (λ (xs : List ℕ). take (length old) (take used old ++ xs)) (append-nil ws)
      ∙ ap (λ (n : ℕ). take n (take used old ++ ws)) (let e = length-append (take used old) ws in let f = front in omega (arith, e, f, whole))
      ∙ take-length (take used old ++ ws)

  pub refilled_front : take used (refilled old used ws) ≡ take used old
  refilled_front = ap (take used) refilled_is ∙ ap (λ (n : ℕ). take n (take used old ++ ws)) (sym front) ∙ take-append_seam (take used old) ws

  pub refilled_rest : drop used (refilled old used ws) ≡ ws
  refilled_rest = ap (drop used) refilled_is ∙ ap (λ (n : ℕ). drop n (take used old ++ ws)) (sym front) ∙ drop-append_seam (take used old) ws

-- a stream after its room was lent has taken what it had, and these stand behind it
lent_taken : {D : Type 0} (a : Parts D) (b : List ℕ) (x : StreamParts) (ws : List ℕ) → x.facts.len % 4096 + length ws ≡ length x.block
    → taken_in a.journal b (with_room ws x) ≡ record { bytes = (taken_in a.journal b x).bytes; free = ws }
lent_taken a b x ws whole =
    ap (λ (t : List ℕ). record { bytes = joined a.journal.standing.shape b x.facts.blocks ++ t; free = drop (x.facts.len % 4096) (refilled x.block (x.facts.len % 4096) ws) })
    (refilled_front x.block ws (x.facts.len % 4096) whole)
    ∙ ap (λ (f : List ℕ). record { bytes = (taken_in a.journal b x).bytes; free = f }) (refilled_rest x.block ws (x.facts.len % 4096) whole)

map_set : {X Y : Type 0} (f : X → Y) (xs : List X) (slot : ℕ) (x : X) → map f (slice_set xs slot x) ≡ slice_set (map f xs) slot (f x)
map_set f [] slot x = refl
map_set f (y ∷ xs) zero x = refl
map_set f (y ∷ xs) (suc slot) x = ap (λ ys. f y ∷ ys) (map_set f xs slot x)

some_of : {X Y : Type 0} (f : X → Y) (o : Option X) (y : Y) → option_map f o ≡ Some y → (x : X) × (o ≡ Some x) × (f x ≡ y)
some_of f None y is = absurd (no is)
  where
    no : None ≡ Some y → ⊥
    no e = cc
some_of f (Some x) y is = (x, refl, inside is)
  where
    inside : Some (f x) ≡ Some y → f x ≡ y
    inside e = cc

-- n bytes are the whole room of a stream that stands there
fills_room : (x : StreamParts) (n : ℕ) → n ≡ length (drop (x.facts.len % 4096) x.block) → 0 < n → x.facts.len % 4096 + n ≡ length x.block
fills_room x n is some = let e = length-drop (x.facts.len % 4096) x.block in omega (arith, is, e, some)

module _ {D : Type 0} (g : disk.Ghosts D) (begun a : Parts D) (slot : ℕ) (so_far ws : List ℕ) (u : Unit {0}) (taken : Takes g begun slot so_far (Ok tt) a)
    (long : length ws ≡ length (free_part (stream_at a.streams slot))) (some : 0 < length ws) where
  -- the archive when the loan has ended
  abbrev pub lent : Parts D
  lent = room_left a slot (Ok u) ws

  pub lent_stays : ChangesNoCase g begun lent
  lent_stays = record { honesty = taken.stays.honesty; later = taken.stays.later; size = taken.stays.size; crash = taken.stays.crash; durable = taken.stays.durable }

  pub lent_bytes : IsTrue (g.is_honest begun.disk) → (t : Taken) × (stream_at (contents_of g.seen begun).taken slot ≡ Some t)
      × (contents_of g.seen lent ≡ with_taken (contents_of g.seen begun) slot (Some (record { bytes = t.bytes ++ so_far; free = ws })))
  lent_bytes honest =
      let b = taken.bytes honest in
      let set = at_set (contents_of g.seen begun).taken slot b.0 (Some (record { bytes = b.0.bytes ++ so_far; free = b.1 })) b.2 in
      let at : stream_at (contents_of g.seen a).taken slot ≡ Some (record { bytes = b.0.bytes ++ so_far; free = b.1 }) =
      ap (λ (c : Contents). stream_at c.taken slot) b.3 ∙ set in
      let x = some_of (taken_in a.journal (g.seen a.disk)) (stream_at a.streams slot) _ (sym (at_mapped (taken_in a.journal (g.seen a.disk)) a.streams slot) ∙ at) in
      let whole : x.0.facts.len % 4096 + length ws ≡ length x.0.block = fills_room x.0 (length ws) (long ∙ ap (λ (o : Option StreamParts). length (free_part o)) x.1) some in
      let one : taken_in a.journal (g.seen a.disk) (with_room ws x.0) ≡ record { bytes = b.0.bytes ++ so_far; free = ws } =
      lent_taken a (g.seen a.disk) x.0 ws whole ∙ ap (λ (t : Taken). record { bytes = t.bytes; free = ws }) x.2 in
      let slots : (contents_of g.seen lent).taken ≡ slice_set (contents_of g.seen begun).taken slot (Some (record { bytes = b.0.bytes ++ so_far; free = ws })) =
      map_set (option_map (taken_in a.journal (g.seen a.disk))) a.streams slot (option_map (with_room ws) (stream_at a.streams slot))
      ∙ ap (λ (o : Option StreamParts). slice_set (contents_of g.seen a).taken slot (option_map (taken_in a.journal (g.seen a.disk)) (option_map (with_room ws) o))) x.1
      ∙ ap (λ (t : Taken). slice_set (contents_of g.seen a).taken slot (Some t)) one
      ∙ ap (λ (c : Contents). slice_set c.taken slot (Some (record { bytes = b.0.bytes ++ so_far; free = ws }))) b.3
      ∙ set_again (contents_of g.seen begun).taken slot (Some (record { bytes = b.0.bytes ++ so_far; free = b.1 })) (Some (record { bytes = b.0.bytes ++ so_far; free = ws })) in (
        b.0,
        b.2,
        ap (λ (l : List (Option Taken)). record (contents_of g.seen a) { taken = l }) slots
            ∙ ap (λ (c : Contents). record c { taken = slice_set (contents_of g.seen begun).taken slot (Some (record { bytes = b.0.bytes ++ so_far; free = ws })) }) b.3,
      )

  -- nothing more was taken
  pub lent_takes : Takes g begun slot so_far (Ok tt) lent
  lent_takes = record {
    step = subst (λ (x : ArchiveState). TakeStep (state_of begun) slot (length so_far) (Ok tt) x) (sym (states_agree a slot (Ok u) ws)) taken.step;
    bytes = λ honest. (let b = lent_bytes honest in (b.0, ws, b.1, b.2));
    cause = λ fault. absurd fault;
    stays = lent_stays;
  }

  module _ (new : Parts D) (n m : ℕ) (raw : List ℕ) (r : Result (Unit {0}) ArchiveFault) (is : raw ≡ take n ws) (size : length raw ≡ n) (few : n ≤ m)
      (fits : FitsFree (stream_at a.streams slot) m) (call : AdvanceCall g lent slot n r new) where
    stepped : TakeStep (state_of begun) slot (length (so_far ++ raw)) r (state_of new)
    stepped =
        took_as (state_of begun) (state_of new) slot (length so_far + n) (length (so_far ++ raw)) r (omega (arith, size, length-append so_far raw))
        (took_piece (state_of begun) (state_of lent) (state_of new) slot (length so_far) n u r lent_takes.step
        (fits_state lent slot n (still_fits a slot (Ok u) ws n m few fits)) call.step)

    fed_bytes : (v : Result (Unit {0}) ArchiveFault) → r ≡ v → IsTrue (g.is_honest begun.disk) → TakeStep (state_of begun) slot (length (so_far ++ raw)) v (state_of new)
        → AdvanceBytes (contents_of g.seen lent) slot n v (contents_of g.seen new) → TakeBytes (contents_of g.seen begun) slot (so_far ++ raw) v (contents_of g.seen new)
    fed_bytes (Ok v) same honest took b = (
      l.0,
      next_free (drop n ws),
      l.1,
      b.2 ∙ ap (λ (t : Taken). with_taken (contents_of g.seen lent) slot (Some (advanced n t))) which
          ∙ ap (λ (c : Contents). with_taken c slot (Some (advanced n (record { bytes = l.0.bytes ++ so_far; free = ws })))) l.2
          ∙ ap (λ (x : List (Option Taken)). record (contents_of g.seen begun) { taken = x })
          (set_again (contents_of g.seen begun).taken slot (Some (record { bytes = l.0.bytes ++ so_far; free = ws })) (Some (advanced n (record { bytes = l.0.bytes ++ so_far; free = ws }))))
          ∙ ap (λ (x : List ℕ). with_taken (contents_of g.seen begun) slot (Some (record { bytes = x; free = next_free (drop n ws) })))
          (append_assoc l.0.bytes so_far (take n ws) ∙ ap (λ (x : List ℕ). l.0.bytes ++ (so_far ++ x)) (sym is)),
    )
      where
        l : (t : Taken) × (stream_at (contents_of g.seen begun).taken slot ≡ Some t)
            × (contents_of g.seen lent ≡ with_taken (contents_of g.seen begun) slot (Some (record { bytes = t.bytes ++ so_far; free = ws })))
        l = lent_bytes honest

        here : stream_at (contents_of g.seen lent).taken slot ≡ Some (record { bytes = l.0.bytes ++ so_far; free = ws })
        here =
            ap (λ (c : Contents). stream_at c.taken slot) l.2
            ∙ at_set (contents_of g.seen begun).taken slot l.0 (Some (record { bytes = l.0.bytes ++ so_far; free = ws })) l.1

        inside : (x y : Taken) → Some x ≡ Some y → x ≡ y
        inside x y e = cc

        which : b.0 ≡ record { bytes = l.0.bytes ++ so_far; free = ws }
        which = inside b.0 (record { bytes = l.0.bytes ++ so_far; free = ws }) (sym b.1 ∙ here)
    fed_bytes (Err Stopped) same honest took b = absurd (false≢true (sym taken.step.1.0 ∙ took.0))
    fed_bytes (Err NoStream) same honest took b = absurd (no_stream taken.step.0 taken.step.1.1 took.1)
      where
        no_stream : (s : StreamFacts) → stream_at (state_of begun).streams slot ≡ Some s → stream_at (state_of begun).streams slot ≡ None → ⊥
        no_stream s there none = cc
    fed_bytes (Err Disk) same honest took b =
        let l = lent_bytes honest in
        b ∙ ap without_streams l.2
        ∙ ap (λ (x : List (Option Taken)). record (contents_of g.seen begun) { taken = x })
        (closed_set (contents_of g.seen begun).taken slot (Some (record { bytes = l.0.bytes ++ so_far; free = ws })))
    fed_bytes (Err _) same honest took b =
        let l = lent_bytes honest in
        b ∙ ap (λ (c : Contents). with_taken c slot None) l.2
        ∙ ap (λ (x : List (Option Taken)). record (contents_of g.seen begun) { taken = x })
        (set_again (contents_of g.seen begun).taken slot (Some (record { bytes = l.0.bytes ++ so_far; free = ws })) None)

    -- the next piece of a part
    pub fed : Takes g begun slot (so_far ++ raw) r new
    fed = record {
      step = stepped;
      bytes = λ honest. fed_bytes r refl honest stepped (call.bytes (lent_stays.honesty ∙ honest));
      cause = λ fault. risen_since (g.failures begun.disk) (g.failures a.disk) (g.failures new.disk) taken.stays.later (call.cause fault);
      stays = stays_then g begun lent new lent_stays call.stays;
    }

-- the bytes that were written into the first part of a room, and what stands behind them, are as long as the room
pub lent_length : (into room : List ℕ) (size most : ℕ) → length into ≡ length (take size room) → size ≡ min (length room) most
    → length (into ++ drop size room) ≡ length room
lent_length into room size most same is =
    let a = length-append into (drop size room) in
    let b = length-drop size room in
    let c = length-take-le size room (omega (arith, is)) in
    omega (arith, a, b, c, same, is)

-- some of them, where the room has any
pub lent_some : (into room : List ℕ) (size most : ℕ) → length into ≡ length (take size room) → size ≡ min (length room) most → 0 < length room → 0 < most → 0 < length into
lent_some into room size most same is some any =
    let c = length-take-le size room (omega (arith, is)) in
    omega (arith, c, same, is, some, any)

-- and no more than the room has
pub lent_few : (into room : List ℕ) (size most n : ℕ) → length into ≡ length (take size room) → size ≡ min (length room) most → n ≤ length into → n ≤ length room
lent_few into room size most n same is few =
    let c = length-take-le size room (omega (arith, is)) in
    omega (arith, c, same, is, few)

-- no byte yet
pub fed_none : {D : Type 0} (g : disk.Ghosts D) (a new : Parts D) (slot : ℕ) (r : Result (Unit {0}) ArchiveFault) → AdvanceCall g a slot 0 r new → Takes g a slot [] r new
fed_none g a new slot r call = record {
  step = took_none (state_of a) (state_of new) slot r call.step;
  bytes = λ honest. same r (call.bytes honest);
  cause = call.cause;
  stays = call.stays;
}
  where
    same : (v : Result (Unit {0}) ArchiveFault) → AdvanceBytes (contents_of g.seen a) slot 0 v (contents_of g.seen new) → TakeBytes (contents_of g.seen a) slot [] v (contents_of g.seen new)
    same (Ok u) b = (b.0, next_free b.0.free, b.1, b.2)
    same (Err f) b = b

-- a part that is refused stays so, however many bytes follow
pub fed_past : {D : Type 0} (g : disk.Ghosts D) (begun a : Parts D) (slot : ℕ) (so_far raw : List ℕ) (f : ArchiveFault) → Takes g begun slot so_far (Err f) a → Takes g begun slot (so_far ++ raw) (Err f) a
fed_past g begun a slot so_far raw f taken = record {
  step =
      took_as (state_of begun) (state_of a) slot (length so_far + length raw) (length (so_far ++ raw)) (Err f) (sym (length-append so_far raw))
      (refused_yet (state_of begun) (state_of a) slot (length so_far) (length raw) f taken.step);
  bytes = taken.bytes;
  cause = taken.cause;
  stays = taken.stays;
}
