-- What is written into the room of a stream is no part of the state without bytes.
use Rattle.std.proofs.Common.{◌≡◌, ℕ, zero, suc, ◌≤◌, List, [], ◌∷◌, map, Option, Some, None, Result, Ok, Err, refl, sym, ap, subst, ◌∙◌, arith}
use Rattle.std.proofs.lemmas.Bool.{false≢true}
use Rattle.std.specs.Prelude.{slice_set, option_map}
use Rattle.intake.specs.declared.faults.ArchiveFault.{ArchiveFault}
use Rattle.intake.specs.declared.faults.ArchiveFault.TheVariants.{Stopped, NoStream}
use Rattle.intake.specs.Slots.{stream_at}
use Rattle.intake.specs.State.{ArchiveState, StreamFacts}
use Rattle.intake.specs.Parts.{Parts, StreamParts, state_of, stream_facts}
use Rattle.intake.specs.Lending.{with_room}
use Rattle.intake.specs.Room.{room_left, FitsFree}
use Rattle.intake.specs.Step.{RoomReply, longer}
use Rattle.inspector_cli.specs.Reply.{TakeStep}
use Rattle.inspector_cli.proofs.SlotLemmas.{at_set, at_mapped}
use Rattle.inspector_cli.proofs.TakeLemmas.{FitsBlock}

same_stream : (ws : List ℕ) (x : Option StreamParts) → option_map stream_facts (option_map (with_room ws) x) ≡ option_map stream_facts x
same_stream ws None = refl
same_stream ws (Some s) = refl

same_streams : (xs : List (Option StreamParts)) (slot : ℕ) (ws : List ℕ)
    → map (option_map stream_facts) (slice_set xs slot (option_map (with_room ws) (stream_at xs slot))) ≡ map (option_map stream_facts) xs
same_streams [] slot ws = refl
same_streams (x ∷ xs) zero ws = ap (λ (y : Option StreamFacts). y ∷ map (option_map stream_facts) xs) (same_stream ws x)
same_streams (x ∷ xs) (suc slot) ws = ap (λ (ys : List (Option StreamFacts)). option_map stream_facts x ∷ ys) (same_streams xs slot ws)

pub states_agree : {D : Type 0} (a : Parts D) (slot : ℕ) (r : Result (Unit {0}) ArchiveFault) (ws : List ℕ) → state_of (room_left a slot r ws) ≡ state_of a
states_agree a slot (Ok u) ws = ap (λ (xs : List (Option StreamFacts)). record (state_of a) { streams = xs }) (same_streams a.streams slot ws)
states_agree a slot (Err f) ws = refl

fits_fewer : (o : Option StreamParts) (n m : ℕ) → n ≤ m → FitsFree o m → FitsFree o n
fits_fewer None n m few fits = tt
fits_fewer (Some s) n m few fits = omega arith

fits_one : (ws : List ℕ) (x : Option StreamParts) (n : ℕ) → FitsFree x n → FitsFree (option_map (with_room ws) x) n
fits_one ws None n fits = tt
fits_one ws (Some s) n fits = fits

fits_at : (xs : List (Option StreamParts)) (slot : ℕ) (ws : List ℕ) (n : ℕ) → FitsFree (stream_at xs slot) n
    → FitsFree (stream_at (slice_set xs slot (option_map (with_room ws) (stream_at xs slot))) slot) n
fits_at [] slot ws n fits = tt
fits_at (x ∷ xs) zero ws n fits = fits_one ws x n fits
fits_at (x ∷ xs) (suc slot) ws n fits = fits_at xs slot ws n fits

pub still_fits : {D : Type 0} (a : Parts D) (slot : ℕ) (r : Result (Unit {0}) ArchiveFault) (ws : List ℕ) (n m : ℕ) → n ≤ m
    → FitsFree (stream_at a.streams slot) m → FitsFree (stream_at (room_left a slot r ws).streams slot) n
still_fits a slot (Ok u) ws n m few fits = fits_at a.streams slot ws n (fits_fewer (stream_at a.streams slot) n m few fits)
still_fits a slot (Err f) ws n m few fits = fits_fewer (stream_at a.streams slot) n m few fits

fits_view : (o : Option StreamParts) (n : ℕ) → FitsFree o n → FitsBlock (option_map stream_facts o) n
fits_view None n fits = tt
fits_view (Some s) n fits = fits

pub fits_state : {D : Type 0} (a : Parts D) (slot n : ℕ) → FitsFree (stream_at a.streams slot) n → FitsBlock (stream_at (state_of a).streams slot) n
fits_state a slot n fits =
    subst (λ (o : Option StreamFacts). FitsBlock o n) (sym (at_mapped stream_facts a.streams slot)) (fits_view (stream_at a.streams slot) n fits)

-- a stream that takes bytes has room
pub has_room : (b mid : ArchiveState) (slot k : ℕ) (u : Unit {0}) (f : ArchiveFault) → TakeStep b slot k (Ok u) mid → RoomReply mid slot (Err f) → ⊥
has_room b mid slot k u Stopped step reply = false≢true (sym step.1.0 ∙ sym (ap (λ (x : ArchiveState). x.stopped) step.4) ∙ reply)
has_room b mid slot k u NoStream step reply =
    let is : stream_at mid.streams slot ≡ Some (longer step.0 k step.3) =
    ap (λ (x : ArchiveState). stream_at x.streams slot) step.4 ∙ at_set b.streams slot step.0 (Some (longer step.0 k step.3)) step.1.1 in
    let none = reply.1 in
    cc
has_room b mid slot k u _ step reply = reply
