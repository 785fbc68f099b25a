-- What room in the journal the record of a stream needs.
use Rattle.std.proofs.Common.{◌≡◌, ℕ, ◌+◌, ◌≤◌, ◌^◌, Bool, true, false, not, List, length, Option, Some, None, refl, sym, ap, subst, ◌∙◌, arith}
use Rattle.std.specs.Prelude.{◌||◌, nat_lt, option_map}
use Rattle.disk_model.specs.declared.disk.Disk as disk
use Rattle.journal_layout.specs.Layout.{half_length}
use Rattle.journal_layout.specs.Standing.{Standing, folded_of}
use Rattle.case_journal.specs.Journaled.{Journaled}
use Rattle.case_journal.specs.Rooming.{has_room}
use Rattle.intake.specs.Needs.{has_record_room, longest_of, lacks_room_for, lacks_record_room}
use Rattle.intake.specs.Parts.{Parts, StreamParts, state_of, stream_facts}
use Rattle.intake.specs.Slots.{stream_at}
use Rattle.intake.specs.Sound.{IsArchiveSound, IsFineIfOpen}
use Rattle.intake.specs.State.{ArchiveState}
use Rattle.intake.proofs.MakingLemmas.{none_closed}
use Rattle.intake.proofs.RecordedLemmas.{snapshot_is}
use Rattle.intake.proofs.SoundLemmas.{fine_at, state_at}

none_some : {X : Type 0} (x : X) → ◌≡◌ {A = Option X} None (Some x) → ⊥
none_some x is = cc

few_runs : (most : ℕ) (o : Option StreamParts) (s : StreamParts) → o ≡ Some s → IsFineIfOpen most o → length s.facts.blocks ≤ 2 ^ 52
few_runs most o s is fine = let f = subst (IsFineIfOpen most) is fine in omega (arith, f.filled, f.small)

-- the stream in a slot has few blocks; there is none if the archive is stopped
pub blocks_few : {D : Type 0} (g : disk.Ghosts D) (d : D) (j : Journaled) (most : ℕ) (flags : List Bool) (streams : List (Option StreamParts)) (slot : ℕ) (b : Bool) → IsArchiveSound g d j most flags streams b
    → (s : StreamParts) → stream_at streams slot ≡ Some s → length s.facts.blocks ≤ 2 ^ 52
blocks_few g d j most flags streams slot true sound s is = absurd (none_some s (sym (ap (λ (xs : List (Option StreamParts)). stream_at xs slot) (sound.none refl) ∙ none_closed streams slot) ∙ is))
blocks_few g d j most flags streams slot false sound s is = few_runs most (stream_at streams slot) s is (fine_at most streams slot (sound.runs refl).streams_fine)

-- what is answered for a record of this size, if there is one
abbrev pub answer_for : Standing → Option ℕ → Bool
answer_for st None = false
answer_for st (Some n) = not (has_room st n)

some_is : (m n : ℕ) → ◌≡◌ {A = Option ℕ} (Some m) (Some n) → m ≡ n
some_is m n is = cc

lacks_by : (s : ArchiveState) (st : Standing) (t : Option StreamParts) (o : Option ℕ) → ((n : ℕ) → has_room st n ≡ has_record_room s n) → o ≡ option_map longest_of t → answer_for st o ≡ lacks_room_for s (option_map stream_facts t)
lacks_by s st None None same is = refl
lacks_by s st None (Some n) same is = absurd (none_some n (sym is))
lacks_by s st (Some x) None same is = absurd (none_some (longest_of x) is)
lacks_by s st (Some x) (Some n) same is = ap not (same n ∙ ap (has_record_room s) (some_is n (longest_of x) is))

room_is : {D : Type 0} (a : Parts D) (n : ℕ) → has_room a.journal.standing n ≡ has_record_room (state_of a) n
room_is a n =
    let st = a.journal.standing in
    ap (λ (k : ℕ). nat_lt (st.used + n) (half_length st.shape) || nat_lt (k + n) (half_length st.shape)) (snapshot_is (folded_of st))

pub lacks_is : {D : Type 0} (a : Parts D) (slot : ℕ) (o : Option ℕ) → o ≡ option_map longest_of (stream_at a.streams slot) → answer_for a.journal.standing o ≡ lacks_record_room (state_of a) slot
lacks_is a slot o is = lacks_by (state_of a) a.journal.standing (stream_at a.streams slot) o (room_is a) is ∙ ap (lacks_room_for (state_of a)) (sym (state_at a.streams slot))
