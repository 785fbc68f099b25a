-- Laws of the bytes that are in doubt.
use Rattle.std.proofs.Common.{◌≡◌, inl, inr, ⊎_elim, ℕ, ◌+◌, ◌-◌, ◌≤◌, List, slice_index, Option, option_map, refl, sym, ◌∙◌, subst, arith, ◌<◌}
use Rattle.std.specs.List.{Contains}
use Rattle.disk_model.specs.Disk.{Follows}
use Rattle.disk_model.specs.Places.{SameOutside}
use Rattle.disk_model.specs.PartLaws.{part_before, place_before}
use Rattle.disk_model.specs.Moments.{IsSettled}
use Rattle.disk_model.specs.declared.disk.Disk as disk
use Rattle.journal_layout.specs.declared.shape.Shape.{Shape}
use Rattle.journal_layout.specs.declared.shape.Half.{Half}
use Rattle.journal_layout.specs.declared.shape.Half.TheVariants.{A, B}
use Rattle.journal_layout.specs.Layout.{half_start, half_length, data_start}
use Rattle.journal_layout.specs.Folding.{last_start}
use Rattle.journal_layout.specs.Standing.{Standing}
use Rattle.journal_layout.specs.Stands.{Stands, records_start, records_area}
use Rattle.journal_layout.specs.StandLaws.{stands_limits}
use Rattle.journal_layout.specs.Rewriting.{other_half, other_start}
use Rattle.journal_records.specs.Said.{EndsIn}
use Rattle.journal_snapshot.specs.Holding.{Holds}
use Rattle.journal_snapshot.specs.DoubtLaws.{front_differs, settled_differs}
use Rattle.case_journal.specs.Settling.{HasLastGate, gates_of}
use Rattle.case_journal.specs.Keeping.{DataIsApart}
use Rattle.case_journal.specs.Doubting.{IsUnread, DiffersInDoubt, DoubtsGates}

-- a list of bytes that encodes an archive has a last gate, or none
pub some_last : (b : List ℕ) (s : Standing) → Stands b s → (last : Option ℕ) × HasLastGate b s last
some_last b s stands =
    let inside = last_start stands.records.records in (
      option_map (λ (n : ℕ). records_start s.shape s.half + n) inside,
      record {
        inside = inside;
        ends = record { records = stands.records.records; row = stands.records.row; ends = refl; size = stands.records.size };
        place = refl;
      },
    )

-- the gates of both halves are written again
pub half_is_written : (s : Standing) (last : Option ℕ) (half : Half) → Contains (gates_of s last) (half_start s.shape half)
half_is_written s last A = (1, omega arith, refl)
half_is_written s last B = (2, omega arith, refl)

half_low : (shape : Shape) (half : Half) → half_start shape half + half_length shape ≤ data_start shape
half_low shape A = omega arith
half_low shape B = omega arith

module _ {D : Type 0} (g : disk.Ghosts D) where
  -- nothing is in doubt of a disk that holds the journal
  pub held_doubts : (d : D) (s : Standing) → g.may_leave d (g.seen d) → Holds g d s → DoubtsGates g d s.shape
  held_doubts d s may holds =
      let stands = holds.stands (g.seen d) may in
      let last = some_last (g.seen d) s stands in
      record {
        standing = s;
        same_shape = refl;
        stands = stands;
        last = last.0;
        last_gate = last.1;
        differs = λ c left. inr (λ p low. front_differs g s.shape d (IsUnread (g.seen d) s) holds.front c p left low);
      }

  -- nor of one that is settled
  pub settled_doubts : (d : D) (s : Standing) → Stands (g.seen d) s → IsSettled g d → DoubtsGates g d s.shape
  settled_doubts d s stands settled =
      let last = some_last (g.seen d) s stands in
      record {
        standing = s;
        same_shape = refl;
        stands = stands;
        last = last.0;
        last_gate = last.1;
        differs = λ c left. inr (λ p low. settled_differs g s.shape d (IsUnread (g.seen d) s) settled c p left low);
      }

  -- calls that only read keep the bytes in doubt
  pub quiet_doubts : (old new : D) (shape : Shape) → g.seen new ≡ g.seen old → ((c : List ℕ) → g.may_leave new c → g.may_leave old c) → DoubtsGates g old shape → DoubtsGates g new shape
  quiet_doubts old new shape seen crash doubts = record {
    standing = doubts.standing;
    same_shape = doubts.same_shape;
    stands = subst (λ (b : List ℕ). Stands b doubts.standing) (sym seen) doubts.stands;
    last = doubts.last;
    last_gate = subst (λ (b : List ℕ). HasLastGate b doubts.standing doubts.last) (sym seen) doubts.last_gate;
    differs = λ c may. subst (λ (b : List ℕ). DiffersInDoubt b c doubts.standing doubts.last) (sym seen) (doubts.differs c (crash c may));
  }

  -- changes of the data blocks keep them too
  pub apart_doubts : (old new : D) (shape : Shape) (at n : ℕ) → DataIsApart → data_start shape ≤ at → Follows (SameOutside at n) (g.may_leave old) (g.may_leave new) → SameOutside at n (g.seen old) (g.seen new)
      → DoubtsGates g old shape → DoubtsGates g new shape
  apart_doubts old new shape at n apart from crash others doubts =
      let s = doubts.standing in
      let low : data_start s.shape ≤ at = subst (λ (x : Shape). data_start x ≤ at) (sym doubts.same_shape) from in
      let area : records_area (g.seen new) s.shape s.half ≡ records_area (g.seen old) s.shape s.half =
      area_stays s (g.seen old) (g.seen new) (stands_limits (g.seen old) s doubts.stands).some_half low others in
      record {
        standing = s;
        same_shape = doubts.same_shape;
        stands = (apart s at n (g.seen old) (g.seen new) doubts.stands others low).0;
        last = doubts.last;
        last_gate = record {
          inside = doubts.last_gate.inside;
          ends = subst (λ (l : List ℕ). EndsIn s.shape.data_blocks s.version l doubts.last_gate.inside (s.used - 32)) (sym area) doubts.last_gate.ends;
          place = doubts.last_gate.place;
        };
        differs = λ c may.
            let was = crash c may in
            let now : (p : ℕ) → p < data_start s.shape → (b d : List ℕ) → SameOutside at n b d → slice_index d p ≡ slice_index b p =
            λ p below b d same. place_before at n b d same p 0 (omega (arith, below, low)) in
            let kept : (p : ℕ) → p < data_start s.shape → slice_index was.0 p ≡ slice_index (g.seen old) p → slice_index c p ≡ slice_index (g.seen new) p =
            λ p below same. now p below was.0 c was.2 ∙ same ∙ sym (now p below (g.seen old) (g.seen new) others) in
            ⊎_elim
            (λ alone. inl (alone.0, alone.1, λ p below. ⊎_elim (λ at. inl at) (λ same. inr (kept p below same)) (alone.2 p below)))
            (λ unread. inr (λ p below. ⊎_elim (λ at. inl (still_unread s (g.seen old) (g.seen new) p low others at)) (λ same. inr (kept p below same)) (unread p below)))
            (doubts.differs was.0 was.1);
      }
    where
      area_stays : (s : Standing) (b c : List ℕ) → 1 ≤ s.shape.half_blocks → data_start s.shape ≤ at → SameOutside at n b c → records_area c s.shape s.half ≡ records_area b s.shape s.half
      area_stays s b c some low same =
          let ends = half_low s.shape s.half in
          part_before at n b c same (records_start s.shape s.half) (half_length s.shape - 32) (omega (arith, some, ends, low))

      still_unread : (s : Standing) (b c : List ℕ) (p : ℕ) → data_start s.shape ≤ at → SameOutside at n b c → IsUnread b s p → IsUnread c s p
      still_unread s b c p low same (inl behind) = inl behind
      still_unread s b c p low same (inr other) =
          let ends = half_low s.shape (other_half s.half) in
          let behind = other.1 in
          let before = other.2 in
          inr (λ opened. other.0 (sym (place_before at n b c same (other_start s) 0 (omega (arith, low, behind, before, ends))) ∙ opened), other.1, other.2)
