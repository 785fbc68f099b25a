-- What is in doubt once a record was published or a half was written, whenever that ended.
use Rattle.std.proofs.Common.{◌≡◌, ◌⊎◌, inl, inr, ⊎_elim, ℕ, ◌+◌, ◌-◌, ◌<◌, ◌≤◌, List, [], ◌∷◌, ◌++◌, length, take, drop, slice_index, None, Some, IsTrue, refl, sym, ap, ◌∙◌, subst, arith}
use Rattle.std.proofs.lemmas.Bool.{cases_eq, eqb-true}
use Rattle.std.proofs.lemmas.List.{length-drop}
use Rattle.std.specs.List.{Contains}
use Rattle.disk_model.specs.Places.{part, overwritten, SameOutside}
use Rattle.disk_model.specs.PartLaws.{part_length, part_part, part_place, part_before}
use Rattle.disk_model.specs.Moments.{IsSettled}
use Rattle.disk_model.specs.declared.disk.Disk as disk
use Rattle.journal_layout.specs.declared.shape.Shape.{Shape}
use Rattle.journal_layout.specs.Layout.{half_start, half_length, data_start}
use Rattle.journal_layout.specs.Record.{Record, record_size, spelling}
use Rattle.journal_layout.specs.Folding.{Folded, nothing_yet, replayed, sizes}
use Rattle.journal_layout.specs.Standing.{Standing, folded_of, lengthened}
use Rattle.journal_layout.specs.Stands.{Stands, StandsFirst, front_of, records_start, records_area}
use Rattle.journal_layout.specs.StandLaws.{opened_part}
use Rattle.journal_layout.specs.RowLaws.{row_push, row_same, sizes_push, last_push}
use Rattle.journal_layout.specs.Rewriting.{other_half, other_start, rewritten}
use Rattle.journal_layout.specs.TakenLaws.{front_taken}
use Rattle.journal_snapshot.specs.Filling.{Fills}
use Rattle.journal_snapshot.specs.Holding.{Holds}
use Rattle.journal_snapshot.specs.Doubt.{DiffersAt, DoubtsGate}
use Rattle.journal_snapshot.specs.DoubtLaws.{front_differs, settled_differs, differs_wider, gate_differs, behind_differs}
use Rattle.case_journal.specs.Append.{MayFollow}
use Rattle.case_journal.specs.Publishing.{Publishes}
use Rattle.case_journal.specs.Settling.{HasLastGate, gates_of}
use Rattle.case_journal.specs.Doubting.{IsUnread, DoubtsGates}
use Rattle.case_journal.specs.DoubtLaws.{some_last, half_is_written}
use Rattle.case_journal.proofs.StandLemmas.{gate_of, limits_in, half_ends, front_part}
use Rattle.case_journal.proofs.PublishLemmas.{before_gate, after_gate, unopened, opened_gate, once_same, once}

-- the last record begins at its gate, if these bytes have it after those of the journal
module _ (s : Standing) (r : Record) (b c : List ℕ) (stands : Stands b s) (long : length c ≡ length b) (in_half : s.used + record_size r + 1 ≤ half_length s.shape)
    (same : part c (records_start s.shape s.half) (s.used - 32) ≡ part b (records_start s.shape s.half) (s.used - 32))
    (sound : MayFollow s r) (spelled : part c (gate_of s) (record_size r) ≡ spelling r) where
  abbrev area : List ℕ
  area = records_area c s.shape s.half

  area_long : (l : List ℕ) → length l ≡ length b → length (records_area l s.shape s.half) ≡ half_length s.shape - 32
  area_long l e =
      let limits = limits_in b s stands in
      let some = limits.0.some_half in
      let size = limits.1 in
      let ends = half_ends s.shape s.half in
      part_length l (records_start s.shape s.half) (half_length s.shape - 32) (omega (arith, ends, size, e, some))

  first : StandsFirst s.shape.data_blocks (drop (s.used - 32) area) (folded_of s) r
  first =
      let header = stands.header in
      let here : part area (s.used - 32) (record_size r) ≡ spelling r =
      part_part c (records_start s.shape s.half) (half_length s.shape - 32) (s.used - 32) (record_size r) (omega (arith, header, in_half))
      ∙ ap (λ (p : ℕ). part c p (record_size r)) (omega (arith, header)) ∙ spelled in
      record {
        spelled = opened_part area (s.used - 32) (record_size r) (spelling r) here;
        in_half = omega (arith, length-drop (s.used - 32) area, area_long c long, header, in_half);
        sound = sound;
      }

  last_there : HasLastGate c (lengthened s r) (Some (gate_of s))
  last_there =
      let rs = stands.records.records in
      let size = stands.records.size in
      let header = stands.header in
      let limit = s.shape.data_blocks in
      let f = nothing_yet s.version in
      let at : ℕ → Folded → Type 0 = λ n said. StandsFirst limit (drop n area) said r in
      let next : at (sizes rs) (replayed rs f) = subst (at (sizes rs)) (sym stands.records.folded) (subst (λ (n : ℕ). at n (folded_of s)) (sym size) first) in
      let taken : take (s.used - 32) area ≡ take (s.used - 32) (records_area b s.shape s.half) =
      front_part c (records_start s.shape s.half) (half_length s.shape - 32) (s.used - 32) (omega (arith, in_half)) ∙ same
      ∙ sym (front_part b (records_start s.shape s.half) (half_length s.shape - 32) (s.used - 32) (omega (arith, in_half))) in
      record {
        inside = Some (s.used - 32);
        ends = record {
          records = rs ++ r ∷ [];
          row = row_push limit area f rs r
              (row_same limit (s.used - 32) (records_area b s.shape s.half) area f rs (area_long c long ∙ sym (area_long b refl)) (omega (arith, size)) taken stands.records.row) next;
          ends = last_push rs r 0 None ∙ ap Some (omega (arith, size));
          size = omega (arith, sizes_push rs r, size, header);
        };
        place = ap Some (omega (arith, header));
      }

-- A record is published.
module _ (s : Standing) (r : Record) (gate : ℕ) (behind : List ℕ) (p : Publishes s r gate behind) {D : Type 0} (g : disk.Ghosts D) where
  -- its bytes are written after the closed gate
  pub behind_doubts : (old new : D) → IsTrue (g.is_honest old) → g.may_leave old (g.seen old) → Holds g old s → Fills g old new (gate + 1) (length behind) → DoubtsGates g new s.shape
  behind_doubts old new honest may holds fills =
      let stands = before_gate s r gate behind p (g.seen old) (holds.stands (g.seen old) may) (g.seen new) (fills.others honest) in
      let last = some_last (g.seen new) s stands in
      let end = half_start s.shape s.half + half_length s.shape in
      let place = p.place in
      let in_half = p.in_half in
      let long = p.long in
      record {
        standing = s;
        same_shape = refl;
        stands = stands;
        last = last.0;
        last_gate = last.1;
        differs = λ c left. inr (λ k below. differs_wider g s.shape new (λ q. (gate < q) × (q < end)) (IsUnread (g.seen new) s)
            (λ q range. let low = range.0 in let high = range.1 in inl (omega (arith, low, place), high))
            (behind_differs g s.shape old new honest (front_differs g s.shape old (λ q. ⊥) holds.front) gate (length behind) end (omega (arith, place, in_half, long)) fills) c k left below);
      }

  -- and then the gate
  pub gate_doubts : (b : List ℕ) (mid new : D) → IsTrue (g.is_honest mid) → Stands b s → IsSettled g mid → g.seen mid ≡ overwritten b (gate + 1) behind → Fills g mid new gate 1 → DoubtsGates g new s.shape
  gate_doubts b mid new honest stands settled is fills =
      ⊎_elim opened closed (cases_eq (slice_index (g.seen new) gate) 165)
    where
      same : SameOutside gate 1 (once s r gate behind p b stands) (g.seen new)
      same = subst (λ (x : List ℕ). SameOutside gate 1 x (g.seen new)) is (fills.others honest)

      differs : DiffersAt g new s.shape (λ k. k ≡ gate)
      differs = gate_differs g s.shape mid new honest (settled_differs g s.shape mid (λ k. ⊥) settled) gate fills

      closed : (slice_index (g.seen new) gate ≡ 165 → ⊥) → DoubtsGates g new s.shape
      closed shut =
          let there = unopened s r gate behind p b stands (g.seen new) same shut in
          let last = some_last (g.seen new) s there in
          record {
            standing = s;
            same_shape = refl;
            stands = there;
            last = last.0;
            last_gate = last.1;
            differs = λ c left. inl (gate, (4, omega arith, sym p.place), λ k below. differs c k left below);
          }

      opened : slice_index (g.seen new) gate ≡ 165 → DoubtsGates g new s.shape
      opened gate_open =
          let there = after_gate s r gate behind p b stands (g.seen new) same gate_open in
          let place = p.place in
          let in_half = p.in_half in
          let long = p.long in
          let first : SameOutside gate (1 + length behind) b (once s r gate behind p b stands) = once_same s r gate behind p b stands in
          let header = stands.header in
          let kept : part (g.seen new) (records_start s.shape s.half) (s.used - 32) ≡ part b (records_start s.shape s.half) (s.used - 32) =
          part_before gate 1 (once s r gate behind p b stands) (g.seen new) same (records_start s.shape s.half) (s.used - 32) (omega (arith, place, header))
          ∙ part_before gate (1 + length behind) b (once s r gate behind p b stands) first (records_start s.shape s.half) (s.used - 32) (omega (arith, place, header)) in
          record {
            standing = lengthened s r;
            same_shape = refl;
            stands = there;
            last = Some (gate_of s);
            last_gate = last_there s r b (g.seen new) stands (same.same_length ∙ first.same_length) in_half kept p.sound
                (ap (λ (k : ℕ). part (g.seen new) k (record_size r)) (sym place) ∙ opened_gate s r gate behind p b stands (g.seen new) same gate_open);
            differs = λ c left. inl (gate, (3, omega arith, sym place), λ k below. differs c k left below);
          }

-- the gate of a taken half is open
taken_opened : (b : List ℕ) (s : Standing) → Stands b s → slice_index b (half_start s.shape s.half) ≡ 165
taken_opened b s stands =
    let start = half_start s.shape s.half in
    let read : slice_index (part b start 32) 0 ≡ slice_index b start = part_place b start 32 0 0 (omega arith) ∙ ap (slice_index b) (omega arith) in
    sym read ∙ eqb-true (slice_index (part b start 32) 0) 165 (front_taken b (front_of s) stands.front).opened

-- The other half is written.
module _ {D : Type 0} (g : disk.Ghosts D) (new : D) (s : Standing) (f : Folded) (start : ℕ) (place : start ≡ other_start s) where
  of_other : (t : Standing) → t.shape ≡ s.shape → Stands (g.seen new) t → DiffersAt g new s.shape (λ k. k ≡ start) → DoubtsGates g new s.shape
  of_other t shape stands differs =
      let last = some_last (g.seen new) t stands in
      record {
        standing = t;
        same_shape = shape;
        stands = stands;
        last = last.0;
        last_gate = last.1;
        differs = λ c left. inl (
          start,
          subst (Contains (gates_of t last.0)) (ap (λ (x : Shape). half_start x (other_half s.half)) shape ∙ sym place) (half_is_written t last.0 (other_half s.half)),
          λ k below. differs c k left (subst (λ (x : Shape). k < data_start x) shape below),
        );
      }

  pub half_doubts : Stands (g.seen new) s ⊎ Stands (g.seen new) (rewritten s f) → DoubtsGate g new s.shape start (start + half_length s.shape) → DoubtsGates g new s.shape
  half_doubts (inl stands) (inl differs) = of_other s refl stands differs
  half_doubts (inr stands) (inl differs) = of_other (rewritten s f) refl stands differs
  half_doubts (inl stands) (inr behind) =
      let last = some_last (g.seen new) s stands in
      record {
        standing = s;
        same_shape = refl;
        stands = stands;
        last = last.0;
        last_gate = last.1;
        differs = λ c left. inr (λ k below. differs_wider g s.shape new (λ q. (start < q) × (q < start + half_length s.shape)) (IsUnread (g.seen new) s)
            (λ q range. let low = range.0 in let high = range.1 in inr (
              λ opened. behind.0 (ap (slice_index (g.seen new)) place ∙ opened),
              omega (arith, low, place),
              omega (arith, high, place),
            )) behind.1 c k left below);
      }
  half_doubts (inr stands) (inr behind) = absurd (behind.0 (ap (slice_index (g.seen new)) place ∙ taken_opened (g.seen new) (rewritten s f) stands))
