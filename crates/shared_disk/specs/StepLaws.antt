-- Laws of a part of one write: the bytes after it.
use Rattle.std.proofs.Common.{◌≡◌, ◌≢◌, ◌⊎◌, inl, inr, ⊎_elim, ℕ, ◌+◌, ◌<◌, ◌≤◌, List, length, slice_index, sym, ap, ◌∙◌, arith}
use Rattle.std.proofs.lemmas.Bool.{cases_lt}
use Rattle.disk_model.specs.Places.{SameOutside}
use Rattle.disk_model.specs.PartLaws.{place_spared}
use Rattle.journal_layout.specs.declared.shape.Shape.{Shape}
use Rattle.journal_layout.specs.declared.shape.Half.{Half}
use Rattle.journal_layout.specs.declared.shape.Half.TheVariants.{A, B}
use Rattle.journal_layout.specs.Layout.{half_start, half_length, data_start}
use Rattle.journal_layout.specs.Standing.{Standing}
use Rattle.journal_layout.specs.Stands.{Stands}
use Rattle.journal_layout.specs.StandLaws.{stands_limits, stands_in_half}
use Rattle.journal_layout.specs.OtherHalfLaws.{halves_apart, half_behind}
use Rattle.journal_layout.specs.Rewriting.{other_half, other_start}
use Rattle.case_journal.specs.Settling.{gate_behind}
use Rattle.case_journal.specs.Doubting.{IsUnread}
use Rattle.shared_disk.specs.Course.{IsStill, HasMoved}
use Rattle.shared_disk.specs.History.{WritesUnread, MayLead}

pub half_ends : (shape : Shape) (half : Half) → half_start shape half + half_length shape ≤ data_start shape
half_ends shape A = omega arith
half_ends shape B = omega arith

module _ (b c : List ℕ) (s t : Standing) (stands : Stands b s) (step : MayLead b s c t) where
  pub step_shape : t.shape ≡ s.shape
  step_shape =
      ⊎_elim (λ unread. ap (λ (x : Standing). x.shape) unread.same)
      (λ more. ⊎_elim (λ record_opened. ap (λ (x : Standing). x.shape) record_opened.after)
      (λ further. ⊎_elim (λ other_shut. ap (λ (x : Standing). x.shape) other_shut.same) (λ other_opened. ap (λ (x : Standing). x.shape) other_opened.after) further) more) step

  pub step_long : length c ≡ length b
  step_long =
      ⊎_elim (λ unread. unread.long)
      (λ more. ⊎_elim (λ record_opened. record_opened.others.same_length)
      (λ further. ⊎_elim (λ other_shut. other_shut.others.same_length) (λ other_opened. other_opened.others.same_length) further) more) step

  -- the same half is taken, or the other one with the next generation
  pub step_moves : IsStill s.half s.generation t.half t.generation ⊎ HasMoved s.half s.generation t.half t.generation
  step_moves =
      ⊎_elim (λ unread. inl (ap (λ (x : Standing). x.half) unread.same, ap (λ (x : Standing). x.generation) unread.same))
      (λ more. ⊎_elim (λ record_opened. inl (ap (λ (x : Standing). x.half) record_opened.after, ap (λ (x : Standing). x.generation) record_opened.after))
      (λ further. ⊎_elim
      (λ other_shut. inl (ap (λ (x : Standing). x.half) other_shut.same, ap (λ (x : Standing). x.generation) other_shut.same))
      (λ other_opened. inr (ap (λ (x : Standing). x.half) other_opened.after, ap (λ (x : Standing). x.generation) other_opened.after)) further) more) step

  abbrev start : ℕ
  start = half_start s.shape s.half

  apart : (start + half_length s.shape ≤ other_start s) ⊎ (other_start s + half_length s.shape ≤ start)
  apart = halves_apart s.shape s.half (half_length s.shape) (omega arith)

  -- A place that no step reaches: before the halves, among the bytes that
  -- the taken half has in use, or in the other half behind its open gate.
  pub record IsSpared (p : ℕ) : Type 0 where
    pub low : p < data_start s.shape
    pub not_behind : p ≢ gate_behind s
    pub not_other : p ≢ other_start s
    pub read : IsUnread b s p → ⊥

  alone : (gate p : ℕ) → SameOutside gate 1 b c → p ≢ gate → slice_index c p ≡ slice_index b p
  alone gate p others away =
      place_spared gate 1 b c others p 0
      (⊎_elim (λ below. inl below) (λ from. inr (omega (arith, from, away))) (cases_lt p gate))

  pub step_spares : (p : ℕ) → IsSpared p → slice_index c p ≡ slice_index b p
  step_spares p spared =
      ⊎_elim (λ unread. ⊎_elim (λ at. absurd (spared.read at)) (λ same. same) (unread.differs p spared.low))
      (λ more. ⊎_elim (λ record_opened. alone (gate_behind s) p record_opened.others spared.not_behind)
      (λ further. ⊎_elim (λ other_shut. alone (other_start s) p other_shut.others spared.not_other) (λ other_opened. alone (other_start s) p other_opened.others spared.not_other) further) more) step

  -- the superblock stays
  pub step_head : (p : ℕ) → p < 4096 → slice_index c p ≡ slice_index b p
  step_head p below =
      let first = half_behind s.shape s.half in
      let second = half_behind s.shape (other_half s.half) in
      let ends = half_ends s.shape s.half in
      step_spares p (record {
        low = omega (arith, below, first, ends);
        not_behind = λ e. omega (arith, e, below, first);
        not_other = λ e. omega (arith, e, below, second);
        read = λ unread. ⊎_elim
            (λ behind. let after = behind.0 in omega (arith, after, below, first))
            (λ behind. let after = behind.1 in omega (arith, after, below, second)) unread;
      })

  -- the bytes that the taken half has in use stay
  pub step_kept : (p : ℕ) → start ≤ p → p < start + s.used → slice_index c p ≡ slice_index b p
  step_kept p from below =
      let in_half = stands_in_half b s stands in
      let ends = half_ends s.shape s.half in
      step_spares p (record {
        low = omega (arith, below, in_half, ends);
        not_behind = λ e. omega (arith, e, below);
        not_other = λ e. ⊎_elim
            (λ first. omega (arith, first, e, below, in_half))
            (λ second. let some = (stands_limits b s stands).some_half in omega (arith, second, e, from, some)) apart;
        read = λ unread. ⊎_elim
            (λ behind. let after = behind.0 in omega (arith, after, below))
            (λ behind. let after = behind.1 in let before = behind.2 in ⊎_elim
            (λ first. omega (arith, first, after, below, in_half))
            (λ second. omega (arith, second, before, from)) apart) unread;
      })

  -- the other half stays while its gate is open
  pub step_other : (p : ℕ) → slice_index b (other_start s) ≡ 165 → other_start s ≤ p → p < other_start s + half_length s.shape
      → (slice_index c (other_start s) ≢ 165) ⊎ (slice_index c p ≡ slice_index b p)
  step_other p gate from below =
      let in_half = stands_in_half b s stands in
      let ends = half_ends s.shape (other_half s.half) in
      let not_behind : p ≢ gate_behind s = λ e. ⊎_elim
      (λ first. omega (arith, first, e, from, in_half))
      (λ second. omega (arith, second, e, below)) apart in
      ⊎_elim
      (λ unread. inr (⊎_elim
      (λ at. absurd (⊎_elim
      (λ behind. let after = behind.0 in let before = behind.1 in ⊎_elim
      (λ first. omega (arith, first, before, from))
      (λ second. omega (arith, second, after, below)) apart)
      (λ behind. behind.0 gate) at))
      (λ same. same) (unread.differs p (omega (arith, below, ends)))))
      (λ more. ⊎_elim (λ record_opened. inr (alone (gate_behind s) p record_opened.others not_behind))
      (λ further. ⊎_elim (λ other_shut. inl other_shut.gate) (λ other_opened. absurd (other_opened.shut gate)) further) more) step

  other_gate_stays : WritesUnread b s c t → slice_index c (other_start s) ≡ slice_index b (other_start s)
  other_gate_stays unread =
      let some = (stands_limits b s stands).some_half in
      let ends = half_ends s.shape (other_half s.half) in
      let in_half = stands_in_half b s stands in
      ⊎_elim
      (λ at. absurd (⊎_elim
      (λ behind. let after = behind.0 in let before = behind.1 in ⊎_elim
      (λ first. omega (arith, first, before))
      (λ second. omega (arith, second, after, some)) apart)
      (λ behind. let after = behind.1 in omega (arith, after)) at))
      (λ same. same) (unread.differs (other_start s) (omega (arith, some, ends)))

  -- once that gate is closed, it is closed until that half is taken
  pub step_shut : slice_index b (other_start s) ≢ 165 → t.generation ≡ s.generation → slice_index c (other_start s) ≢ 165
  step_shut closed same =
      let in_half = stands_in_half b s stands in
      let some = (stands_limits b s stands).some_half in
      ⊎_elim (λ unread. λ e. closed (sym (other_gate_stays unread) ∙ e))
      (λ more. ⊎_elim
      (λ record_opened. λ e. closed (sym (alone (gate_behind s) (other_start s) record_opened.others
      (λ at. ⊎_elim (λ first. omega (arith, first, at, in_half)) (λ second. omega (arith, second, at, some)) apart)) ∙ e))
      (λ further. ⊎_elim (λ other_shut. other_shut.gate)
      (λ other_opened. let next = ap (λ (x : Standing). x.generation) other_opened.after in absurd (omega (arith, next, same))) further) more) step

  pub step_shut_before : t.generation ≡ s.generation + 1 → slice_index b (other_start s) ≢ 165
  step_shut_before next =
      ⊎_elim (λ unread. let same = ap (λ (x : Standing). x.generation) unread.same in absurd (omega (arith, same, next)))
      (λ more. ⊎_elim (λ record_opened. let same = ap (λ (x : Standing). x.generation) record_opened.after in absurd (omega (arith, same, next)))
      (λ further. ⊎_elim (λ other_shut. let same = ap (λ (x : Standing). x.generation) other_shut.same in absurd (omega (arith, same, next)))
      (λ other_opened. other_opened.shut) further) more) step

  pub step_grows : t.generation ≡ s.generation → s.used ≤ t.used
  step_grows same =
      ⊎_elim (λ unread. let e = ap (λ (x : Standing). x.used) unread.same in omega (arith, e))
      (λ more. ⊎_elim (λ record_opened. let e = ap (λ (x : Standing). x.used) record_opened.after in omega (arith, e))
      (λ further. ⊎_elim (λ other_shut. let e = ap (λ (x : Standing). x.used) other_shut.same in omega (arith, e))
      (λ other_opened. let next = ap (λ (x : Standing). x.generation) other_opened.after in absurd (omega (arith, next, same))) further) more) step

  pub step_version : t.generation ≡ s.generation → t.version ≡ s.version
  step_version same =
      ⊎_elim (λ unread. ap (λ (x : Standing). x.version) unread.same)
      (λ more. ⊎_elim (λ record_opened. ap (λ (x : Standing). x.version) record_opened.after)
      (λ further. ⊎_elim (λ other_shut. ap (λ (x : Standing). x.version) other_shut.same)
      (λ other_opened. let next = ap (λ (x : Standing). x.generation) other_opened.after in absurd (omega (arith, next, same))) further) more) step
