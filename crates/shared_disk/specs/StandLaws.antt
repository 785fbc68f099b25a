-- Each moment encodes an archive: the archive that is encoded after a part of one write.
use Rattle.std.proofs.Common.{◌≡◌, ◌≢◌, ⊎_elim, ℕ, ◌+◌, ◌<◌, ◌≤◌, List, [], ◌∷◌, ◌++◌, length, get_or, slice_index, refl, sym, ap, ◌∙◌, subst, arith}
use Rattle.std.proofs.lemmas.List.{take_at, get_or_at}
use Rattle.disk_model.specs.Places.{part, SameOutside}
use Rattle.disk_model.specs.PartLaws.{part_after, part_split, part_part, part_is, part_place, place_after, widened}
use Rattle.journal_layout.specs.Layout.{half_length}
use Rattle.journal_layout.specs.Record.{Record, record_size, behind_gate, spelling}
use Rattle.journal_layout.specs.SpellLaws.{length-spelling}
use Rattle.journal_layout.specs.FoundLaws.{byte_part}
use Rattle.journal_layout.specs.Standing.{Standing, lengthened}
use Rattle.journal_layout.specs.Stands.{Stands}
use Rattle.journal_layout.specs.StandLaws.{stands_limits}
use Rattle.journal_layout.specs.OtherHalfLaws.{the_other_half_is_apart, an_opened_half_stands}
use Rattle.journal_layout.specs.Rewriting.{other_start}
use Rattle.case_journal.specs.Settling.{gate_behind}
use Rattle.case_journal.proofs.EnoughLemmas.{read_stands}
use Rattle.case_journal.proofs.StandLemmas.{stands_after, half_ends, limits_in}
use Rattle.shared_disk.specs.History.{moment, OpensRecord, MayLead, AreMoments}
use Rattle.shared_disk.specs.CourseLaws.{along}

module _ (b c : List ℕ) (s t : Standing) (stands : Stands b s) (o : OpensRecord b s c t) where
  abbrev r : Record
  r = o.opened

  abbrev gate : ℕ
  gate = gate_behind s

  behind_long : length (behind_gate r) + 1 ≡ record_size r
  behind_long = let e = length-spelling r in omega (arith, e)

  lies : gate + record_size r + 1 ≤ length c
  lies =
      let in_half = o.in_half in
      let ends = half_ends s.shape s.half in
      let size = (limits_in b s stands).1 in
      let long = o.others.same_length in
      omega (arith, in_half, ends, size, long)

  behind_there : part c (gate + 1) (length (behind_gate r)) ≡ behind_gate r
  behind_there =
      let n : ℕ = length (behind_gate r) in
      let e = behind_long in
      let zero_on : gate + 1 + 0 ≡ gate + 1 = omega arith in
      part_after gate 1 b c o.others (gate + 1) n (omega arith)
      ∙ ap (λ (p : ℕ). part b p n) (sym zero_on)
      ∙ sym (part_part b (gate + 1) (record_size r) 0 n (omega (arith, e)))
      ∙ ap (λ (l : List ℕ). part l 0 n) o.behind
      ∙ part_is (behind_gate r ++ 0 ∷ []) 0 n
      ∙ take_at (behind_gate r) (0 ∷ []) n refl

  spelled : part c gate (record_size r) ≡ spelling r
  spelled =
      let n : ℕ = length (behind_gate r) in
      let e = behind_long in
      let whole : record_size r ≡ 1 + n = omega (arith, e) in
      ap (part c gate) whole
      ∙ part_split c gate 1 n
      ∙ ap (λ (l : List ℕ). l ++ part c (gate + 1) n) (byte_part c gate (let room = lies in omega (arith, room)) ∙ ap (λ (x : ℕ). x ∷ []) o.gate)
      ∙ ap (λ (l : List ℕ). 165 ∷ l) behind_there

  shut_after : slice_index c (gate + record_size r) ≢ 165
  shut_after again =
      let n : ℕ = length (behind_gate r) in
      let e = behind_long in
      let place : gate + 1 + n ≡ gate + record_size r = omega (arith, e) in
      let zero_there : slice_index c (gate + record_size r) ≡ 0 =
      place_after gate 1 b c o.others (gate + record_size r) 0 (omega (arith, e))
      ∙ ap (slice_index b) (sym place)
      ∙ sym (part_place b (gate + 1) (record_size r) n 0 (omega (arith, e)))
      ∙ ap (λ (l : List ℕ). get_or l n 0) o.behind
      ∙ get_or_at (behind_gate r) 0 [] 0 n refl in
      omega (arith, zero_there, again)

  pub opened_stands : Stands c (lengthened s r)
  opened_stands =
      let in_half = o.in_half in
      stands_after s r (record_size r + 1) b c stands
      (widened gate 1 b c o.others gate (record_size r + 1) (omega arith) (omega arith))
      (omega (arith, in_half)) (omega arith) o.sound spelled shut_after

module _ (b c : List ℕ) (s t : Standing) (stands : Stands b s) where
  wide : SameOutside (other_start s) 1 b c → SameOutside (other_start s) (half_length s.shape) b c
  wide others =
      let some = (stands_limits b s stands).some_half in
      widened (other_start s) 1 b c others (other_start s) (half_length s.shape) (omega arith) (omega (arith, some))

  -- the bytes after a part of a write encode the archive that then holds
  pub step_stands : MayLead b s c t → Stands c t
  step_stands step =
      ⊎_elim (λ unread. subst (λ (x : Standing). Stands c x) (sym unread.same) (read_stands b c s stands unread.long unread.differs))
      (λ more. ⊎_elim (λ record_opened. subst (λ (x : Standing). Stands c x) (sym record_opened.after) (opened_stands b c s t stands record_opened))
      (λ further. ⊎_elim
      (λ other_shut. subst (λ (x : Standing). Stands c x) (sym other_shut.same) (the_other_half_is_apart b c s stands (wide other_shut.others) other_shut.gate))
      (λ other_opened. subst (λ (x : Standing). Stands c x) (sym other_opened.after) (an_opened_half_stands b c s other_opened.said stands other_opened.may other_opened.holds other_opened.others other_opened.gate))
      further) more) step

-- each moment encodes an archive
pub each_moment_stands : (moments : List (List ℕ)) (standing : ℕ → Standing) (k : ℕ) → AreMoments moments standing → k < length moments → Stands (moment moments k) (standing k)
each_moment_stands moments standing k are within =
    along (λ (m : ℕ). Stands (moment moments m) (standing m)) 0 k (omega arith) are.first
    (λ m low high so. step_stands (moment moments m) (moment moments (m + 1)) (standing m) (standing (m + 1)) so (are.steps m (omega (arith, high, within))))
