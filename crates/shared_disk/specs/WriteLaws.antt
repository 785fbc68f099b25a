-- Each part of a write of the journal's calls is a step.
use Rattle.std.proofs.Common.{◌≡◌, inl, inr, ⊎_elim, ℕ, ◌+◌, ◌<◌, ◌≤◌, List, [], ◌∷◌, length, slice_index, get_or, refl, sym, ap, ◌∙◌, subst, arith}
use Rattle.std.proofs.lemmas.Bool.{cases_lt}
use Rattle.disk_model.specs.Places.{part, overwritten, SameOutside}
use Rattle.disk_model.specs.PlaceLaws.{overwritten_outside, overwritten_length}
use Rattle.disk_model.specs.PartLaws.{place_before, place_after, part_place, part_overwritten}
use Rattle.journal_layout.specs.Layout.{data_start}
use Rattle.journal_layout.specs.Record.{Record, record_size}
use Rattle.journal_layout.specs.Standing.{Standing, lengthened}
use Rattle.journal_layout.specs.Stands.{Stands}
use Rattle.journal_layout.specs.StandLaws.{stands_limits}
use Rattle.journal_layout.specs.Rewriting.{other_half, other_start}
use Rattle.case_journal.specs.Publishing.{Publishes}
use Rattle.case_journal.specs.Settling.{gate_behind}
use Rattle.case_journal.specs.Doubting.{IsUnread}
use Rattle.case_journal.proofs.StandLemmas.{half_ends, limits_in}
use Rattle.shared_disk.specs.History.{MayLead}
use Rattle.shared_disk.specs.Writes.{WritesAreSteps}

-- a write into a range of which each place is unread
unread_write : (b c : List ℕ) (s : Standing) (at n : ℕ) → SameOutside at n b c → ((p : ℕ) → p < data_start s.shape → at ≤ p → p < at + n → IsUnread b s p) → MayLead b s c s
unread_write b c s at n same unread =
    inl (record {
      same = refl;
      long = same.same_length;
      differs = λ p low. ⊎_elim
          (λ before. inr (place_before at n b c same p 0 before))
          (λ from. ⊎_elim (λ inside. inl (unread p low from inside)) (λ after. inr (place_after at n b c same p 0 after)) (cases_lt p (at + n)))
          (cases_lt p at);
    })

-- one byte that was put there
put_there : (b : List ℕ) (at x : ℕ) → at + 1 ≤ length b → slice_index (overwritten b at (x ∷ [])) at ≡ x
put_there b at x within =
    let e : at + 0 ≡ at = omega arith in
    ap (slice_index (overwritten b at (x ∷ []))) (sym e)
    ∙ sym (part_place (overwritten b at (x ∷ [])) at 1 0 0 (omega arith))
    ∙ ap (λ (l : List ℕ). get_or l 0 0) (part_overwritten b at (x ∷ []) within)

other_within : (b : List ℕ) (s : Standing) → Stands b s → other_start s + 1 ≤ length b
other_within b s stands =
    let ends = half_ends s.shape (other_half s.half) in
    let some = (stands_limits b s stands).some_half in
    let size = (limits_in b s stands).1 in
    omega (arith, ends, some, size)

record_gate : (b : List ℕ) (s : Standing) (r : Record) (gate : ℕ) (behind : List ℕ) → Stands b s → Publishes s r gate behind
    → MayLead (overwritten b (gate + 1) behind) s (overwritten (overwritten b (gate + 1) behind) gate (165 ∷ [])) (lengthened s r)
record_gate b s r gate behind stands p =
    let place = p.place in
    let in_half = p.in_half in
    let long = p.long in
    let ends = half_ends s.shape s.half in
    let size = (limits_in b s stands).1 in
    let lies : gate + 1 + length behind ≤ length b = omega (arith, place, in_half, long, ends, size) in
    let once : List ℕ = overwritten b (gate + 1) behind in
    let once_long : length once ≡ length b = overwritten_length b (gate + 1) behind lies in
    let here : gate ≡ gate_behind s = place in
    inr (inl (record {
      opened = r;
      after = refl;
      behind = ap (λ (k : ℕ). part once (k + 1) (record_size r)) (sym here) ∙ ap (part once (gate + 1)) (sym long) ∙ part_overwritten b (gate + 1) behind lies ∙ p.bytes;
      in_half = p.in_half;
      sound = p.sound;
      gate = ap (slice_index (overwritten once gate (165 ∷ []))) (sym here) ∙ put_there once gate 165 (omega (arith, once_long, lies));
      others = subst (λ (k : ℕ). SameOutside k 1 once (overwritten once gate (165 ∷ []))) here (overwritten_outside once gate (165 ∷ []) (omega (arith, once_long, lies)));
    }))

pub writes_are_steps : WritesAreSteps
writes_are_steps = record {
  behind_records = λ b c s at n stands same low high.
      unread_write b c s at n same (λ p below from inside. inl (omega (arith, low, from), omega (arith, inside, high)));
  record_gate = record_gate;
  other_gate = λ b s stands.
      inr (inr (inl (record {
        same = refl;
        gate = (λ opened. let is = put_there b (other_start s) 0 (other_within b s stands) in omega (arith, is, opened));
        others = overwritten_outside b (other_start s) (0 ∷ []) (other_within b s stands);
      })));
  behind_other = λ b c s at n stands closed same low high.
      unread_write b c s at n same (λ p below from inside. inr (closed, omega (arith, low, from), omega (arith, inside, high)));
  other_taken = λ b s f stands closed may holds.
      inr (inr (inr (record {
        said = f;
        after = refl;
        may = may;
        holds = holds;
        shut = closed;
        gate = put_there b (other_start s) 165 (other_within b s stands);
        others = overwritten_outside b (other_start s) (165 ∷ []) (other_within b s stands);
      })));
  data_blocks = λ b c s at n stands same low. unread_write b c s at n same (λ p below from inside. absurd (omega (arith, low, below, from)));
  same_again = λ b s. inl (record { same = refl; long = refl; differs = λ p low. inr refl });
}
