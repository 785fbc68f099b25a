-- Laws of one more record: it follows the others, or the other half holds the cases and the next number that then hold.
use Rattle.std.proofs.Common.{◌≡◌, ◌+◌, ◌<◌, ◌≤◌, Bool, true, false, refl, arith, cond, sym, subst}
use Rattle.std.proofs.lemmas.Bool.{lt-ltb, le-ltb}
use Rattle.journal_layout.specs.Layout.{half_length}
use Rattle.journal_layout.specs.Record.{Record, record_size}
use Rattle.journal_layout.specs.Folding.{after}
use Rattle.journal_layout.specs.Standing.{Standing, folded_of, lengthened}
use Rattle.journal_layout.specs.Rewriting.{other_half, snapshot_size, rewritten, fits, appended}

-- after one more record; `t` says whether it follows the others
abbrev placed : Bool → Standing → Record → Standing
placed t s r = record s {
  half = cond t s.half (other_half s.half);
  generation = cond t s.generation (s.generation + 1);
  cases = (after r (folded_of s)).cases;
  next = (after r (folded_of s)).next;
  used = cond t (s.used + record_size r) (snapshot_size (after r (folded_of s)));
}

-- if it fits, it follows the others
pub appended_behind : (s : Standing) (r : Record) → fits s r ≡ true → lengthened s r ≡ appended s r
appended_behind s r e = subst (λ (t : Bool). lengthened s r ≡ placed t s r) (sym e) refl

-- otherwise the other half holds the cases and the next number after the record
pub appended_by_snapshot : (s : Standing) (r : Record) → fits s r ≡ false → rewritten s (after r (folded_of s)) ≡ appended s r
appended_by_snapshot s r e = subst (λ (t : Bool). rewritten s (after r (folded_of s)) ≡ placed t s r) (sym e) refl

pub fits_true : (s : Standing) (r : Record) → s.used + record_size r + 1 ≤ half_length s.shape → fits s r ≡ true
fits_true s r in_half = lt-ltb (s.used + record_size r) (half_length s.shape) (omega arith)

pub fits_false : (s : Standing) (r : Record) → half_length s.shape < s.used + record_size r + 1 → fits s r ≡ false
fits_false s r in_half = le-ltb (s.used + record_size r) (half_length s.shape) (omega arith)
