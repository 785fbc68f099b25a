-- Whether a record has room in a journal.
use Rattle.std.proofs.Common.{◌≡◌, ⊎_elim, ℕ, ◌+◌, ◌-◌, ◌≤◌, Bool, false, List, map, Some, None, sym, ap, ◌∙◌, arith}
use Rattle.std.specs.Prelude.{◌||◌, nat_lt}
use Rattle.std.proofs.lemmas.Bool.{cases_Bool, lt-ltb, le-ltb}
use Rattle.std.proofs.lemmas.Bool.{ltb-true, ltb-false}
use Rattle.journal_layout.specs.Case.{case_of}
use Rattle.journal_layout.specs.declared.entry.Entry.{Entry}
use Rattle.journal_layout.specs.Layout.{half_length}
use Rattle.journal_layout.specs.Rewriting.{snapshot_size}
use Rattle.journal_layout.specs.Standing.{Standing, folded_of}
use Rattle.journal_snapshot.specs.declared.change.Change.TheVariants as change
use Rattle.journal_snapshot.specs.declared.measure.Measure.{Measure}
use Rattle.journal_snapshot.specs.ChangeLaws.{snapshot_bytes_are}
use Rattle.journal_snapshot.specs.Measuring.{IsMeasure, snapshot_bytes}
use Rattle.case_journal.specs.Rooming.{has_room}

-- what fits behind these bytes
lt_moved : (a u h n : ℕ) → u ≡ n → u + 1 ≤ h → nat_lt a (h - u) ≡ nat_lt (n + a) h
lt_moved a u h n is low =
    ⊎_elim
    (λ fits. fits ∙ sym (lt-ltb (n + a) h (let e = ltb-true a (h - u) fits in omega (arith, e, is, low))))
    (λ full. full ∙ sym (le-ltb (n + a) h (let e = ltb-false a (h - u) full in omega (arith, e, is, low))))
    (cases_Bool (nat_lt a (h - u)))

module _ (s : Standing) (es : List Entry) (size : ℕ) (same : s.cases ≡ map case_of es) (half : ℕ) (half_is : half ≡ half_length s.shape) where
  bytes_are : snapshot_bytes change.Nothing es ≡ snapshot_size (folded_of s)
  bytes_are = snapshot_bytes_are change.Nothing es (folded_of s) same

  -- not after the records
  anew : (r : Bool) → nat_lt (s.used + size) (half_length s.shape) ≡ false → r ≡ nat_lt (snapshot_size (folded_of s) + size) (half_length s.shape) → r ≡ has_room s size
  anew r full is = is ∙ sym (ap (λ (b : Bool). b || nat_lt (snapshot_size (folded_of s) + size) (half_length s.shape)) full)

  pub room_some : (m : Measure) → nat_lt (s.used + size) (half_length s.shape) ≡ false → IsMeasure half change.Nothing es (Some m) → nat_lt size (half - m.used) ≡ has_room s size
  room_some m full measure =
      anew (nat_lt size (half - m.used)) full
      (lt_moved size m.used half (snapshot_size (folded_of s)) (measure.0 ∙ bytes_are) measure.1 ∙ ap (λ (h : ℕ). nat_lt (snapshot_size (folded_of s) + size) h) half_is)

  pub room_none : nat_lt (s.used + size) (half_length s.shape) ≡ false → IsMeasure half change.Nothing es None → false ≡ has_room s size
  room_none full measure =
      anew false full (sym (le-ltb (snapshot_size (folded_of s) + size) (half_length s.shape) (let e = bytes_are in omega (arith, e, measure, half_is))))
