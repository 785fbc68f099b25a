-- The numbers that a Drop record names, by its place.
use Rattle.std.proofs.Common.{◌≡◌, ℕ, Bool, cond, ◌+◌, ◌-◌, ◌*◌, ◌<◌, ◌≤◌, List, length, drop, slice_index, sym, ap, ◌∙◌, subst, arith}
use Rattle.std.proofs.lemmas.Bool.{le-leb}
use Rattle.byteorder.specs.Numbers.{little_from-take}
use Rattle.disk_model.specs.PartLaws.{part_length, part_place}
use Rattle.disk_model.specs.Places.{part}
use Rattle.journal_layout.specs.ByteLaws.{field-drop}
use Rattle.journal_layout.specs.Layout.{field}
use Rattle.salvage.specs.Alone.{HasHead, IsDropBody, between}
use Rattle.salvage.specs.Records.{IsDeleted, number_of}
use Rattle.salvage.specs.declared.records.Dropped.{Dropped}

number_is : (bytes : List ℕ) (p : ℕ) → p + 4 ≤ length bytes → number_of bytes p ≡ field bytes p 4
number_is bytes p within = ap (λ (t : Bool). cond t (field bytes p 4) 0) (le-leb (p + 4) (length bytes) within)

module _ (front : List ℕ) (start end : ℕ) (order : start ≤ end) (within : end ≤ length front) where
  long : length (between front start end) ≡ end - start
  long = part_length front start (end - start) (omega (arith, order, within))

  field_there : (p : ℕ) → p + 4 ≤ end - start → field (between front start end) p 4 ≡ field front (start + p) 4
  unfolding part
  field_there p low = little_from-take p 4 (end - start) (drop start front) low ∙ field-drop front start p 4

  number_there : (p : ℕ) → p + 4 ≤ end - start → number_of (between front start end) p ≡ number_of front (start + p)
  number_there p low =
      number_is (between front start end) p (omega (arith, low, long)) ∙ field_there p low ∙ sym (number_is front (start + p) (omega (arith, low, order, within)))

  -- what is named of a record at its place
  pub numbers_there : (drops : List Dropped) → (slice_index front (start + 1) ≡ 2 → (index : ℕ) → index < number_of front (start + 8) → IsDeleted drops (number_of front (start + 12 + 4 * index)))
      → (size : ℕ) → HasHead (between front start end) size → IsDropBody (between front start end) size → (index : ℕ) → index < number_of (between front start end) 8
      → IsDeleted drops (number_of (between front start end) (12 + 4 * index))
  numbers_there drops named size head body index below =
      let room = head.room in
      let some = head.some in
      let big = body.2 in
      let one : 1 < end - start = omega (arith, room, some, long) in
      let count = number_there 8 (omega (arith, room, some, long)) in
      let here = number_there (12 + 4 * index) (omega (arith, room, big, below, long)) in
      let e : start + (12 + 4 * index) ≡ start + 12 + 4 * index = omega arith in
      subst (IsDeleted drops) (sym (here ∙ ap (number_of front) e))
      (named (sym (part_place front start (end - start) 1 0 one) ∙ body.0) index (omega (arith, below, count)))
