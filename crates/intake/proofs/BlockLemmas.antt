-- The bytes of a block that is written, and those that it spares.
use Rattle.std.proofs.Common.{◌≡◌, ◌≢◌, inl, inr, ⊎_elim, ℕ, zero, suc, ◌+◌, ◌-◌, ◌%◌, ◌<◌, ◌≤◌, List, [], ◌∷◌, ◌++◌, length, take, drop, replicate, refl, sym, ap, ◌∙◌, arith, Result, Ok, Err, append_assoc, Bool, subst}
use Rattle.std.specs.Prelude.{OnOk}
use Rattle.std.proofs.lemmas.Bool.{cases_eq, cases_lt, eq-eqb}
use Rattle.std.specs.Prelude.{◌==◌}
use Rattle.std.proofs.lemmas.List.{take_all, drop_all, length-drop, drop-drop, take-append-drop, append-nil}
use Rattle.std.proofs.lemmas.List.Concat.{flat_map-append}
use Rattle.disk_model.specs.Places.{part, overwritten, SameOutside}
use Rattle.disk_model.specs.PartLaws.{part_overwritten, part_spared}
use Rattle.extents.specs.FreeSet.{uses, one_if}
use Rattle.extents.specs.FreeLaws.{uses_cons}
use Rattle.journal_layout.specs.declared.shape.Shape.{Shape}
use Rattle.case_journal.specs.Journaled.{Journaled}
use Rattle.intake.specs.Balance.{AreHeld}
use Rattle.intake.specs.Blocks.{block_start, block_bytes, joined}
use Rattle.intake.specs.Contents.{zero_block, advanced, next_free}
use Rattle.intake.specs.Growth.{DiskReply, BlockReply, Adds, NeedsBlock, lengthened, refreshed}
use Rattle.intake.specs.Parts.{StreamParts, taken_in}
use Rattle.intake.specs.declared.faults.ArchiveFault.{ArchiveFault}
use Rattle.intake.proofs.CountLemmas.{not_held}

pub on_ok : {T E : Type 0} (r : Result T E) (P Q : Type 0) → OnOk r P → (P → Q) → OnOk r Q
on_ok (Ok x) P Q h f = f h
on_ok (Err e) P Q h f = tt

-- a block that was written holds these bytes
pub block_written : (shape : Shape) (k : ℕ) (old new bytes : List ℕ) → block_start shape k + 4096 ≤ length old → length bytes ≡ 4096 → new ≡ overwritten old (block_start shape k) bytes → block_bytes shape new k ≡ bytes
block_written shape k old new bytes fits is written =
    ap (λ (x : List ℕ). block_bytes shape x k) written
    ∙ ap (λ (m : ℕ). part (overwritten old (block_start shape k) bytes) (block_start shape k) m) (sym is)
    ∙ part_overwritten old (block_start shape k) bytes (omega arith)

-- blocks other than one that changes
module _ (shape : Shape) (k : ℕ) (a b : List ℕ) (same : SameOutside (block_start shape k) 4096 a b) where
  other : (i : ℕ) → i ≢ k → block_bytes shape b i ≡ block_bytes shape a i
  other i ne = elim (cases_lt i k) as (λ _. block_bytes shape b i ≡ block_bytes shape a i) [
    | inl below ↦ part_spared (block_start shape k) 4096 a b same (block_start shape i) 4096 (inl (omega arith))
    | inr above ↦ part_spared (block_start shape k) 4096 a b same (block_start shape i) 4096 (inr (omega (arith, ne)))
  ]

  pub joined_other : (blocks : List ℕ) → uses blocks k ≡ 0 → joined shape b blocks ≡ joined shape a blocks
  joined_other [] none = refl
  joined_other (i ∷ rest) none =
      let s = uses_cons i rest k in
      elim (cases_eq i k) as (λ _. joined shape b (i ∷ rest) ≡ joined shape a (i ∷ rest)) [
        | inl here ↦ absurd (let e : one_if (i == k) ≡ 1 = rw (eq-eqb i k here) refl in omega (arith, s, e))
        | inr ne ↦ ap (λ (x : List ℕ). x ++ joined shape b rest) (other i ne) ∙ ap (λ (x : List ℕ). block_bytes shape a i ++ x) (joined_other rest (omega (arith, s)))
      ]

-- a cleared block is zeros
pub cleared : (b : List ℕ) → length b ≡ 4096 → take 0 b ++ replicate (length b - 0) 0 ≡ zero_block
unfolding zero_block
cleared b is = let e : length b - 0 ≡ 4096 = omega arith in ap (λ (k : ℕ). replicate k 0) e

-- what the code tests of n bytes that fill a block
pub needed : (len n : ℕ) → (n ≢ 0) → 4096 ≤ len % 4096 + n → len % 4096 + n ≤ 4096 → NeedsBlock len n
needed len n some most fits = (some, omega arith)

take_nil : (k : ℕ) → take {A = ℕ} k [] ≡ []
take_nil zero = refl
take_nil (suc k) = refl

drop_nil : (k : ℕ) → drop {A = ℕ} k [] ≡ []
drop_nil zero = refl
drop_nil (suc k) = refl

split_more : (x : List ℕ) (u m : ℕ) → take (u + m) x ≡ take u x ++ take m (drop u x)
split_more [] u m = take_nil (u + m) ∙ sym (ap (λ (z : List ℕ). z ++ take m (drop u [])) (take_nil u) ∙ ap (take m) (drop_nil u) ∙ take_nil m)
split_more (y ∷ x) zero m = let e : zero + m ≡ m = omega arith in ap (λ (k : ℕ). take k (y ∷ x)) e
split_more (y ∷ x) (suc u) m =
    let e : suc u + m ≡ suc (u + m) = omega arith in
    ap (λ (k : ℕ). take k (y ∷ x)) e ∙ ap (λ (z : List ℕ). y ∷ z) (split_more x u m)

rest_more : (x : List ℕ) (u m : ℕ) → drop (u + m) x ≡ drop m (drop u x)
rest_more x u m = sym (drop-drop m u x)

full_free : (x : List ℕ) → 0 < length x → next_free x ≡ x
full_free [] lt = absurd (omega arith)
full_free (y ∷ x) lt = refl

-- n bytes more of the free part, where they fill no block
pub taken_lengthened : (j : Journaled) (a : List ℕ) (s : StreamParts) (n : ℕ) → length s.block ≡ 4096 → s.facts.len % 4096 + n < 4096 → taken_in j a (lengthened s n) ≡ advanced n (taken_in j a s)
taken_lengthened j a s n size lt =
    let u : ℕ = s.facts.len % 4096 in
    let m : (s.facts.len + n) % 4096 ≡ u + n = omega arith in
    let bytes : joined j.standing.shape a s.facts.blocks ++ take ((s.facts.len + n) % 4096) s.block ≡ joined j.standing.shape a s.facts.blocks ++ take u s.block ++ take n (drop u s.block) =
    ap (λ (k : ℕ). joined j.standing.shape a s.facts.blocks ++ take k s.block) m
    ∙ ap (λ (x : List ℕ). joined j.standing.shape a s.facts.blocks ++ x) (split_more s.block u n)
    ∙ sym (append_assoc (joined j.standing.shape a s.facts.blocks) (take u s.block) (take n (drop u s.block))) in
    let l = length-drop (u + n) s.block in
    let free : drop ((s.facts.len + n) % 4096) s.block ≡ next_free (drop n (drop u s.block)) =
    ap (λ (k : ℕ). drop k s.block) m ∙ sym (full_free (drop (u + n) s.block) (omega arith)) ∙ ap next_free (rest_more s.block u n) in
    ap (λ (x : List ℕ). record { bytes = x; free = drop ((s.facts.len + n) % 4096) s.block }) bytes
    ∙ ap (λ (x : List ℕ). record { bytes = joined j.standing.shape a s.facts.blocks ++ take u s.block ++ take n (drop u s.block); free = x }) free

-- and where they do
pub taken_refreshed : (j : Journaled) (flags : List Bool) (a b : List ℕ) (s : StreamParts) (n : ℕ) (blocks : List ℕ) → length s.block ≡ 4096 → AreHeld flags s.facts.blocks → NeedsBlock s.facts.len n
    → Adds j.standing.shape flags s.facts.blocks blocks s.block a b → taken_in j b (refreshed s n blocks) ≡ advanced n (taken_in j a s)
taken_refreshed j flags a b s n blocks size held needs adds =
    let u : ℕ = s.facts.len % 4096 in
    let full = needs.1 in
    let m : (s.facts.len + n) % 4096 ≡ 0 = omega arith in
    let l = length-drop u s.block in
    let all : take n (drop u s.block) ≡ drop u s.block = take_all n (drop u s.block) (omega arith) in
    let nothing : drop n (drop u s.block) ≡ [] = drop_all n (drop u s.block) (omega arith) in
    let still : joined j.standing.shape b s.facts.blocks ≡ joined j.standing.shape a s.facts.blocks = joined_other j.standing.shape adds.block a b adds.others s.facts.blocks (not_held flags s.facts.blocks adds.block held adds.free) in
    let bytes : joined j.standing.shape b blocks ++ take ((s.facts.len + n) % 4096) zero_block ≡ joined j.standing.shape a s.facts.blocks ++ take u s.block ++ take n (drop u s.block) =
    ap (λ (k : ℕ). joined j.standing.shape b blocks ++ take k zero_block) m
    ∙ append-nil (joined j.standing.shape b blocks)
    ∙ ap (joined j.standing.shape b) adds.blocks
    ∙ flat_map-append (block_bytes j.standing.shape b) s.facts.blocks (adds.block ∷ [])
    ∙ ap (λ (x : List ℕ). x ++ (block_bytes j.standing.shape b adds.block ++ [])) still
    ∙ ap (λ (x : List ℕ). joined j.standing.shape a s.facts.blocks ++ x) (append-nil (block_bytes j.standing.shape b adds.block) ∙ adds.written ∙ sym (take-append-drop u s.block) ∙ ap (λ (x : List ℕ). take u s.block ++ x) (sym all))
    ∙ sym (append_assoc (joined j.standing.shape a s.facts.blocks) (take u s.block) (take n (drop u s.block))) in
    let free : drop ((s.facts.len + n) % 4096) zero_block ≡ next_free (drop n (drop u s.block)) =
    ap (λ (k : ℕ). drop k zero_block) m ∙ ap next_free (sym nothing) in
    ap (λ (x : List ℕ). record { bytes = x; free = drop ((s.facts.len + n) % 4096) zero_block }) bytes
    ∙ ap (λ (x : List ℕ). record { bytes = joined j.standing.shape a s.facts.blocks ++ take u s.block ++ take n (drop u s.block); free = x }) free

-- where a block was there, the disk's answer is that of the block
pub block_reply : (free : ℕ) (r : Result (Unit {0}) ArchiveFault) → 0 < free → DiskReply r → BlockReply free r
block_reply free (Ok u) some reply = some
block_reply free (Err f) some reply = subst (λ (x : ArchiveFault). BlockReply free (Err x)) (sym reply) some
