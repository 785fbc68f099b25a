-- What formatting writes opens as an archive with no case.
use Rattle.std.proofs.Common.{◌≡◌, ℕ, ◌+◌, ◌≤◌, List, [], ◌∷◌, ◌++◌, length, take, get_or, refl, sym, ap, ◌∙◌, subst, arith, Ok, Err, Bool, true, false, cond, ◌&&◌, slice_index, ◌==◌, nat_le, rules}
use Rattle.std.proofs.lemmas.Bool.{eq-eqb, le-ltb}
use Rattle.std.proofs.Common.{drop, replicate, ◌-◌}
use Rattle.std.proofs.lemmas.List.{drop-replicate, take_at}
use Rattle.disk_model.specs.Places.{part, overwritten, SameOutside}
use Rattle.disk_model.specs.PlaceLaws.{overwritten_outside, overwritten_length}
use Rattle.disk_model.specs.PartLaws.{part_split, part_overwritten, part_before, part_after, part_place, part_length, place_after}
use Rattle.byteorder.specs.Numbers.{little_number-reads_back}
use Rattle.journal_layout.specs.declared.shape.Shape.{Shape}
use Rattle.journal_layout.specs.declared.shape.Half.TheVariants.{A, B}
use Rattle.journal_layout.specs.declared.faults.OpenFault.TheVariants.{NotAnArchive, Damaged}
use Rattle.journal_layout.specs.declared.faults.Field.TheVariants as named
use Rattle.journal_layout.specs.Layout.{IsWithinLimits, superblock, half_header, half_start, disk_length, number_bytes, field}
use Rattle.journal_layout.specs.Front.{halves_opening, headers_opening, half_opening, header_of_half, shape_opening, is_archive, shape_at, is_shape_of, taken_half, header_at, is_open_at}
use Rattle.journal_layout.specs.Stands.{Stands}
use Rattle.journal_layout.specs.StandLaws.{stands_fresh}
use Rattle.case_journal.specs.Formatted.{HasFront, superblock_block, zeros}
use Rattle.journal_layout.specs.Standing.{fresh}
use Rattle.case_journal.proofs.PublishLemmas.{zero_is_closed}
use Rattle.case_journal.proofs.StandLemmas.{front_part}

-- three writes, in this order
pub headers_stand : (s : Shape) (b block header b1 b2 b3 : List ℕ) → IsWithinLimits s → length b ≡ disk_length s
    → length block ≡ 4096 → block ≡ superblock_block 0 s → header ≡ 165 ∷ half_header 1 1 ++ 0 ∷ [] → length header ≡ 33
    → b1 ≡ overwritten b 0 block → b2 ≡ overwritten b1 4096 header → b3 ≡ overwritten b2 (half_start s B) (0 ∷ []) → HasFront 0 s b3
headers_stand s b block header b1 b2 b3 limits long size is head len e1 e2 e3 =
    let some = limits.some_half in
    let l1 : length b1 ≡ disk_length s = ap length e1 ∙ overwritten_length b 0 block (omega arith) ∙ long in
    let l2 : length b2 ≡ disk_length s = ap length e2 ∙ overwritten_length b1 4096 header (omega arith) ∙ l1 in
    let o2 : SameOutside 4096 (length header) b1 b2 = subst (SameOutside 4096 (length header) b1) (sym e2) (overwritten_outside b1 4096 header (omega arith)) in
    let o3 : SameOutside (half_start s B) 1 b2 b3 = subst (SameOutside (half_start s B) 1 b2) (sym e3) (overwritten_outside b2 (half_start s B) (0 ∷ []) (omega arith)) in
    record {
      superblock =
          part_before (half_start s B) 1 b2 b3 o3 0 4096 (omega arith) ∙ part_before 4096 (length header) b1 b2 o2 0 4096 (omega arith)
          ∙ ap (λ (x : List ℕ). part x 0 4096) e1
          ∙ ap (λ (n : ℕ). part (overwritten b 0 block) 0 n) (sym size) ∙ part_overwritten b 0 block (omega arith) ∙ is;
      halves = record {
        first =
            part_before (half_start s B) 1 b2 b3 o3 4096 33 (omega arith) ∙ ap (λ (x : List ℕ). part x 4096 33) e2
            ∙ ap (λ (n : ℕ). part (overwritten b1 4096 header) 4096 n) (sym len) ∙ part_overwritten b1 4096 header (omega arith) ∙ head;
        second =
            sym (part_place b3 (half_start s B) 1 0 0 (omega arith) ∙ ap (λ (k : ℕ). get_or b3 k 0) (omega arith))
            ∙ ap (λ (x : List ℕ). get_or x 0 0) (ap (λ (x : List ℕ). part x (half_start s B) 1) e3 ∙ part_overwritten b2 (half_start s B) (0 ∷ []) (omega arith));
      };
    }

-- the superblock's block, of what is looked at and a block of zeros
front_length : (gate : ℕ) (s : Shape) → length (gate ∷ superblock s) ≡ 24
unfolding superblock number_bytes
front_length gate s = refl

pub block_is : (s : Shape) (n : ℕ) (head block new : List ℕ) → n ≡ 4096 → head ≡ 0 ∷ superblock s → block ≡ replicate n 0 → new ≡ head ++ drop (length head) block → new ≡ superblock_block 0 s
unfolding zeros
block_is s n head block new long is filled put =
    let left : n - length head ≡ 4072 = omega (arith, ap length is, front_length 0 s) in
    put
    ∙ ap (λ (l : List ℕ). head ++ drop (length head) l) filled
    ∙ ap (λ (l : List ℕ). head ++ l) (drop-replicate (length head) n 0 ∙ ap (λ (k : ℕ). replicate k 0) left)
    ∙ ap (λ (l : List ℕ). l ++ replicate 4072 0) is

-- the superblock with its gate open tells its shape
archive_is : (s : Shape) → is_archive (165 ∷ superblock s) ≡ true
unfolding superblock number_bytes
archive_is s = refl

half_is : (s : Shape) → IsWithinLimits s → field (165 ∷ superblock s) 16 4 ≡ s.half_blocks
unfolding superblock number_bytes
half_is s limits = little_number-reads_back 4 s.half_blocks [] (let h = limits.half in omega arith)

data_is : (s : Shape) → IsWithinLimits s → field (165 ∷ superblock s) 20 4 ≡ s.data_blocks
unfolding superblock number_bytes
data_is s limits = little_number-reads_back 4 s.data_blocks [] (let h = limits.all_data in omega arith)

both : (a b : Bool) → a ≡ true → b ≡ true → (a && b) ≡ true
both a b e f = ap (λ (t : Bool). t && b) e ∙ f

le_test : (a b : ℕ) → a ≤ b → nat_le a b ≡ true
le_test a b h = search rules

is_shape : (s : Shape) (n : ℕ) → IsWithinLimits s → n ≡ disk_length s → is_shape_of n s ≡ true
is_shape s n limits e =
    both _ _ (both _ _ (both _ _ (both _ _ (le_test 1 s.half_blocks limits.some_half) (le_test s.half_blocks 4096 limits.half)) (le_test 1 s.data_blocks limits.some_data)) (le_test s.data_blocks 16777216 limits.all_data))
    (eq-eqb (disk_length s) n (sym e))

abbrev opened : Shape → List ℕ
opened s = 165 ∷ superblock s

abbrev first_bytes : List ℕ
first_bytes = 165 ∷ half_header 1 1

shape_is : (s : Shape) → IsWithinLimits s → shape_at (opened s) ≡ s
shape_is s limits = ap (λ (h : ℕ). record { half_blocks = h; data_blocks = field (opened s) 20 4 }) (half_is s limits) ∙ ap (λ (d : ℕ). record { half_blocks = s.half_blocks; data_blocks = d }) (data_is s limits)

shape_opens : (s : Shape) (n : ℕ) (sb : List ℕ) → IsWithinLimits s → n ≡ disk_length s → sb ≡ opened s → shape_opening n sb ≡ Ok s
shape_opens s n sb limits e is =
    ap (shape_opening n) is
    ∙ ap (λ (t : Bool). cond t (cond (is_shape_of n (shape_at (opened s))) (Ok (shape_at (opened s))) (Err (Damaged 16 named.Shape))) (Err NotAnArchive)) (archive_is s)
    ∙ ap (λ (x : Shape). cond (is_shape_of n x) (Ok x) (Err (Damaged 16 named.Shape))) (shape_is s limits)
    ∙ ap (λ (t : Bool). cond t (Ok s) (Err (Damaged 16 named.Shape))) (is_shape s n limits e)

takes_first : (s : Shape) (t : Bool) (version generation : ℕ) → t ≡ false → taken_half s (header_at first_bytes) (record { is_open = t; version = version; generation = generation }) ≡ Ok A
unfolding half_header number_bytes
takes_first s false version generation e = refl
takes_first s true version generation e = cc

front_32 : take 32 (165 ∷ half_header 1 1 ++ 0 ∷ []) ≡ 165 ∷ half_header 1 1
unfolding half_header number_bytes
front_32 = refl

first_header : (s : Shape) (b : List ℕ) → part b (half_start s A) 33 ≡ 165 ∷ half_header 1 1 ++ 0 ∷ [] → part b (half_start s A) 32 ≡ 165 ∷ half_header 1 1
first_header s b is = sym (front_part b (half_start s A) 33 32 (omega arith)) ∙ ap (take 32) is ∙ front_32

front_opens : (s : Shape) → half_opening s A (header_at (165 ∷ half_header 1 1)) ≡ Ok (record { shape = s; half = A; version = 1; generation = 1 })
unfolding half_header number_bytes
front_opens s = refl

halves_open : (s : Shape) (b : List ℕ) → part b (half_start s A) 32 ≡ 165 ∷ half_header 1 1 → slice_index b (half_start s B) ≡ 0 → halves_opening b (Ok s) ≡ Ok (record { shape = s; half = A; version = 1; generation = 1 })
halves_open s b first second =
    ap (λ (x : List ℕ). headers_opening s (header_at x) (header_of_half s b B) (taken_half s (header_at x) (header_of_half s b B))) first
    ∙ ap (headers_opening s (header_at (165 ∷ half_header 1 1)) (header_of_half s b B))
    (takes_first s (is_open_at (part b (half_start s B) 32) 0) (field (part b (half_start s B) 32) 4 4) (field (part b (half_start s B) 32) 8 8)
    (ap (λ (n : ℕ). n == 165) (part_place b (half_start s B) 32 0 0 (omega arith) ∙ ap (slice_index b) (let e : half_start s B + 0 ≡ half_start s B = omega arith in e) ∙ second)))
    ∙ front_opens s

last_gate : get_or (165 ∷ half_header 1 1 ++ 0 ∷ []) 32 0 ≡ 0
unfolding half_header number_bytes
last_gate = refl

gate_at : (s : Shape) (b : List ℕ) → part b (half_start s A) 33 ≡ 165 ∷ half_header 1 1 ++ 0 ∷ [] → slice_index b (half_start s A + 32) ≡ 0
gate_at s b is = sym (part_place b (half_start s A) 33 32 0 (omega arith)) ∙ ap (λ (l : List ℕ). get_or l 32 0) is ∙ last_gate

-- these parts encode an archive with no case
empty_stands : (s : Shape) (b : List ℕ) → IsWithinLimits s → length b ≡ disk_length s → part b 0 24 ≡ 165 ∷ superblock s
    → part b (half_start s A) 33 ≡ 165 ∷ half_header 1 1 ++ 0 ∷ [] → slice_index b (half_start s B) ≡ 0 → Stands b (fresh s A 1 1)
empty_stands s b limits long sb first second =
    let some = limits.some_half in
    stands_fresh b (record { shape = s; half = A; version = 1; generation = 1 })
    (ap (λ (t : Bool). cond t (Err NotAnArchive) (halves_opening b (shape_opening (length b) (part b 0 24)))) (le-ltb (length b) 4096 (omega arith))
    ∙ ap (halves_opening b) (shape_opens s (length b) (part b 0 24) limits long sb)
    ∙ halves_open s b (first_header s b first) second)
    (λ opened. zero_is_closed (sym (gate_at s b first) ∙ opened))

tail_of : (x y z : List ℕ) → x ++ y ≡ 0 ∷ z → length x ≡ 1 → y ≡ z
tail_of [] y z e l = absurd (omega (arith, l))
tail_of (w ∷ []) y z e l = cc
tail_of (w ∷ v ∷ x) y z e l = absurd (omega (arith, l))

-- what formatting wrote, once the superblock's gate is open
pub opened_front : (s : Shape) (b new : List ℕ) → IsWithinLimits s → length b ≡ disk_length s → HasFront 0 s b → new ≡ overwritten b 0 (165 ∷ []) → HasFront 165 s new
opened_front s b new limits long front is =
    let some = limits.some_half in
    let same : SameOutside 0 1 b new = subst (SameOutside 0 1 b) (sym is) (overwritten_outside b 0 (165 ∷ []) (omega arith)) in
    record {
      superblock =
          part_split new 0 1 4095
          ∙ ap (λ (xs : List ℕ). xs ++ part new 1 4095) (ap (λ (x : List ℕ). part x 0 1) is ∙ part_overwritten b 0 (165 ∷ []) (omega arith))
          ∙ ap (λ (xs : List ℕ). 165 ∷ xs) (part_after 0 1 b new same 1 4095 (omega arith) ∙ behind_closed);
      halves = record {
        first = part_after 0 1 b new same (half_start s A) 33 (omega arith) ∙ front.halves.first;
        second = place_after 0 1 b new same (half_start s B) 0 (omega arith) ∙ front.halves.second;
      };
    }
  where
    behind_closed : part b 1 4095 ≡ superblock s ++ zeros 4072
    behind_closed = tail_of (part b 0 1) (part b 1 4095) (superblock s ++ zeros 4072) (sym (part_split b 0 1 4095) ∙ front.superblock) (part_length b 0 1 (let some = limits.some_half in omega arith))

-- so the bytes encode an archive with no case
pub front_stands : (s : Shape) (b : List ℕ) → IsWithinLimits s → length b ≡ disk_length s → HasFront 165 s b → Stands b (fresh s A 1 1)
front_stands s b limits long front =
    empty_stands s b limits long
    (sym (front_part b 0 4096 24 (omega arith)) ∙ ap (take 24) front.superblock ∙ take_at (165 ∷ superblock s) (zeros 4072) 24 (front_length 165 s))
    front.halves.first front.halves.second

pub written_length : (s : Shape) (b new : List ℕ) → IsWithinLimits s → length b ≡ disk_length s → new ≡ overwritten b 0 (165 ∷ []) → length new ≡ disk_length s
written_length s b new limits long is = let some = limits.some_half in ap length is ∙ overwritten_length b 0 (165 ∷ []) (omega arith) ∙ long

-- what the test of a shape tells
pub shape_tells : (s : Shape) (n : ℕ) → is_shape_of n s ≡ true → IsWithinLimits s × (disk_length s ≡ n)
shape_tells s n e = search rules
