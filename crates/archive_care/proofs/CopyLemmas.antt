-- What the bytes of a copy hold, by what the archive's bytes hold.
use Rattle.std.proofs.Common.{◌≡◌, ℕ, ◌+◌, ◌*◌, ◌<◌, ◌≤◌, List, [], ◌∷◌, ◌++◌, length, map, take, drop, refl, sym, ap, ◌∙◌, arith}
use Rattle.std.specs.List.{range_with_len}
use Rattle.std.proofs.Math.Seq.{drop-append_seam, take-append_seam}
use Rattle.std.proofs.lemmas.Bool.{eq-eqb}
use Rattle.std.proofs.lemmas.Grind.{flat_map-append}
use Rattle.std.proofs.lemmas.List.{length-append}
use Rattle.disk_model.specs.Places.{part}
use Rattle.disk_model.specs.PartLaws.{part_split, part_length}
use Rattle.journal_layout.specs.Case.{Case}
use Rattle.journal_layout.specs.Folding.{used_blocks}
use Rattle.journal_layout.specs.Layout.{disk_length, data_start}
use Rattle.journal_layout.specs.LiveLaws.{stands_live}
use Rattle.journal_layout.specs.SpareLaws.{uses-append}
use Rattle.journal_layout.specs.Rewriting.{rewritten}
use Rattle.journal_layout.specs.Soundness.{uses}
use Rattle.journal_layout.specs.StandLaws.{stands_size}
use Rattle.journal_layout.specs.Standing.{fresh}
use Rattle.journal_layout.specs.declared.shape.Half.TheVariants.{A}
use Rattle.journal_layout.specs.declared.shape.Shape.{Shape}
use Rattle.intake.specs.Blocks.{block_start, block_bytes, joined}
use Rattle.intake.specs.Durable.{Durable, FoundCase, StandsFor, durable_in, found_case}
use Rattle.archive_care.specs.Copied.{FindsCopy, HoldsCopy, held_by, unplaced}
use Rattle.archive_care.specs.Placing.{moved, placed}
use Rattle.archive_care.specs.Planning.{copied_cases}
use Rattle.archive_care.proofs.RunLemmas.{run_bytes}

-- a list is parted in one way, if it is known where
parted : (xs ys zs ws : List ℕ) → xs ++ ys ≡ zs ++ ws → length xs ≡ length zs → (xs ≡ zs) × (ys ≡ ws)
parted xs ys zs ws same long = (
  sym (take-append_seam xs ys) ∙ ap (λ (n : ℕ). take n (xs ++ ys)) long ∙ ap (take (length zs)) same ∙ take-append_seam zs ws,
  sym (drop-append_seam xs ys) ∙ ap (λ (n : ℕ). drop n (xs ++ ys)) long ∙ ap (drop (length zs)) same ∙ drop-append_seam zs ws,
)

uses_first : (k : ℕ) (rest : List ℕ) → 0 < uses k (k ∷ rest)
uses_first k rest = rw (eq-eqb k k refl) (omega arith)

-- blocks that are there have their bytes
joined_long : (shape : Shape) (b blocks : List ℕ) → length b ≡ disk_length shape → ((k : ℕ) → 0 < uses k blocks → k < shape.data_blocks)
    → length (joined shape b blocks) ≡ 4096 * length blocks
joined_long shape b [] whole within = refl
joined_long shape b (k ∷ rest) whole within =
    let low = within k (uses_first k rest) in
    let here = part_length b (block_start shape k) 4096 (omega (arith, whole, low)) in
    omega (arith, length-append (block_bytes shape b k) (joined shape b rest), here, joined_long shape b rest whole (λ j some. within j (omega (arith, some))))

-- a case is found again wherever its image lies
found_moved : (s t : Shape) (from to : List ℕ) (c : Case) (blocks : List ℕ) → joined t to blocks ≡ joined s from c.blocks
    → unplaced (found_case t to (moved blocks c)) ≡ unplaced (found_case s from c)
found_moved s t from to c blocks same = ap (λ (l : List ℕ). record { case = moved [] c; image = take c.len l }) same

-- So are all, if their images lie there one after the other.
pub found_placed : (s t : Shape) (from to : List ℕ) (at : ℕ) (cs : List Case) → length from ≡ disk_length s → length to ≡ disk_length t
    → ((k : ℕ) → 0 < uses k (used_blocks cs) → k < s.data_blocks) → at + length (used_blocks cs) ≤ t.data_blocks
    → part to (block_start t at) (4096 * length (used_blocks cs)) ≡ joined s from (used_blocks cs)
    → map unplaced (map (found_case t to) (placed at cs)) ≡ map unplaced (map (found_case s from) cs)
found_placed s t from to at [] whole long within room there = refl
found_placed s t from to at (c ∷ rest) whole long within room there =
    let n = length c.blocks in
    let m = length (used_blocks rest) in
    let all : length (used_blocks (c ∷ rest)) ≡ n + m = length-append c.blocks (used_blocks rest) in
    let both : 4096 * length (used_blocks (c ∷ rest)) ≡ 4096 * n + 4096 * m = omega (arith, all) in
    let next : block_start t at + 4096 * n ≡ block_start t (at + n) = omega arith in
    let here_within : (k : ℕ) → 0 < uses k c.blocks → k < s.data_blocks = λ k some. within k (omega (arith, some, uses-append k c.blocks (used_blocks rest))) in
    let rest_within : (k : ℕ) → 0 < uses k (used_blocks rest) → k < s.data_blocks = λ k some. within k (omega (arith, some, uses-append k c.blocks (used_blocks rest))) in
    let h =
    parted (part to (block_start t at) (4096 * n)) (part to (block_start t (at + n)) (4096 * m)) (joined s from c.blocks) (joined s from (used_blocks rest))
    (ap (λ (p : ℕ). part to (block_start t at) (4096 * n) ++ part to p (4096 * m)) (sym next)
    ∙ sym (part_split to (block_start t at) (4096 * n) (4096 * m))
    ∙ ap (part to (block_start t at)) (sym both)
    ∙ there
    ∙ flat_map-append (block_bytes s from) c.blocks (used_blocks rest))
    (part_length to (block_start t at) (4096 * n) (omega (arith, long, room, all)) ∙ sym (joined_long s from c.blocks whole here_within)) in
    let first = found_moved s t from to c (range_with_len at n) (sym (run_bytes t to at n) ∙ h.0) in
    let others = found_placed s t from to (at + n) rest whole long rest_within (omega (arith, room, all)) h.1 in
    ap (λ (x : FoundCase). x ∷ map unplaced (map (found_case t to) (placed (at + n) rest))) first
    ∙ ap (λ (l : List FoundCase). unplaced (found_case s from c) ∷ l) others

-- The bytes of a copy hold what the archive's bytes hold.
pub finds_copy : (from to : List ℕ) (shape : Shape) (version : ℕ) (x : Durable) (a : StandsFor from x) → HoldsCopy from a.standing shape version to → FindsCopy version x to
finds_copy from to shape version x a holds =
    let s = a.standing in
    let t = rewritten (fresh shape A 1 1) (copied_cases version s) in
    let live = stands_live from s a.stands in
    let start : block_start shape 0 ≡ data_start shape = omega arith in
    let same =
    found_placed s.shape shape from to 0 s.cases (sym (stands_size from s a.stands)) (sym (stands_size to t holds.stands)) live.within (omega (arith, holds.room))
    (ap (λ (p : ℕ). part to p (4096 * length (used_blocks s.cases))) start ∙ holds.images) in (
      durable_in to t,
      record { standing = t; stands = holds.stands; is = refl },
      ap (λ (l : List FoundCase). record { cases = l; next = s.next; version = version }) same
          ∙ ap (λ (d : Durable). record (held_by d) { version = version }) a.is,
    )
