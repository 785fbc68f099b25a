-- The bytes of a stream that is closed.
use Rattle.std.proofs.Common.{◌≡◌, ◌≢◌, inl, inr, subst, Result, Ok, Err, ℕ, suc, ◌+◌, ◌-◌, ◌*◌, ◌/◌, ◌%◌, ◌<◌, Bool, List, [], ◌∷◌, ◌++◌, length, take, replicate, refl, sym, ap, ◌∙◌, arith}
use Rattle.std.proofs.Common.{append_assoc}
use Rattle.std.proofs.lemmas.List.{take_at, take_all, length-take-le, length-append, append-nil}
use Rattle.std.proofs.lemmas.List.Concat.{flat_map-append}
use Rattle.disk_model.specs.PartLaws.{part_length}
use Rattle.extents.specs.FreeSet.{uses, one_if}
use Rattle.extents.specs.FreeLaws.{uses_cons}
use Rattle.std.proofs.lemmas.Bool.{eq-eqb}
use Rattle.std.specs.Prelude.{◌==◌, OnOk}
use Rattle.journal_layout.specs.declared.shape.Shape.{Shape}
use Rattle.journal_layout.specs.Layout.{disk_length}
use Rattle.intake.specs.Balance.{AreHeld}
use Rattle.intake.specs.Blocks.{block_bytes, block_start, joined, padded}
use Rattle.intake.specs.State.{blocks_for}
use Rattle.intake.specs.Closing.{ClosesStream, ClosesBytes, ClosesPadded, with_blocks}
use Rattle.intake.specs.Growth.{Adds, DiskReply}
use Rattle.intake.specs.StreamView.{case_from_parts}
use Rattle.intake.specs.declared.faults.ArchiveFault.{ArchiveFault}
use Rattle.intake.specs.Parts.{StreamParts}
use Rattle.intake.proofs.BlockLemmas.{joined_other}
use Rattle.intake.proofs.CountLemmas.{not_held, in_range}

-- a block that is held lies in the map
held_low : (flags : List Bool) (held : List ℕ) (k : ℕ) → AreHeld flags held → 0 < uses held k → k < length flags
held_low flags held k are some = (let h = are k in in_range k (length flags) (omega (arith, h, some)))

pub length_joined : (shape : Shape) (flags : List Bool) (a : List ℕ) (held : List ℕ) → length flags ≡ shape.data_blocks → length a ≡ disk_length shape → AreHeld flags held → length (joined shape a held) ≡ 4096 * length held
length_joined shape flags a [] map long are = omega arith
length_joined shape flags a (b ∷ rest) map long are =
    let here : uses (b ∷ rest) b ≡ 1 + uses rest b = uses_cons b rest b ∙ (let e : one_if (b == b) ≡ 1 = rw (eq-eqb b b refl) refl in ap (λ (n : ℕ). n + uses rest b) e) in
    let low = held_low flags (b ∷ rest) b are (omega (arith, here)) in
    let one : length (block_bytes shape a b) ≡ 4096 = part_length a (block_start shape b) 4096 (omega (arith, long, map, low)) in
    let more = length_joined shape flags a rest map long (λ k. (let h = are k in let s = uses_cons b rest k in omega (arith, h, s))) in
    omega (arith, length-append (block_bytes shape a b) (joined shape a rest), one, more)

take_past : (x y : List ℕ) (u : ℕ) → take (length x + u) (x ++ y) ≡ x ++ take u y
take_past [] y u = let e : 0 + u ≡ u = omega arith in ap (λ (k : ℕ). take k y) e
take_past (a ∷ x) y u =
    let e : length (a ∷ x) + u ≡ suc (length x + u) = omega arith in
    ap (λ (k : ℕ). take k (a ∷ (x ++ y))) e ∙ ap (λ (z : List ℕ). a ∷ z) (take_past x y u)

-- no bytes are left over
pub closed_whole : (shape : Shape) (flags : List Bool) (a : List ℕ) (s : StreamParts) → length flags ≡ shape.data_blocks → length a ≡ disk_length shape → AreHeld flags s.facts.blocks
    → length s.facts.blocks ≡ s.facts.len / 4096 → s.facts.len % 4096 ≡ 0 → ClosesBytes shape s s.facts.blocks a a
closed_whole shape flags a s map long are filled none =
    let l = length_joined shape flags a s.facts.blocks map long are in
    take_all s.facts.len (joined shape a s.facts.blocks) (omega (arith, l, filled, none))
    ∙ sym (append-nil (joined shape a s.facts.blocks))
    ∙ ap (λ (k : ℕ). joined shape a s.facts.blocks ++ take k s.block) (sym none)

-- the blocks joined, with one more
joined_more : (shape : Shape) (flags : List Bool) (a b bytes : List ℕ) (s : StreamParts) (blocks : List ℕ) → AreHeld flags s.facts.blocks → Adds shape flags s.facts.blocks blocks bytes a b
    → joined shape b blocks ≡ joined shape a s.facts.blocks ++ bytes
joined_more shape flags a b bytes s blocks are adds =
    ap (joined shape b) adds.blocks
    ∙ flat_map-append (block_bytes shape b) s.facts.blocks (adds.block ∷ [])
    ∙ ap (λ (y : List ℕ). y ++ (block_bytes shape b adds.block ++ [])) (joined_other shape adds.block a b adds.others s.facts.blocks (not_held flags s.facts.blocks adds.block are adds.free))
    ∙ ap (λ (y : List ℕ). joined shape a s.facts.blocks ++ y) (append-nil (block_bytes shape b adds.block) ∙ adds.written)

pads : (x : List ℕ) (n : ℕ) → 4096 * blocks_for (length x) - length x ≡ n → padded x ≡ x ++ replicate n 0
pads x n is = ap (λ (k : ℕ). x ++ replicate k 0) is

-- nothing is padded where no bytes are left over
pub padded_whole : (shape : Shape) (flags : List Bool) (a : List ℕ) (s : StreamParts) → length flags ≡ shape.data_blocks → length a ≡ disk_length shape → AreHeld flags s.facts.blocks
    → s.facts.len % 4096 ≡ 0 → ClosesPadded shape s s.facts.blocks a a
padded_whole shape flags a s map long are none =
    let x = joined shape a s.facts.blocks in
    let l = length_joined shape flags a s.facts.blocks map long are in
    let full : x ++ take (s.facts.len % 4096) s.block ≡ x = ap (λ (k : ℕ). x ++ take k s.block) none ∙ append-nil x in
    sym (ap padded full ∙ pads x 0 (omega (arith, l)) ∙ append-nil x)

-- what is left over is padded with zeros
pub padded_part : (shape : Shape) (flags : List Bool) (a b bytes : List ℕ) (s : StreamParts) (blocks : List ℕ) → length flags ≡ shape.data_blocks → length a ≡ disk_length shape → AreHeld flags s.facts.blocks
    → s.facts.len % 4096 ≢ 0 → length s.block ≡ 4096 → Adds shape flags s.facts.blocks blocks bytes a b → bytes ≡ take (s.facts.len % 4096) s.block ++ replicate (length s.block - s.facts.len % 4096) 0 → ClosesPadded shape s blocks a b
padded_part shape flags a b bytes s blocks map long are over size adds is =
    let u = s.facts.len % 4096 in
    let x = joined shape a s.facts.blocks in
    let t = take u s.block in
    let l = length_joined shape flags a s.facts.blocks map long are in
    let some = length-take-le u s.block (omega (arith, size)) in
    let all = length-append x t in
    let gap : 4096 * blocks_for (length (x ++ t)) - length (x ++ t) ≡ length s.block - u = gap_is (length s.facts.blocks) u (length (x ++ t)) (length s.block) (omega (arith, l, some, all)) over (omega arith) size in
    joined_more shape flags a b bytes s blocks are adds
    ∙ ap (λ (y : List ℕ). x ++ y) is
    ∙ sym (append_assoc x t (replicate (length s.block - u) 0))
    ∙ sym (pads (x ++ t) (length s.block - u) gap)
  where
    gap_is : (m u n size : ℕ) → n ≡ 4096 * m + u → u ≢ 0 → u < 4096 → size ≡ 4096 → 4096 * blocks_for n - n ≡ size - u
    gap_is m u n size is over below long = omega arith

-- the last block holds what was left over, and zeros
pub closed_part : (shape : Shape) (flags : List Bool) (a b bytes : List ℕ) (s : StreamParts) (blocks : List ℕ) → length flags ≡ shape.data_blocks → length a ≡ disk_length shape → AreHeld flags s.facts.blocks
    → length s.facts.blocks ≡ s.facts.len / 4096 → length s.block ≡ 4096 → Adds shape flags s.facts.blocks blocks bytes a b → bytes ≡ take (s.facts.len % 4096) s.block ++ replicate (length s.block - s.facts.len % 4096) 0 → ClosesBytes shape s blocks a b
closed_part shape flags a b bytes s blocks map long are filled size adds padded =
    let u = s.facts.len % 4096 in
    let x = joined shape a s.facts.blocks in
    let l = length_joined shape flags a s.facts.blocks map long are in
    let all : joined shape b blocks ≡ x ++ bytes = joined_more shape flags a b bytes s blocks are adds in
    let e : s.facts.len ≡ length x + u = omega (arith, l, filled) in
    ap (take s.facts.len) all
    ∙ ap (λ (k : ℕ). take k (x ++ bytes)) e
    ∙ take_past x bytes u
    ∙ ap (λ (y : List ℕ). x ++ take u y) padded
    ∙ ap (λ (y : List ℕ). x ++ y) (take_at (take u s.block) (replicate (length s.block - u) 0) u (length-take-le u s.block (omega (arith, size))))

-- a fact, whatever is answered
pub always : {T E : Type 0} → (r : Result T E) (P : Type 0) → P → OnOk r P
always (Ok x) P holds = holds
always (Err e) P holds = tt

-- a stream of whole blocks is closed by a sync
pub sealed_whole : (free : ℕ) (s : StreamParts) (r : Result (Unit {0}) ArchiveFault) → s.facts.len % 4096 ≡ 0 → DiskReply r → ClosesStream free s r s
sealed_whole free s (Ok u) none reply = inl (none, refl)
sealed_whole free s (Err f) none reply = subst (λ (x : ArchiveFault). ClosesStream free s (Err x) s) (sym reply) (λ over. absurd (over none))

-- one whose last block was written
pub sealed_part : (free : ℕ) (s s' : StreamParts) (r : Result (Unit {0}) ArchiveFault) → s.facts.len % 4096 ≢ 0 → 0 < free → length s'.facts.blocks ≡ length s.facts.blocks + 1
    → case_from_parts s' ≡ case_from_parts (with_blocks s s'.facts.blocks) → DiskReply r → ClosesStream free s r s'
sealed_part free s s' (Ok u) over some more same reply = inr (over, some, more, same)
sealed_part free s s' (Err f) over some more same reply = subst (λ (x : ArchiveFault). ClosesStream free s (Err x) s') (sym reply) (λ _. some)
