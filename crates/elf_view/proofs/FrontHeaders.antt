-- The header and the program headers of a front.
use Rattle.std.proofs.Common.{◌≡◌, ℕ, zero, suc, ◌+◌, ◌*◌, ◌<◌, ◌≤◌, eqb, Bool, true, false, cond, List, [], ◌∷◌, map, take, length, refl, ap, ◌∙◌, subst, arith}
use Rattle.std.proofs.lemmas.Bool.{eqb-true}
use Rattle.elf_view.specs.Field.{field}
use Rattle.elf_view.specs.Header.{SegmentView, e_type, e_entry, e_flags, e_phnum, e_shoff, e_phoff, segment_count, segment_from, segment_at, segments_between, segments_of}
use Rattle.elf_view.specs.Sound.{IsHeaderWhole}
use Rattle.elf_view.specs.ViewWords.{header_of}
use Rattle.elf_view.specs.declared.view.Header.{Header}
use Rattle.elf_view.specs.Front.{headed}
use Rattle.elf_view.proofs.FrontFields.{field_in}

-- a field of the file header
pub of_header : (n : ℕ) (b : List ℕ) → IsHeaderWhole (take n b) → (p w : ℕ) → p + w ≤ 64 → field (take n b) p w ≡ field b p w
of_header n b whole p w h = let room = whole.header in field_in n b p w (omega arith)

count_by : (n : ℕ) (b : List ℕ) → (t : Bool) → (t ≡ true → e_shoff b + 64 ≤ length (take n b)) → cond t (field (take n b) (e_shoff b + 44) 4) (e_phnum b) ≡ cond t (field b (e_shoff b + 44) 4) (e_phnum b)
count_by n b true h = let room = h refl in field_in n b (e_shoff b + 44) 4 (omega arith)
count_by n b false h = refl

pub count_same : (n : ℕ) (b : List ℕ) → IsHeaderWhole (take n b) → segment_count (take n b) ≡ segment_count b
unfolding segment_count
count_same n b whole =
    let phnum = of_header n b whole 56 2 (omega arith) in
    let shoff = of_header n b whole 40 8 (omega arith) in
    let P : ℕ → Type 0 = λ k. k + 64 ≤ length (take n b) in
    let zero_in : eqb (e_phnum b) 65535 ≡ true → e_shoff b + 64 ≤ length (take n b) = λ is. subst P shoff (whole.section_zero (phnum ∙ eqb-true (e_phnum b) 65535 is)) in
    ap (λ k. cond (eqb k 65535) (field (take n b) (e_shoff (take n b) + 44) 4) k) phnum
    ∙ ap (λ k. cond (eqb (e_phnum b) 65535) (field (take n b) (k + 44) 4) (e_phnum b)) shoff
    ∙ count_by n b (eqb (e_phnum b) 65535) zero_in

-- the program header in the front at a place
make : ℕ → ℕ → ℕ → ℕ → ℕ → ℕ → SegmentView
make kind flags offset vaddr filesz memsz = record { kind = kind; flags = flags; offset = offset; vaddr = vaddr; filesz = filesz; memsz = memsz; bytes = [] }

pub headed_same : (n : ℕ) (b : List ℕ) (p : ℕ) → p + 56 ≤ length (take n b) → headed (segment_from (take n b) p) ≡ headed (segment_from b p)
unfolding segment_from make
headed_same n b p room =
    let f = take n b in
    ap (λ x. make x (field f (p + 4) 4) (field f (p + 8) 8) (field f (p + 16) 8) (field f (p + 32) 8) (field f (p + 40) 8)) (field_in n b p 4 (omega arith))
    ∙ ap (λ x. make (field b p 4) x (field f (p + 8) 8) (field f (p + 16) 8) (field f (p + 32) 8) (field f (p + 40) 8)) (field_in n b (p + 4) 4 (omega arith))
    ∙ ap (λ x. make (field b p 4) (field b (p + 4) 4) x (field f (p + 16) 8) (field f (p + 32) 8) (field f (p + 40) 8)) (field_in n b (p + 8) 8 (omega arith))
    ∙ ap (λ x. make (field b p 4) (field b (p + 4) 4) (field b (p + 8) 8) x (field f (p + 32) 8) (field f (p + 40) 8)) (field_in n b (p + 16) 8 (omega arith))
    ∙ ap (λ x. make (field b p 4) (field b (p + 4) 4) (field b (p + 8) 8) (field b (p + 16) 8) x (field f (p + 40) 8)) (field_in n b (p + 32) 8 (omega arith))
    ∙ ap (λ x. make (field b p 4) (field b (p + 4) 4) (field b (p + 8) 8) (field b (p + 16) 8) (field b (p + 32) 8) x) (field_in n b (p + 40) 8 (omega arith))

-- header i of the front, of those that are in it
pub headed_at : (n : ℕ) (b : List ℕ) (i : ℕ) → IsHeaderWhole (take n b) → e_phoff b + 56 * i + 56 ≤ length (take n b) → headed (segment_at (take n b) i) ≡ headed (segment_at b i)
headed_at n b i whole room =
    let phoff = of_header n b whole 32 8 (omega arith) in
    ap (λ k. headed (segment_from (take n b) (k + 56 * i))) phoff ∙ headed_same n b (e_phoff b + 56 * i) room

between : (n : ℕ) (b : List ℕ) (i k : ℕ) → IsHeaderWhole (take n b) → e_phoff b + 56 * (i + k) ≤ length (take n b) → map headed (segments_between (take n b) i k) ≡ map headed (segments_between b i k)
between n b i zero whole room = refl
between n b i (suc k) whole room =
    ap (λ s. s ∷ map headed (segments_between (take n b) (i + 1) k)) (headed_at n b i whole (omega arith))
    ∙ ap (λ ss. headed (segment_at b i) ∷ ss) (between n b (i + 1) k whole (omega arith))

-- where there are headers, the table is in the front
pub table_in : (n : ℕ) (b : List ℕ) → IsHeaderWhole (take n b) → 0 < segment_count b → e_phoff b + 56 * segment_count b ≤ length (take n b)
table_in n b whole some =
    let phoff = of_header n b whole 32 8 (omega arith) in
    let count = count_same n b whole in
    let P : ℕ → Type 0 = λ k. 0 < k → e_phoff (take n b) + 56 * k ≤ length (take n b) in
    let Q : ℕ → Type 0 = λ k. k + 56 * segment_count b ≤ length (take n b) in
    subst Q phoff (subst P count whole.table some)

all_headed : (n : ℕ) (b : List ℕ) (k : ℕ) → IsHeaderWhole (take n b) → (0 < k → e_phoff b + 56 * k ≤ length (take n b)) → map headed (segments_between (take n b) 0 k) ≡ map headed (segments_between b 0 k)
all_headed n b zero whole room = refl
all_headed n b (suc k) whole room = let fits = room (omega arith) in between n b 0 (suc k) whole (omega arith)

pub segments_same : (n : ℕ) (b : List ℕ) → IsHeaderWhole (take n b) → map headed (segments_of (take n b)) ≡ map headed (segments_of b)
segments_same n b whole =
    ap (λ k. map headed (segments_between (take n b) 0 k)) (count_same n b whole)
    ∙ all_headed n b (segment_count b) whole (table_in n b whole)

make_header : ℕ → ℕ → ℕ → ℕ → Header
make_header kind entry flags segments = record { kind = kind; entry = entry; flags = flags; segments = segments }

pub header_same : (n : ℕ) (b : List ℕ) → IsHeaderWhole (take n b) → header_of (take n b) ≡ header_of b
unfolding make_header
header_same n b whole =
    let f = take n b in
    ap (λ x. make_header x (e_entry f) (e_flags f) (segment_count f)) (of_header n b whole 16 2 (omega arith))
    ∙ ap (λ x. make_header (e_type b) x (e_flags f) (segment_count f)) (of_header n b whole 24 8 (omega arith))
    ∙ ap (λ x. make_header (e_type b) (e_entry b) x (segment_count f)) (of_header n b whole 48 4 (omega arith))
    ∙ ap (λ x. make_header (e_type b) (e_entry b) (e_flags b) x) (count_same n b whole)
