-- The bytes of a part of an image, run by run.
use Rattle.std.proofs.Common.{◌≡◌, ℕ, zero, suc, ◌+◌, ◌-◌, ◌*◌, ◌<◌, ◌≤◌, min, List, [], ◌∷◌, ◌++◌, length, get_or, take, drop, refl, sym, ap, ◌∙◌, ⊎_elim, subst, arith, IsTrue, Bool, true, false, Result, Err}
use Rattle.std.proofs.lemmas.Bool.{cases_lt, false≢true}
use Rattle.std.proofs.lemmas.Grind.{flat_map-append}
use Rattle.std.proofs.lemmas.List.{take-take, take_all, drop_all, length-drop, length-take-le, drop-take}
use Rattle.std.proofs.lemmas.List.Elements.{All-get_or, All-take}
use Rattle.std.proofs.lemmas.Slice.{take-put_mid}
use borrow.Rule.Slice.PartMut.{put_mid}
use Rattle.disk_model.specs.Places.{part}
use Rattle.disk_model.specs.declared.disk.Disk as disk
use Rattle.extents.specs.RunLaws.{blocks_of_runs}
use Rattle.extents.specs.Runs.{run_blocks, blocks_of, runs_of}
use Rattle.extents.specs.declared.run_list.Run.{Run}
use Rattle.journal_layout.specs.Layout.{disk_length}
use Rattle.journal_layout.specs.declared.shape.Shape.{Shape}
use Rattle.case_journal.specs.Viewing.{OnlyReads}
use Rattle.intake.specs.Blocks.{block_bytes, joined, image_in}
use Rattle.intake.specs.QuietLaws.{quiet_none, quiet_then}
use Rattle.intake.specs.Reading.{LieWithin, LiesIn, IsReadFault}
use Rattle.intake.specs.declared.faults.ArchiveFault.{ArchiveFault}
use Rattle.intake.specs.declared.faults.ArchiveFault.TheVariants.{OutOfMemory, Disk}
use Rattle.intake.specs.Untouched.{RefusalSpares}
use Rattle.intake.proofs.RangeLemmas.{run_long, joined_long, take_over}
use Rattle.intake.proofs.ReadLemmas.{blocks_back, blocks_more, count_more}

-- no bytes are any part of no bytes
pub none_part : (xs b : List ℕ) (p : ℕ) → length xs ≡ 0 → xs ≡ part b p (length xs)
unfolding part
none_part [] b p none = refl
none_part (x ∷ xs) b p none = absurd (omega (arith, none))

pub part_unfolds : (b : List ℕ) (p n : ℕ) → part b p n ≡ take n (drop p b)
unfolding part
part_unfolds b p n = refl

-- a part of a front
pub part_of_front : (b : List ℕ) (p n len : ℕ) → p + n ≤ len → part (take len b) p n ≡ part b p n
unfolding part
part_of_front b p n len within =
    let e : len ≡ p + (len - p) = omega (arith, within) in
    ap (λ k. take n (drop p (take k b))) e ∙ ap (take n) (drop-take p (len - p) b) ∙ take-take n (len - p) (drop p b) (omega (arith, within))

none_dropped : (n : ℕ) → drop {A = ℕ} n [] ≡ []
none_dropped zero = refl
none_dropped (suc n) = refl

none_taken : (n : ℕ) → take {A = ℕ} n [] ≡ []
none_taken zero = refl
none_taken (suc n) = refl

-- what is left of two lists one behind the other
drop_over : (n : ℕ) (xs ys : List ℕ) → drop n (xs ++ ys) ≡ drop n xs ++ drop (n - length xs) ys
drop_over zero [] ys = refl
drop_over zero (x ∷ xs) ys = let e : 0 - suc (length xs) ≡ 0 = omega arith in ap (λ k. (x ∷ xs) ++ drop k ys) (sym e)
drop_over (suc n) [] ys = let e : suc n - 0 ≡ suc n = omega arith in ap (λ k. drop k ys) (sym e)
drop_over (suc n) (x ∷ xs) ys =
    let e : suc n - suc (length xs) ≡ n - length xs = omega arith in
    drop_over n xs ys ∙ ap (λ k. drop n xs ++ drop k ys) (sym e)

take_most : (n : ℕ) (xs : List ℕ) → take (min (length xs) n) xs ≡ take n xs
take_most n xs =
    ⊎_elim
    (λ below. let e : min (length xs) n ≡ length xs = omega arith in ap (λ k. take k xs) e ∙ take_all (length xs) xs (omega arith) ∙ sym (take_all n xs (omega arith)))
    (λ above. let e : min (length xs) n ≡ n = omega arith in ap (λ k. take k xs) e)
    (cases_lt (length xs) n)

drop_most : (n : ℕ) (xs : List ℕ) → drop (min n (length xs)) xs ≡ drop n xs
drop_most n xs =
    ⊎_elim
    (λ below. let e : min n (length xs) ≡ n = omega arith in ap (λ k. drop k xs) e)
    (λ above. let e : min n (length xs) ≡ length xs = omega arith in ap (λ k. drop k xs) e ∙ drop_all (length xs) xs (omega arith) ∙ sym (drop_all n xs (omega arith)))
    (cases_lt n (length xs))

-- a piece, cut to what its list has
piece : (skip m c : ℕ) (xs : List ℕ) → length xs ≡ c → take (min (c - min skip c) m) (drop (min skip c) xs) ≡ take m (drop skip xs)
piece skip m c xs long =
    ap (λ k. take (min (k - min skip k) m) (drop (min skip k) xs)) (sym long)
    ∙ ap (λ k. take (min k m) (drop (min skip (length xs)) xs)) (sym (length-drop (min skip (length xs)) xs))
    ∙ take_most m (drop (min skip (length xs)) xs)
    ∙ ap (take m) (drop_most skip xs)

module _ {D : Type 0} (g : disk.Ghosts D) where
  -- What the first i runs hold of the part is read, from a disk that was so at first.
  pub record PartIsRead (shape : Shape) (runs : List Run) (old now : D) (at n : ℕ) (into : List ℕ) (skip done i : ℕ) : Type 0 where
    pub skipped : skip ≡ at - 4096 * length (blocks_of (take i runs))
    pub place : done ≡ min n (4096 * length (blocks_of (take i runs)) - at)
    pub quiet : OnlyReads g old now
    pub later : g.failures old ≤ g.failures now
    pub bytes : IsTrue (g.is_honest old) → take done into ≡ take n (drop at (joined shape (g.seen old) (blocks_of (take i runs))))

  -- none at first
  pub none_part_read : (shape : Shape) (runs : List Run) (d : D) (at n : ℕ) (into : List ℕ) → ((c : List ℕ) → g.left_since d (g.clock d) c → g.may_leave d c) → PartIsRead shape runs d d at n into at 0 0
  none_part_read shape runs d at n into only = record {
    skipped = omega arith;
    place = omega arith;
    quiet = quiet_none g d only;
    later = omega arith;
    bytes = λ honest. sym (ap (take n) (none_dropped at) ∙ none_taken n);
  }

  -- one more
  pub one_more_part : (shape : Shape) (runs : List Run) (old mid new : D) (at n : ℕ) (into bytes : List ℕ) (skip done front size end i k : ℕ) (r : Run) → PartIsRead shape runs old mid at n into skip done i → i < length runs
      → LieWithin shape.data_blocks runs → (IsTrue (g.is_honest old) → length (g.seen old) ≡ disk_length shape) → done ≤ length into → front ≡ min skip (4096 * (get_or runs i r).count)
      → size ≡ min (4096 * (get_or runs i r).count - front) (n - done) → end ≡ done + size → length bytes ≡ size → OnlyReads g mid new → g.failures mid ≤ g.failures new
      → (IsTrue (g.is_honest mid) → bytes ≡ part (joined shape (g.seen mid) (run_blocks (get_or runs i r))) front size)
      → PartIsRead shape runs old new at n (put_mid done k into bytes) (skip - front) end (i + 1)
  one_more_part shape runs old mid new at n into bytes skip done front size end i k r so_far below within whole low fronts sizes ends long quiet later read = record {
    skipped = omega (arith, so_far.skipped, more, fronts);
    place = omega (arith, so_far.skipped, so_far.place, more, fronts, sizes, ends);
    quiet = quiet_then g old mid new so_far.quiet quiet;
    later = (let l = so_far.later in omega arith);
    bytes = λ honest.
        let still : IsTrue (g.is_honest mid) = subst IsTrue (sym so_far.quiet.honesty) honest in
        let held = joined shape (g.seen old) (blocks_of (take i runs)) in
        let here = joined shape (g.seen old) (run_blocks (get_or runs i r)) in
        let held_long : length held ≡ 4096 * length (blocks_of (take i runs)) = joined_long shape (g.seen old) (take i runs) (whole honest) (All-take (λ (x : Run). x.start + x.count ≤ shape.data_blocks) i runs within) in
        let here_long : length here ≡ 4096 * (get_or runs i r).count = run_long shape (g.seen old) (get_or runs i r) (whole honest) (All-get_or (λ (x : Run). x.start + x.count ≤ shape.data_blocks) runs i r below within) in
        let cut : min (4096 * (get_or runs i r).count - front) (n - done) ≡ min (4096 * (get_or runs i r).count - min skip (4096 * (get_or runs i r).count)) (n - length (drop at held)) =
        omega (arith, fronts, so_far.place, held_long, length-drop at held) in
        let rest : skip ≡ at - length held = omega (arith, so_far.skipped, held_long) in
        let got : bytes ≡ take (n - length (drop at held)) (drop (at - length held) here) =
        read still
        ∙ ap (λ (b : List ℕ). part (joined shape b (run_blocks (get_or runs i r))) front size) (so_far.quiet.seen honest)
        ∙ part_unfolds here front size
        ∙ ap (λ (s : ℕ). take s (drop front here)) (sizes ∙ cut)
        ∙ ap (λ (f : ℕ). take (min (4096 * (get_or runs i r).count - min skip (4096 * (get_or runs i r).count)) (n - length (drop at held))) (drop f here)) fronts
        ∙ piece skip (n - length (drop at held)) (4096 * (get_or runs i r).count) here here_long
        ∙ ap (λ (s : ℕ). take (n - length (drop at held)) (drop s here)) rest in
        take-put_mid done k into bytes end (omega (arith, ends, long)) low
        ∙ ap (λ (x : List ℕ). x ++ bytes) (so_far.bytes honest)
        ∙ ap (λ (x : List ℕ). take n (drop at held) ++ x) got
        ∙ sym (take_over n (drop at held) (drop (at - length held) here))
        ∙ ap (take n) (sym (drop_over at held here))
        ∙ ap (λ (x : List ℕ). take n (drop at x))
        (sym (ap (joined shape (g.seen old)) (blocks_more runs i r below) ∙ flat_map-append (block_bytes shape (g.seen old)) (blocks_of (take i runs)) (run_blocks (get_or runs i r))));
  }
    where
      more : length (blocks_of (take (i + 1) runs)) ≡ length (blocks_of (take i runs)) + (get_or runs i r).count
      more = count_more runs i r below

  -- and all at last
  pub all_part_read : (shape : Shape) (runs : List Run) (old now : D) (at n : ℕ) (into : List ℕ) (skip done i : ℕ) → PartIsRead shape runs old now at n into skip done i → length runs ≤ i → length into ≡ n
      → at + n ≤ 4096 * length (blocks_of runs) → IsTrue (g.is_honest old) → into ≡ part (joined shape (g.seen old) (blocks_of runs)) at n
  all_part_read shape runs old now at n into skip done i so_far past long room honest =
      let all : take i runs ≡ runs = take_all i runs past in
      let e = ap (λ (rs : List Run). length (blocks_of rs)) all in
      let held = joined shape (g.seen old) (blocks_of runs) in
      sym (take_all done into (omega (arith, so_far.place, e, room, long)))
      ∙ so_far.bytes honest
      ∙ ap (λ (rs : List Run). take n (drop at (joined shape (g.seen old) (blocks_of rs)))) all
      ∙ sym (part_unfolds held at n)

-- only the disk refuses a part
pub only_disk : (f : ArchiveFault) → f ≡ Disk → IsReadFault f
only_disk f is = subst IsReadFault (sym is) tt

abbrev is_memory : Result (Unit {0}) ArchiveFault → Bool
is_memory (Err OutOfMemory) = true
is_memory _ = false

pub not_memory : (f : ArchiveFault) → f ≡ Disk → ◌≡◌ {A = Result (Unit {0}) ArchiveFault} (Err f) (Err OutOfMemory) → ⊥
not_memory f is e = false≢true (sym (ap (λ (x : ArchiveFault). is_memory (Err x)) is) ∙ ap is_memory e)

pub disk_spares : {D : Type 0} (f : ArchiveFault) (old new : D) → f ≡ Disk → RefusalSpares {T = Unit {0}} (Err f) old new
disk_spares f old new is = subst (λ (x : ArchiveFault). RefusalSpares {T = Unit {0}} (Err x) old new) (sym is) tt

-- a part of an image is one of its blocks
pub part_fits : (limit at n len : ℕ) (runs : List Run) (blocks : List ℕ) → runs ≡ runs_of blocks → LiesIn limit blocks len → at + n ≤ len → at + n ≤ 4096 * length (blocks_of runs)
part_fits limit at n len runs blocks are lies within =
    let enough = lies.enough in
    omega (arith, enough, within, ap length (blocks_back runs blocks are))

pub part_in_image : (shape : Shape) (b : List ℕ) (at n len : ℕ) (runs : List Run) (blocks : List ℕ) → runs ≡ runs_of blocks → at + n ≤ len → part (joined shape b (blocks_of runs)) at n ≡ part (image_in shape b blocks len) at n
part_in_image shape b at n len runs blocks are within =
    ap (λ (bs : List ℕ). part (joined shape b bs) at n) (blocks_back runs blocks are)
    ∙ sym (part_of_front (joined shape b blocks) at n len within)

-- an image has its length
pub image_long : (shape : Shape) (b blocks : List ℕ) (len : ℕ) → length b ≡ disk_length shape → LiesIn shape.data_blocks blocks len → length (image_in shape b blocks len) ≡ len
image_long shape b blocks len whole lies =
    let enough = lies.enough in
    let P : List ℕ → Type 0 = λ bs. length (joined shape b bs) ≡ 4096 * length bs in
    let long = subst P (blocks_of_runs blocks) (joined_long shape b (runs_of blocks) whole lies.within) in
    length-take-le len (joined shape b blocks) (omega (arith, enough, long))
