-- What holds of an archive's cases one by one, and of what is written of them.
use Rattle.std.proofs.Common.{◌≡◌, ℕ, ◌+◌, ◌-◌, ◌*◌, ◌<◌, ◌≤◌, Bool, true, false, List, [], ◌∷◌, ◌++◌, length, map, get_or, refl, sym, ap, ◌∙◌, subst, arith, IsTrue, Some, None}
use Rattle.std.specs.List.{All}
use Rattle.std.proofs.Math.ListN.{get_or-map}
use Rattle.std.proofs.lemmas.List.{length-map}
use Rattle.std.proofs.lemmas.List.Elements.{All-nil, All-cons, All-head, All-tail}
use Rattle.disk_model.specs.Places.{part, SameOutside}
use Rattle.disk_model.specs.PartLaws.{part_after}
use Rattle.disk_model.specs.Disk.{Only}
use Rattle.disk_model.specs.declared.disk.Disk as disk
use Rattle.extents.specs.RunLaws.{blocks_of_runs, runs_have_blocks}
use Rattle.extents.specs.Runs.{blocks_of, run_blocks, runs_of}
use Rattle.extents.specs.declared.run_list.Run.{Run}
use Rattle.case_journal.specs.Keeping.{DataIsApart}
use Rattle.intake.specs.Blocks.{joined}
use Rattle.intake.specs.Reading.{LieWithin}
use Rattle.journal_layout.specs.Case.{Case, case_of}
use Rattle.journal_layout.specs.Folding.{used_blocks}
use Rattle.journal_layout.specs.Front.{is_known}
use Rattle.journal_layout.specs.Layout.{data_start, half_length, half_start}
use Rattle.journal_layout.specs.Live.{AreLive, AreLabelled}
use Rattle.journal_layout.specs.Rewriting.{rewritten, snapshot_size}
use Rattle.journal_layout.specs.Soundness.{blocks_for, uses}
use Rattle.journal_layout.specs.SpareLaws.{uses-append, uses_within}
use Rattle.journal_layout.specs.Standing.{Standing, fresh}
use Rattle.journal_layout.specs.Stands.{Stands}
use Rattle.journal_layout.specs.declared.entry.Entry.{Entry}
use Rattle.journal_layout.specs.declared.shape.Half.TheVariants.{A, B}
use Rattle.journal_layout.specs.declared.shape.Shape.{Shape}
use Rattle.journal_snapshot.specs.ChangeLaws.{changed_cases, snapshot_bytes_are}
use Rattle.journal_snapshot.specs.Changing.{staying, added}
use Rattle.journal_snapshot.specs.Filling.{Fills}
use Rattle.journal_snapshot.specs.Halves.{IsWrittenAs}
use Rattle.journal_snapshot.specs.Holding.{Holds}
use Rattle.journal_snapshot.specs.Measuring.{AreShort, IsMeasure}
use Rattle.journal_snapshot.specs.declared.change.Change.TheVariants.{Nothing}
use Rattle.journal_snapshot.specs.declared.measure.Measure.{Measure}
use Rattle.journal_snapshot.specs.declared.target.Target.{Target}
use Rattle.archive_care.specs.Copied.{HoldsCopy, HoldsImages, copy_version}
use Rattle.archive_care.specs.Images.{AreWithin}
use Rattle.archive_care.specs.Placing.{AreWhole, placed}
use Rattle.archive_care.specs.Planning.{HasSpace, copied_cases, copied_size}
use Rattle.archive_care.proofs.PlaceLemmas.{live_placed, labelled_placed}

-- each image of live cases has as many blocks as its bytes need
pub live_whole : (limit next : ℕ) (es : List Entry) → AreLive limit (map case_of es) next → AreWhole es
live_whole limit next es live = λ k d below.
    let whole = live.each k (case_of d) (omega (arith, length-map es case_of, below)) in
    let same : get_or (map case_of es) k (case_of d) ≡ case_of (get_or es k d) = get_or-map case_of es k d in
    subst (λ (c : Case). length c.blocks ≡ blocks_for c.len) same whole.enough

-- and no more than an image may have
pub live_short : (limit next : ℕ) (es : List Entry) → AreLive limit (map case_of es) next → AreShort es
live_short limit next es live = λ k d below.
    let whole = live.each k (case_of d) (omega (arith, length-map es case_of, below)) in
    let same : (get_or (map case_of es) k (case_of d)).blocks ≡ (get_or es k d).runs = ap (λ (c : Case). c.blocks) (get_or-map case_of es k d) in
    omega (arith, ap length same, whole.enough, whole.bytes)

-- runs of blocks that are there are there
runs_within : (limit : ℕ) (rs : List Run) → All (λ (r : Run). 1 ≤ r.count) rs → ((k : ℕ) → 0 < uses k (blocks_of rs) → k < limit) → LieWithin limit rs
runs_within limit [] some within = All-nil (λ (r : Run). r.start + r.count ≤ limit)
runs_within limit (r ∷ rest) some within =
    let P : Run → Type 0 = λ x. x.start + x.count ≤ limit in
    let Q : Run → Type 0 = λ x. 1 ≤ x.count in
    let one = All-head Q r rest some in
    let k = r.start + r.count - 1 in
    let last = uses_within k r.start r.count (omega (arith, one)) (omega (arith, one)) in
    let low = within k (omega (arith, last, uses-append k (run_blocks r) (blocks_of rest))) in
    All-cons P r rest (omega (arith, low, one)) (runs_within limit rest (All-tail Q r rest some) (λ j there. within j (omega (arith, there, uses-append j (run_blocks r) (blocks_of rest)))))

entry_within : (limit : ℕ) (bs : List ℕ) → ((k : ℕ) → 0 < uses k bs → k < limit) → LieWithin limit (runs_of bs)
entry_within limit bs within =
    runs_within limit (runs_of bs) (runs_have_blocks bs) (subst (λ (l : List ℕ). (k : ℕ) → 0 < uses k l → k < limit) (sym (blocks_of_runs bs)) within)

entries_within : (limit : ℕ) (es : List Entry) → ((k : ℕ) → 0 < uses k (used_blocks (map case_of es)) → k < limit) → AreWithin limit es
entries_within limit [] within = All-nil (λ (e : Entry). LieWithin limit (runs_of e.runs))
entries_within limit (e ∷ rest) within =
    All-cons (λ (x : Entry). LieWithin limit (runs_of x.runs)) e rest
    (entry_within limit e.runs (λ k some. within k (omega (arith, some, uses-append k e.runs (used_blocks (map case_of rest))))))
    (entries_within limit rest (λ k some. within k (omega (arith, some, uses-append k e.runs (used_blocks (map case_of rest))))))

-- the images of live cases lie among the data blocks
pub live_within : (limit next : ℕ) (es : List Entry) → AreLive limit (map case_of es) next → AreWithin limit es
live_within limit next es live = entries_within limit es live.within

-- the records of the cases in their new places take so many bytes
pub measured_size : (version : ℕ) (s : Standing) (es : List Entry) (half : ℕ) (m : Measure) → map case_of es ≡ placed 0 s.cases → IsMeasure half Nothing es (Some m)
    → snapshot_size (copied_cases version s) + 1 ≤ half
measured_size version s es half m same measure = omega (arith, measure.0, measure.1, snapshot_bytes_are Nothing es (copied_cases version s) (sym same))

pub measured_over : (s : Standing) (es : List Entry) (half : ℕ) → map case_of es ≡ placed 0 s.cases → IsMeasure half Nothing es None → half < copied_size s + 1
measured_over s es half same over = omega (arith, over, snapshot_bytes_are Nothing es (copied_cases s.version s) (sym same))

-- an archive with no case, and the images in their places
pub holds_images : {N : Type 0} (h : disk.Ghosts N) (formatted copied settled : N) (from : List ℕ) (s : Standing) (own shape : Shape) (at : ℕ) (cases : List Case) → DataIsApart
    → cases ≡ s.cases → own ≡ s.shape → at ≡ data_start shape → Stands (h.seen formatted) (fresh shape A 1 1)
    → SameOutside at (4096 * length (used_blocks cases)) (h.seen formatted) (h.seen copied)
    → part (h.seen copied) at (4096 * length (used_blocks cases)) ≡ joined own from (used_blocks cases)
    → h.seen settled ≡ h.seen copied → Only (h.seen copied) (h.may_leave settled) → HoldsImages h settled from s shape
holds_images h formatted copied settled from s own shape at cases apart same_cases same_shape place stands others images seen only = record {
  stands = subst (λ (b : List ℕ). Stands b (fresh shape A 1 1)) (sym seen)
      (apart (fresh shape A 1 1) at (4096 * length (used_blocks cases)) (h.seen formatted) (h.seen copied) stands others (omega (arith, place))).0;
  settled = λ c may. only c may ∙ sym seen;
  images =
      ap (λ (b : List ℕ). part b (data_start shape) (4096 * length (used_blocks s.cases))) seen
      ∙ ap (λ (l : List Case). part (h.seen copied) (data_start shape) (4096 * length (used_blocks l))) (sym same_cases)
      ∙ ap (λ (p : ℕ). part (h.seen copied) p (4096 * length (used_blocks cases))) (sym place)
      ∙ images
      ∙ ap (λ (l : List Case). joined own from (used_blocks l)) same_cases
      ∙ ap (λ (x : Shape). joined x from (used_blocks s.cases)) same_shape;
}

-- it holds what a journal with no case holds
pub holds_fresh : {N : Type 0} (h : disk.Ghosts N) (onto : N) (from : List ℕ) (s : Standing) (shape : Shape) → HoldsImages h onto from s shape → Holds h onto (fresh shape A 1 1)
holds_fresh h onto from s shape images = record {
  stands = λ c may. subst (λ (b : List ℕ). Stands b (fresh shape A 1 1)) (sym (images.settled c may)) images.stands;
  front = λ c may. ap (λ (l : List ℕ). part l 0 (data_start shape)) (images.settled c may);
}

labels_in : (keeps : Bool) (version : ℕ) (cs : List Case) → AreLabelled version cs → AreLabelled (copy_version keeps version) (placed 0 cs)
labels_in true version cs labelled = λ other. absurd (other refl)
labels_in false version cs labelled = labelled_placed version cs labelled

-- what the records of a copy say may be written into its other half
pub written_as : (keeps : Bool) (s : Standing) (shape : Shape) (es : List Entry) (target : Target) (m : Measure) → AreLive s.shape.data_blocks s.cases s.next → AreLabelled s.version s.cases
    → HasSpace shape s → map case_of es ≡ placed 0 s.cases → IsMeasure (half_length shape) Nothing es (Some m)
    → target.start ≡ half_start shape B → target.version ≡ copy_version keeps s.version → is_known target.version ≡ true → target.generation ≡ 2 → target.next ≡ s.next
    → IsWrittenAs (fresh shape A 1 1) (copied_cases (copy_version keeps s.version) s) target Nothing es
written_as keeps s shape es target m live labels room same measure start version known generation next = record {
  place = start;
  version = version;
  generation = generation;
  next = next;
  cases = sym (changed_cases Nothing (copied_cases (copy_version keeps s.version) s)) ∙ ap (λ (l : List Case). staying Nothing l ++ added Nothing) (sym same);
  may = record {
    live = live_placed s.shape.data_blocks shape.data_blocks s.next s.cases live room;
    labels = labels_in keeps s.version s.cases labels;
    known = ap is_known (sym version) ∙ known;
    in_half = measured_size (copy_version keeps s.version) s es (half_length shape) m same measure;
    generation = omega arith;
  };
}

-- Once they are written, the images are still there.
pub holds_copy : {N : Type 0} (h : disk.Ghosts N) (images written : N) (from : List ℕ) (s : Standing) (shape : Shape) (version start half : ℕ) → IsTrue (h.is_honest images)
    → HoldsImages h images from s shape → HasSpace shape s → start ≡ half_start shape B → half ≡ half_length shape → Fills h images written start half
    → Holds h written (rewritten (fresh shape A 1 1) (copied_cases version s)) → (c : List ℕ) → h.may_leave written c → HoldsCopy from s shape version c
holds_copy h images written from s shape version start half honest there room starts halves fills holds c may =
    let left = fills.left honest c may in
    let same : SameOutside start half (h.seen images) c = subst (λ (b : List ℕ). SameOutside start half b c) (there.settled left.0 left.1) left.2 in
    record {
      stands = holds.stands c may;
      room = room;
      images = part_after start half (h.seen images) c same (data_start shape) (4096 * length (used_blocks s.cases)) (omega (arith, starts, halves)) ∙ there.images;
    }
