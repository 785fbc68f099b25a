-- What is written anew of an open journal.
use Rattle.std.proofs.Common.{◌≡◌, inl, inr, ◌+◌, ◌<◌, ◌≤◌, ◌^◌, ◌*◌, ◌∙◌, ◌++◌, ℕ, List, Some, true, Ok, Err, ⊎_elim, map, length, get_or, sym, ap, subst, arith, append_assoc}
use Rattle.std.proofs.Math.ListN.{get_or-map}
use Rattle.std.proofs.Math.Seq.{take-append_seam}
use Rattle.std.proofs.lemmas.List.{length-map, length-append}
use Rattle.std.specs.Prelude.{take}
use Rattle.journal_layout.specs.declared.entry.Entry.{Entry}
use Rattle.disk_model.specs.Places.{part}
use Rattle.disk_model.specs.PartLaws.{part_part}
use Rattle.disk_model.specs.declared.disk.Disk as disk
use Rattle.journal_layout.specs.declared.shape.Shape.{Shape}
use Rattle.journal_layout.specs.declared.shape.Half.{Half}
use Rattle.journal_layout.specs.declared.shape.Half.TheVariants.{A, B}
use Rattle.journal_layout.specs.Layout.{half_header, half_start, half_length}
use Rattle.journal_layout.specs.Front.{is_known}
use Rattle.journal_layout.specs.Case.{Case, case_of}
use Rattle.journal_layout.specs.Folding.{Folded}
use Rattle.journal_layout.specs.Live.{AreLive, AreLabelled}
use Rattle.journal_layout.specs.Standing.{Standing, folded_of}
use Rattle.journal_layout.specs.Rewriting.{other_half, other_start, snapshot_size}
use Rattle.journal_snapshot.specs.declared.change.Change.{Change}
use Rattle.journal_snapshot.specs.declared.measure.Measure.{Measure}
use Rattle.journal_snapshot.specs.declared.target.Target.{Target}
use Rattle.journal_snapshot.specs.Changing.{changed, staying, added}
use Rattle.journal_snapshot.specs.ChangeLaws.{changed_cases, snapshot_bytes_are}
use Rattle.journal_snapshot.specs.Filling.{Fills}
use Rattle.journal_snapshot.specs.FillLaws.{fills_wider}
use Rattle.journal_snapshot.specs.HalfLaws.{header_length}
use Rattle.journal_snapshot.specs.Measuring.{AreShort, IsMeasure, snapshot_bytes}
use Rattle.journal_snapshot.specs.Halves.{IsWrittenAs}
use Rattle.case_journal.specs.declared.compacting.JournalEnd.{JournalEnd}
use Rattle.case_journal.specs.Journaled.{Journaled}
use Rattle.case_journal.specs.Compacting.{SnapshotFits, SnapshotStep, MeasuresSnapshot, IsWriteAnswer}
use Rattle.case_journal.specs.declared.faults.JournalFault.{JournalFault}
use Rattle.case_journal.specs.declared.faults.JournalFault.TheVariants.{Stopped, JournalFull, NumbersSpent, OutOfMemory, Disk, OldVersion}

-- the image of a live case lies in no more blocks than an image may have
pub live_short : (limit next : ℕ) (es : List Entry) → AreLive limit (map case_of es) next → AreShort es
live_short limit next es live = λ k d below.
    let whole = live.each k (case_of d) (omega (arith, length-map es case_of, below)) in
    let same : (get_or (map case_of es) k (case_of d)).blocks ≡ (get_or es k d).runs = ap (λ (c : Case). c.blocks) (get_or-map case_of es k d) in
    omega (arith, ap length same, whole.enough, whole.bytes)

-- what a change makes of the entries may be written into the other half
pub written_as : (s : Standing) (ch : Change) (es : List Entry) (target : Target) (m : Measure) → s.cases ≡ map case_of es
    → target.start ≡ other_start s → target.version ≡ (changed ch (folded_of s)).version → target.generation ≡ s.generation + 1 → target.next ≡ (changed ch (folded_of s)).next
    → IsMeasure (half_length s.shape) ch es (Some m) → s.generation + 1 < 2 ^ 64 → is_known target.version ≡ true → AreLive s.shape.data_blocks (changed ch (folded_of s)).cases (changed ch (folded_of s)).next
    → AreLabelled (changed ch (folded_of s)).version (changed ch (folded_of s)).cases → IsWrittenAs s (changed ch (folded_of s)) target ch es
written_as s ch es target m same place version generation next measure left known live labels = record {
  place = place;
  version = version;
  generation = generation;
  next = next;
  cases = sym (changed_cases ch (folded_of s)) ∙ ap (λ (l : List Case). staying ch l ++ added ch) same;
  may = record {
    live = live;
    labels = labels;
    known = ap is_known (sym version) ∙ known;
    in_half = omega (arith, measure.0, measure.1, snapshot_bytes_are ch es (folded_of s) same);
    generation = left;
  };
}

-- What a change makes of a journal over these entries is written into its other half.
module _ (s : Standing) (ch : Change) (es : List Entry) (same : s.cases ≡ map case_of es) where
  abbrev f : Folded
  f = changed ch (folded_of s)

  size_is : (m : Measure) → MeasuresSnapshot s.shape s.generation ch es (Ok m) → m.used ≡ snapshot_size f
  size_is m found = found.0.0 ∙ snapshot_bytes_are ch es (folded_of s) same

  fits_after : (m : Measure) → MeasuresSnapshot s.shape s.generation ch es (Ok m) → SnapshotFits s f
  fits_after m found = (omega (arith, size_is m found, found.0.1), found.1)

  -- no room is found
  pub fit_refused : (e : JournalFault) → MeasuresSnapshot s.shape s.generation ch es (Err e) → SnapshotStep s f (Err e)
  fit_refused JournalFull found =
      let size : snapshot_bytes ch es ≡ snapshot_size f = snapshot_bytes_are ch es (folded_of s) same in
      ⊎_elim (λ low. inl (omega (arith, low, size))) (λ last. inr last) found
  fit_refused Stopped found = absurd found
  fit_refused NumbersSpent found = absurd found
  fit_refused OutOfMemory found = absurd found
  fit_refused Disk found = absurd found
  fit_refused OldVersion found = absurd found

  -- the write is refused
  pub write_refused : (e : JournalFault) (m : Measure) → MeasuresSnapshot s.shape s.generation ch es (Ok m) → IsWriteAnswer (Err e) → SnapshotStep s f (Err e)
  write_refused OutOfMemory m found answer = fits_after m found
  write_refused Disk m found answer = fits_after m found
  write_refused Stopped m found answer = absurd answer
  write_refused JournalFull m found answer = absurd answer
  write_refused NumbersSpent m found answer = absurd answer
  write_refused OldVersion m found answer = absurd answer

  -- it is written
  pub write_done : (p : JournalEnd) (m : Measure) → p ≡ record { half = other_half s.half; generation = s.generation + 1; used = m.used } → MeasuresSnapshot s.shape s.generation ch es (Ok m) → SnapshotStep s f (Ok p)
  write_done p m is found = (fits_after m found, is ∙ ap (λ (n : ℕ). record { half = other_half s.half; generation = s.generation + 1; used = n }) (size_is m found))

-- a half lies in the halves
pub in_halves : (shape : Shape) (half : Half) → (4096 ≤ half_start shape half) × (half_start shape half + half_length shape ≤ 4096 + 2 * half_length shape)
in_halves shape A = (omega arith, omega arith)
in_halves shape B = (omega arith, omega arith)

pub half_fills : {D : Type 0} (g : disk.Ghosts D) (old new : D) (shape : Shape) (half : Half) (start : ℕ) → start ≡ half_start shape half → Fills g old new start (half_length shape) → Fills g old new 4096 (2 * half_length shape)
half_fills g old new shape half start is fills =
    let within = in_halves shape half in
    fills_wider g start (half_length shape) 4096 (2 * half_length shape) old new (omega (arith, within.0, is)) (omega (arith, within.1, is)) fills

-- the same, where the journal is seen as another name has it
pub anew : (raw now : Journaled) (ch : Change) (es : List Entry) (target : Target) (m : Measure) → raw ≡ now → raw.standing.cases ≡ map case_of es
    → target.start ≡ other_start now.standing → target.version ≡ (changed ch (folded_of now.standing)).version → target.generation ≡ now.standing.generation + 1
    → target.next ≡ (changed ch (folded_of now.standing)).next
    → MeasuresSnapshot raw.standing.shape raw.standing.generation ch es (Ok m) → is_known target.version ≡ true
    → AreLive now.standing.shape.data_blocks (changed ch (folded_of now.standing)).cases (changed ch (folded_of now.standing)).next
    → AreLabelled (changed ch (folded_of now.standing)).version (changed ch (folded_of now.standing)).cases
    → IsWrittenAs now.standing (changed ch (folded_of now.standing)) target ch es
anew raw now ch es target m is same place version generation next found known live labels =
    let found' : MeasuresSnapshot now.standing.shape now.standing.generation ch es (Ok m) = subst (λ (x : Journaled). MeasuresSnapshot x.standing.shape x.standing.generation ch es (Ok m)) is found in
    written_as now.standing ch es target m (subst (λ (x : Journaled). x.standing.cases ≡ map case_of es) is same) place version generation next found'.0 found'.1 known live labels

front_is : (h rest all : List ℕ) → length h ≡ 31 → all ≡ h ++ rest → part all 0 31 ≡ h
unfolding part
front_is h rest all long is = ap (λ (l : List ℕ). take 31 l) is ∙ ap (λ (n : ℕ). take n (h ++ rest)) (sym long) ∙ take-append_seam h rest

-- the header is at the front of what is written
pub header_there : (b : List ℕ) (p version generation : ℕ) (xs ys zs : List ℕ) → part b p (length (((half_header version generation ++ xs) ++ ys) ++ zs)) ≡ ((half_header version generation ++ xs) ++ ys) ++ zs
    → part b p 31 ≡ half_header version generation
header_there b p version generation xs ys zs there =
    let h = half_header version generation in
    let long : length (((h ++ xs) ++ ys) ++ zs) ≡ 31 + length (xs ++ (ys ++ zs)) =
    ap length (append_assoc (h ++ xs) ys zs ∙ append_assoc h xs (ys ++ zs)) ∙ length-append h (xs ++ (ys ++ zs)) ∙ ap (λ (n : ℕ). n + length (xs ++ (ys ++ zs))) (header_length version generation) in
    ap (λ (q : ℕ). part b q 31) (zero_more p)
    ∙ sym (part_part b p (length (((h ++ xs) ++ ys) ++ zs)) 0 31 (omega (arith, long)))
    ∙ ap (λ (l : List ℕ). part l 0 31) there
    ∙ front_is h (xs ++ (ys ++ zs)) (((h ++ xs) ++ ys) ++ zs) (header_length version generation) (append_assoc (h ++ xs) ys zs ∙ append_assoc h xs (ys ++ zs))
  where
    zero_more : (n : ℕ) → n ≡ n + 0
    zero_more n = omega arith
