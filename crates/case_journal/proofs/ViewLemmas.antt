-- How reads show the bytes of a disk, part by part.
use Rattle.std.proofs.Common.{◌≡◌, ℕ, ◌+◌, ◌≤◌, Bool, false, cond, List, length, sym, ap, ◌∙◌, subst, arith, IsTrue, Result, Ok, Err, nat_lt}
use Rattle.std.proofs.lemmas.Bool.{le-ltb}
use Rattle.disk_model.specs.Places.{part, overwritten}
use Rattle.disk_model.specs.PlaceLaws.{overwritten_outside, overwritten_length}
use Rattle.disk_model.specs.PartLaws.{part_overwritten, part_before, same_all}
use Rattle.disk_model.specs.declared.disk.Disk as disk
use Rattle.journal_layout.specs.declared.shape.Shape.{Shape}
use Rattle.journal_layout.specs.declared.shape.Half.{Half}
use Rattle.journal_layout.specs.declared.shape.Half.TheVariants.{A, B}
use Rattle.journal_layout.specs.declared.faults.OpenFault.{OpenFault}
use Rattle.journal_layout.specs.declared.faults.OpenFault.TheVariants.{Disk, OutOfMemory, NotAnArchive, UnknownVersion, Damaged}
use Rattle.journal_layout.specs.Layout.{IsWithinLimits, half_start}
use Rattle.journal_layout.specs.Front.{Header, header_at, header_of_half, front_opening, halves_opening, headers_opening, taken_half, shape_opening}
use Rattle.case_journal.specs.declared.front.ArchiveFront.{ArchiveFront}
use Rattle.case_journal.specs.Viewing.{IsView, Shows, ShowsHeader, ShowsHeaders, ShowsShape, ShowsFront, ShapeGives, FrontIs, FrontGives}

-- a list with its own part written over it
own_part : (b into s : List ℕ) (at : ℕ) → at + length into ≤ length b → b ≡ s → into ≡ part s at (length into) → overwritten b at into ≡ s
own_part b into s at within is read =
    same_all at (length into) b (overwritten b at into) (overwritten_outside b at into within)
    (part_overwritten b at into within ∙ read ∙ ap (λ (x : List ℕ). part x at (length into)) (sym is))
    ∙ is

module _ {D : Type 0} (g : disk.Ghosts D) where
  -- a read
  pub shown_by : (old new : D) (at : ℕ) (into b : List ℕ) → IsView g old b → at + length into ≤ g.size old
      → (IsTrue (g.is_honest old) → into ≡ part (g.seen old) at (length into)) → (IsTrue (g.is_honest old) → g.seen new ≡ g.seen old)
      → g.is_honest new ≡ g.is_honest old → g.size new ≡ g.size old → Shows g new at into b
  shown_by old new at into b view within bytes seen honesty size =
      let long = view.long in record {
        shown = overwritten b at into;
        view = record {
          long = overwritten_length b at into (omega arith) ∙ long ∙ sym size;
          is = λ honest. let still = subst IsTrue honesty honest in own_part b into (g.seen old) at (omega arith) (view.is still) (bytes still) ∙ sym (seen still);
        };
        same = overwritten_outside b at into (omega arith);
        there = part_overwritten b at into (omega arith);
      }

  -- a half's header
  pub header_shown : (d : D) (s : Shape) (half : Half) (at : ℕ) (bytes b : List ℕ) (h : Header) → at ≡ half_start s half → length bytes ≡ 32
      → Shows g d at bytes b → h ≡ header_at bytes → ShowsHeader g d s half h b
  header_shown d s half at bytes b h place long shows is = record {
    shown = shows.shown;
    view = shows.view;
    same = (rw (← place, ← long) shows.same);
    there = ap header_at (ap (λ (k : ℕ). part shows.shown k 32) (sym place) ∙ ap (part shows.shown at) (sym long) ∙ shows.there) ∙ sym is;
  }

  -- both headers
  pub headers_shown : (mid new : D) (s : Shape) (first second : Header) (b : List ℕ) → IsWithinLimits s
      → (one : ShowsHeader g mid s A first b) → ShowsHeader g new s B second one.shown → ShowsHeaders g new s first second b
  headers_shown mid new s first second b limits one two =
      let some = limits.some_half in record {
        shown = two.shown;
        view = two.view;
        long = two.same.same_length ∙ one.same.same_length;
        superblock = part_before (half_start s B) 32 one.shown two.shown two.same 0 24 (omega arith)
            ∙ part_before (half_start s A) 32 b one.shown one.same 0 24 (omega arith);
        first_there = ap header_at (part_before (half_start s B) 32 one.shown two.shown two.same (half_start s A) 32 (omega arith)) ∙ one.there;
        second_there = two.there;
      }

  shape_given : (b : List ℕ) (r : Result Shape OpenFault) → nat_lt (length b) 4096 ≡ false → r ≡ shape_opening (length b) (part b 0 24) → ShapeGives r b
  shape_given b r long is = by_cases r is
    where
      whole : (r : Result Shape OpenFault) → r ≡ shape_opening (length b) (part b 0 24) → front_opening b ≡ halves_opening b r
      whole r is = ap (λ (t : Bool). cond t (Err NotAnArchive) (halves_opening b (shape_opening (length b) (part b 0 24)))) long ∙ ap (halves_opening b) (sym is)

      by_cases : (r : Result Shape OpenFault) → r ≡ shape_opening (length b) (part b 0 24) → ShapeGives r b
      by_cases (Ok s) is = (long, sym is)
      by_cases (Err Disk) is = tt
      by_cases (Err OutOfMemory) is = whole (Err OutOfMemory) is
      by_cases (Err NotAnArchive) is = whole (Err NotAnArchive) is
      by_cases (Err (UnknownVersion v)) is = whole (Err (UnknownVersion v)) is
      by_cases (Err (Damaged at which)) is = whole (Err (Damaged at which)) is

  -- the superblock
  pub shape_shown : (d : D) (bytes b : List ℕ) (size : ℕ) (r : Result Shape OpenFault) → size ≡ g.size d → 4096 ≤ size → length bytes ≡ 24
      → Shows g d 0 bytes b → r ≡ shape_opening size bytes → ShowsShape g d r b
  shape_shown d bytes b size r same enough long shows is =
      let l : length shows.shown ≡ size = shows.view.long ∙ sym same in
      let there : part shows.shown 0 24 ≡ bytes = ap (part shows.shown 0) (sym long) ∙ shows.there in record {
        shown = shows.shown;
        view = shows.view;
        gives = shape_given shows.shown r (le-ltb (length shows.shown) 4096 (omega arith))
            (is ∙ ap (λ (n : ℕ). shape_opening n bytes) (sym l) ∙ ap (shape_opening (length shows.shown)) (sym there));
      }

  front_given : (b : List ℕ) (s : Shape) (first second : Header) (r : Result ArchiveFront OpenFault)
      → front_opening b ≡ headers_opening s first second (taken_half s first second) → FrontIs s first second r → FrontGives r b
  front_given b s first second (Ok t) whole is = whole ∙ is
  front_given b s first second (Err Disk) whole is = tt
  front_given b s first second (Err OutOfMemory) whole is = whole ∙ is
  front_given b s first second (Err NotAnArchive) whole is = whole ∙ is
  front_given b s first second (Err (UnknownVersion v)) whole is = whole ∙ is
  front_given b s first second (Err (Damaged at which)) whole is = whole ∙ is

  -- the front
  pub front_shown : (mid new : D) (s : Shape) (first second : Header) (b : List ℕ) (r : Result ArchiveFront OpenFault)
      → (one : ShowsShape g mid (Ok s) b) → ShowsHeaders g new s first second one.shown → FrontIs s first second r → ShowsFront g new r b
  front_shown mid new s first second b r one two is = record {
    shown = two.shown;
    view = two.view;
    gives = front_given two.shown s first second r
        (ap (λ (n : ℕ). cond (nat_lt n 4096) (Err NotAnArchive) (halves_opening two.shown (shape_opening n (part two.shown 0 24)))) two.long
        ∙ ap (λ (t : Bool). cond t (Err NotAnArchive) (halves_opening two.shown (shape_opening (length one.shown) (part two.shown 0 24)))) one.gives.0
        ∙ ap (halves_opening two.shown) (ap (shape_opening (length one.shown)) two.superblock ∙ one.gives.1)
        ∙ ap (λ (h : Header). headers_opening s h (header_of_half s two.shown B) (taken_half s h (header_of_half s two.shown B))) two.first_there
        ∙ ap (λ (h : Header). headers_opening s first h (taken_half s first h)) two.second_there)
        is;
  }
