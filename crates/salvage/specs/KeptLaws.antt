-- Laws of the copy of an archive whose opening is refused.
use Rattle.std.proofs.Common.{◌≡◌, inl, inr, ℕ, zero, suc, ◌+◌, ◌<◌, ◌≤◌, List, [], ◌∷◌, ◌++◌, length, take, get_or, refl, sym, ap, ◌∙◌, subst, arith, Option, None, Some}
use Rattle.disk_model.specs.Places.{part}
use Rattle.intake.specs.Blocks.{block_bytes, block_start, image_in, joined}
use Rattle.journal_layout.specs.Case.{Case}
use Rattle.journal_layout.specs.Layout.{data_start, half_length, half_start}
use Rattle.journal_layout.specs.ReadingLaws.{stands_once}
use Rattle.journal_layout.specs.Standing.{Standing}
use Rattle.journal_layout.specs.Stands.{Stands}
use Rattle.journal_layout.specs.declared.faults.OpenFault.{OpenFault}
use Rattle.journal_layout.specs.declared.shape.Half.{Half}
use Rattle.journal_layout.specs.declared.shape.Half.TheVariants.{A, B}
use Rattle.journal_layout.specs.declared.shape.Shape.{Shape}
use Rattle.salvage.specs.Records.{AreDrops, HasEachBut}
use Rattle.salvage.specs.declared.records.Dropped.{Dropped}
use Rattle.salvage.specs.declared.records.Fate.{Fate}
use Rattle.salvage.specs.declared.records.Fate.TheVariants.{Copied}
use Rattle.salvage.specs.declared.records.Read.{Read}
use Rattle.salvage.specs.Copying.{bytes_by, found_bytes}
use Rattle.salvage.specs.Finding.{StandsUntil, closes, gate_of}
use Rattle.salvage.specs.FrontLaws.{part_other}
use Rattle.salvage.specs.Fronts.{fronted}
use Rattle.salvage.specs.GateLaws.{closed_stands, gate_high, gate_within}
use Rattle.salvage.specs.Keeping.{AreGiven, KeepsCases, WhatIsSoundIsCopied, WhatOpensIsKept, WhatStandsIsKept}
use Rattle.salvage.specs.Noting.{AreNoted, KeepsNoted, greatest_copied, number_if}
use Rattle.salvage.specs.Readings.{IsMore, SeesCases, fault_by, first_fault}
use Rattle.salvage.specs.ShowLaws.{part_unpatched}
use Rattle.salvage.specs.Showing.{shown}
use Rattle.salvage.specs.Shut.{shut_gate}
use Rattle.salvage.specs.declared.cases_found.Found.{Found}
use Rattle.salvage.specs.declared.cases_found.More.{More}
use Rattle.salvage.specs.declared.shown.Patch.{Patch}

-- the data blocks are the same
abbrev IsDataSame : Shape → List ℕ → List ℕ → Type 0
IsDataSame shape b c = (p n : ℕ) → data_start shape ≤ p → part c p n ≡ part b p n

joined_same : (shape : Shape) (b c : List ℕ) → IsDataSame shape b c → (blocks : List ℕ) → joined shape c blocks ≡ joined shape b blocks
joined_same shape b c same [] = refl
joined_same shape b c same (k ∷ rest) =
    ap (λ (l : List ℕ). l ++ joined shape c rest) (same (block_start shape k) 4096 (omega arith))
    ∙ ap (λ (l : List ℕ). block_bytes shape b k ++ l) (joined_same shape b c same rest)

images_same : (shape : Shape) (b c : List ℕ) → IsDataSame shape b c → (blocks : List ℕ) (len : ℕ) → image_in shape c blocks len ≡ image_in shape b blocks len
images_same shape b c same blocks len = ap (take len) (joined_same shape b c same blocks)

before_data : (shape : Shape) (half : Half) (g : ℕ) → g < half_start shape half + half_length shape → g < data_start shape
before_data shape A g high = omega (arith, high)
before_data shape B g high = omega (arith, high)

-- no case that is copied has a greater number
copied_below : (reads : List Read) (k : ℕ) (r : Read) → k < length reads → get_or reads k r ≡ r → r.fate ≡ Copied → r.entry.seq ≤ greatest_copied reads
copied_below [] k r low is copied = absurd (omega (arith, low))
copied_below (x ∷ xs) zero r low is copied =
    let number : number_if x.fate x.entry.seq ≡ r.entry.seq = ap (λ (y : Read). number_if y.fate y.entry.seq) is ∙ ap (λ (f : Fate). number_if f r.entry.seq) copied in
    omega (arith, number)
copied_below (x ∷ xs) (suc k) r low is copied = let below = copied_below xs k r (omega (arith, low)) is copied in omega (arith, below)

-- so no number is given again
given : (bytes : List ℕ) (reads : List Read) (next : ℕ) → greatest_copied reads < next → (cases : List Case) → AreNoted bytes reads cases
    → (k : ℕ) (c : Case) → k < length cases → get_or cases k c ≡ c → c.seq < next
given bytes reads next above [] noted k c low is = absurd (omega (arith, low))
given bytes reads next above (x ∷ xs) ((r, (i, inside, there), by), rest) zero c low is =
    let below = copied_below reads i r inside there by.fate in
    let same : r.entry.seq ≡ c.seq = by.same.seq ∙ ap (λ (y : Case). y.seq) is in
    omega (arith, below, same, above)
given bytes reads next above (x ∷ xs) (one, rest) (suc k) c low is = given bytes reads next above xs rest k c (omega (arith, low)) is

all_given : (bytes : List ℕ) (first s : Standing) (reads : List Read) (bound : ℕ) → KeepsNoted bytes first reads bound s → AreGiven s
all_given bytes first s reads bound kept c (k, low, is) = given bytes reads s.next (omega (arith, kept.next)) s.cases kept.cases k c low is

-- the records that are read after the first fault have the cases that precede it
more_kept : (b : List ℕ) (first s : Standing) (drops : List Dropped) (reads : List Read) (bound : ℕ) (m : More) → first ≡ s
    → AreDrops (part b 0 (data_start first.shape)) drops → IsMore b first drops reads bound m → KeepsCases b (fronted m.front.items b) s
more_kept b first s drops reads bound m is there it =
    let front : length m.front.items ≡ data_start s.shape = it.front ∙ ap (λ (u : Standing). data_start u.shape) is in
    record {
      drops = drops;
      dropped = subst (λ (u : Standing). AreDrops (part b 0 (data_start u.shape)) drops) is there;
      standing = m.journal.standing;
      stands = it.stands;
      shape = it.shape ∙ ap (λ (u : Standing). u.shape) is;
      each = inr (subst (λ (u : Standing). HasEachBut drops m.journal.standing.cases u.cases) is it.each);
      fresh = inr (all_given (part b 0 (data_start first.shape)) first m.journal.standing reads bound it.noted);
      images = images_same s.shape b (fronted m.front.items b) (λ p n behind. part_other m.front.items b p n (omega (arith, front, behind)));
    }

module _ (b : List ℕ) (f : Found) (s : Standing) (fault : OpenFault) (sees : SeesCases b f) (until : StandsUntil b s fault) where
  patch_is : f.sight.patch ≡ closes (gate_of s)
  patch_is = (sees.sees.until s fault until).1

  first_is : f.first.standing ≡ s
  first_is =
      stands_once (shown (closes (gate_of s)) b) f.first.standing s
      (subst (λ (p : Option Patch). Stands (shown p b) f.first.standing) patch_is sees.first) (closed_stands b s fault until)

  closed_kept : KeepsCases b (shown f.sight.patch b) s
  closed_kept =
      subst (λ (p : Option Patch). KeepsCases b (shown p b) s) (sym patch_is)
      (record {
        drops = [];
        dropped = tt;
        standing = s;
        stands = closed_stands b s fault until;
        shape = refl;
        each = inl refl;
        fresh = inl refl;
        images = images_same s.shape b (shown (closes (gate_of s)) b)
            (λ p n behind. part_unpatched b (gate_of s) 0 p n (gate_within b s fault until)
            (inr (omega (arith, behind, before_data s.shape s.half (gate_of s) (gate_high b s fault until)))));
      })

  by_reading : (o : Option More) → f.more ≡ o → KeepsCases b (bytes_by o f.sight b) s
  by_reading None is = closed_kept
  by_reading (Some m) is = let more = sees.more m is in more_kept b f.first.standing s f.scan.drops.items f.scan.reads.items more.0.bound m first_is sees.drops more.2

-- the cases that stand before the first bad record are kept
pub what_stands_is_kept : WhatStandsIsKept
what_stands_is_kept b f s fault sees until = by_reading b f s fault sees until f.more refl

module _ (b : List ℕ) (f : Found) (s : Standing) (sees : SeesCases b f) (stands : Stands b s) where
  faultless : f.sight.fault ≡ None
  faultless = (sees.sees.sound s stands).0

  unpatched : f.sight.patch ≡ None
  unpatched = (sees.sees.sound s stands).1

  first_found : f.first.standing ≡ s
  first_found = stands_once b f.first.standing s (subst (λ (p : Option Patch). Stands (shown p b) f.first.standing) unpatched sees.first) stands

  itself_kept : KeepsCases b (shown f.sight.patch b) s
  itself_kept =
      subst (λ (p : Option Patch). KeepsCases b (shown p b) s) (sym unpatched)
      (record { drops = []; dropped = tt; standing = s; stands = stands; shape = refl; each = inl refl; fresh = inl refl; images = λ blocks len. refl })

  opening_kept : (o : Option More) → f.more ≡ o → KeepsCases b (bytes_by o f.sight b) s
  opening_kept None is = itself_kept
  opening_kept (Some m) is = let more = sees.more m is in more_kept b f.first.standing s f.scan.drops.items f.scan.reads.items more.0.bound m first_found sees.drops more.2

  module _ (sound : shut_gate b s ≡ None) where
    unshut : f.shut ≡ None
    unshut = sees.shut s stands ∙ sound

    nothing_at_fault : first_fault f ≡ None
    nothing_at_fault = ap (fault_by f.sight.fault) unshut ∙ faultless

    itself_copied : found_bytes f b ≡ b
    itself_copied =
        ap (λ (o : Option More). bytes_by o f.sight b) (sees.sound nothing_at_fault)
        ∙ ap (λ (p : Option Patch). shown p b) unpatched

-- the cases of an archive that opens are kept
pub what_opens_is_kept : WhatOpensIsKept
what_opens_is_kept b f s sees stands = opening_kept b f s sees stands f.more refl

-- and it is copied as it is if no gate of it is damaged
pub what_is_sound_is_copied : WhatIsSoundIsCopied
what_is_sound_is_copied b f s sees stands sound = (itself_copied b f s sees stands sound, nothing_at_fault b f s sees stands sound)
