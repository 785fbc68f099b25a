-- What is found of images between two looks.
use Rattle.std.proofs.Common.{◌≡◌, ◌∙◌, ◌<◌, ◌+◌, ◌++◌, ◌&&◌, ℕ, true, List, [], ◌∷◌, length, map, take, slice_index_or, refl, sym, ap, subst, Ok, IsTrue}
use Rattle.std.proofs.lemmas.List.{map-append, take_more}
use Rattle.disk_model.specs.declared.disk.Disk as disk
use Rattle.intake.specs.Calls.{OpenCall}
use Rattle.intake.specs.InTurn.{ACaseIsThereBetween}
use Rattle.intake.specs.Lasting.{NumbersAreAbove}
use Rattle.intake.specs.Parts.{Parts, state_of}
use Rattle.intake.specs.Ranges.{Locates, bytes_in}
use Rattle.intake.specs.Step.{HasCase}
use Rattle.intake.specs.declared.ranges.ByteRange.{ByteRange}
use Rattle.journal_layout.specs.Case.{Case, Origin, case_of}
use Rattle.journal_layout.specs.declared.entry.Entry.{Entry}
use Rattle.journal_layout.specs.declared.entry.Kind.{Kind}
use Rattle.shared_disk.specs.Meanwhile.{IsHeld}
use Rattle.shared_disk.specs.Looks.{ranges_of, under}
use Rattle.shared_disk.specs.Steady.{are_steady}
use Rattle.shared_disk.specs.declared.shared.SharedDisk as shared
use Rattle.shared_disk.specs.declared.unlocked.Unlocked.{Unlocked}
use Rattle.archive_checks.specs.Verdicts.{verdict_of}
use Rattle.archive_checks.specs.declared.verdict.Verdict.{Verdict}
use Rattle.archive_files.specs.UnlockedChecks.{IsSeen}
use Rattle.archive_files.specs.UnlockedImages.{AreSeen, IsRead}
use Rattle.archive_files.specs.declared.unlocked_images.SeenCase.{SeenCase}
use Rattle.archive_files.proofs.UnlockedCopyLemmas.{first_between, honest_with, is_steady, located, some_one, stands_for}

-- one case more
seen_more : (P : ℕ → Verdict → Type 0) (cs : List Case) (vs : List SeenCase) (c : Case) (v : SeenCase) → AreSeen P cs vs → v.seq ≡ c.seq → P c.seq v.verdict → AreSeen P (cs ++ c ∷ []) (vs ++ v ∷ [])
seen_more P [] [] c v so_far is here = (is, here, tt)
seen_more P [] (w ∷ ws) c v so_far is here = absurd so_far
seen_more P (b ∷ bs) [] c v so_far is here = absurd so_far
seen_more P (b ∷ bs) (w ∷ ws) c v so_far is here = (so_far.0, so_far.1, seen_more P bs ws c v so_far.2 is here)

-- the next entry
pub seen_next : (P : ℕ → Verdict → Type 0) (es : List Entry) (i : ℕ) (e : Entry) (vs ws : List SeenCase) (verdict : Verdict) → i < length es → e ≡ slice_index_or es i e → AreSeen P (map case_of (take i es)) vs → P e.seq verdict
    → ws ≡ vs ++ record { seq = e.seq; verdict = verdict } ∷ [] → AreSeen P (map case_of (take (i + 1) es)) ws
seen_next P es i e vs ws verdict below is so_far here pushed =
    let more : take (i + 1) es ≡ take i es ++ e ∷ [] = take_more es i e below ∙ ap (λ (x : Entry). take i es ++ x ∷ []) (sym is) in
    let cases : map case_of (take (i + 1) es) ≡ map case_of (take i es) ++ case_of e ∷ [] = ap (map case_of) more ∙ map-append case_of (take i es) (e ∷ []) in
    subst (AreSeen P (map case_of (take (i + 1) es))) (sym pushed)
    (subst (λ (cs : List Case). AreSeen P cs (vs ++ record { seq = e.seq; verdict = verdict } ∷ [])) (sym cases)
    (seen_more P (map case_of (take i es)) vs (case_of e) (record { seq = e.seq; verdict = verdict }) so_far refl here))

-- what holds of one that was seen so holds of each
pub seen_as : (P Q : ℕ → Verdict → Type 0) → ((seq : ℕ) (verdict : Verdict) → P seq verdict → Q seq verdict) → (cs : List Case) (vs : List SeenCase) → AreSeen P cs vs → AreSeen Q cs vs
seen_as P Q f [] [] seen = tt
seen_as P Q f [] (v ∷ vs) seen = absurd seen
seen_as P Q f (c ∷ cs) [] seen = absurd seen
seen_as P Q f (c ∷ cs) (v ∷ vs) seen = (seen.0, f c.seq v.verdict seen.1, seen_as P Q f cs vs seen.2)

-- all ranges that are given are lent
pub lent_all : (old given lent ranges : List ByteRange) → lent ≡ old ++ given → old ≡ [] → given ≡ ranges → lent ≡ ranges
lent_all old given lent ranges more none is = more ∙ ap (λ (l : List ByteRange). l ++ given) none ∙ is

-- the bytes that are read are those of these ranges
pub bytes_are : (b image got : List ℕ) (given ranges : List ByteRange) → image ≡ got → got ≡ bytes_in b given → given ≡ ranges → image ≡ bytes_in b ranges
bytes_are b image got given ranges first read is = first ∙ read ∙ ap (bytes_in b) is

-- the bytes of a case's image are read, and this is found of them
pub is_read : {S : Type 0} {D : Type 0} (g : shared.Ghosts S) (U : disk.Ghosts D) (s : S) (a : Parts D) (seq : ℕ) (e : Entry) (ranges : List ByteRange) (u : Unlocked S g) (image : List ℕ) (verdict : Verdict) → HasCase (state_of a) seq (case_of e)
    → Locates U a seq ranges → under u ≡ s → ranges_of u ≡ ranges
    → ((g.is_honest (under u) && are_steady (ranges_of u) (g.looked (under u)) (g.meanwhile (under u))) ≡ true → image ≡ bytes_in (g.looked (under u)) ranges) → verdict ≡ verdict_of e.kind image → IsRead g U s a seq verdict
is_read g U s a seq e ranges u image verdict has locates is same reads found = record {
  ranges = ranges;
  locates = locates;
  is = λ honest steady.
      let one : case_of e ≡ locates.found = some_one (case_of e) locates.found (sym has.1 ∙ locates.has.1) in
      found
      ∙ ap (λ (k : Kind). verdict_of k image) (ap (λ (c : Case). c.origin.kind) one)
      ∙ ap (verdict_of locates.found.origin.kind) (reads (honest_with g u s ranges is same honest steady) ∙ ap (λ (x : _). bytes_in (g.looked x) ranges) is);
}

module _ {S : Type 0} (g : shared.Ghosts S) (s : S) (whole : IsTrue (g.is_honest s) → length (g.looked s) ≡ g.size s) (lists : (c : List ℕ) → IsTrue (g.is_honest s) → IsHeld (g.meanwhile s) c → length c ≡ g.size s)
    (numbers : NumbersAreAbove) (law : ACaseIsThereBetween) {D : Type 0} (U : disk.Ghosts D) (first : D) (honest0 : IsTrue (g.is_honest s) → IsTrue (U.is_honest first)) (seen0 : U.seen first ≡ g.looked s) (size0 : U.size first ≡ g.size s)
    (a : Parts D) (call : OpenCall U 0 first (Ok a)) where
  -- what is found of the bytes of a case that is there at both looks is found of its image
  pub seen_of_read : (seq : ℕ) (verdict : Verdict) → IsRead g U s a seq verdict → IsSeen g s seq verdict
  seen_of_read seq verdict read shape x ys honest holds later =
      let at = located U first (g.looked s) shape x (honest0 honest) seen0 holds.first a seq read.ranges call read.locates in
      let above = numbers (g.looked s) x (stands_for shape (g.looked s) x holds.first) in
      let steady = is_steady g s whole lists numbers law shape x ys at.0 later.0 seq read.ranges honest holds at.1 later.1 (λ l long. at.2 l (long ∙ sym size0)) in
      let both = law x ys at.0 later.0 above holds.turn at.1.0 later.1.0 (later.1.1 ∙ sym at.1.1) in
      let image : bytes_in (g.looked s) read.ranges ≡ at.0.image =
      at.2 (g.looked s) (whole honest ∙ sym size0) ∙ (both.1 x shape (g.looked s) (first_between x ys) holds.first).image in (
        (at.0, at.1),
        λ f numbered.
            let same = (law x [] at.0 f above tt at.1.0 numbered.0 (numbered.1 ∙ sym at.1.1)).0 in
            read.is honest steady
            ∙ ap (verdict_of read.locates.found.origin.kind) (image ∙ sym same.image)
            ∙ ap (λ (c : Case). verdict_of c.origin.kind f.image) (sym at.3)
            ∙ ap (λ (o : Origin). verdict_of o.kind f.image) (sym same.origin),
      )
