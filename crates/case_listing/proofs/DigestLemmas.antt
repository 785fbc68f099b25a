-- The digest of an image between two looks at its archive.
use Rattle.std.proofs.Common.{◌≡◌, ◌∙◌, ◌&&◌, ℕ, Bool, true, false, cond, List, [], ◌∷◌, ◌++◌, length, map, refl, sym, ap, subst, ⊎_elim, inl, inr, Option, None, Some, Result, Ok, Err, IsTrue, arith}
use Rattle.std.proofs.lemmas.Bool.{and_from, true≢false}
use Rattle.std.proofs.lemmas.Bool.Decides.{eqb_tells}
use Rattle.disk_model.specs.declared.disk.Disk as disk
use Rattle.inspector_cli.specs.declared.copying.CopyFault.TheVariants as copy
use Rattle.intake.specs.Blocks.{image_in}
use Rattle.intake.specs.Calls.{OpenCall}
use Rattle.intake.specs.Durable.{Durable, FoundCase, StandsFor, durable_of, found_case}
use Rattle.intake.specs.InTurn.{ACaseIsThereBetween, IsBetween, StandsAs, last_state}
use Rattle.intake.specs.Lasting.{NumbersAreAbove}
use Rattle.intake.specs.Lives.{IsAmong}
use Rattle.intake.specs.Opened.{CaseReply}
use Rattle.intake.specs.Parts.{Parts, state_of}
use Rattle.intake.specs.Ranges.{AreWithin, Locates, RangesReply, bytes_in, count_in}
use Rattle.intake.specs.declared.faults.ArchiveFault.{ArchiveFault}
use Rattle.intake.specs.declared.faults.ArchiveFault.TheVariants as archive
use Rattle.intake.specs.declared.ranges.ByteRange.{ByteRange}
use Rattle.intake.specs.Step.{HasCase}
use Rattle.journal_layout.specs.Case.{Case, case_of}
use Rattle.journal_layout.specs.declared.entry.Entry.{Entry}
use Rattle.journal_layout.specs.Soundness.{case_numbered}
use Rattle.journal_layout.specs.Standing.{Standing}
use Rattle.journal_layout.specs.Stands.{Stands}
use Rattle.journal_layout.specs.declared.shape.Shape.{Shape}
use Rattle.sha2.specs.Sha256.{sha256}
use Rattle.shared_disk.specs.Looks.{ranges_of, under}
use Rattle.shared_disk.specs.Meanwhile.{EndsWith, IsHeld}
use Rattle.shared_disk.specs.Steady.{are_steady}
use Rattle.shared_disk.specs.SteadyLaws.{steady_from}
use Rattle.shared_disk.specs.declared.shared.SharedDisk as shared
use Rattle.shared_disk.specs.declared.unlocked.Unlocked.{Unlocked}
use Rattle.archive_files.specs.UnlockedCopies.{Meanwhile}
use Rattle.archive_files.specs.History.{HasEach, HasNone, HoldsArchive, IsNumbered, IsOneOf}
use Rattle.archive_files.specs.declared.unlocked_faults.UnlockedFault.{UnlockedFault}
use Rattle.archive_files.specs.declared.unlocked_faults.UnlockedFault.TheVariants as fault
use Rattle.case_listing.specs.Digests.{DigestsUnlocked, FindsImage, IsDigestOf, IsOfRanges, IsGone, IsReadStop, LeavesThere, StaysThere}
use Rattle.case_listing.specs.declared.digest_walk.Image.{Image}
use Rattle.case_listing.specs.declared.digest_walk.ImageDigest.{ImageDigest}
use Rattle.case_listing.proofs.HashLemmas.{bytes_long}

some_one : {X : Type 0} (a b : X) → Some a ≡ Some b → a ≡ b
some_one a b e = cc

-- a case by its number
is_found : (shape : Shape) (bytes : List ℕ) (cs : List Case) (seq : ℕ) (c : Case) → case_numbered seq cs ≡ Some c → IsAmong (map (found_case shape bytes) cs) (found_case shape bytes c) × (c.seq ≡ seq)
is_found shape bytes [] seq c at = absurd (let e : None ≡ Some c = at in cc)
is_found shape bytes (k ∷ ks) seq c at =
    ⊎_elim
    (λ h.
    (let here : k ≡ c = some_one k c (subst (λ (t : Bool). cond t (Some k) (case_numbered seq ks) ≡ Some c) h.0 at) in
    (inl (ap (found_case shape bytes) (sym here)), ap (λ (x : Case). x.seq) (sym here) ∙ h.1)))
    (λ h.
    (let more = is_found shape bytes ks seq c (subst (λ (t : Bool). cond t (Some k) (case_numbered seq ks) ≡ Some c) h.0 at) in
    (inr more.0, more.1)))
    (eqb_tells k.seq seq)

-- a number that no case has
none_found : (shape : Shape) (bytes : List ℕ) (cs : List Case) (seq : ℕ) (c : FoundCase) → case_numbered seq cs ≡ None → IsAmong (map (found_case shape bytes) cs) c → c.case.seq ≡ seq → ⊥
none_found shape bytes [] seq c at among number = among
none_found shape bytes (k ∷ ks) seq c at among number =
    ⊎_elim
    (λ h. (let e : Some k ≡ None = subst (λ (t : Bool). cond t (Some k) (case_numbered seq ks) ≡ None) h.0 at in cc))
    (λ h.
    ⊎_elim
    (λ is. h.1 (sym (ap (λ (z : FoundCase). z.case.seq) is) ∙ number))
    (λ there. none_found shape bytes ks seq c (subst (λ (t : Bool). cond t (Some k) (case_numbered seq ks) ≡ None) h.0 at) there number)
    among)
    (eqb_tells k.seq seq)

first_between : (x : Durable) (ys : List Durable) → IsBetween x ys x
first_between x [] = refl
first_between x (y ∷ ys) = inl refl

stands_for : (shape : Shape) (b : List ℕ) (x : Durable) → StandsAs shape b x → StandsFor b x
stands_for shape b x s = record { standing = s.standing; stands = s.stands; is = s.is }

module _ {D : Type 0} (U : disk.Ghosts D) (before : D) (b : List ℕ) (shape : Shape) (x : Durable) (honest : IsTrue (U.is_honest before)) (seen : U.seen before ≡ b) (stands : StandsAs shape b x) (a : Parts D) (call : OpenCall U 0 before (Ok a)) where
  opened_stands : a.journal.standing ≡ stands.standing
  opened_stands = call.found stands.standing honest (subst (λ (l : List ℕ). Stands l stands.standing) (sym seen) stands.stands)

  opened_holds : durable_of U.seen a ≡ x
  opened_holds = call.found_again x honest (subst (λ (l : List ℕ). StandsFor l x) (sym seen) (stands_for shape b x stands))

  -- where the image of a case lies, whatever the disk holds
  located : (seq : ℕ) (ranges : List ByteRange) → (locates : Locates U a seq ranges)
      → (c : FoundCase) × IsNumbered x seq c × ((l : List ℕ) → length l ≡ U.size before → bytes_in l ranges ≡ image_in shape l c.case.blocks c.case.len) × (c.case ≡ locates.found)
  located seq ranges locates =
      let found = is_found a.journal.standing.shape (U.seen a.disk) a.journal.standing.cases seq locates.found locates.has.1 in (
        found_case a.journal.standing.shape (U.seen a.disk) locates.found,
        (subst (λ (y : Durable). IsAmong y.cases (found_case a.journal.standing.shape (U.seen a.disk) locates.found)) opened_holds found.0, found.1),
        λ l long. locates.places l (long ∙ sym call.size)
            ∙ ap (λ (s : Shape). image_in s l locates.found.blocks locates.found.len) (ap (λ (s : Standing). s.shape) opened_stands ∙ stands.shaped),
        refl,
      )

  -- and none is where no case has the number
  missing : (seq : ℕ) → case_numbered seq (state_of a).cases ≡ None → HasNone x seq
  missing seq none c numbered =
      none_found a.journal.standing.shape (U.seen a.disk) a.journal.standing.cases seq c none (subst (λ (y : Durable). IsAmong y.cases c) (sym opened_holds) numbered.0) numbered.1

module _ {S : Type 0} (g : shared.Ghosts S) where
  -- a disk between two looks is honest where the one that others change is, and nobody changes its ranges
  pub honest_with : (u : Unlocked S g) (s : S) (ranges : List ByteRange) → under u ≡ s → ranges_of u ≡ ranges → IsTrue (g.is_honest s) → are_steady ranges (g.looked s) (g.meanwhile s) ≡ true
      → (g.is_honest (under u) && are_steady (ranges_of u) (g.looked (under u)) (g.meanwhile (under u))) ≡ true
  honest_with u s ranges is same honest steady =
      and_from (g.is_honest (under u)) (are_steady (ranges_of u) (g.looked (under u)) (g.meanwhile (under u)))
      (ap g.is_honest is ∙ honest)
      (ap (λ (x : S). are_steady (ranges_of u) (g.looked x) (g.meanwhile x)) is ∙ ap (λ (rs : List ByteRange). are_steady rs (g.looked s) (g.meanwhile s)) same ∙ steady)

  module _ (U : disk.Ghosts (Unlocked S g)) (s : S) (first : Unlocked S g) (is : under first ≡ s) (honestly : IsTrue (g.is_honest s) → IsTrue (U.is_honest first)) (seen : U.seen first ≡ g.looked s) where
    -- the image was not found
    pub refused_first : (seq : ℕ) (e : UnlockedFault) → FindsImage U first seq (Err e) → DigestsUnlocked g U s seq (Err e)
    refused_first seq (fault.Open f) finds = (first, is, finds.0, finds.1)
    refused_first seq (fault.Archive archive.NoCase) finds = λ shape x ys honest holds. missing U first (g.looked s) shape x (honestly honest) seen holds.first finds.0 finds.1 seq finds.2.1
    refused_first seq (fault.Archive archive.OutOfMemory) finds = tt
    refused_first seq (fault.Archive archive.Stopped) finds = absurd (true≢false (sym finds.2 ∙ finds.1.state.runs))
    refused_first seq (fault.Archive _) finds = absurd finds.2
    refused_first seq _ finds = absurd finds

    -- The image was found, read, and is there at the next look: nobody has changed its bytes.
    module _ (whole : IsTrue (g.is_honest s) → length (g.looked s) ≡ g.size s) (lists : (c : List ℕ) → IsTrue (g.is_honest s) → IsHeld (g.meanwhile s) c → length c ≡ g.size s) (numbers : NumbersAreAbove) (law : ACaseIsThereBetween)
        (size : U.size first ≡ g.size s) where
      pub digested : (seq : ℕ) (image : Image) (digest : ImageDigest) → FindsImage U first seq (Ok image) → IsOfRanges g s image.ranges.items image.length digest → StaysThere g s seq
          → DigestsUnlocked g U s seq (Ok digest)
      digested seq image digest finds read there shape x ys honest holds =
          let locates = finds.2.0 in
          let at = located U first (g.looked s) shape x (honestly honest) seen holds.first finds.0 finds.1 seq image.ranges.items locates in
          let again = there honest in
          let later = again.2 (last_state x ys) (stands_for shape again.0 (last_state x ys) (holds.last again.0 again.1)) in
          let both = law x ys at.0 later.0 (numbers (g.looked s) x (stands_for shape (g.looked s) x holds.first)) holds.turn at.1.0 later.1.0 (later.1.1 ∙ sym at.1.1) in
          let at_first : image_in shape (g.looked s) at.0.case.blocks at.0.case.len ≡ at.0.image = (both.1 x shape (g.looked s) (first_between x ys) holds.first).image in
          let bytes : bytes_in (g.looked s) image.ranges.items ≡ at.0.image = at.2 (g.looked s) (whole honest ∙ sym size) ∙ at_first in
          let steady : are_steady image.ranges.items (g.looked s) (g.meanwhile s) ≡ true =
          steady_from image.ranges.items (g.looked s) (g.meanwhile s)
          (λ l held.
          let moment = holds.each l held in
          at.2 l (lists l honest held ∙ sym size) ∙ (both.1 moment.0 shape l moment.1 moment.2).image ∙ sym bytes) in (
            at.0,
            at.1,
            (
              read.bytes honest steady ∙ ap sha256 bytes,
              read.count ∙ finds.2.1 ∙ sym locates.count
                  ∙ sym (bytes_long (g.looked s) (U.size finds.0.disk) image.ranges.items locates.within (whole honest ∙ sym size ∙ sym finds.1.size))
                  ∙ ap (λ (l : List ℕ). length l) bytes,
            ),
          )

-- a case that is not answered has no ranges
pub no_ranges : {D : Type 0} (U : disk.Ghosts D) (a : Parts D) (seq : ℕ) (f : ArchiveFault) → CaseReply a seq (Err f) → RangesReply U a seq (Err f)
no_ranges U a seq archive.Stopped reply = reply
no_ranges U a seq archive.NoCase reply = reply
no_ranges U a seq _ reply = absurd reply

-- one case is there, or is gone
pub one_there : {S : Type 0} (g : shared.Ghosts S) (s : S) (seq : ℕ) → (IsTrue (g.is_honest s) → (b : List ℕ) × EndsWith (g.meanwhile s) b × ((z : Durable) → StandsFor b z → HasEach z (seq ∷ []))) → StaysThere g s seq
one_there g s seq leaves honest = (let b = leaves honest in (b.0, b.1, λ z stands. (b.2 z stands).0))

pub one_gone : {S : Type 0} (g : shared.Ghosts S) (s : S) (seq n : ℕ) → IsOneOf (seq ∷ []) n → IsGone g s n → IsGone g s seq
one_gone g s seq n = ⊎_elim (λ is gone. subst (λ (k : ℕ). IsGone g s k) is gone) (λ none gone. absurd none)

module _ {S : Type 0} (g : shared.Ghosts S) (U : disk.Ghosts (Unlocked S g)) (s : S) (seq : ℕ) where
  -- the next look's refusal is that of the digest
  pub refused_last : (e : UnlockedFault) → LeavesThere g U s seq (Err e) → DigestsUnlocked g U s seq (Err e)
  refused_last fault.Gone leaves = λ shape x ys honest holds. (let again = leaves honest in again.2 (last_state x ys) (stands_for shape again.0 (last_state x ys) (holds.last again.0 again.1)))
  refused_last (fault.Look f) leaves = tt
  refused_last (fault.Reopen f) leaves = leaves
  refused_last _ leaves = absurd leaves

  -- and so is what stopped the reading
  pub refused_reading : (e : UnlockedFault) → IsReadStop e → DigestsUnlocked g U s seq (Err e)
  refused_reading (fault.Archive archive.OutOfMemory) stop = tt
  refused_reading (fault.Archive _) stop = absurd stop
  refused_reading (fault.Copy copy.Disk) stop = tt
  refused_reading (fault.Copy _) stop = absurd stop
  refused_reading _ stop = absurd stop

-- where the image of a case lies, and how long it is
pub has_image : {D : Type 0} (U : disk.Ghosts D) (a : Parts D) (seq : ℕ) (e : Entry) (ranges : List ByteRange) → HasCase (state_of a) seq (case_of e) → (locates : Locates U a seq ranges) → e.length ≡ locates.found.len
has_image U a seq e ranges has locates = ap (λ (c : Case). c.len) (some_one (case_of e) locates.found (sym has.1 ∙ locates.has.1))

-- all ranges that are given are lent
pub lent_all : (old given lent ranges : List ByteRange) → lent ≡ old ++ given → old ≡ [] → given ≡ ranges → lent ≡ ranges
lent_all old given lent ranges more none is = more ∙ ap (λ (l : List ByteRange). l ++ given) none ∙ is
