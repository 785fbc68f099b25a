-- What is read of a case between two looks at its archive.
use Rattle.std.proofs.Common.{◌≡◌, ◌∙◌, ◌&&◌, ℕ, Bool, true, false, cond, List, [], ◌∷◌, length, map, refl, sym, ap, subst, ⊎_elim, inl, inr, Option, None, Some, Result, Ok, Err, Vec, Global, IsTrue}
use Rattle.std.proofs.lemmas.Bool.{and_from, false≢true, true≢false}
use Rattle.std.proofs.lemmas.Bool.Decides.{eqb_tells}
use Rattle.std.specs.Prelude.{is_some}
use Rattle.std.specs.Io.KnownBytes.{Appends}
use Rattle.disk_model.specs.declared.disk.Disk as disk
use Rattle.inspector_cli.specs.Copying.{CopiesImage}
use Rattle.intake.specs.Blocks.{image_in}
use Rattle.intake.specs.Calls.{OpenCall}
use Rattle.intake.specs.Contents.{image_at}
use Rattle.intake.specs.Durable.{Durable, FoundCase, StandsFor, durable_of, durable_part, found_case, with_images}
use Rattle.intake.specs.InTurn.{ACaseIsThereBetween, IsBetween, StandsAs, last_state}
use Rattle.intake.specs.Lasting.{NumbersAreAbove}
use Rattle.intake.specs.Lives.{IsAmong}
use Rattle.intake.specs.Parts.{Parts, state_of, contents_of}
use Rattle.intake.specs.Ranges.{Locates, bytes_in}
use Rattle.intake.specs.declared.faults.ArchiveFault.TheVariants as archive
use Rattle.intake.specs.declared.ranges.ByteRange.{ByteRange}
use Rattle.journal_layout.specs.Case.{Case}
use Rattle.journal_layout.specs.Soundness.{case_numbered}
use Rattle.journal_layout.specs.Standing.{Standing}
use Rattle.journal_layout.specs.Stands.{Stands}
use Rattle.journal_layout.specs.declared.shape.Shape.{Shape}
use Rattle.shared_disk.specs.Meanwhile.{IsHeld}
use Rattle.shared_disk.specs.Steady.{are_steady}
use Rattle.shared_disk.specs.SteadyLaws.{steady_from}
use Rattle.shared_disk.specs.declared.shared.SharedDisk as shared
use Rattle.shared_disk.specs.Looks.{LooksAnew, ranges_of, under}
use Rattle.shared_disk.specs.declared.unlocked.Unlocked.{Unlocked}
use Rattle.archive_files.specs.UnlockedCopies.{CopiesSeen, CopiesUnlocked, LeavesThere, Meanwhile}
use Rattle.archive_files.specs.declared.unlocked_faults.UnlockedFault.{UnlockedFault}
use Rattle.archive_files.specs.declared.unlocked_faults.UnlockedFault.TheVariants as fault
use Rattle.inspector_cli.specs.declared.copying.CopyFault.{CopyFault}
use Rattle.archive_files.specs.UnlockedFinding.{FindsCase, FindsPlaces, has_number}
use Rattle.archive_files.specs.History.{HasNone, HoldsArchive, IsNumbered}

pub some_one : {X : Type 0} (a b : X) → Some a ≡ Some b → a ≡ b
some_one a b e = cc

-- a case by its number
pub is_found : (shape : Shape) (bytes : List ℕ) (cs : List Case) (seq : ℕ) (c : Case) → case_numbered seq cs ≡ Some c → IsAmong (map (found_case shape bytes) cs) (found_case shape bytes c) × (c.seq ≡ seq)
is_found shape bytes [] seq c at = absurd (let e : None ≡ Some c = at in cc)
is_found shape bytes (k ∷ ks) seq c at =
    ⊎_elim
    (λ h.
    (let here : k ≡ c = some_one k c (subst (λ (t : Bool). cond t (Some k) (case_numbered seq ks) ≡ Some c) h.0 at) in
    (inl (ap (found_case shape bytes) (sym here)), ap (λ (x : Case). x.seq) (sym here) ∙ h.1)))
    (λ h.
    (let more = is_found shape bytes ks seq c (subst (λ (t : Bool). cond t (Some k) (case_numbered seq ks) ≡ Some c) h.0 at) in
    (inr more.0, more.1)))
    (eqb_tells k.seq seq)

-- its image
image_among : (cases : List Case) (images : List (List ℕ)) (seq : ℕ) (image : List ℕ) → image_at seq cases images ≡ Some image → (c : FoundCase) × IsAmong (with_images cases images) c × (c.case.seq ≡ seq) × (c.image ≡ image)
image_among [] images seq image at = absurd (let e : None ≡ Some image = at in cc)
image_among (k ∷ ks) [] seq image at = absurd (let e : None ≡ Some image = at in cc)
image_among (k ∷ ks) (i ∷ is) seq image at =
    ⊎_elim
    (λ h.
    (record { case = k; image = i }, inl refl, h.1, some_one i image (subst (λ (t : Bool). cond t (Some i) (image_at seq ks is) ≡ Some image) h.0 at)))
    (λ h.
    (let more = image_among ks is seq image (subst (λ (t : Bool). cond t (Some i) (image_at seq ks is) ≡ Some image) h.0 at) in
    (more.0, inr more.1, more.2, more.3)))
    (eqb_tells k.seq seq)

pub first_between : (x : Durable) (ys : List Durable) → IsBetween x ys x
first_between x [] = refl
first_between x (y ∷ ys) = inl refl

pub stands_for : (shape : Shape) (b : List ℕ) (x : Durable) → StandsAs shape b x → StandsFor b x
stands_for shape b x s = record { standing = s.standing; stands = s.stands; is = s.is }

module _ {D : Type 0} (U : disk.Ghosts D) (before : D) (b : List ℕ) (shape : Shape) (x : Durable) (honest : IsTrue (U.is_honest before)) (seen : U.seen before ≡ b) (stands : StandsAs shape b x) where
  pub opened_stands : (a : Parts D) → OpenCall U 0 before (Ok a) → a.journal.standing ≡ stands.standing
  opened_stands a call = call.found stands.standing honest (subst (λ (l : List ℕ). Stands l stands.standing) (sym seen) stands.stands)

  pub opened_holds : (a : Parts D) → OpenCall U 0 before (Ok a) → durable_of U.seen a ≡ x
  opened_holds a call = call.found_again x honest (subst (λ (l : List ℕ). StandsFor l x) (sym seen) (stands_for shape b x stands))

  -- where its image lies, whatever the disk holds
  pub located : (a : Parts D) (seq : ℕ) (ranges : List ByteRange) → OpenCall U 0 before (Ok a) → (locates : Locates U a seq ranges)
      → (c : FoundCase) × IsNumbered x seq c × ((l : List ℕ) → length l ≡ U.size before → bytes_in l ranges ≡ image_in shape l c.case.blocks c.case.len) × (c.case ≡ locates.found)
  located a seq ranges call locates =
      let found = is_found a.journal.standing.shape (U.seen a.disk) a.journal.standing.cases seq locates.found locates.has.1 in (
        found_case a.journal.standing.shape (U.seen a.disk) locates.found,
        (subst (λ (y : Durable). IsAmong y.cases (found_case a.journal.standing.shape (U.seen a.disk) locates.found)) (opened_holds a call) found.0, found.1),
        λ l long. locates.places l (long ∙ sym call.size)
            ∙ ap (λ (s : Shape). image_in s l locates.found.blocks locates.found.len) (ap (λ (s : Standing). s.shape) (opened_stands a call) ∙ stands.shaped),
        refl,
      )

  copied_is : (seq : ℕ) (start taken : Option (List ℕ)) (count failures : ℕ) (u : Unit {0}) (after : D) → ((a : Parts D) → durable_of U.seen a ≡ durable_part (state_of a) (contents_of U.seen a))
      → CopiesImage U 0 seq before start taken count failures (Ok u) after → (c : FoundCase) × IsNumbered x seq c × Appends start taken c.image
  copied_is seq start taken count failures u after states copies =
      let real : IsTrue (U.is_honest copies.opened.disk) = copies.opening.honesty ∙ honest in
      let front = copies.goes.front real in
      let here = image_among (state_of copies.opened).cases (contents_of U.seen copies.opened).images seq front.0 front.1 in (
        here.0,
        (subst (λ (y : Durable). IsAmong y.cases here.0) (sym (states copies.opened) ∙ opened_holds copies.opened copies.opening) here.1, here.2),
        subst (Appends start taken) (front.2 ∙ sym here.3) copies.goes.appended,
      )

module _ {S : Type 0} (g : shared.Ghosts S) (s : S) (whole : IsTrue (g.is_honest s) → length (g.looked s) ≡ g.size s) (lists : (c : List ℕ) → IsTrue (g.is_honest s) → IsHeld (g.meanwhile s) c → length c ≡ g.size s)
    (numbers : NumbersAreAbove) (law : ACaseIsThereBetween) where
  -- nobody changes the ranges of a case that is there at both looks
  pub is_steady : (shape : Shape) (x : Durable) (ys : List Durable) (c d : FoundCase) (seq : ℕ) (ranges : List ByteRange) → IsTrue (g.is_honest s) → HoldsArchive g s shape x ys → IsNumbered x seq c → IsNumbered (last_state x ys) seq d
      → ((l : List ℕ) → length l ≡ g.size s → bytes_in l ranges ≡ image_in shape l c.case.blocks c.case.len) → are_steady ranges (g.looked s) (g.meanwhile s) ≡ true
  is_steady shape x ys c d seq ranges honest holds first last places =
      let both = law x ys c d (numbers (g.looked s) x (stands_for shape (g.looked s) x holds.first)) holds.turn first.0 last.0 (last.1 ∙ sym first.1) in
      let at_first = (both.1 x shape (g.looked s) (first_between x ys) holds.first).image in
      steady_from ranges (g.looked s) (g.meanwhile s)
      (λ l held.
      let at = holds.each l held in
      places l (lists l honest held) ∙ (both.1 at.0 shape l at.1 at.2).image ∙ sym at_first ∙ sym (places (g.looked s) (whole honest)))

  pub copied_between : (U : disk.Ghosts (Unlocked S g)) (first second : Unlocked S g) (seq : ℕ) (start taken : Option (List ℕ)) (count failures : ℕ) (ranges : Vec ByteRange Global) (u v : Unit {0}) (after : Unlocked S g)
      → (IsTrue (g.is_honest s) → IsTrue (U.is_honest first)) → (IsTrue (g.is_honest s) → are_steady ranges.items (g.looked s) (g.meanwhile s) ≡ true → IsTrue (U.is_honest second))
      → U.seen first ≡ g.looked s → U.seen second ≡ g.looked s → U.size first ≡ g.size s → ((a : Parts (Unlocked S g)) → durable_of U.seen a ≡ durable_part (state_of a) (contents_of U.seen a))
      → FindsPlaces U first seq (Ok ranges) → CopiesImage U 0 seq second start taken count failures (Ok u) after → LeavesThere g U s seq (Ok v)
      → Meanwhile g s (λ x ys. (c : FoundCase) × IsNumbered x seq c × Appends start taken c.image)
  copied_between U first second seq start taken count failures ranges u v after honest0 honest1 seen0 seen1 size0 states finds copies there shape x ys honest holds =
      let at = located U first (g.looked s) shape x (honest0 honest) seen0 holds.first finds.0 seq ranges.items finds.1 finds.2 in
      let again = there honest in
      let later = again.2 (last_state x ys) (stands_for shape again.0 (last_state x ys) (holds.last again.0 again.1)) in
      let steady = is_steady shape x ys at.0 later.0 seq ranges.items honest holds at.1 later.1 (λ l long. at.2 l (long ∙ sym size0)) in
      copied_is U second (g.looked s) shape x (honest1 honest steady) seen1 holds.first seq start taken count failures u after states copies

-- one that is there is found
pub numbered_there : {D : Type 0} (U : disk.Ghosts D) (before : D) (b : List ℕ) (x : Durable) (a : Parts D) (seq : ℕ) → IsTrue (U.is_honest before) → U.seen before ≡ b → OpenCall U 0 before (Ok a) → StandsFor b x → true ≡ has_number (state_of a) seq
    → (c : FoundCase) × IsNumbered x seq c
numbered_there U before b x a seq honest seen call stands there =
    let holds : durable_of U.seen a ≡ x = call.found_again x honest (subst (λ (l : List ℕ). StandsFor l x) (sym seen) stands) in
    let some = some_of_case (case_numbered seq a.journal.standing.cases) (with_running a.stopped (is_some (case_numbered seq a.journal.standing.cases)) there) in
    let found = is_found a.journal.standing.shape (U.seen a.disk) a.journal.standing.cases seq some.0 some.1 in
    (found_case a.journal.standing.shape (U.seen a.disk) some.0, (subst (λ (y : Durable). IsAmong y.cases (found_case a.journal.standing.shape (U.seen a.disk) some.0)) holds found.0, found.1))
  where
    with_running : (t u : Bool) → true ≡ cond t false u → true ≡ u
    with_running true u e = absurd (true≢false e)
    with_running false u e = e

    some_of_case : (o : Option Case) → true ≡ is_some o → (k : Case) × (o ≡ Some k)
    some_of_case None e = absurd (true≢false e)
    some_of_case (Some k) e = (k, refl)

-- one that is not there is not found
none_found : (shape : Shape) (bytes : List ℕ) (cs : List Case) (seq : ℕ) (c : FoundCase) → case_numbered seq cs ≡ None → IsAmong (map (found_case shape bytes) cs) c → c.case.seq ≡ seq → ⊥
none_found shape bytes [] seq c at among number = among
none_found shape bytes (k ∷ ks) seq c at among number =
    ⊎_elim
    (λ h. (let e : Some k ≡ None = subst (λ (t : Bool). cond t (Some k) (case_numbered seq ks) ≡ None) h.0 at in cc))
    (λ h.
    ⊎_elim
    (λ is. h.1 (sym (ap (λ (z : FoundCase). z.case.seq) is) ∙ number))
    (λ there. none_found shape bytes ks seq c (subst (λ (t : Bool). cond t (Some k) (case_numbered seq ks) ≡ None) h.0 at) there number)
    among)
    (eqb_tells k.seq seq)

pub numbered_nowhere : {D : Type 0} (U : disk.Ghosts D) (before : D) (b : List ℕ) (x : Durable) (a : Parts D) (seq : ℕ) → IsTrue (U.is_honest before) → U.seen before ≡ b → OpenCall U 0 before (Ok a) → StandsFor b x → a.stopped ≡ false → false ≡ has_number (state_of a) seq
    → HasNone x seq
numbered_nowhere U before b x a seq honest seen call stands runs there c numbered =
    let holds : durable_of U.seen a ≡ x = call.found_again x honest (subst (λ (l : List ℕ). StandsFor l x) (sym seen) stands) in
    none_found a.journal.standing.shape (U.seen a.disk) a.journal.standing.cases seq c
    (none_of (case_numbered seq a.journal.standing.cases) (there ∙ ap (λ (t : Bool). cond t false (is_some (case_numbered seq a.journal.standing.cases))) runs))
    (subst (λ (y : Durable). IsAmong y.cases c) (sym holds) numbered.0) numbered.1
  where
    none_of : (o : Option Case) → false ≡ is_some o → o ≡ None
    none_of None e = refl
    none_of (Some k) e = absurd (false≢true e)

module _ {S : Type 0} (g : shared.Ghosts S) where
  -- a disk between two looks is honest where the one that others change is, and nobody changes its ranges
  pub honest_with : (u : Unlocked S g) (s : S) (ranges : List ByteRange) → under u ≡ s → ranges_of u ≡ ranges → IsTrue (g.is_honest s) → are_steady ranges (g.looked s) (g.meanwhile s) ≡ true
      → (g.is_honest (under u) && are_steady (ranges_of u) (g.looked (under u)) (g.meanwhile (under u))) ≡ true
  honest_with u s ranges is same honest steady =
      and_from (g.is_honest (under u)) (are_steady (ranges_of u) (g.looked (under u)) (g.meanwhile (under u)))
      (ap g.is_honest is ∙ honest)
      (ap (λ (x : S). are_steady (ranges_of u) (g.looked x) (g.meanwhile x)) is ∙ ap (λ (rs : List ByteRange). are_steady rs (g.looked s) (g.meanwhile s)) same ∙ steady)

  -- where no place is found nothing was written
  pub refused_first : (U : disk.Ghosts (Unlocked S g)) (s : S) (first : Unlocked S g) (seq : ℕ) (taken : Option (List ℕ)) (count : ℕ) (e : UnlockedFault) → under first ≡ s → (IsTrue (g.is_honest s) → IsTrue (U.is_honest first)) → U.seen first ≡ g.looked s
      → FindsPlaces U first seq (Err e) → CopiesUnlocked g U s seq taken taken count count (Err e)
  refused_first U s first seq taken count (fault.Open f) is honest seen finds = (refl, refl, (first, is, finds.0, finds.1))
  refused_first U s first seq taken count (fault.Archive archive.NoCase) is honest seen finds = (
    refl,
    refl,
    λ shape x ys real holds c numbered.
        let is : durable_of U.seen finds.0 ≡ x = finds.1.found_again x (honest real) (subst (λ (l : List ℕ). StandsFor l x) (sym seen) (stands_for shape (g.looked s) x holds.first)) in
        none_found finds.0.journal.standing.shape (U.seen finds.0.disk) finds.0.journal.standing.cases seq c finds.2.1 (subst (λ (y : Durable). IsAmong y.cases c) (sym is) numbered.0) numbered.1,
  )
  refused_first U s first seq taken count (fault.Archive archive.OutOfMemory) is honest seen finds = (refl, refl)
  refused_first U s first seq taken count (fault.Archive archive.Stopped) is honest seen finds = absurd (true≢false (sym finds.2 ∙ finds.1.state.runs))
  refused_first U s first seq taken count (fault.Archive _) is honest seen finds = absurd finds.2
  refused_first U s first seq taken count _ is honest seen finds = absurd finds

  -- it could not be opened again
  pub not_opened : (U : disk.Ghosts (Unlocked S g)) (s t : S) (second : Unlocked S g) (seq : ℕ) (e : UnlockedFault) → LooksAnew g s t → under second ≡ t → FindsCase U second seq (Err e) → LeavesThere g U s seq (Err e)
  not_opened U s t second seq (fault.Reopen f) looks is finds = (t, looks, (second, is, finds.0, finds.1))
  not_opened U s t second seq _ looks is finds = absurd finds

  -- what a copy promises by what the next look tells
  pub by_look : (U : disk.Ghosts (Unlocked S g)) (s : S) (seq : ℕ) (start taken : Option (List ℕ)) (count failures : ℕ) (r : Result (Unit {0}) UnlockedFault) → CopiesSeen g U s seq start taken count failures (Ok tt) → LeavesThere g U s seq r
      → ((v : Unit {0}) → LeavesThere g U s seq (Ok v) → Meanwhile g s (λ x ys. (c : FoundCase) × IsNumbered x seq c × Appends start taken c.image)) → CopiesUnlocked g U s seq start taken count failures r
  by_look U s seq start taken count failures (Ok v) copies there whole = whole v there
  by_look U s seq start taken count failures (Err fault.Gone) copies there whole = (
    copies,
    λ shape x ys honest holds. (let again = there honest in again.2 (last_state x ys) (stands_for shape again.0 (last_state x ys) (holds.last again.0 again.1))),
  )
  by_look U s seq start taken count failures (Err (fault.Look f)) copies there whole = copies
  by_look U s seq start taken count failures (Err (fault.Reopen f)) copies there whole = (copies, there)
  by_look U s seq start taken count failures (Err _) copies there whole = absurd there

-- the same copy, by another name of its answer
pub as_answered : {D : Type 0} (U : disk.Ghosts D) (seq : ℕ) (second : D) (start taken : Option (List ℕ)) (count failures : ℕ) (r r' : Result (Unit {0}) CopyFault) (after : D) → CopiesImage U 0 seq second start taken count failures r after → r ≡ r'
    → CopiesImage U 0 seq second start taken count failures r' after
as_answered U seq second start taken count failures r r' after copies is = subst (λ (x : Result (Unit {0}) CopyFault). CopiesImage U 0 seq second start taken count failures x after) is copies
