-- How the reads of an opening give the opening of a disk's bytes.
use Rattle.std.proofs.Common.{◌≡◌, inr, ℕ, ◌+◌, ◌-◌, Bool, true, false, List, length, replicate, refl, sym, ap, ◌∙◌, subst, arith, IsTrue, Result, Ok, Err, IfOk}
use Rattle.std.proofs.lemmas.List.{length-replicate}
use Rattle.disk_model.specs.Places.{part}
use Rattle.disk_model.specs.Disk.{Only}
use Rattle.disk_model.specs.PartLaws.{part_before}
use Rattle.disk_model.specs.declared.disk.Disk as disk
use Rattle.journal_layout.specs.declared.faults.OpenFault.{OpenFault}
use Rattle.journal_layout.specs.declared.faults.OpenFault.TheVariants.{Disk, OutOfMemory, NotAnArchive, UnknownVersion, Damaged}
use Rattle.journal_layout.specs.Layout.{disk_length, half_length, data_start}
use Rattle.journal_layout.specs.Case.{Case}
use Rattle.journal_layout.specs.Folding.{Folded, nothing_yet}
use Rattle.journal_layout.specs.Front.{front_opening}
use Rattle.journal_layout.specs.FrontLaws.{front_limits, front_same}
use Rattle.journal_layout.specs.ReadingLaws.{stands_once, stands_or_refused}
use Rattle.journal_layout.specs.LabelledLaws.{stands_labelled}
use Rattle.journal_layout.specs.Live.{AreLive, AreLabelled}
use Rattle.journal_layout.specs.LiveLaws.{stands_live}
use Rattle.journal_layout.specs.Standing.{Standing}
use Rattle.journal_layout.specs.Stands.{AreRead, AreFaulty, Stands, records_start, records_area}
use Rattle.journal_records.specs.Said.{SaysFaulty}
use Rattle.case_journal.specs.DoubtLaws.{settled_doubts}
use Rattle.case_journal.specs.declared.front.ArchiveFront.{ArchiveFront}
use Rattle.case_journal.specs.Journaled.{Journaled}
use Rattle.case_journal.specs.Keeping.{Keeps}
use Rattle.case_journal.specs.Opening.{journal_of}
use Rattle.case_journal.specs.declared.open.Opened.{Opened}
use Rattle.case_journal.specs.Viewing.{IsView, OnlyReads, Shows, ShowsFront, ShowsOpening, Gives, FindsStanding, front_view}
use Rattle.case_journal.proofs.StandLemmas.{headers_stay, half_low}

module _ {D : Type 0} (g : disk.Ghosts D) where
  -- the front and the records of the taken half, shown one after the other
  pub record IsShown (f : ArchiveFront) (bytes b : List ℕ) : Type 0 where
    pub front : front_opening b ≡ Ok (front_view f)
    pub area : records_area b f.shape f.half ≡ bytes

  pub both_shown : (mid new : D) (f : ArchiveFront) (bytes b : List ℕ) → (one : ShowsFront g mid (Ok f) b)
      → (two : Shows g new (records_start f.shape f.half) bytes one.shown) → length bytes ≡ half_length f.shape - 32 → IsShown f bytes two.shown
  both_shown mid new f bytes b one two long =
      let limits = front_limits one.shown (front_view f) one.gives in
      let some = limits.some_half in
      let low = half_low f.shape f.half in
      let headers = headers_stay f.shape f.half (records_start f.shape f.half) (length bytes) one.shown two.shown limits two.same (omega arith) (omega arith) in record {
        front = front_same one.shown two.shown (front_view f) one.gives two.same.same_length
            (part_before (records_start f.shape f.half) (length bytes) one.shown two.shown two.same 0 24 (omega arith)) headers.first headers.second;
        area = ap (part two.shown (records_start f.shape f.half)) (sym long) ∙ two.there;
      }

  -- a faulty record
  pub faulty_gives : (f : ArchiveFront) (bytes b : List ℕ) (at : ℕ) (fault : OpenFault) → IsShown f bytes b → at ≡ records_start f.shape f.half
      → SaysFaulty f.shape.data_blocks f.version at bytes fault → Gives (Err fault) b
  faulty_gives f bytes b at Disk shown place states = tt
  faulty_gives f bytes b at OutOfMemory shown place states = tt
  faulty_gives f bytes b at NotAnArchive shown place states = absurd states
  faulty_gives f bytes b at (UnknownVersion v) shown place states = absurd states
  faulty_gives f bytes b at (Damaged k which) shown place states =
      inr (
        front_view f,
        shown.front,
        subst (λ (x : List ℕ). AreFaulty f.shape.data_blocks (records_start f.shape f.half) x (nothing_yet f.version) (Damaged k which)) (sym shown.area)
            (subst (λ (p : ℕ). AreFaulty f.shape.data_blocks p bytes (nothing_yet f.version) (Damaged k which)) place states),
      )

  -- the records of a half whose front was read say this
  abbrev said : ArchiveFront → List Case → ℕ → Folded
  said f cases next = record { version = f.version; cases = cases; next = next }

  pub read_gives : (f : ArchiveFront) (bytes b : List ℕ) (cases : List Case) (next n used : ℕ) → IsShown f bytes b
      → AreRead f.shape.data_blocks bytes (nothing_yet f.version) (said f cases next) n → used ≡ 32 + n
      → Stands b (record { shape = f.shape; half = f.half; version = f.version; generation = f.generation; cases = cases; next = next; used = used })
  read_gives f bytes b cases next n used shown read is =
      let e : used - 32 ≡ n = omega arith in record {
        front = shown.front;
        header = omega arith;
        records = subst (λ (x : List ℕ). AreRead f.shape.data_blocks x (nothing_yet f.version) (said f cases next) (used - 32)) (sym shown.area)
            (subst (AreRead f.shape.data_blocks bytes (nothing_yet f.version) (said f cases next)) (sym e) read);
      }

  -- some list is a view of a disk
  not_honest : (d : D) → g.is_honest d ≡ false → IsTrue (g.is_honest d) → ⊥
  not_honest d e h = cc

  pub some_view : (d : D) → (IsTrue (g.is_honest d) → length (g.seen d) ≡ g.size d) → (b : List ℕ) × IsView g d b
  some_view d whole = by_cases (g.is_honest d) refl
    where
      by_cases : (t : Bool) → g.is_honest d ≡ t → (b : List ℕ) × IsView g d b
      by_cases true e = (g.seen d, record { long = whole e; is = λ honest. refl })
      by_cases false e = (replicate (g.size d) 0, record { long = length-replicate {A = ℕ} (g.size d) 0; is = λ honest. absurd (not_honest d e honest) })

  -- a view stays one over reads and syncs
  pub view_after : (old new : D) (b : List ℕ) → OnlyReads g old new → IsView g old b → IsView g new b
  view_after old new b quiet view = record {
    long = view.long ∙ sym quiet.size;
    is = λ honest. let still = subst IsTrue quiet.honesty honest in view.is still ∙ sym (quiet.seen still);
  }

  pub view_before : (old new : D) (b : List ℕ) → OnlyReads g old new → IsView g new b → IsView g old b
  view_before old new b quiet view = record {
    long = view.long ∙ quiet.size;
    is = λ honest. view.is (subst IsTrue (sym quiet.honesty) honest) ∙ quiet.seen honest;
  }

  -- what the bytes encode is found
  pub finds_by : (d : D) (r : Result Journaled OpenFault) (s : Standing) → IsTrue (g.is_honest d) → ShowsOpening g d r → Stands (g.seen d) s → FindsStanding r s
  finds_by d r s honest shows stands = found r shows.gives
    where
      there : Stands shows.shown s
      there = subst (λ (b : List ℕ). Stands b s) (sym (shows.view.is honest)) stands

      found : (r : Result Journaled OpenFault) → Gives r shows.shown → FindsStanding r s
      found (Ok j) gives = stands_once shows.shown j.standing s gives there
      found (Err Disk) gives = tt
      found (Err OutOfMemory) gives = tt
      found (Err NotAnArchive) gives = stands_or_refused shows.shown s NotAnArchive there gives
      found (Err (UnknownVersion v)) gives = stands_or_refused shows.shown s (UnknownVersion v) there gives
      found (Err (Damaged at which)) gives = stands_or_refused shows.shown s (Damaged at which) there gives

  -- the cases that are found are live
  pub live_by : (d : D) (r : Result Opened OpenFault) → ShowsOpening g d (journal_of r)
      → IfOk r (λ (o : Opened). AreLive o.journal.standing.shape.data_blocks o.journal.standing.cases o.journal.standing.next)
  live_by d (Ok o) shows = stands_live shows.shown o.journal.standing shows.gives
  live_by d (Err fault) shows = tt

  -- and only version 2 keeps labels
  pub labels_by : (d : D) (r : Result Opened OpenFault) → ShowsOpening g d (journal_of r)
      → IfOk r (λ (o : Opened). AreLabelled o.journal.standing.version o.journal.standing.cases)
  labels_by d (Ok o) shows = stands_labelled shows.shown o.journal.standing shows.gives
  labels_by d (Err fault) shows = tt

  -- and is what every crash leaves, once it was settled
  pub keeps_by : (old mid new : D) (r : Result Opened OpenFault) → OnlyReads g old mid → OnlyReads g mid new → (IsTrue (g.is_honest old) → Only (g.seen old) (g.may_leave mid))
      → ShowsOpening g old (journal_of r) → IfOk r (λ (o : Opened). g.size new ≡ disk_length o.journal.standing.shape) → IfOk r (λ (o : Opened). Keeps g new o.journal)
  keeps_by old mid new (Ok o) first second settled shows size =
      record {
        size = size;
        doubts = λ honest.
            let still : IsTrue (g.is_honest mid) = subst IsTrue second.honesty honest in
            let honest_old : IsTrue (g.is_honest old) = subst IsTrue first.honesty still in
            let seen : g.seen new ≡ g.seen old = second.seen still ∙ first.seen honest_old in
            settled_doubts g new o.journal.standing (subst (λ (b : List ℕ). Stands b o.journal.standing) (shows.view.is honest_old ∙ sym seen) shows.gives)
            (λ c now. settled honest_old c (second.crash still c now) ∙ sym seen);
        holds = λ runs honest.
            let still : IsTrue (g.is_honest mid) = subst IsTrue second.honesty honest in
            let honest_old : IsTrue (g.is_honest old) = subst IsTrue first.honesty still in
            let left : (c : List ℕ) → g.may_leave new c → c ≡ g.seen old = λ c now. settled honest_old c (second.crash still c now) in
            let seen : g.seen new ≡ g.seen old = second.seen still ∙ first.seen honest_old in
            record {
              stands = λ c now. subst (λ (b : List ℕ). Stands b o.journal.standing) (shows.view.is honest_old ∙ sym (left c now)) shows.gives;
              front = λ c now. ap (λ (b : List ℕ). part b 0 (data_start o.journal.standing.shape)) (left c now ∙ sym seen);
            };
      }
  keeps_by old mid new (Err fault) first second settled shows size = size
