-- An image, piece by piece, out of its archive.
use Rattle.std.proofs.Common.{◌≡◌, Bool, true, false, OnOk, inl, ℕ, ◌+◌, ◌-◌, ◌<◌, ◌≤◌, List, [], ◌∷◌, ◌++◌, length, get_or, take, drop, refl, sym, ap, ◌∙◌, subst, arith, append_assoc, IsTrue, Option, Ok, Err, Result}
use Rattle.std.specs.Io.KnownBytes.{Appends}
use Rattle.std.proofs.lemmas.Bool.{false≢true}
use Rattle.std.proofs.lemmas.Grind.{flat_map-append}
use Rattle.std.proofs.lemmas.List.{append-nil, take_more, take_all, take-append-drop}
use Rattle.disk_model.specs.Disk.{HasRisen, Elapses}
use Rattle.disk_model.specs.MomentLaws.{stays}
use Rattle.diagnostics.specs.CountLaws.{risen_since}
use Rattle.disk_model.specs.PartLaws.{part_is, part_split}
use Rattle.disk_model.specs.Places.{part}
use Rattle.disk_model.specs.declared.disk.Disk as disk
use Rattle.case_journal.specs.Viewing.{OnlyReads}
use Rattle.intake.specs.QuietLaws.{quiet_none, quiet_then}
use Rattle.intake.specs.Ranges.{bytes_in}
use Rattle.intake.specs.declared.ranges.ByteRange.{ByteRange}
use Rattle.script_streams.specs.Replies.{Printing}
use Rattle.script_streams.specs.Printing.{Sink, IsDelivered}
use Rattle.script_streams.specs.declared.streams.StreamFault.{StreamFault}
use Rattle.script_streams.specs.PrintLaws.{prints_nothing, prints_then}
use Rattle.intake.specs.Calls.{OpenCall}
use Rattle.intake.specs.Durable.{durable_of}
use Rattle.intake.specs.Parts.{Parts}
use Rattle.inspector_cli.specs.Copying.{Copies, IsFrontOf, CopyEnds, CopiesImage}
use Rattle.inspector_cli.specs.Life.{OpensThen}
use Rattle.inspector_cli.specs.declared.copying.CopyFault.{CopyFault}
use Rattle.inspector_cli.specs.declared.copying.CopyFault.TheVariants as fault
use Rattle.inspector_cli.specs.declared.copying.Halt.{Halt}
use Rattle.inspector_cli.specs.declared.copying.Halt.TheVariants.{Disk, Output}

-- a front behind a whole text
front_then : {E : Type 0} (r : Result (Unit {0}) E) (a b x y : List ℕ) → a ≡ x → IsFrontOf r b y → IsFrontOf r (a ++ b) (x ++ y)
front_then (Ok u) a b x y same is = ap (λ l. l ++ b) same ∙ ap (λ l. x ++ l) is
front_then (Err f) a b x y same is = (is.0, append_assoc a b is.0 ∙ ap (λ l. l ++ (b ++ is.0)) same ∙ ap (λ l. x ++ l) is.1)

-- an output before and after
abbrev pub prints_from : Sink → Sink → Printing
prints_from a b = record { before = a; after = b }

abbrev is_given : {A B : Type 0} → Result A B → Bool
is_given (Ok x) = true
is_given (Err f) = false

not_refused : {A B : Type 0} (x : A) (f : B) → Ok x ≡ Err f → ⊥
not_refused x f is = false≢true (sym (ap is_given is))

-- what an output has taken of a text, whatever is answered; where a write had failed before, the count has risen
pub ended : (start : Option (List ℕ)) (count : ℕ) (taken : Option (List ℕ)) (failures : ℕ) (told : List ℕ) (r : Result (Unit {0}) StreamFault) (failed : Bool)
    → IsDelivered start count taken failures told r → OnOk r (failed ≡ false)
    → (out : List ℕ) × (rest : List ℕ) × (out ++ rest ≡ told) × Appends start taken out × (failed ≡ true → HasRisen count failures)
ended start count taken failures told (Ok u) failed delivered unfailed = (told, [], append-nil told, delivered, λ is. absurd (false≢true (sym unfailed ∙ is)))
ended start count taken failures told (Err f) failed delivered unfailed = (delivered.0, delivered.1, delivered.2, delivered.3, λ is. delivered.4)

-- a front of what a copy told, whole or not, is a front of the whole
pub front_of : (r : Result (Unit {0}) Halt) (h : Halt) (out rest text whole : List ℕ) → out ++ rest ≡ text → IsFrontOf r text whole → IsFrontOf {E = Halt} (Err h) out whole
front_of (Ok u) h out rest text whole is front = (rest, is ∙ front)
front_of (Err f) h out rest text whole is front = (rest ++ front.0, sym (append_assoc out rest front.0) ∙ ap (λ l. l ++ front.0) is ∙ front.1)

module _ {D : Type 0} (g : disk.Ghosts D) where
  -- a read
  pub quiet_read : (old new : D) → ((c : List ℕ) → g.left_since old (g.clock old) c → g.may_leave old c) → (IsTrue (g.is_honest old) → g.seen new ≡ g.seen old)
      → (IsTrue (g.is_honest old) → (c : List ℕ) → g.may_leave new c → g.may_leave old c) → Elapses g.clock g.may_leave g.left_since old new
      → g.is_honest new ≡ g.is_honest old → g.size new ≡ g.size old → OnlyReads g old new
  quiet_read old new only seen crash time honesty size = record {
    seen = seen;
    crash = crash;
    moments = λ honest. stays g old new (g.may_leave old) only time (crash honest);
    honesty = honesty;
    size = size;
  }

  -- nothing was told yet
  pub copies_none : (d : D) (a : Sink) → ((c : List ℕ) → g.left_since d (g.clock d) c → g.may_leave d c)
      → (whole : List ℕ → List ℕ) → ((b : List ℕ) → [] ≡ whole b)
      → Copies g d d (prints_from a a) whole (Ok tt)
  copies_none d a only whole none = record {
    text = [];
    told = prints_nothing;
    front = λ honest. none (g.seen d);
    quiet = quiet_none g d only;
    later = omega arith;
    cause = λ is. absurd (not_refused tt Disk is);
    blamed = λ is. absurd (not_refused tt Output is);
  }

  -- one text behind another
  pub copies_then : (old mid new : D) (a b c : Sink) (first second : List ℕ → List ℕ) (r : Result (Unit {0}) Halt)
      → Copies g old mid (prints_from a b) first (Ok tt) → Copies g mid new (prints_from b c) second r
      → Copies g old new (prints_from a c) (λ (bytes : List ℕ). first bytes ++ second bytes) r
  copies_then old mid new a b c first second r so_far more = record {
    text = so_far.text ++ more.text;
    told = prints_then so_far.told more.told;
    front = λ honest.
        let still : IsTrue (g.is_honest mid) = subst IsTrue (sym so_far.quiet.honesty) honest in
        front_then r so_far.text more.text (first (g.seen old)) (second (g.seen old)) (so_far.front honest)
        (subst (λ (bytes : List ℕ). IsFrontOf r more.text (second bytes)) (so_far.quiet.seen honest) (more.front still));
    quiet = quiet_then g old mid new so_far.quiet more.quiet;
    later = (let s = so_far.later in let m = more.later in omega arith);
    cause = λ is. risen_since (g.failures old) (g.failures mid) (g.failures new) so_far.later (more.cause is);
    blamed = more.blamed;
  }

  -- the same text by another name
  pub copies_as : (old new : D) (t : Printing) (one other : List ℕ → List ℕ) (r : Result (Unit {0}) Halt) → ((b : List ℕ) → one b ≡ other b) → Copies g old new t one r → Copies g old new t other r
  copies_as old new t one other r same so_far = record {
    text = so_far.text;
    told = so_far.told;
    front = λ honest. subst (λ (x : List ℕ). IsFrontOf r so_far.text x) (same (g.seen old)) (so_far.front honest);
    quiet = so_far.quiet;
    later = so_far.later;
    cause = so_far.cause;
    blamed = so_far.blamed;
  }

  -- a front of a text, which goes on
  pub copies_front : (old new : D) (t : Printing) (one rest whole : List ℕ → List ℕ) (h : Halt) → ((b : List ℕ) → one b ++ rest b ≡ whole b) → Copies g old new t one (Err h) → Copies g old new t whole (Err h)
  copies_front old new t one rest whole h is so_far = record {
    text = so_far.text;
    told = so_far.told;
    front = λ honest.
        let front = so_far.front honest in
        (front.0 ++ rest (g.seen old), sym (append_assoc so_far.text front.0 (rest (g.seen old))) ∙ ap (λ l. l ++ rest (g.seen old)) front.1 ∙ is (g.seen old));
    quiet = so_far.quiet;
    later = so_far.later;
    cause = so_far.cause;
    blamed = so_far.blamed;
  }

-- a part grows by the part behind it
pub part_more : (b : List ℕ) (p n m k : ℕ) → k ≡ n + m → part b p n ++ part b (p + n) m ≡ part b p k
part_more b p n m k is = sym (ap (part b p) is ∙ part_split b p n m)

pub part_none : (b : List ℕ) (p : ℕ) → [] ≡ part b p 0
part_none b p = sym (part_is b p 0)

-- and what of it comes behind that
pub part_whole : (b : List ℕ) (p n m k : ℕ) → n + m ≤ k → (part b p n ++ part b (p + n) m) ++ part b (p + (n + m)) (k - (n + m)) ≡ part b p k
part_whole b p n m k within =
    ap (λ l. l ++ part b (p + (n + m)) (k - (n + m))) (part_more b p n m (n + m) refl)
    ∙ part_more b p (n + m) (k - (n + m)) k (omega (arith, within))

abbrev pub no_range : ByteRange
no_range = record { start = 0; length = 0 }

-- the ranges before one, and that one
pub ranges_more : (b : List ℕ) (ranges : List ByteRange) (i : ℕ) (r : ByteRange) → i < length ranges
    → bytes_in b (take i ranges) ++ part b (get_or ranges i r).start (get_or ranges i r).length ≡ bytes_in b (take (i + 1) ranges)
ranges_more b ranges i r below =
    let here = get_or ranges i r in
    ap (λ l. bytes_in b (take i ranges) ++ l) (sym (append-nil (part b here.start here.length)))
    ∙ sym (ap (bytes_in b) (take_more ranges i r below) ∙ flat_map-append (λ (x : ByteRange). part b x.start x.length) (take i ranges) (here ∷ []))

-- and those behind it
pub ranges_whole : (b : List ℕ) (ranges : List ByteRange) (i : ℕ) (r : ByteRange) → i < length ranges
    → (bytes_in b (take i ranges) ++ part b (get_or ranges i r).start (get_or ranges i r).length) ++ bytes_in b (drop (i + 1) ranges) ≡ bytes_in b ranges
ranges_whole b ranges i r below =
    ap (λ l. l ++ bytes_in b (drop (i + 1) ranges)) (ranges_more b ranges i r below)
    ∙ sym (flat_map-append (λ (x : ByteRange). part b x.start x.length) (take (i + 1) ranges) (drop (i + 1) ranges))
    ∙ ap (bytes_in b) (take-append-drop (i + 1) ranges)

pub ranges_all : (b : List ℕ) (ranges : List ByteRange) (n : ℕ) → length ranges ≤ n → bytes_in b (take n ranges) ≡ bytes_in b ranges
ranges_all b ranges n past = ap (bytes_in b) (take_all n ranges past)

-- from the opening of an archive on
module _ {D : Type 0} (g : disk.Ghosts D) (limit : ℕ) (before : D) (a : Parts D) (opening : OpenCall g limit before (Ok a)) where
  opens : (seq : ℕ) (start taken : Option (List ℕ)) (count failures : ℕ) (r : Result (Unit {0}) CopyFault) (after : D) → CopyEnds g seq start taken count failures a r after
      → OpensThen g limit before after (λ opened closed. CopyEnds g seq start taken count failures opened r closed.disk)
  opens seq start taken count failures r after ends = record {
    opened = a;
    opening = opening;
    settled = λ honest b may. (durable_of g.seen a, opening.settled honest b may, inl refl);
    closed = record { disk = after; journal = a.journal; limit = a.limit; streams = a.streams; stopped = a.stopped };
    disk = refl;
    goes = ends;
  }

  pub opened_and_copied : (seq : ℕ) (start taken : Option (List ℕ)) (count failures : ℕ) (r : Result (Unit {0}) CopyFault) (after : D) → CopyEnds g seq start taken count failures a r after
      → CopiesImage g limit seq before start taken count failures r after
  opened_and_copied seq start taken count failures (Ok u) after ends = opens seq start taken count failures (Ok u) after ends
  opened_and_copied seq start taken count failures (Err (fault.Open f)) after ends = absurd ends
  opened_and_copied seq start taken count failures (Err (fault.Archive f)) after ends = opens seq start taken count failures (Err (fault.Archive f)) after ends
  opened_and_copied seq start taken count failures (Err fault.Disk) after ends = opens seq start taken count failures (Err fault.Disk) after ends
  opened_and_copied seq start taken count failures (Err fault.Output) after ends = opens seq start taken count failures (Err fault.Output) after ends
