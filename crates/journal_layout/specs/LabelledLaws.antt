-- Laws of which cases have labels: in a half whose version keeps none, no case has one.
use Rattle.std.proofs.Common.{◌≡◌, ℕ, ◌-◌, Bool, not, ◌==◌, List, [], ◌∷◌, ◌++◌, map, drop, subst, arith}
use Rattle.std.proofs.lemmas.Bool.{cond_both}
use Rattle.std.proofs.lemmas.List.Elements.{All-nil, All-push, All-filter, All-from_recursion, recursion_from_All}
use Rattle.std.specs.List.{All, AllByRecursion, filter}
use Rattle.journal_layout.specs.Case.{Case}
use Rattle.journal_layout.specs.Record.{Record, Store, Drop, Pin, Next, Label, record_size}
use Rattle.journal_layout.specs.Folding.{Folded, nothing_yet, is_among, dropped, pinned_as, with_pin, after, replayed}
use Rattle.journal_layout.specs.Soundness.{IsSound}
use Rattle.journal_layout.specs.Standing.{Standing, folded_of}
use Rattle.journal_layout.specs.Stands.{StandInRow, AreRead, Stands, records_area}
use Rattle.journal_layout.specs.Live.{HasNoLabel, AreLabelled}

-- it holds of no case
pub labelled_none : (version : ℕ) → AreLabelled version []
labelled_none version other = All-nil HasNoLabel

-- it holds once a case more is stored
pub labelled_stored : (version : ℕ) (cases : List Case) (c : Case) → AreLabelled version cases → c.label ≡ [] → AreLabelled version (cases ++ c ∷ [])
labelled_stored version cases c labels none other = All-push HasNoLabel cases c (labels other) none

-- it holds of some of the cases
pub labelled_kept : (version : ℕ) (test : Case → Bool) (cases : List Case) → AreLabelled version cases → AreLabelled version (filter test cases)
labelled_kept version test cases labels other = All-filter test HasNoLabel cases (labels other)

-- it holds once cases are dropped
pub labelled_dropped : (version : ℕ) (seqs : List ℕ) (cases : List Case) → AreLabelled version cases → AreLabelled version (dropped seqs cases)
labelled_dropped version seqs cases labels = labelled_kept version (λ (c : Case). not (is_among seqs c.seq)) cases labels

-- it holds once a flag has changed
pub labelled_pinned : (version seq : ℕ) (flag : Bool) (cases : List Case) → AreLabelled version cases → AreLabelled version (with_pin seq flag cases)
labelled_pinned version seq flag cases labels other =
    All-from_recursion HasNoLabel (with_pin seq flag cases) (all cases (recursion_from_All HasNoLabel cases (labels other)))
  where
    one : (c : Case) → HasNoLabel c → HasNoLabel (pinned_as seq flag c)
    one c none = cond_both (c.seq == seq) (record c { pinned = flag }) c HasNoLabel (λ _. none) (λ _. none)

    all : (l : List Case) → AllByRecursion HasNoLabel l → AllByRecursion HasNoLabel (map (pinned_as seq flag) l)
    all [] each = tt
    all (c ∷ rest) each = (one c each.0, all rest each.1)

-- it holds of all cases in version 2
pub labelled_two : (version : ℕ) (cases : List Case) → version ≡ 2 → AreLabelled version cases
labelled_two version cases is other = absurd (other is)

-- it holds after a sound record, if it held before it
pub labelled_after : (limit : ℕ) (f : Folded) (r : Record) → AreLabelled f.version f.cases → IsSound limit f r → AreLabelled (after r f).version (after r f).cases
labelled_after limit f (Store c) labels sound = labelled_stored f.version f.cases c labels sound.2.no_label
labelled_after limit f (Drop seqs) labels sound = labelled_dropped f.version seqs f.cases labels
labelled_after limit f (Pin seq flag) labels sound = labelled_pinned f.version seq flag f.cases labels
labelled_after limit f (Next n) labels sound = labels
labelled_after limit f (Label seq text) labels sound = labelled_two f.version (after (Label seq text) f).cases sound.0

-- it holds after a row of records
pub labelled_row : (limit : ℕ) (bytes : List ℕ) (f : Folded) (rs : List Record) → AreLabelled f.version f.cases → StandInRow limit bytes f rs
    → AreLabelled (replayed rs f).version (replayed rs f).cases
labelled_row limit bytes f [] labels row = labels
labelled_row limit bytes f (r ∷ rest) labels row = labelled_row limit (drop (record_size r) bytes) (after r f) rest (labelled_after limit f r labels row.0.sound) row.1

-- it holds of the cases that bytes give
pub labelled_read : (limit version : ℕ) (bytes : List ℕ) (said : Folded) (n : ℕ) → AreRead limit bytes (nothing_yet version) said n → AreLabelled said.version said.cases
labelled_read limit version bytes said n read =
    subst (λ (g : Folded). AreLabelled g.version g.cases) read.folded (labelled_row limit bytes (nothing_yet version) read.records (labelled_none version) read.row)

-- it holds of the cases that a disk encodes
pub stands_labelled : (b : List ℕ) (s : Standing) → Stands b s → AreLabelled s.version s.cases
stands_labelled b s stands = labelled_read s.shape.data_blocks s.version (records_area b s.shape s.half) (folded_of s) (s.used - 32) stands.records

-- in version 1 no case has a label
pub no_labels_in_one : (b : List ℕ) (s : Standing) → Stands b s → s.version ≡ 1 → All HasNoLabel s.cases
no_labels_in_one b s stands one = stands_labelled b s stands (λ two. absurd (omega (arith, one, two)))
