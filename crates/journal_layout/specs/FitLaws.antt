-- Laws of the room that a snapshot takes: the records of some cases are as long as their snapshot without its last record. If the cases before a drop
-- have room, the snapshot of the cases after it has room too.
use Rattle.std.proofs.Common.{◌≡◌, inl, inr, ℕ, ◌+◌, ◌≤◌, Bool, true, false, not, nat_eq, ◌||◌, ◌==◌, List, [], ◌∷◌, ◌++◌, map, drop, refl, ap, ◌∙◌, arith, Some, cond}
use Rattle.std.specs.List.{filter, flat_map, list_any}
use Rattle.std.proofs.lemmas.Bool.{cases_eq, cond_both, eq-eqb, ne_eqb}
use Rattle.journal_layout.specs.Layout.{half_length}
use Rattle.journal_layout.specs.Case.{Case}
use Rattle.journal_layout.specs.Record.{Record, Store, Drop, Pin, Next, Label, record_size}
use Rattle.journal_layout.specs.Folding.{Folded, is_among, dropped, pinned_as, with_pin, with_label, cases_after, after, replayed, sizes, nothing_yet}
use Rattle.journal_layout.specs.Soundness.{IsSound, Rise, case_numbered}
use Rattle.journal_layout.specs.SpellLaws.{record_some}
use Rattle.journal_layout.specs.Standing.{Standing, folded_of}
use Rattle.journal_layout.specs.Stands.{StandInRow, Stands, records_area}
use Rattle.journal_layout.specs.StandLaws.{stands_in_half}
use Rattle.journal_layout.specs.Live.{seq_of_case, AreLive}
use Rattle.journal_layout.specs.LiveLaws.{live_none, live_after}
use Rattle.journal_layout.specs.LiveFinds.{above_elsewhere, label_elsewhere}
use Rattle.journal_layout.specs.Rewriting.{label_records, case_records, case_bytes, snapshot_size}

pub sizes-append : (xs ys : List Record) → sizes (xs ++ ys) ≡ sizes xs + sizes ys
sizes-append [] ys = omega arith
sizes-append (r ∷ xs) ys = omega (arith, sizes-append xs ys)

-- the bytes of a snapshot
pub snapshot_bytes : (f : Folded) → snapshot_size f ≡ 32 + case_bytes f.cases + 16
snapshot_bytes f = omega (arith, sizes-append (flat_map case_records f.cases) (Next f.next ∷ []))

-- the bytes of the records that say the cases

-- of a case and others
pub bytes_more : (c : Case) (rest : List Case) → case_bytes (c ∷ rest) ≡ sizes (case_records c) + case_bytes rest
bytes_more c rest = sizes-append (case_records c) (flat_map case_records rest)

-- of a case after others
pub bytes_push : (cases : List Case) (c : Case) → case_bytes (cases ++ c ∷ []) ≡ case_bytes cases + sizes (case_records c)
bytes_push [] c = omega (arith, bytes_more c [])
bytes_push (d ∷ rest) c = omega (arith, bytes_more d (rest ++ c ∷ []), bytes_more d rest, bytes_push rest c)

-- of some of the cases
pub bytes_kept : (test : Case → Bool) (cases : List Case) → case_bytes (filter test cases) ≤ case_bytes cases
bytes_kept test [] = omega arith
bytes_kept test (c ∷ rest) =
    cond_both (test c) (c ∷ filter test rest) (filter test rest) (λ (l : List Case). case_bytes l ≤ case_bytes (c ∷ rest))
    (λ _. omega (arith, bytes_more c (filter test rest), bytes_more c rest, bytes_kept test rest))
    (λ _. omega (arith, bytes_more c rest, bytes_kept test rest))

-- a flag changes none of them
one_pinned : (seq : ℕ) (flag : Bool) (c : Case) → sizes (case_records (pinned_as seq flag c)) ≡ sizes (case_records c)
one_pinned seq flag c = elim (c.seq == seq) as (λ t. sizes (case_records (cond t (record c { pinned = flag }) c)) ≡ sizes (case_records c)) [ true ↦ refl | false ↦ refl ]

pub bytes_pinned : (seq : ℕ) (flag : Bool) (cases : List Case) → case_bytes (with_pin seq flag cases) ≡ case_bytes cases
bytes_pinned seq flag [] = refl
bytes_pinned seq flag (c ∷ rest) =
    omega (arith, bytes_more (pinned_as seq flag c) (with_pin seq flag rest), bytes_more c rest, one_pinned seq flag c, bytes_pinned seq flag rest)

-- a case without a label has those of its Store record
pub bytes_unlabelled : (c : Case) → c.label ≡ [] → sizes (case_records c) ≡ record_size (Store c)
bytes_unlabelled c none = omega (arith, ap (λ (l : List ℕ). sizes (label_records c.seq l)) none)

-- a label has those of its record at most
label_most : (seq : ℕ) (text : List ℕ) → sizes (label_records seq text) ≤ record_size (Label seq text)
label_most seq [] = omega arith
label_most seq (b ∷ rest) = omega arith

-- the record of a new label takes the place of that of the old one
pub bytes_labelled : (last seq : ℕ) (text : List ℕ) (cases : List Case) (c : Case) → Rise last (map seq_of_case cases) → case_numbered seq cases ≡ Some c
    → case_bytes (with_label seq text cases) + sizes (label_records seq c.label) ≡ case_bytes cases + sizes (label_records seq text)
bytes_labelled last seq text [] c rise found = cc
bytes_labelled last seq text (d ∷ rest) c rise found =
    elim (cases_eq d.seq seq) as (λ _. case_bytes (with_label seq text (d ∷ rest)) + sizes (label_records seq c.label) ≡ case_bytes (d ∷ rest) + sizes (label_records seq text)) [
      | inl same ↦ here same (rw (eq-eqb d.seq seq same) at found)
      | inr other ↦ there other (bytes_labelled d.seq seq text rest c rise.1 (rw (ne_eqb d.seq seq other) at found))
    ]
  where
    here : d.seq ≡ seq → Some d ≡ Some c
        → case_bytes (with_label seq text (d ∷ rest)) + sizes (label_records seq c.label) ≡ case_bytes (d ∷ rest) + sizes (label_records seq text)
    here same found =
        let is : d ≡ c = cc in
        let new : Case = record d { label = text } in
        let behind : with_label seq text rest ≡ rest = label_elsewhere seq text rest (above_elsewhere seq d.seq rest (omega (arith, same)) rise.1) in
        let whole : case_bytes (with_label seq text (d ∷ rest)) ≡ case_bytes (new ∷ rest) =
        ap (λ (t : Bool). case_bytes (cond t new d ∷ with_label seq text rest)) (eq-eqb d.seq seq same) ∙ ap (λ (l : List Case). case_bytes (new ∷ l)) behind in
        let now : sizes (label_records d.seq text) ≡ sizes (label_records seq text) = ap (λ (n : ℕ). sizes (label_records n text)) same in
        let was : sizes (label_records d.seq d.label) ≡ sizes (label_records seq c.label) =
        ap (λ (n : ℕ). sizes (label_records n d.label)) same ∙ ap (λ (x : Case). sizes (label_records seq x.label)) is in
        omega (arith, whole, bytes_more new rest, bytes_more d rest, now, was)

    there : (d.seq ≡ seq → ⊥) → case_bytes (with_label seq text rest) + sizes (label_records seq c.label) ≡ case_bytes rest + sizes (label_records seq text)
        → case_bytes (with_label seq text (d ∷ rest)) + sizes (label_records seq c.label) ≡ case_bytes (d ∷ rest) + sizes (label_records seq text)
    there other low =
        let new : Case = record d { label = text } in
        let whole : case_bytes (with_label seq text (d ∷ rest)) ≡ case_bytes (d ∷ with_label seq text rest) =
        ap (λ (t : Bool). case_bytes (cond t new d ∷ with_label seq text rest)) (ne_eqb d.seq seq other) in
        omega (arith, whole, bytes_more d (with_label seq text rest), bytes_more d rest, low)

-- and so it does in a snapshot
pub labels_take_their_records : (limit seq : ℕ) (f : Folded) (text : List ℕ) (c : Case) → AreLive limit f.cases f.next → case_numbered seq f.cases ≡ Some c
    → snapshot_size (after (Label seq text) f) + sizes (label_records seq c.label) ≡ snapshot_size f + sizes (label_records seq text)
labels_take_their_records limit seq f text c live found =
    omega (arith, snapshot_bytes (after (Label seq text) f), snapshot_bytes f, bytes_labelled 0 seq text f.cases c live.rise found)

-- a sound record adds as many as it has, at most
pub bytes_after : (limit : ℕ) (r : Record) (f : Folded) → AreLive limit f.cases f.next → IsSound limit f r
    → case_bytes (cases_after r f) ≤ case_bytes f.cases + record_size r
bytes_after limit (Store c) f live sound = omega (arith, bytes_push f.cases c, bytes_unlabelled c sound.2.no_label)
bytes_after limit (Drop seqs) f live sound = omega (arith, bytes_kept (λ (c : Case). not (is_among seqs c.seq)) f.cases)
bytes_after limit (Pin seq flag) f live sound = omega (arith, bytes_pinned seq flag f.cases)
bytes_after limit (Next n) f live sound = omega arith
bytes_after limit (Label seq text) f live sound = omega (arith, bytes_labelled 0 seq text f.cases sound.2.0 live.rise sound.2.1, label_most seq text)

pub bytes_replayed : (limit : ℕ) (bytes : List ℕ) (rs : List Record) (f : Folded) → AreLive limit f.cases f.next → StandInRow limit bytes f rs
    → case_bytes (replayed rs f).cases ≤ case_bytes f.cases + sizes rs
bytes_replayed limit bytes [] f live row = omega arith
bytes_replayed limit bytes (r ∷ rest) f live row =
    let sound = row.0.sound in
    omega (arith, bytes_after limit r f live sound, bytes_replayed limit (drop (record_size r) bytes) rest (after r f) (live_after limit f r live sound) row.1)

-- the taken half of a disk holds the bytes of the cases that the disk encodes
pub stands_bytes : (b : List ℕ) (s : Standing) → Stands b s → 32 + case_bytes s.cases ≤ s.used
stands_bytes b s stands =
    let read = stands.records in
    let header = stands.header in
    let size = read.size in
    let limit = s.shape.data_blocks in
    let all = bytes_replayed limit (records_area b s.shape s.half) read.records (nothing_yet s.version) (live_none limit) read.row in
    let same : case_bytes (replayed read.records (nothing_yet s.version)).cases ≡ case_bytes s.cases = ap (λ (f : Folded). case_bytes f.cases) read.folded in
    omega arith

-- without a case

-- its records are gone
bytes_dropped : (seqs : List ℕ) (seq : ℕ) (cases : List Case) (c : Case) → is_among seqs seq ≡ true → case_numbered seq cases ≡ Some c
    → case_bytes (dropped seqs cases) + 16 ≤ case_bytes cases
bytes_dropped seqs seq [] c among found = cc
bytes_dropped seqs seq (d ∷ rest) c among found =
    elim (cases_eq d.seq seq) as (λ _. case_bytes (dropped seqs (d ∷ rest)) + 16 ≤ case_bytes (d ∷ rest)) [
      | inl same ↦ here (ap (is_among seqs) same ∙ among)
      | inr other ↦ there (bytes_dropped seqs seq rest c among (rw (ne_eqb d.seq seq other) at found))
    ]
  where
    less : case_bytes (dropped seqs rest) ≤ case_bytes rest
    less = bytes_kept (λ (e : Case). not (is_among seqs e.seq)) rest

    here : is_among seqs d.seq ≡ true → case_bytes (dropped seqs (d ∷ rest)) + 16 ≤ case_bytes (d ∷ rest)
    here gone = rw gone (omega (arith, bytes_more d rest, record_some (Store d), less))

    there : case_bytes (dropped seqs rest) + 16 ≤ case_bytes rest → case_bytes (dropped seqs (d ∷ rest)) + 16 ≤ case_bytes (d ∷ rest)
    there behind =
        cond_both (not (is_among seqs d.seq)) (d ∷ dropped seqs rest) (dropped seqs rest) (λ (l : List Case). case_bytes l + 16 ≤ case_bytes (d ∷ rest))
        (λ _. omega (arith, bytes_more d (dropped seqs rest), bytes_more d rest))
        (λ _. omega (arith, bytes_more d rest))

-- the snapshot of the cases that stay after a drop takes no more bytes than the records before the drop
pub drops_have_bytes : (limit used : ℕ) (f : Folded) (seqs : List ℕ) → 32 + case_bytes f.cases ≤ used → IsSound limit f (Drop seqs)
    → snapshot_size (after (Drop seqs) f) ≤ used
drops_have_bytes limit used f [] in_half sound = absurd (omega (arith, sound.0))
drops_have_bytes limit used f (seq ∷ seqs) in_half sound =
    let one = sound.3.0 in
    let among : is_among (seq ∷ seqs) seq ≡ true = first (list_any (nat_eq seq) seqs) (eq-eqb seq seq refl) in
    omega (arith, snapshot_bytes (after (Drop (seq ∷ seqs)) f), bytes_dropped (seq ∷ seqs) seq f.cases one.0 among one.1)
  where
    first : (t : Bool) → nat_eq seq seq ≡ true → (nat_eq seq seq || t) ≡ true
    first t e = rw e refl

-- The snapshot of the cases that stay after a drop fits into the other half.
pub drops_fit : (b : List ℕ) (s : Standing) (seqs : List ℕ) → Stands b s → IsSound s.shape.data_blocks (folded_of s) (Drop seqs)
    → snapshot_size (after (Drop seqs) (folded_of s)) + 1 ≤ half_length s.shape
drops_fit b s seqs stands sound =
    omega (arith, stands_in_half b s stands, drops_have_bytes s.shape.data_blocks s.used (folded_of s) seqs (stands_bytes b s stands) sound)
