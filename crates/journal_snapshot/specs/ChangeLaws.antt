-- The effect of a change on a list of cases, one case after another.
use Rattle.std.proofs.Common.{◌≡◌, ◌+◌, ℕ, Bool, Option, length, arith, true, false, not, List, [], ◌∷◌, ◌++◌, map, refl, ap, ◌∙◌, sym, Some, None, cond, ◌==◌}
use Rattle.std.proofs.lemmas.Grind.{flat_map-append}
use Rattle.std.proofs.lemmas.List.{append-nil, length-append}
use Rattle.std.specs.List.{flat_map}
use Rattle.journal_layout.specs.declared.entry.Entry.{Entry}
use Rattle.journal_layout.specs.Case.{Case, case_of}
use Rattle.journal_layout.specs.Record.{Record, Store, Next, Label, spelling}
use Rattle.journal_layout.specs.RowLaws.{sizes_push}
use Rattle.journal_layout.specs.SpellLaws.{length-spelling, spelling_unlabelled}
use Rattle.journal_layout.specs.Rewriting.{label_records, case_records, snapshot_size}
use Rattle.journal_layout.specs.Folding.{Folded, sizes, dropped, with_pin, with_label, is_among}
use Rattle.journal_snapshot.specs.declared.change.Change.{Change}
use Rattle.journal_snapshot.specs.declared.change.Change.TheVariants as change
use Rattle.journal_snapshot.specs.Writing.{stored_as, written_label, written_flag, written_entry, written_entries, written_added}
use Rattle.journal_snapshot.specs.Measuring.{snapshot_bytes}
use Rattle.journal_snapshot.specs.Changing.{changed, kept_as, flag_after, label_after, staying, added, next_after_change}

all_stay : (cases : List Case) → flat_map (λ (c : Case). kept_as c (Some c.pinned) c.label) cases ≡ cases
all_stay [] = refl
all_stay (c ∷ rest) = ap (λ (l : List Case). c ∷ l) (all_stay rest)

some_go : (seqs : List ℕ) (cases : List Case) → flat_map (λ (c : Case). kept_as c (cond (is_among seqs c.seq) None (Some c.pinned)) c.label) cases ≡ dropped seqs cases
some_go seqs [] = refl
some_go seqs (c ∷ rest) = of (some_go seqs rest) (is_among seqs c.seq)
  where
    of : flat_map (λ (x : Case). kept_as x (cond (is_among seqs x.seq) None (Some x.pinned)) x.label) rest ≡ dropped seqs rest
        → (t : Bool) → kept_as c (cond t None (Some c.pinned)) c.label ++ flat_map (λ (x : Case). kept_as x (cond (is_among seqs x.seq) None (Some x.pinned)) x.label) rest ≡ cond (not t) (c ∷ dropped seqs rest) (dropped seqs rest)
    of again true = again
    of again false = ap (λ (l : List Case). c ∷ l) again

one_is_pinned : (seq : ℕ) (flag : Bool) (cases : List Case) → flat_map (λ (c : Case). kept_as c (Some (cond (c.seq == seq) flag c.pinned)) c.label) cases ≡ with_pin seq flag cases
one_is_pinned seq flag [] = refl
one_is_pinned seq flag (c ∷ rest) = of (one_is_pinned seq flag rest) (c.seq == seq)
  where
    of : flat_map (λ (x : Case). kept_as x (Some (cond (x.seq == seq) flag x.pinned)) x.label) rest ≡ with_pin seq flag rest
        → (t : Bool) → kept_as c (Some (cond t flag c.pinned)) c.label ++ flat_map (λ (x : Case). kept_as x (Some (cond (x.seq == seq) flag x.pinned)) x.label) rest ≡ cond t (record c { pinned = flag }) c ∷ with_pin seq flag rest
    of again true = ap (λ (l : List Case). record c { pinned = flag } ∷ l) again
    of again false = ap (λ (l : List Case). c ∷ l) again

one_is_labelled : (seq : ℕ) (text : List ℕ) (cases : List Case) → flat_map (λ (c : Case). kept_as c (Some c.pinned) (cond (c.seq == seq) text c.label)) cases ≡ with_label seq text cases
one_is_labelled seq text [] = refl
one_is_labelled seq text (c ∷ rest) = of (one_is_labelled seq text rest) (c.seq == seq)
  where
    of : flat_map (λ (x : Case). kept_as x (Some x.pinned) (cond (x.seq == seq) text x.label)) rest ≡ with_label seq text rest
        → (t : Bool) → kept_as c (Some c.pinned) (cond t text c.label) ++ flat_map (λ (x : Case). kept_as x (Some x.pinned) (cond (x.seq == seq) text x.label)) rest ≡ cond t (record c { label = text }) c ∷ with_label seq text rest
    of again true = ap (λ (l : List Case). record c { label = text } ∷ l) again
    of again false = ap (λ (l : List Case). c ∷ l) again

-- the cases after a change: those that stay, and the one that comes
pub changed_cases : (ch : Change) (f : Folded) → staying ch f.cases ++ added ch ≡ (changed ch f).cases
changed_cases change.Nothing f = append-nil (staying change.Nothing f.cases) ∙ all_stay f.cases
changed_cases (change.Store seq e) f = ap (λ (l : List Case). l ++ added (change.Store seq e)) (all_stay f.cases)
changed_cases (change.Drop seqs) f = append-nil (staying (change.Drop seqs) f.cases) ∙ some_go seqs.now f.cases
changed_cases (change.Pin seq flag) f = append-nil (staying (change.Pin seq flag) f.cases) ∙ one_is_pinned seq flag f.cases
changed_cases (change.Label seq label) f = append-nil (staying (change.Label seq label) f.cases) ∙ one_is_labelled seq label.now.items f.cases
changed_cases change.Upgrade f = append-nil (staying change.Upgrade f.cases) ∙ all_stay f.cases

-- and the number of the next case
pub changed_next : (ch : Change) (f : Folded) → next_after_change ch f.next ≡ (changed ch f).next
changed_next change.Nothing f = refl
changed_next (change.Store seq e) f = refl
changed_next (change.Drop seqs) f = refl
changed_next (change.Pin seq flag) f = refl
changed_next (change.Label seq label) f = refl
changed_next change.Upgrade f = refl

-- the bytes of the records of cases
abbrev pub spelled : List Case → List ℕ
spelled cases = flat_map spelling (flat_map case_records cases)

pub spelled_both : (xs ys : List Case) → spelled (xs ++ ys) ≡ spelled xs ++ spelled ys
spelled_both xs ys =
    ap (flat_map spelling) (flat_map-append case_records xs ys)
    ∙ flat_map-append spelling (flat_map case_records xs) (flat_map case_records ys)

-- those of the record of a label
spelled_label : (seq : ℕ) (text : List ℕ) → flat_map spelling (label_records seq text) ≡ written_label seq text
spelled_label seq [] = refl
spelled_label seq (b ∷ rest) = append-nil (spelling (Label seq (b ∷ rest)))

-- and those of a case
spelled_one : (c : Case) → spelled (c ∷ []) ≡ spelling (Store c) ++ written_label c.seq c.label
spelled_one c =
    ap (flat_map spelling) (append-nil (case_records c))
    ∙ ap (λ (l : List ℕ). l ++ flat_map spelling (label_records c.seq c.label)) (spelling_unlabelled c)
    ∙ ap (λ (l : List ℕ). spelling (Store c) ++ l) (spelled_label c.seq c.label)

-- a case has the same Store record with any label
same_store : (c : Case) (text : List ℕ) → spelling (Store (record c { label = text })) ≡ spelling (Store c)
same_store c text = sym (spelling_unlabelled (record c { label = text })) ∙ spelling_unlabelled c

spelled_flag : (e : Entry) (o : Option Bool) (text : List ℕ) → spelled (kept_as (case_of e) o text) ≡ written_flag e o text
spelled_flag e None text = refl
spelled_flag e (Some flag) text =
    spelled_one (record (stored_as e.seq e flag) { label = text })
    ∙ ap (λ (l : List ℕ). l ++ written_label e.seq text) (same_store (stored_as e.seq e flag) text)

pub spelled_staying : (ch : Change) (es : List Entry) → spelled (staying ch (map case_of es)) ≡ written_entries ch es
spelled_staying ch [] = refl
spelled_staying ch (e ∷ es) =
    let c : Case = case_of e in
    spelled_both (kept_as c (flag_after ch c) (label_after ch c)) (staying ch (map case_of es))
    ∙ ap (λ (l : List ℕ). l ++ spelled (staying ch (map case_of es))) (spelled_flag e (flag_after ch c) (label_after ch c))
    ∙ ap (λ (l : List ℕ). written_entry ch e ++ l) (spelled_staying ch es)

pub spelled_added : (ch : Change) → spelled (added ch) ≡ written_added ch
spelled_added change.Nothing = refl
spelled_added (change.Store seq e) = spelled_one (stored_as seq e.now e.now.pinned)
spelled_added (change.Drop seqs) = refl
spelled_added (change.Pin seq flag) = refl
spelled_added (change.Label seq label) = refl
spelled_added change.Upgrade = refl

-- as many bytes as the records have
pub sizes_spelled : (rs : List Record) → length (flat_map spelling rs) ≡ sizes rs
sizes_spelled [] = refl
sizes_spelled (r ∷ rs) = length-append (spelling r) (flat_map spelling rs) ∙ omega (arith, length-spelling r, sizes_spelled rs)

-- the new snapshot takes as many bytes as its records, after the header
pub snapshot_bytes_are : (ch : Change) (es : List Entry) (f : Folded) → f.cases ≡ map case_of es → snapshot_bytes ch es ≡ snapshot_size (changed ch f)
snapshot_bytes_are ch es f is =
    let cases : List Case = (changed ch f).cases in
    let stay : spelled cases ≡ written_entries ch es ++ written_added ch =
    ap spelled (sym (changed_cases ch f))
    ∙ spelled_both (staying ch f.cases) (added ch)
    ∙ ap (λ (l : List Case). spelled (staying ch l) ++ spelled (added ch)) is
    ∙ ap (λ (l : List ℕ). l ++ spelled (added ch)) (spelled_staying ch es)
    ∙ ap (λ (l : List ℕ). written_entries ch es ++ l) (spelled_added ch) in
    let long : sizes (flat_map case_records cases) ≡ length (written_entries ch es) + length (written_added ch) =
    sym (sizes_spelled (flat_map case_records cases)) ∙ ap length stay ∙ length-append (written_entries ch es) (written_added ch) in
    omega (arith, sizes_push (flat_map case_records cases) (Next (changed ch f).next), long)
