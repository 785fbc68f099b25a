-- Laws of records: the spelling of a record and the checks of an opening are one grammar.
use Rattle.std.proofs.Common.{◌≡◌, ℕ, ◌+◌, ◌^◌, ◌<◌, ◌≤◌, List, ◌++◌, length, drop, slice_index, refl, sym, ap, ◌∙◌, subst, arith, None}
use Rattle.disk_model.specs.Places.{AreBytes}
use Rattle.journal_layout.specs.Record.{Record, Store, Drop, Pin, Next, Label, record_size, record_kind, spelling}
use Rattle.journal_layout.specs.Reading.{kind_at, length_at, record_at}
use Rattle.journal_layout.specs.Folding.{Folded}
use Rattle.journal_layout.specs.Soundness.{IsSound}
use Rattle.journal_layout.specs.Checks.{body_fault, record_fault}
use Rattle.journal_layout.specs.Stands.{StandsFirst}
use Rattle.journal_layout.specs.Grammar.{IsToldBy}
use Rattle.journal_layout.specs.SpellLaws.{as_spelled}
use Rattle.journal_layout.specs.CheckLaws.{HasHead}
use Rattle.journal_layout.specs.FoundLaws.{record_passed}
use Rattle.journal_layout.specs.KindLaws.{told_as, record_of, kind_found, last_high}
use Rattle.journal_layout.specs.LabelLaws.{label_again, label_found}
use Rattle.journal_layout.specs.NextLaws.{next_again, next_found}
use Rattle.journal_layout.specs.PinLaws.{pin_again, pin_found}
use Rattle.journal_layout.specs.DropLaws.{drop_again, drop_found}
use Rattle.journal_layout.specs.StoreLaws.{store_again, store_found}

again_at : (limit at : ℕ) (r : Record) (tail : List ℕ) (f : Folded) → limit ≤ 16777216 → record_size r < 2 ^ 32 → record_size r + 1 ≤ length (spelling r ++ tail) → IsSound limit f r
    → (record_fault limit at (spelling r ++ tail) f ≡ None) × (record_at (spelling r ++ tail) ≡ r)
again_at limit at (Store c) tail f low small in_half sound = store_again limit at c tail f low small in_half sound
again_at limit at (Drop seqs) tail f low small in_half sound = drop_again limit at seqs tail f small in_half sound
again_at limit at (Pin seq flag) tail f low small in_half sound = pin_again limit at seq flag tail f in_half sound
again_at limit at (Next n) tail f low small in_half sound = next_again limit at n tail f in_half sound
again_at limit at (Label seq text) tail f low small in_half sound = label_again limit at seq text tail f in_half sound

-- a record that is written is read back
pub record_again : (limit at : ℕ) (rest : List ℕ) (f : Folded) (r : Record) → limit ≤ 16777216 → length rest ≤ 2 ^ 32 → StandsFirst limit rest f r → IsToldBy limit at rest f r
record_again limit at rest f r low short first =
    let same = as_spelled r rest first.spelled in
    let in_half = first.in_half in
    let told = again_at limit at r (drop (record_size r) rest) f low (omega arith) (omega (arith, ap length same)) first.sound in
    subst (λ (l : List ℕ). IsToldBy limit at l f r) (sym same) (record { opened = refl; faultless = told.0; is = told.1 })

-- this record is at the front and is as long as the bytes say
abbrev pub IsFoundAs : ℕ → List ℕ → Folded → Record → Type 0
IsFoundAs limit rest f r = StandsFirst limit rest f r × (record_size r ≡ length_at rest)

-- the same, of the kind of this record
found_at : (limit at : ℕ) (rest : List ℕ) (f : Folded) (r : Record) → AreBytes rest → slice_index rest 0 ≡ 165 → HasHead f.version rest → kind_at rest ≡ record_kind r
    → body_fault limit at rest f ≡ None → IsFoundAs limit rest f (told_as r rest)
found_at limit at rest f (Store c) are opened head kind e = store_found limit at rest f are opened head kind e
found_at limit at rest f (Drop seqs) are opened head kind e = drop_found limit at rest f are opened head kind e
found_at limit at rest f (Pin seq flag) are opened head kind e = pin_found limit at rest f are opened head kind e
found_at limit at rest f (Next n) are opened head kind e = next_found limit at rest f are opened head kind e
found_at limit at rest f (Label seq text) are opened head kind e = label_found limit at rest f are opened head kind e

-- a record that is read stands at the start of the bytes, and has the length in its length field
pub record_told : (limit at : ℕ) (rest : List ℕ) (f : Folded) → AreBytes rest → slice_index rest 0 ≡ 165 → record_fault limit at rest f ≡ None → IsFoundAs limit rest f (record_at rest)
record_told limit at rest f are opened e =
    let parts = record_passed limit at rest f e in
    let head = parts.0 in
    let kind = kind_found rest (kind_at rest) head.some_kind (omega (arith, head.known_kind, last_high f.version)) in
    subst (λ (r : Record). IsFoundAs limit rest f r) (sym (record_of rest kind.0 kind.1)) (found_at limit at rest f kind.0 are opened head kind.1 parts.1)

-- a record that is read is in the grammar
pub record_found : (limit at : ℕ) (rest : List ℕ) (f : Folded) → AreBytes rest → slice_index rest 0 ≡ 165 → record_fault limit at rest f ≡ None → StandsFirst limit rest f (record_at rest)
record_found limit at rest f are opened e = (record_told limit at rest f are opened e).0

-- and is as long as it says
pub size_found : (limit at : ℕ) (rest : List ℕ) (f : Folded) → AreBytes rest → slice_index rest 0 ≡ 165 → record_fault limit at rest f ≡ None → record_size (record_at rest) ≡ length_at rest
size_found limit at rest f are opened e = (record_told limit at rest f are opened e).1

-- no record's spelling begins another's, and a record has one spelling
pub one_record : (limit : ℕ) (bytes : List ℕ) (f g : Folded) (r s : Record) → limit ≤ 16777216 → length bytes ≤ 2 ^ 32 → StandsFirst limit bytes f r → StandsFirst limit bytes g s → r ≡ s
one_record limit bytes f g r s low short first second =
    sym (record_again limit 0 bytes f r low short first).is ∙ (record_again limit 0 bytes g s low short second).is

-- the gate of a record is open
pub opened_first : (limit : ℕ) (bytes : List ℕ) (f : Folded) (r : Record) → StandsFirst limit bytes f r → slice_index bytes 0 ≡ 165
opened_first limit bytes f r first = ap (λ (l : List ℕ). slice_index l 0) (as_spelled r bytes first.spelled)
