-- Laws of the reading of an opening: bytes hold one row of records, and an opening has one answer.
use Rattle.std.proofs.Common.{◌≡◌, ◌≢◌, inl, inr, ℕ, ◌+◌, ◌-◌, ◌^◌, ◌≤◌, List, [], ◌∷◌, length, drop, slice_index, refl, sym, ap, ◌∙◌, subst, arith, Some, Result, Ok, Err}
use Rattle.std.proofs.lemmas.List.{drop-drop, get_or-drop, length-drop, length-take}
use Rattle.disk_model.specs.Places.{part}
use Rattle.journal_layout.specs.declared.shape.Shape.{Shape}
use Rattle.journal_layout.specs.declared.shape.Half.{Half}
use Rattle.journal_layout.specs.declared.faults.OpenFault.{OpenFault}
use Rattle.journal_layout.specs.Layout.{IsWithinLimits, half_length}
use Rattle.journal_layout.specs.Case.{Case}
use Rattle.journal_layout.specs.Record.{Record, record_size}
use Rattle.journal_layout.specs.Folding.{Folded, after, replayed, sizes, nothing_yet}
use Rattle.journal_layout.specs.Checks.{record_fault}
use Rattle.journal_layout.specs.Front.{Front, front_opening}
use Rattle.journal_layout.specs.Standing.{Standing, folded_of}
use Rattle.journal_layout.specs.Stands.{StandsFirst, StandInRow, AreRead, AreFaulty, records_start, records_area, front_of, Stands, IsRefused, Opening}
use Rattle.journal_layout.specs.FrontLaws.{front_limits}
use Rattle.journal_layout.specs.RecordLaws.{record_again, one_record, opened_first}

-- no record is at the front of these bytes
abbrev pub NoRecord : ℕ → List ℕ → Folded → Type 0
NoRecord limit bytes f = (r : Record) → StandsFirst limit bytes f r → ⊥

-- none is after a gate that is closed
closed_stops : (limit n : ℕ) (bytes : List ℕ) (f : Folded) → slice_index bytes n ≢ 165 → NoRecord limit (drop n bytes) f
closed_stops limit n bytes f closed r first =
    let e : n + 0 ≡ n = omega arith in
    closed (sym (ap (slice_index bytes) e) ∙ sym (get_or-drop n bytes 0 0) ∙ opened_first limit (drop n bytes) f r first)

-- and none does that has a fault
faulty_stops : (limit at : ℕ) (bytes : List ℕ) (f : Folded) (fault : OpenFault) → limit ≤ 16777216 → length bytes ≤ 2 ^ 32 → record_fault limit at bytes f ≡ Some fault → NoRecord limit bytes f
faulty_stops limit at bytes f fault low short e r first = let none = (record_again limit at bytes f r low short first).faultless in cc

-- bytes begin with exactly one row of records that no further record follows
pub one_row : (limit : ℕ) (bytes : List ℕ) (f : Folded) (rs ss : List Record) → limit ≤ 16777216 → length bytes ≤ 2 ^ 32
    → StandInRow limit bytes f rs → NoRecord limit (drop (sizes rs) bytes) (replayed rs f)
    → StandInRow limit bytes f ss → NoRecord limit (drop (sizes ss) bytes) (replayed ss f) → rs ≡ ss
one_row limit bytes f [] [] low short row end other finish = refl
one_row limit bytes f [] (s ∷ ss) low short row end other finish = absurd (end s other.0)
one_row limit bytes f (r ∷ rs) [] low short row end other finish = absurd (finish r row.0)
one_row limit bytes f (r ∷ rs) (s ∷ ss) low short row end other finish =
    let e : s ≡ r = one_record limit bytes f f s r low short other.0 row.0 in
    let same = subst (λ (x : Record). StandInRow limit (drop (record_size x) bytes) (after x f) ss × NoRecord limit (drop (record_size x + sizes ss) bytes) (replayed ss (after x f))) e (other.1, finish) in
    let P : List Record → List ℕ → Type 0 = λ l b. NoRecord limit b (replayed l (after r f)) in
    ap (λ (x : Record). x ∷ rs) (sym e)
    ∙ ap (λ (l : List Record). s ∷ l)
    (one_row limit (drop (record_size r) bytes) (after r f) rs ss low (omega (arith, length-drop (record_size r) bytes))
    row.1 (subst (P rs) (sym (drop-drop (sizes rs) (record_size r) bytes)) end)
    same.0 (subst (P ss) (sym (drop-drop (sizes ss) (record_size r) bytes)) same.1))

module _ (limit : ℕ) (bytes : List ℕ) (f : Folded) (low : limit ≤ 16777216) (short : length bytes ≤ 2 ^ 32) where
  -- bytes are read in one way
  pub read_once : (g h : Folded) (n m : ℕ) → AreRead limit bytes f g n → AreRead limit bytes f h m → (g ≡ h) × (n ≡ m)
  read_once g h n m one two =
      let same : one.records ≡ two.records =
      one_row limit bytes f one.records two.records low short one.row (closed_stops limit (sizes one.records) bytes (replayed one.records f) one.closed)
      two.row (closed_stops limit (sizes two.records) bytes (replayed two.records f) two.closed) in (
        sym one.folded ∙ ap (λ (l : List Record). replayed l f) same ∙ two.folded,
        sym one.size ∙ ap sizes same ∙ two.size,
      )

  fault_stops : (at : ℕ) (fault : OpenFault) (w : AreFaulty limit at bytes f fault) → NoRecord limit (drop (sizes w.records) bytes) (replayed w.records f)
  fault_stops at fault w =
      faulty_stops limit (at + sizes w.records) (drop (sizes w.records) bytes) (replayed w.records f) fault low
      (omega (arith, length-drop (sizes w.records) bytes)) w.found

  -- bytes that are read have no fault
  pub read_or_faulty : (at n : ℕ) (g : Folded) (fault : OpenFault) → AreRead limit bytes f g n → AreFaulty limit at bytes f fault → ⊥
  read_or_faulty at n g fault one two =
      let same : one.records ≡ two.records =
      one_row limit bytes f one.records two.records low short one.row (closed_stops limit (sizes one.records) bytes (replayed one.records f) one.closed)
      two.row (fault_stops at fault two) in
      one.closed (ap (λ (l : List Record). slice_index bytes (sizes l)) same ∙ two.opened)

  -- and there is one first fault
  pub faulty_once : (at : ℕ) (e d : OpenFault) → AreFaulty limit at bytes f e → AreFaulty limit at bytes f d → e ≡ d
  faulty_once at e d one two =
      let same : one.records ≡ two.records =
      one_row limit bytes f one.records two.records low short one.row (fault_stops at e one) two.row (fault_stops at d two) in
      let both : Some e ≡ Some d =
      sym one.found
      ∙ ap (λ (l : List Record). record_fault limit (at + sizes l) (drop (sizes l) bytes) (replayed l f)) same
      ∙ two.found in
      cc

area_short : (b : List ℕ) (s : Shape) (half : Half) → IsWithinLimits s → length (records_area b s half) ≤ 2 ^ 32
unfolding part
area_short b s half limits =
    let most = limits.half in
    omega (arith, length-take (half_length s - 32) (drop (records_start s half) b))

-- the journal that an opening with this front reads
abbrev IsReadAs : List ℕ → Front → Folded → ℕ → Type 0
IsReadAs b t said used = AreRead t.shape.data_blocks (records_area b t.shape t.half) (nothing_yet t.version) said used

abbrev HasFault : List ℕ → Front → OpenFault → Type 0
HasFault b t fault = AreFaulty t.shape.data_blocks (records_start t.shape t.half) (records_area b t.shape t.half) (nothing_yet t.version) fault

module _ (b : List ℕ) (t : Front) (front : front_opening b ≡ Ok t) where
  said_once : (g h : Folded) (n m : ℕ) → IsReadAs b t g n → IsReadAs b t h m → (g ≡ h) × (n ≡ m)
  said_once g h n m one two =
      let limits = front_limits b t front in
      read_once t.shape.data_blocks (records_area b t.shape t.half) (nothing_yet t.version) limits.all_data (area_short b t.shape t.half limits) g h n m one two

  said_or_faulty : (g : Folded) (n : ℕ) (fault : OpenFault) → IsReadAs b t g n → HasFault b t fault → ⊥
  said_or_faulty g n fault one two =
      let limits = front_limits b t front in
      read_or_faulty t.shape.data_blocks (records_area b t.shape t.half) (nothing_yet t.version) limits.all_data (area_short b t.shape t.half limits) (records_start t.shape t.half) n g fault one two

  fault_once : (e d : OpenFault) → HasFault b t e → HasFault b t d → e ≡ d
  fault_once e d one two =
      let limits = front_limits b t front in
      faulty_once t.shape.data_blocks (records_area b t.shape t.half) (nothing_yet t.version) limits.all_data (area_short b t.shape t.half limits) (records_start t.shape t.half) e d one two

same_ok : {X : Type 0} (o : Result X OpenFault) (x y : X) → o ≡ Ok x → o ≡ Ok y → x ≡ y
same_ok o x y e f = cc

ok_or_err : {X : Type 0} (o : Result X OpenFault) (x : X) (d : OpenFault) → o ≡ Ok x → o ≡ Err d → ⊥
ok_or_err o x d e f = cc

same_err : {X : Type 0} (o : Result X OpenFault) (d e : OpenFault) → o ≡ Err d → o ≡ Err e → d ≡ e
same_err o d e f g = cc

same_standing : (shape shape2 : Shape) (half half2 : Half) (version version2 generation generation2 next next2 used used2 : ℕ) (cases cases2 : List Case)
    → shape ≡ shape2 → half ≡ half2 → version ≡ version2 → generation ≡ generation2 → cases ≡ cases2 → next ≡ next2 → used ≡ used2
    → ◌≡◌ {A = Standing} (record { shape = shape; half = half; version = version; generation = generation; cases = cases; next = next; used = used })
    (record { shape = shape2; half = half2; version = version2; generation = generation2; cases = cases2; next = next2; used = used2 })
same_standing shape shape2 half half2 version version2 generation generation2 next next2 used used2 cases cases2 a b c d e f g = cc

-- bytes encode one archive
pub stands_once : (b : List ℕ) (s u : Standing) → Stands b s → Stands b u → s ≡ u
stands_once b s u one two =
    let e : front_of s ≡ front_of u = same_ok (front_opening b) (front_of s) (front_of u) one.front two.front in
    let other = subst (λ (t : Front). IsReadAs b t (folded_of u) (u.used - 32)) (sym e) two.records in
    let said = said_once b (front_of s) one.front (folded_of s) (folded_of u) (s.used - 32) (u.used - 32) one.records other in
    let long = one.header in
    let long2 = two.header in
    let used : s.used ≡ u.used = omega (arith, said.1) in
    same_standing s.shape u.shape s.half u.half s.version u.version s.generation u.generation s.next u.next s.used u.used s.cases u.cases
    (ap (λ (t : Front). t.shape) e) (ap (λ (t : Front). t.half) e) (ap (λ (t : Front). t.version) e) (ap (λ (t : Front). t.generation) e)
    (ap (λ (t : Folded). t.cases) said.0) (ap (λ (t : Folded). t.next) said.0) used

-- bytes that encode an archive are not refused
pub stands_or_refused : (b : List ℕ) (s : Standing) (fault : OpenFault) → Stands b s → IsRefused b fault → ⊥
stands_or_refused b s fault stands (inl e) = ok_or_err (front_opening b) (front_of s) fault stands.front e
stands_or_refused b s fault stands (inr w) =
    let same : w.0 ≡ front_of s = same_ok (front_opening b) w.0 (front_of s) w.1 stands.front in
    said_or_faulty b (front_of s) stands.front (folded_of s) (s.used - 32) fault stands.records (subst (λ (t : Front). HasFault b t fault) same w.2)

-- bytes are refused for one fault only
pub refused_once : (b : List ℕ) (e d : OpenFault) → IsRefused b e → IsRefused b d → e ≡ d
refused_once b e d (inl x) (inl y) = same_err (front_opening b) e d x y
refused_once b e d (inl x) (inr v) = absurd (ok_or_err (front_opening b) v.0 e v.1 x)
refused_once b e d (inr w) (inl y) = absurd (ok_or_err (front_opening b) w.0 d w.1 y)
refused_once b e d (inr w) (inr v) =
    let same : v.0 ≡ w.0 = same_ok (front_opening b) v.0 w.0 v.1 w.1 in
    fault_once b w.0 w.1 e d w.2 (subst (λ (t : Front). HasFault b t d) same v.2)

-- an opening has one answer
pub one_opening : (b : List ℕ) (x y : Result Standing OpenFault) → Opening b x → Opening b y → x ≡ y
one_opening b (Ok s) (Ok u) one two = ap (λ (t : Standing). Ok t) (stands_once b s u one two)
one_opening b (Ok s) (Err d) one two = absurd (stands_or_refused b s d one two)
one_opening b (Err e) (Ok u) one two = absurd (stands_or_refused b u e two one)
one_opening b (Err e) (Err d) one two = ap (λ (t : OpenFault). Err t) (refused_once b e d one two)

-- bytes that encode an archive open as that archive
pub stands_opens : (b : List ℕ) (s : Standing) (x : Result Standing OpenFault) → Stands b s → Opening b x → x ≡ Ok s
stands_opens b s x stands opening = one_opening b x (Ok s) opening stands
