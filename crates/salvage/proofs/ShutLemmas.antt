-- The gate after the records of an archive that stands, where it is shown open, and that of the other half.
use Rattle.std.proofs.Common.{◌≡◌, ◌≢◌, ◌⊎◌, inl, inr, ℕ, ◌+◌, ◌-◌, ◌<◌, ◌≤◌, Bool, true, false, List, [], ◌∷◌, length, slice_index, slice_index_or, get_or, ◌==◌, if◌then◌else◌, is_some, refl, sym, ap, ◌∙◌, subst, arith, Option, None, Some, Result, Ok, Err}
use Rattle.std.proofs.lemmas.Bool.{eq-eqb, eqb-true}
use Rattle.std.specs.Option.{option_or}
use Rattle.case_journal.specs.Viewing.{Gives}
use Rattle.disk_model.specs.Places.{overwritten, part}
use Rattle.disk_model.specs.PartLaws.{part_place}
use Rattle.journal_layout.specs.Folding.{sizes}
use Rattle.journal_layout.specs.Front.{Front, front_opening}
use Rattle.journal_layout.specs.FrontLaws.{front_same}
use Rattle.journal_layout.specs.Layout.{IsWithinLimits, half_length, half_start}
use Rattle.journal_layout.specs.ReadingLaws.{stands_once, stands_or_refused}
use Rattle.journal_layout.specs.Rewriting.{other_half}
use Rattle.journal_layout.specs.Standing.{Standing}
use Rattle.journal_layout.specs.StandLaws.{HasSameFront, half_lies, stands_in_half, stands_limits, stands_same, stands_size}
use Rattle.journal_layout.specs.Stands.{Stands, front_of, records_area, records_start}
use Rattle.journal_layout.specs.declared.faults.OpenFault.{OpenFault}
use Rattle.journal_layout.specs.declared.faults.OpenFault.TheVariants.{Disk, OutOfMemory, NotAnArchive, UnknownVersion, Damaged}
use Rattle.journal_layout.specs.declared.shape.Half.{Half}
use Rattle.journal_layout.specs.declared.shape.Half.TheVariants.{A, B}
use Rattle.salvage.specs.Finding.{gate_of, not_found}
use Rattle.salvage.specs.GateLaws.{front_spared, patched_there}
use Rattle.salvage.specs.ShowLaws.{part_unpatched}
use Rattle.salvage.specs.Showing.{shown}
use Rattle.salvage.specs.Shut.{EndsThere, IsNotShut, IsHalfShut, IsLastShut, IsShutAt, IsShutFound, IsShutThere, StaysSo, is_shut, opens, shut_gate, shut_there}

same_front : (o : Result Front OpenFault) (x y : Front) → o ≡ Ok x → o ≡ Ok y → x ≡ y
same_front o x y e f = cc

-- a byte that is read
pub byte_read : (b got : List ℕ) (place : ℕ) → got ≡ part b place 1 → slice_index_or got 0 0 ≡ slice_index b place
byte_read b got place read =
    let e : place + 0 ≡ place = omega arith in
    ap (λ (l : List ℕ). slice_index_or l 0 0) read ∙ part_place b place 1 0 0 (omega arith) ∙ ap (λ (k : ℕ). get_or b k 0) e

-- what a try with an open gate tells
pub ends_decided : (b : List ℕ) (gate used n : ℕ) (u : Standing) → n ≡ u.used → Stands (shown (opens gate) b) u → EndsThere b gate used (Ok (n == used))
ends_decided b gate used n u is stands = by_test (n == used) refl
  where
    by_test : (t : Bool) → (n == used) ≡ t → EndsThere b gate used (Ok t)
    by_test true e = (u, stands, sym is ∙ eqb-true n used e)
    by_test false e = λ stays.
        let same : u ≡ stays.0 = stands_once (shown (opens gate) b) u stays.0 stands stays.1 in
        let met : (n == used) ≡ true = eq-eqb n used (is ∙ ap (λ (x : Standing). x.used) same ∙ stays.2) in
        absurd (cc)

none_stays : (b : List ℕ) (gate used : ℕ) → ((u : Standing) → Stands (shown (opens gate) b) u → ⊥) → StaysSo b gate used → ⊥
none_stays b gate used none stays = none stays.0 stays.1

pub ends_refused : (b : List ℕ) (gate used : ℕ) (fault : OpenFault) → Gives (Err fault) (shown (opens gate) b) → EndsThere b gate used (not_found fault)
ends_refused b gate used Disk gives = inl refl
ends_refused b gate used OutOfMemory gives = inr refl
ends_refused b gate used NotAnArchive gives = none_stays b gate used (λ u stands. stands_or_refused (shown (opens gate) b) u NotAnArchive stands gives)
ends_refused b gate used (UnknownVersion v) gives = none_stays b gate used (λ u stands. stands_or_refused (shown (opens gate) b) u (UnknownVersion v) stands gives)
ends_refused b gate used (Damaged at which) gives = none_stays b gate used (λ u stands. stands_or_refused (shown (opens gate) b) u (Damaged at which) stands gives)

module _ (b : List ℕ) (s : Standing) (stands : Stands b s) where
  limits : IsWithinLimits s.shape
  limits = stands_limits b s stands

  in_half : s.used + 1 ≤ half_length s.shape
  in_half = stands_in_half b s stands

  -- so many bytes after the begin of a half
  abbrev place : Half → ℕ
  place half = half_start s.shape half + s.used

  place_within : (half : Half) → place half < length b
  place_within half = omega (arith, in_half, half_lies s.shape half limits, stands_size b s stands)

  abbrev opened : Half → List ℕ
  opened half = overwritten b (place half) (165 ∷ [])

  place_low : (half : Half) → half_start s.shape half + 32 ≤ place half
  place_low half = let head = stands.header in omega arith

  place_high : (half : Half) → place half < half_start s.shape half + half_length s.shape
  place_high half = omega (arith, in_half)

  same_so : (half : Half) → HasSameFront s.shape b (opened half)
  same_so half = front_spared b (opened half) s.shape half (place half) 165 limits (place_low half) (place_high half) (place_within half) refl

  apart : (half : Half) → (half_start s.shape half + (s.used + 1) ≤ place (other_half half)) ⊎ (place (other_half half) + 1 ≤ half_start s.shape half)
  apart A = inl (omega (arith, in_half))
  apart B = inr (omega (arith, in_half))

  -- a gate of the other half may be shown open
  other_stays : StaysSo b (place (other_half s.half)) s.used
  other_stays =
      let g = place (other_half s.half) in (
        s,
        stands_same b (opened (other_half s.half)) s (same_so (other_half s.half))
            (part_unpatched b g 165 (half_start s.shape s.half) (s.used + 1) (place_within (other_half s.half)) (apart s.half)) stands,
        refl,
      )

  gate_opened : slice_index (records_area (opened s.half) s.shape s.half) (s.used - 32) ≡ 165
  gate_opened =
      let head = stands.header in
      let e : records_start s.shape s.half + (s.used - 32) ≡ gate_of s = omega arith in
      part_place (opened s.half) (records_start s.shape s.half) (half_length s.shape - 32) (s.used - 32) 0 (omega (arith, in_half))
      ∙ ap (λ (k : ℕ). get_or (opened s.half) k 0) e ∙ patched_there b (gate_of s) 165 (place_within s.half)

  -- its own gate may not: its records would go on
  own_moves : StaysSo b (gate_of s) s.used → ⊥
  own_moves stays =
      let c = opened s.half in
      let u = stays.0 in
      let same = same_so s.half in
      let there : front_opening c ≡ Ok (front_of s) = front_same b c (front_of s) stands.front same.long same.superblock same.first same.second in
      let is : front_of u ≡ front_of s = same_front (front_opening c) (front_of u) (front_of s) stays.1.front there in
      let read = stays.1.records in
      let size : sizes read.records ≡ s.used - 32 = read.size ∙ ap (λ (n : ℕ). n - 32) stays.2 in
      let closed : slice_index (records_area c u.shape u.half) (s.used - 32) ≢ 165 = subst (λ (n : ℕ). slice_index (records_area c u.shape u.half) n ≢ 165) size read.closed in
      subst (λ (t : Front). slice_index (records_area c t.shape t.half) (s.used - 32) ≢ 165) is closed gate_opened

  by_test : (t : Bool) (o : Option ℕ) → is_shut (slice_index b (gate_of s)) ≡ t → (if t then Some (gate_of s) else None) ≡ o → o ≡ shut_there b (gate_of s)
  by_test t o e is = cc

  here : IsShutThere b (gate_of s) s.used → Some (gate_of s) ≡ shut_there b (gate_of s)
  here there = by_test true (Some (gate_of s)) there.damaged refl

  not_here : IsNotShut b (gate_of s) s.used → None ≡ shut_there b (gate_of s)
  not_here (inl past) = absurd (omega (arith, past, place_within s.half))
  not_here (inr (inl sound)) = by_test false None sound refl
  not_here (inr (inr stays)) = absurd (own_moves stays)

  not_other : IsShutThere b (place (other_half s.half)) s.used → ⊥
  not_other there = there.ends other_stays

  first_by : (half : Half) (g : ℕ) → g ≡ place A → IsShutThere b (place A) s.used
      → (IsShutThere b (place half) s.used → Some (place half) ≡ shut_there b (gate_of s)) → (IsShutThere b (place (other_half half)) s.used → ⊥) → Some g ≡ shut_there b (gate_of s)
  first_by A g e there own other = ap Some e ∙ own there
  first_by B g e there own other = absurd (other there)

  found_first : (o : Option ℕ) → is_some o ≡ true → IsShutAt b (half_start s.shape A) s.used (Ok o) → IsLastShut b s (Ok o)
  found_first None some told = absurd (cc)
  found_first (Some g) some told = first_by s.half g told.0 told.1 here not_other

  at_place : (half : Half) (r : Result (Option ℕ) OpenFault) (start used : ℕ) → start ≡ half_start s.shape half → used ≡ s.used
      → IsShutAt b start used r → IsShutAt b (half_start s.shape half) s.used r
  at_place half r start used begins ends told =
      subst (λ (p : ℕ). IsShutAt b p s.used r) begins (subst (λ (n : ℕ). IsShutAt b start n r) ends told)

  -- what is found in the first half
  pub shut_first : (o : Option ℕ) (start used : ℕ) → start ≡ half_start s.shape A → used ≡ s.used → is_some o ≡ true → IsShutAt b start used (Ok o)
      → IsLastShut b s (Ok o)
  shut_first o start used begins ends some told = found_first o some (at_place A (Ok o) start used begins ends told)

  second_by : (half : Half) (r : Result (Option ℕ) OpenFault) → IsNotShut b (place A) s.used → IsShutAt b (half_start s.shape B) s.used r
      → (IsNotShut b (place half) s.used → None ≡ shut_there b (gate_of s)) → (IsShutThere b (place half) s.used → Some (place half) ≡ shut_there b (gate_of s))
      → (IsShutThere b (place (other_half half)) s.used → ⊥) → IsLastShut b s r
  second_by A (Ok None) none told own_not own other = own_not none
  second_by A (Ok (Some g)) none told own_not own other = absurd (other told.1)
  second_by A (Err fault) none told own_not own other = told
  second_by B (Ok None) none told own_not own other = own_not told
  second_by B (Ok (Some g)) none told own_not own other = ap Some told.0 ∙ own told.1
  second_by B (Err fault) none told own_not own other = told

  found_second : (o : Option ℕ) (r : Result (Option ℕ) OpenFault) → is_some o ≡ false → IsShutAt b (half_start s.shape A) s.used (Ok o)
      → IsShutAt b (half_start s.shape B) s.used r → IsLastShut b s r
  found_second None r none told second = second_by s.half r told second not_here here not_other
  found_second (Some g) r none told second = absurd (cc)

  -- and then in the second
  pub shut_second : (o : Option ℕ) (r : Result (Option ℕ) OpenFault) (first second used : ℕ) → first ≡ half_start s.shape A → second ≡ half_start s.shape B → used ≡ s.used
      → is_some o ≡ false → IsShutAt b first used (Ok o) → IsShutAt b second used r → IsLastShut b s r
  shut_second o r first second used begins goes ends none told after =
      found_second o r none (at_place A (Ok o) first used begins ends told) (at_place B r second used goes ends after)

or_some : (o x : Option ℕ) → is_some o ≡ true → o ≡ option_or o x
or_some None x some = absurd (cc)
or_some (Some n) x some = refl

or_none : (o x : Option ℕ) → is_some o ≡ false → x ≡ option_or o x
or_none None x none = refl
or_none (Some n) x none = absurd (cc)

module _ (b : List ℕ) (s : Standing) (stands : Stands b s) where
  begin_within : (half : Half) → half_start s.shape half < length b
  begin_within half = let in_half = stands_in_half b s stands in omega (arith, in_half, half_lies s.shape half (stands_limits b s stands), stands_size b s stands)

  abbrev first_half : Option ℕ
  first_half = shut_there b (half_start s.shape A)

  abbrev other_one : Option ℕ
  other_one = shut_there b (half_start s.shape B)

  abbrev last_one : Option ℕ
  last_one = shut_there b (gate_of s)

  half_found : (half : Half) (o : Option ℕ) (start : ℕ) → start ≡ half_start s.shape half → IsHalfShut b start (Ok o) → o ≡ shut_there b (half_start s.shape half)
  half_found half o start begins told = subst (λ (p : ℕ). IsHalfShut b p (Ok o)) begins told (begin_within half)

  after_first : (o : Option ℕ) → o ≡ first_half → is_some o ≡ false → option_or other_one last_one ≡ shut_gate b s
  after_first o is none = or_none o (option_or other_one last_one) none ∙ ap (λ (x : Option ℕ). option_or x (option_or other_one last_one)) is

  -- the gate of the first half
  pub first_shut : (o : Option ℕ) (start : ℕ) → start ≡ half_start s.shape A → is_some o ≡ true → IsHalfShut b start (Ok o) → IsShutFound b s (Ok o)
  first_shut o start begins some told =
      or_some o (option_or other_one last_one) some ∙ ap (λ (x : Option ℕ). option_or x (option_or other_one last_one)) (half_found A o start begins told)

  module _ (first : Option ℕ) (start : ℕ) (begins : start ≡ half_start s.shape A) (none : is_some first ≡ false) (told : IsHalfShut b start (Ok first)) where
    past_first : option_or other_one last_one ≡ shut_gate b s
    past_first = after_first first (half_found A first start begins told) none

    -- that of the other
    pub other_shut : (o : Option ℕ) (other : ℕ) → other ≡ half_start s.shape B → is_some o ≡ true → IsHalfShut b other (Ok o) → IsShutFound b s (Ok o)
    other_shut o other begin some found =
        or_some o last_one some ∙ ap (λ (x : Option ℕ). option_or x last_one) (half_found B o other begin found) ∙ past_first

    -- and that after the records
    pub last_found : (o : Option ℕ) (other : ℕ) (r : Result (Option ℕ) OpenFault) → other ≡ half_start s.shape B → is_some o ≡ false → IsHalfShut b other (Ok o)
        → IsLastShut b s r → IsShutFound b s r
    last_found o other (Err fault) begin empty found last = last
    last_found o other (Ok x) begin empty found last =
        last ∙ or_none o last_one empty ∙ ap (λ (y : Option ℕ). option_or y last_one) (half_found B o other begin found) ∙ past_first
