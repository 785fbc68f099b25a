-- Laws of a disk with bytes gathered for it.
use Rattle.std.proofs.Common.{◌≡◌, ◌↔◌, ◌⊎◌, inl, inr, ⊎_elim, ℕ, ◌+◌, ◌-◌, ◌*◌, ◌/◌, ◌^◌, ◌<◌, ◌≤◌, Bool, false, IsTrue, List, [], ◌∷◌, ◌++◌, Result, Ok, length, get_or, take, drop, refl, sym, ◌∙◌, ap, subst, arith, length-append, if◌then◌else◌}
use Rattle.std.proofs.lemmas.List.{get_or_append_left, get_or-append_right, ext_get_or}
use Rattle.std.proofs.lemmas.Bool.{cases_lt, cases_Bool, both_ways}
use Rattle.std.proofs.lemmas.Nat.{div-add-mod'}
use Rattle.std.proofs.lemmas.Result.{IfOk-weaker}
use Rattle.disk_model.specs.Places.{AreBytes, part, overwritten, SameOutside}
use Rattle.disk_model.specs.PlaceLaws.{overwritten_bytes, overwritten_length, overwritten_outside, same_as_it_was}
use Rattle.disk_model.specs.PartLaws.{part_length, part_bytes, part_place, part_overwritten, place_before, place_after, place_spared, widened, same_twice, same_by_places, same_all}
use Rattle.disk_model.specs.Disk.{Only, Elapses}
use Rattle.disk_model.specs.Backing.{IsFetched, IsPut}
use Rattle.disk_model.specs.Gathering.{Laden, laden, shown, MayStay, moment, stayed_since, Passes, IsQuiet, IsTaken}
use Rattle.disk_model.specs.declared.disk.Disk as disk

-- lists that are the same outside no place
pub same_everywhere : (at : ℕ) (b c : List ℕ) → SameOutside at 0 b c → c ≡ b
unfolding part
same_everywhere at b c same = same_all at 0 b c same refl

-- no bytes change nothing
pub nothing_over : (l : List ℕ) (at : ℕ) → at ≤ length l → overwritten l at [] ≡ l
nothing_over l at within = same_everywhere at l (overwritten l at []) (overwritten_outside l at [] (omega (arith, within)))

-- the bytes in the range and outside it
pub over_in : (l : List ℕ) (at : ℕ) (b : List ℕ) (k : ℕ) → at + length b ≤ length l → at ≤ k → k < at + length b → get_or (overwritten l at b) k 0 ≡ get_or b (k - at) 0
over_in l at b k within low high =
    let e : at + (k - at) ≡ k = omega (arith, low) in
    let below : k - at < length b = omega (arith, low, high) in
    ap (λ (j : ℕ). get_or (overwritten l at b) j 0) (sym e)
    ∙ sym (part_place (overwritten l at b) at (length b) (k - at) 0 below)
    ∙ ap (λ (m : List ℕ). get_or m (k - at) 0) (part_overwritten l at b within)

pub over_out : (l : List ℕ) (at : ℕ) (b : List ℕ) (k : ℕ) → at + length b ≤ length l → (k < at) ⊎ (at + length b ≤ k) → get_or (overwritten l at b) k 0 ≡ get_or l k 0
over_out l at b k within outside = place_spared at (length b) l (overwritten l at b) (overwritten_outside l at b within) k 0 outside

-- Bytes that are written over lists that are the same outside them give the same.
pub over_same : (at : ℕ) (b l m : List ℕ) → SameOutside at (length b) l m → overwritten m at b ≡ overwritten l at b
over_same at b l m same =
    ap (λ (x : List ℕ). x ++ b ++ drop (at + length b) m) same.before
    ∙ ap (λ (y : List ℕ). take at l ++ b ++ y) same.after

module _ (l : List ℕ) (at : ℕ) (a b : List ℕ) (within : at + length a + length b ≤ length l) where
  inner : at + length a ≤ length l
  inner = omega (arith, within)

  abbrev once : List ℕ
  once = overwritten l at a

  long : length once ≡ length l
  long = overwritten_length l at a inner

  outer : at + length a + length b ≤ length once
  outer = omega (arith, long, within)

  both : at + length (a ++ b) ≤ length l
  both = omega (arith, within, length-append a b)

  places : (k : ℕ) → get_or (overwritten once (at + length a) b) k 0 ≡ get_or (overwritten l at (a ++ b)) k 0
  places k =
      elim (cases_lt k at) as (λ _. get_or (overwritten once (at + length a) b) k 0 ≡ get_or (overwritten l at (a ++ b)) k 0) [
        | inl low ↦
            over_out once (at + length a) b k outer (inl (omega (arith, low)))
            ∙ over_out l at a k inner (inl low)
            ∙ sym (over_out l at (a ++ b) k both (inl low))
        | inr from ↦
            elim (cases_lt k (at + length a)) as (λ _. get_or (overwritten once (at + length a) b) k 0 ≡ get_or (overwritten l at (a ++ b)) k 0) [
              | inl first ↦
                  over_out once (at + length a) b k outer (inl first)
                  ∙ over_in l at a k inner from first
                  ∙ sym (get_or_append_left a b 0 (k - at) (omega (arith, from, first)))
                  ∙ sym (over_in l at (a ++ b) k both from (omega (arith, first, length-append a b)))
              | inr second ↦
                  elim (cases_lt k (at + length a + length b)) as (λ _. get_or (overwritten once (at + length a) b) k 0 ≡ get_or (overwritten l at (a ++ b)) k 0) [
                    | inl within_b ↦
                        let e : k - (at + length a) ≡ k - at - length a = omega (arith, from, second) in
                        over_in once (at + length a) b k outer second within_b
                        ∙ ap (λ (j : ℕ). get_or b j 0) e
                        ∙ sym (get_or-append_right a b (length a) (k - at) 0 refl (omega (arith, from, second)))
                        ∙ sym (over_in l at (a ++ b) k both from (omega (arith, within_b, length-append a b)))
                    | inr past ↦
                        over_out once (at + length a) b k outer (inr past)
                        ∙ over_out l at a k inner (inr second)
                        ∙ sym (over_out l at (a ++ b) k both (inr (omega (arith, past, length-append a b))))
                  ]
            ]
      ]

  -- bytes written right after others, and all of them written at once
  pub over_twice : overwritten (overwritten l at a) (at + length a) b ≡ overwritten l at (a ++ b)
  over_twice =
      ext_get_or 0 (overwritten once (at + length a) b) (overwritten l at (a ++ b))
      (overwritten_length once (at + length a) b outer ∙ long ∙ sym (overwritten_length l at (a ++ b) both))
      (λ k _. places k)

-- A change in a range is one in its front, and then one in the rest.
module _ (at m n : ℕ) (b c : List ℕ) (same : SameOutside at (m + n) b c) (within : at + m + n ≤ length b) where
  abbrev front : List ℕ
  front = part c at m

  front_long : length front ≡ m
  front_long = part_length c at m (omega (arith, within, same.same_length))

  abbrev pub halfway : List ℕ
  halfway = overwritten b at (part c at m)

  fits : at + length front ≤ length b
  fits = omega (arith, within, front_long)

  pub first_half : SameOutside at m b halfway
  first_half = subst (λ (k : ℕ). SameOutside at k b halfway) front_long (overwritten_outside b at front fits)

  in_front : (k : ℕ) → at ≤ k → k < at + m → get_or c k 0 ≡ get_or halfway k 0
  in_front k low high =
      let e : at + (k - at) ≡ k = omega (arith, low) in
      sym (over_in b at front k fits low (omega (arith, high, front_long))
      ∙ part_place c at m (k - at) 0 (omega (arith, low, high))
      ∙ ap (λ (j : ℕ). get_or c j 0) e)

  pub second_half : SameOutside (at + m) n halfway c
  second_half =
      same_by_places (at + m) n halfway c
      (same.same_length ∙ sym first_half.same_length)
      (λ k outside. ⊎_elim
      (λ below. ⊎_elim
      (λ low. place_before at (m + n) b c same k 0 low ∙ sym (place_before at m b halfway first_half k 0 low))
      (λ from. in_front k from below)
      (cases_lt k at))
      (λ past. place_after at (m + n) b c same k 0 (omega (arith, past)) ∙ sym (place_after at m b halfway first_half k 0 (omega (arith, past))))
      outside)

-- the laws of a disk that the laws below need
pub record Laws {D : Type 0} (g : disk.Ghosts D) : Type 0 where
  pub whole : (d : D) → IsTrue (g.is_honest d) → length (g.seen d) ≡ g.size d
  pub sized : (d : D) (c : List ℕ) → IsTrue (g.is_honest d) → g.may_leave d c → length c ≡ g.size d
  pub seen_bytes : (d : D) → IsTrue (g.is_honest d) → AreBytes (g.seen d)
  pub left_bytes : (d : D) (c : List ℕ) → IsTrue (g.is_honest d) → g.may_leave d c → AreBytes c
  pub seen_may_stay : (d : D) → IsTrue (g.is_honest d) → g.may_leave d (g.seen d)
  pub counts_now : (d : D) (t : ℕ) (c : List ℕ) → t ≤ g.clock d → g.may_leave d c → g.left_since d t c
  pub only_now : (d : D) (c : List ℕ) → g.left_since d (g.clock d) c → g.may_leave d c

-- the gathered bytes lie within the disk, and are bytes
pub record Fits {D : Type 0} (g : disk.Ghosts D) (l : Laden D) : Type 0 where
  pub within : l.at + length l.bytes ≤ g.size l.disk
  pub few : length l.bytes < 2 ^ 64
  pub are : AreBytes l.bytes

module _ {D : Type 0} (g : disk.Ghosts D) where
  moment_is : (l : Laden D) → IsTrue (g.is_honest l.disk) → moment g l ≡ g.clock l.disk * 2 ^ 64 + length l.bytes
  moment_is l honest = ap (λ (b : Bool). if b then g.clock l.disk * 2 ^ 64 + length l.bytes else 0) honest

  no_moment : (l : Laden D) → g.is_honest l.disk ≡ false → moment g l ≡ 0
  no_moment l lies = ap (λ (b : Bool). if b then g.clock l.disk * 2 ^ 64 + length l.bytes else 0) lies

  -- the disk's moment that a moment lies in is no later than the disk's own
  moment_within : (l : Laden D) (since t : ℕ) → IsTrue (g.is_honest l.disk) → length l.bytes < 2 ^ 64 → since * 2 ^ 64 ≤ t → t ≤ moment g l → since ≤ g.clock l.disk
  moment_within l since t honest few from le =
      let e = moment_is l honest in
      omega (arith, few, from, subst (λ (m : ℕ). t ≤ m) e le)

  module _ (laws : Laws g) where
    -- an outcome of the disk is one with bytes gathered
    pub below_stays : (l : Laden D) (c : List ℕ) → IsTrue (g.is_honest l.disk) → g.may_leave l.disk c → MayStay g l c
    below_stays l c honest left = record {
      honest = honest;
      below = c;
      left = left;
      same = same_as_it_was l.at (length l.bytes) c;
      are = laws.left_bytes l.disk c honest left;
    }

    module _ (old new : Laden D)
        (honesty : g.is_honest new.disk ≡ g.is_honest old.disk)
        (time : Elapses g.clock g.may_leave g.left_since old.disk new.disk)
        (few : length old.bytes < 2 ^ 64)
        (grows : IsTrue (g.is_honest old.disk) → (g.clock old.disk < g.clock new.disk) ⊎ (length old.bytes ≤ length new.bytes))
        (kept : IsTrue (g.is_honest old.disk) → (c : List ℕ) → MayStay g old c → MayStay g new c ⊎ ((t : ℕ) → t ≤ g.clock old.disk → g.left_since new.disk t c))
        (still : IsTrue (g.is_honest old.disk) → moment g new ≡ moment g old → (c : List ℕ) → MayStay g new c → MayStay g old c) where
      on_honest : IsTrue (g.is_honest old.disk) → Passes g old new
      on_honest honest =
          let now = honesty ∙ honest in
          let was_is = moment_is old honest in
          let is = moment_is new now in
          record {
            later = rw (was_is, is) (⊎_elim (λ more. omega (arith, more, few)) (λ more. omega (arith, more, time.later)) (grows honest));
            nothing_else = λ t c le since. ⊎_elim
                (λ stays. inr stays)
                (λ was. ⊎_elim
                (λ earlier. inl (inr (record { honest = honest; since = was.since; from = was.from; until = was.until; left = earlier })))
                (λ left. inr (below_stays new c now left))
                (time.nothing_else was.since c (moment_within old was.since t honest few was.from le) was.left))
                since;
            keeps = λ t c le since. ⊎_elim
                (λ stays. ⊎_elim
                (λ still_stays. inl still_stays)
                (λ left.
                let low : t / 2 ^ 64 * 2 ^ 64 ≤ t = omega (arith, div-add-mod' t (2 ^ 64)) in
                let high : t < t / 2 ^ 64 * 2 ^ 64 + 2 ^ 64 = omega (arith, div-add-mod' t (2 ^ 64)) in
                inr (record { honest = now; since = t / 2 ^ 64; from = low; until = high; left = left (t / 2 ^ 64) (moment_within old (t / 2 ^ 64) t honest few low le) }))
                (kept honest c stays))
                (λ was. inr (record { honest = now; since = was.since; from = was.from; until = was.until; left = time.keeps was.since c (moment_within old was.since t honest few was.from le) was.left }))
                since;
            still = still honest;
          }

      on_other : g.is_honest old.disk ≡ false → Passes g old new
      on_other lies =
          let none : IsTrue (g.is_honest old.disk) → ⊥ = both_ways (g.is_honest old.disk) lies in
          let none_now : IsTrue (g.is_honest new.disk) → ⊥ = λ is. none (sym honesty ∙ is) in
          record {
            later = rw (no_moment old lies, no_moment new (honesty ∙ lies)) (omega arith);
            nothing_else = λ t c le since. ⊎_elim (λ stays. absurd (none_now stays.honest)) (λ was. absurd (none_now was.honest)) since;
            keeps = λ t c le since. ⊎_elim (λ stays. absurd (none stays.honest)) (λ was. absurd (none was.honest)) since;
            still = λ _ c stays. absurd (none_now stays.honest);
          }

      -- a call of the disk, or a byte more that is gathered
      pub passes : Passes g old new
      passes = ⊎_elim on_honest on_other (cases_Bool (g.is_honest old.disk))

    -- one run of calls after another
    module _ (old mid new : Laden D) (quiet : IsQuiet g old mid) where
      back : (c : List ℕ) → MayStay g mid c → MayStay g old c
      back c stays = quiet.crash (sym quiet.honesty ∙ stays.honest) c stays

      pub passes_on : Passes g mid new → Passes g old new
      passes_on time = record {
        later = omega (arith, quiet.time.later, time.later);
        nothing_else = λ t c le since. ⊎_elim
            (λ was. ⊎_elim (λ earlier. inl earlier) (λ stays. inl (inl (back c stays))) (quiet.time.nothing_else t c le was))
            (λ stays. inr stays)
            (time.nothing_else t c (omega (arith, le, quiet.time.later)) since);
        keeps = λ t c le since. time.keeps t c (omega (arith, le, quiet.time.later)) (quiet.time.keeps t c le since);
        still = λ same c stays. back c (time.still (omega (arith, same, quiet.time.later, time.later)) c stays);
      }

      pub quiet_on : IsQuiet g mid new → IsQuiet g old new
      quiet_on next = record {
        shows = λ honest. next.shows (quiet.honesty ∙ honest) ∙ quiet.shows honest;
        crash = λ honest c stays. quiet.crash honest c (next.crash (quiet.honesty ∙ honest) c stays);
        time = passes_on next.time;
        honesty = next.honesty ∙ quiet.honesty;
        size = next.size ∙ quiet.size;
      }

      pub taken_on : {T E : Type 0} (result : Result T E) (at : ℕ) (from : List ℕ) → IsTaken g result at from mid new → IsTaken g result at from old new
      taken_on result at from next = record {
        written = IfOk-weaker result (λ _. IsTrue (g.is_honest mid.disk) → shown g new ≡ overwritten (shown g mid) at from) (λ _. IsTrue (g.is_honest old.disk) → shown g new ≡ overwritten (shown g old) at from)
            (λ _ is honest. is (quiet.honesty ∙ honest) ∙ ap (λ (l : List ℕ). overwritten l at from) (quiet.shows honest)) next.written;
        others = λ honest. subst (λ (l : List ℕ). SameOutside at (length from) l (shown g new)) (quiet.shows honest) (next.others (quiet.honesty ∙ honest));
        crash = λ honest c stays. let left = next.crash (quiet.honesty ∙ honest) c stays in (left.0, back left.0 left.1, left.2);
        time = passes_on next.time;
        honesty = next.honesty ∙ quiet.honesty;
        size = next.size ∙ quiet.size;
      }

    no_time : (d : D) → Elapses g.clock g.may_leave g.left_since d d
    no_time d = record { later = omega arith; nothing_else = λ t c le since. inl since; keeps = λ t c le since. since; still = λ same c left. left }

    -- nothing was done
    pub quiet_nothing : (l : Laden D) → IsQuiet g l l
    quiet_nothing l = record {
      shows = λ _. refl;
      crash = λ _ c stays. stays;
      time = record { later = omega arith; nothing_else = λ t c le since. inl since; keeps = λ t c le since. since; still = λ same c stays. stays };
      honesty = refl;
      size = refl;
    }

    -- A list that stays with nothing gathered may stay of the disk.
    bare : (d : D) (at : ℕ) (c : List ℕ) → MayStay g (laden d at []) c → g.may_leave d c
    bare d at c stays = subst (g.may_leave d) (sym (same_everywhere at stays.below c stays.same)) stays.left

    bare_shown : (d : D) (at : ℕ) → at ≤ g.size d → IsTrue (g.is_honest d) → overwritten (g.seen d) at [] ≡ g.seen d
    bare_shown d at within honest = nothing_over (g.seen d) at (omega (arith, within, laws.whole d honest))

    module _ (d e : D) {T E : Type 0} (result : Result T E) where
      -- the disk was read
      pub fetched : (at : ℕ) (a : List ℕ) (p n : ℕ) (bytes : List ℕ) → length a < 2 ^ 64 → IsFetched g result p n bytes d e → IsQuiet g (laden d at a) (laden e at a)
      fetched at a p n bytes few read =
          let crash : IsTrue (g.is_honest d) → (c : List ℕ) → MayStay g (laden e at a) c → MayStay g (laden d at a) c =
          λ honest c stays. record { honest = honest; below = stays.below; left = read.crash honest stays.below stays.left; same = stays.same; are = stays.are } in
          record {
            shows = λ honest. ap (λ (l : List ℕ). overwritten l at a) (read.seen honest);
            crash = crash;
            time = passes (laden d at a) (laden e at a) read.honesty read.time few (λ _. inr (omega arith))
                (λ honest c stays. inl (record { honest = read.honesty ∙ honest; below = stays.below; left = read.stays honest stays.below stays.left; same = stays.same; are = stays.are }))
                (λ honest _. crash honest);
            honesty = read.honesty;
            size = read.size;
          }

      -- The disk did not take the gathered bytes.
      pub refused : (at : ℕ) (a : List ℕ) → length a < 2 ^ 64 → IsPut g result at a d e → IsQuiet g (laden d at a) (laden e at a)
      refused at a few put =
          let crash : IsTrue (g.is_honest d) → (c : List ℕ) → MayStay g (laden e at a) c → MayStay g (laden d at a) c =
          λ honest c stays.
          let left = put.crash honest stays.below stays.left in
          record { honest = honest; below = left.0; left = left.1; same = same_twice at (length a) left.0 stays.below c left.2 stays.same; are = stays.are } in
          record {
            shows = λ honest. over_same at a (g.seen d) (g.seen e) (put.others honest);
            crash = crash;
            time = passes (laden d at a) (laden e at a) put.honesty put.time few (λ _. inr (omega arith))
                (λ honest c stays. inl (record { honest = put.honesty ∙ honest; below = stays.below; left = put.stays honest stays.below stays.left; same = stays.same; are = stays.are }))
                (λ honest _. crash honest);
            honesty = put.honesty;
            size = put.size;
          }

      -- With nothing gathered the disk took bytes itself, or refused them.
      pub put_through : (at p : ℕ) (from : List ℕ) → at ≤ g.size d → IsPut g result p from d e → IsTaken g result p from (laden d at []) (laden e at [])
      put_through at p from within put =
          let was = λ (honest : IsTrue (g.is_honest d)). bare_shown d at within honest in
          let is = λ (honest : IsTrue (g.is_honest d)). bare_shown e at (omega (arith, within, put.size)) (put.honesty ∙ honest) in
          record {
            written = IfOk-weaker result (λ _. IsTrue (g.is_honest d) → g.seen e ≡ overwritten (g.seen d) p from) (λ _. IsTrue (g.is_honest d) → overwritten (g.seen e) at [] ≡ overwritten (overwritten (g.seen d) at []) p from)
                (λ _ wrote honest. is honest ∙ wrote honest ∙ ap (λ (l : List ℕ). overwritten l p from) (sym (was honest))) put.written;
            others = λ honest. subst (λ (l : List ℕ). SameOutside p (length from) l (overwritten (g.seen e) at [])) (sym (was honest))
                (subst (λ (l : List ℕ). SameOutside p (length from) (g.seen d) l) (sym (is honest)) (put.others honest));
            crash = λ honest c stays. let left = put.crash honest c (bare e at c stays) in (left.0, below_stays (laden d at []) left.0 honest left.1, left.2);
            time = passes (laden d at []) (laden e at []) put.honesty put.time (omega arith) (λ _. inr (omega arith))
                (λ honest c stays. inl (below_stays (laden e at []) c (put.honesty ∙ honest) (put.stays honest c (bare d at c stays))))
                (λ honest same c stays.
                below_stays (laden d at []) c honest
                (put.time.still (omega (arith, same, moment_is (laden d at []) honest, moment_is (laden e at []) (put.honesty ∙ honest))) c (bare e at c stays)));
            honesty = put.honesty;
            size = put.size;
          }

    -- The disk took the gathered bytes.
    pub written_out : (d e : D) {T E : Type 0} (done : T) (at : ℕ) (a : List ℕ) → at + length a ≤ g.size d → length a < 2 ^ 64 → IsPut {E = E} g (Ok done) at a d e → IsQuiet g (laden d at a) (laden e at [])
    written_out d e done at a within few put =
        let crash : IsTrue (g.is_honest d) → (c : List ℕ) → MayStay g (laden e at []) c → MayStay g (laden d at a) c =
        λ honest c stays.
        let left = put.crash honest c (bare e at c stays) in
        record { honest = honest; below = left.0; left = left.1; same = left.2; are = stays.are } in
        record {
          shows = λ honest. bare_shown e at (omega (arith, within, put.size)) (put.honesty ∙ honest) ∙ put.written honest;
          crash = crash;
          time = passes (laden d at a) (laden e at []) put.honesty put.time few (λ honest. inl (put.moves honest))
              (λ honest c stays. inl (below_stays (laden e at []) c (put.honesty ∙ honest) (put.opens honest stays.below c stays.left stays.same stays.are)))
              (λ honest _. crash honest);
          honesty = put.honesty;
          size = put.size;
        }

    -- The first bytes were gathered.
    pub taken_first : (d : D) {T E : Type 0} (done : T) (at p : ℕ) (from : List ℕ) → at ≤ g.size d → p + length from ≤ g.size d → IsTaken g {E = E} (Ok done) p from (laden d at []) (laden d p from)
    taken_first d done at p from within fits =
        let was = λ (honest : IsTrue (g.is_honest d)). bare_shown d at within honest in
        record {
          written = λ honest. ap (λ (l : List ℕ). overwritten l p from) (sym (was honest));
          others = λ honest. subst (λ (l : List ℕ). SameOutside p (length from) l (overwritten (g.seen d) p from)) (sym (was honest))
              (overwritten_outside (g.seen d) p from (omega (arith, fits, laws.whole d honest)));
          crash = λ honest c stays. (stays.below, below_stays (laden d at []) stays.below honest stays.left, stays.same);
          time = passes (laden d at []) (laden d p from) refl (no_time d) (omega arith) (λ _. inr (omega arith))
              (λ honest c stays. inl (below_stays (laden d p from) c honest (bare d at c stays)))
              (λ honest same c stays.
              let none : length from ≡ 0 = omega (arith, same, moment_is (laden d at []) honest, moment_is (laden d p from) honest) in
              let e = same_everywhere p stays.below c (subst (λ (k : ℕ). SameOutside p k stays.below c) none stays.same) in
              below_stays (laden d at []) c honest (subst (g.may_leave d) (sym e) stays.left));
          honesty = refl;
          size = refl;
        }

    -- Bytes were gathered right after others.
    pub taken_more : (d : D) {T E : Type 0} (done : T) (at : ℕ) (a b : List ℕ) → at + length a + length b ≤ g.size d → length a < 2 ^ 64 → IsTaken g {E = E} (Ok done) (at + length a) b (laden d at a) (laden d at (a ++ b))
    taken_more d done at a b fits few =
        let all : length (a ++ b) ≡ length a + length b = length-append a b in
        let within : IsTrue (g.is_honest d) → at + length a + length b ≤ length (g.seen d) = λ honest. omega (arith, fits, laws.whole d honest) in
        record {
          written = λ honest. sym (over_twice (g.seen d) at a b (within honest));
          others = λ honest.
              let once_long = overwritten_length (g.seen d) at a (omega (arith, within honest)) in
              subst (λ (l : List ℕ). SameOutside (at + length a) (length b) (overwritten (g.seen d) at a) l) (over_twice (g.seen d) at a b (within honest))
              (overwritten_outside (overwritten (g.seen d) at a) (at + length a) b (omega (arith, within honest, once_long)));
          crash = λ honest c stays.
              let long = laws.sized d stays.below honest stays.left in
              let room : at + length a + length b ≤ length stays.below = omega (arith, fits, long) in
              let same = subst (λ (k : ℕ). SameOutside at k stays.below c) all stays.same in
              let half = halfway at (length a) (length b) stays.below c same room in (
                half,
                record {
                  honest = honest;
                  below = stays.below;
                  left = stays.left;
                  same = first_half at (length a) (length b) stays.below c same room;
                  are = overwritten_bytes stays.below at (part c at (length a)) (laws.left_bytes d stays.below honest stays.left) (part_bytes c at (length a) stays.are);
                },
                second_half at (length a) (length b) stays.below c same room,
              );
          time = passes (laden d at a) (laden d at (a ++ b)) refl (no_time d) few (λ _. inr (omega (arith, all)))
              (λ honest c stays. inl (record {
                honest = honest;
                below = stays.below;
                left = stays.left;
                same = widened at (length a) stays.below c stays.same at (length (a ++ b)) (omega arith) (omega (arith, all));
                are = stays.are;
              }))
              (λ honest same c stays.
              let none : length (a ++ b) ≡ length a = omega (arith, same, moment_is (laden d at a) honest, moment_is (laden d at (a ++ b)) honest) in
              record { honest = honest; below = stays.below; left = stays.left; same = subst (λ (k : ℕ). SameOutside at k stays.below c) none stays.same; are = stays.are });
          honesty = refl;
          size = refl;
        }

    behind : (d : D) {T E : Type 0} (done : T) (at : ℕ) (a : List ℕ) (place p : ℕ) (from : List ℕ) → place + length a ≡ p → (0 < length a → place ≡ at)
        → at + length a ≤ g.size d → p + length from ≤ g.size d → length a < 2 ^ 64 → IsTaken g {E = E} (Ok done) p from (laden d at a) (laden d place (a ++ from))
    behind d {E} done at [] place p from placed stays within fits few =
        let same : p ≡ place = omega (arith, placed) in
        subst (λ (q : ℕ). IsTaken g {E = E} (Ok done) p from (laden d at []) (laden d q from)) same (taken_first d done at p from (omega (arith, within)) fits)
    behind d {E} done at (x ∷ a) place p from placed stays within fits few =
        let same : place ≡ at = stays (omega arith) in
        subst (λ (q : ℕ). IsTaken g {E = E} (Ok done) p from (laden d at (x ∷ a)) (laden d q ((x ∷ a) ++ from))) (sym same)
        (subst (λ (q : ℕ). IsTaken g {E = E} (Ok done) q from (laden d at (x ∷ a)) (laden d at ((x ∷ a) ++ from))) (ap (λ (q : ℕ). q + length (x ∷ a)) (sym same) ∙ placed)
        (taken_more d done at (x ∷ a) from (omega (arith, fits, placed, same)) few))

    -- Bytes were gathered, right after others or as the first.
    pub gathered_behind : (d : D) {T E : Type 0} (done : T) (at : ℕ) (a : List ℕ) (place p : ℕ) (from new : List ℕ) → new ≡ a ++ from → place + length a ≡ p → (0 < length a → place ≡ at)
        → at + length a ≤ g.size d → p + length from ≤ g.size d → length a < 2 ^ 64 → IsTaken g {E = E} (Ok done) p from (laden d at a) (laden d place new)
    gathered_behind d {E} done at a place p from new is placed stays within fits few =
        subst (λ (l : List ℕ). IsTaken g {E = E} (Ok done) p from (laden d at a) (laden d place l)) (sym is) (behind d done at a place p from placed stays within fits few)

    -- With nothing gathered the disk was given bytes itself.
    pub put_past : (d e : D) {T E : Type 0} (result : Result T E) (at : ℕ) (a : List ℕ) (place : ℕ) (new : List ℕ) (p : ℕ) (from : List ℕ) → at + length a ≤ g.size d → a ≡ [] → place ≡ at → new ≡ a
        → IsPut g result p from d e → IsTaken g result p from (laden d at a) (laden e place new)
    put_past d e result at a place new p from within none stays same put =
        subst (λ (l : List ℕ). IsTaken g result p from (laden d at l) (laden e place new)) (sym none)
        (subst (λ (l : List ℕ). IsTaken g result p from (laden d at []) (laden e place l)) (sym (same ∙ none))
        (subst (λ (q : ℕ). IsTaken g result p from (laden d at []) (laden e q [])) (sym stays)
        (put_through d e result at p from (omega (arith, within)) put)))

    -- The disk was synced, with nothing gathered.
    module _ (d e : D) (at : ℕ) (a : List ℕ) (none : a ≡ []) (within : at + length a ≤ g.size d)
        (honesty : g.is_honest e ≡ g.is_honest d) (size : g.size e ≡ g.size d)
        (seen : IsTrue (g.is_honest d) → g.seen e ≡ g.seen d)
        (crash : IsTrue (g.is_honest d) → (c : List ℕ) → g.may_leave e c → g.may_leave d c)
        (time : Elapses g.clock g.may_leave g.left_since d e) where
      held : (f : D) (c : List ℕ) → MayStay g (laden f at a) c → g.may_leave f c
      held f c stays = bare f at c (subst (λ (b : List ℕ). MayStay g (laden f at b) c) none stays)

      fewer : IsTrue (g.is_honest d) → (c : List ℕ) → MayStay g (laden e at a) c → MayStay g (laden d at a) c
      fewer honest c stays = below_stays (laden d at a) c honest (crash honest c (held e c stays))

      pub synced : IsQuiet g (laden d at a) (laden e at a)
      synced = record {
        shows = λ honest. ap (λ (l : List ℕ). overwritten l at a) (seen honest);
        crash = fewer;
        time = passes (laden d at a) (laden e at a) honesty time (omega (arith, ap length none)) (λ _. inr (omega arith))
            (λ honest c stays. inr (λ t le. time.keeps t c le (laws.counts_now d t c le (held d c stays))))
            (λ honest _. fewer honest);
        honesty = honesty;
        size = size;
      }

      -- A crash leaves the bytes that it shows.
      pub settled : (IsTrue (g.is_honest d) → Only (g.seen d) (g.may_leave e)) → IsTrue (g.is_honest d) → Only (overwritten (g.seen d) at a) (MayStay g (laden e at a))
      settled only honest c stays =
          only honest c (held e c stays)
          ∙ sym (ap (λ (b : List ℕ). overwritten (g.seen d) at b) none ∙ bare_shown d at (omega (arith, within)) honest)

    -- If nothing new may be left, stable bytes stay stable.
    pub settled_on : (old new : Laden D) → IsQuiet g old new → (IsTrue (g.is_honest old.disk) → Only (shown g old) (MayStay g old)) → IsTrue (g.is_honest new.disk) → Only (shown g new) (MayStay g new)
    settled_on old new quiet only honest c stays =
        let was = sym quiet.honesty ∙ honest in
        only was c (quiet.crash was c stays) ∙ sym (quiet.shows was)

    -- With nothing gathered, a crash leaves the bytes that it leaves of the disk.
    pub bare_stays : (l : Laden D) → l.bytes ≡ [] → IsTrue (g.is_honest l.disk) → (c : List ℕ) → MayStay g l c ↔ g.may_leave l.disk c
    bare_stays l none honest c = (
      λ stays. bare l.disk l.at c (subst (λ (b : List ℕ). MayStay g (laden l.disk l.at b) c) none stays),
      λ left. below_stays l c honest left,
    )

    -- the laws of a disk

    pub shows_whole : (l : Laden D) → l.at + length l.bytes ≤ g.size l.disk → IsTrue (g.is_honest l.disk) → length (shown g l) ≡ g.size l.disk
    shows_whole l within honest = overwritten_length (g.seen l.disk) l.at l.bytes (omega (arith, within, laws.whole l.disk honest)) ∙ laws.whole l.disk honest

    pub shows_bytes : (l : Laden D) → AreBytes l.bytes → IsTrue (g.is_honest l.disk) → AreBytes (shown g l)
    shows_bytes l are honest = overwritten_bytes (g.seen l.disk) l.at l.bytes (laws.seen_bytes l.disk honest) are

    pub stays_sized : (l : Laden D) (c : List ℕ) → MayStay g l c → length c ≡ g.size l.disk
    stays_sized l c stays = stays.same.same_length ∙ laws.sized l.disk stays.below stays.honest stays.left

    pub shown_may_stay : (l : Laden D) → l.at + length l.bytes ≤ g.size l.disk → AreBytes l.bytes → IsTrue (g.is_honest l.disk) → MayStay g l (shown g l)
    shown_may_stay l within are honest = record {
      honest = honest;
      below = g.seen l.disk;
      left = laws.seen_may_stay l.disk honest;
      same = overwritten_outside (g.seen l.disk) l.at l.bytes (omega (arith, within, laws.whole l.disk honest));
      are = shows_bytes l are honest;
    }

    pub only_this_moment : (l : Laden D) (c : List ℕ) → length l.bytes < 2 ^ 64 → stayed_since g l (moment g l) c → MayStay g l c
    only_this_moment l c few since = ⊎_elim
        (λ stays. stays)
        (λ was.
        let e = moment_is l was.honest in
        let now : was.since ≡ g.clock l.disk = omega (arith, few, subst (λ (m : ℕ). was.since * 2 ^ 64 ≤ m) e was.from, subst (λ (m : ℕ). m < was.since * 2 ^ 64 + 2 ^ 64) e was.until) in
        below_stays l c was.honest (laws.only_now l.disk c (subst (λ (t : ℕ). g.left_since l.disk t c) now was.left)))
        since
