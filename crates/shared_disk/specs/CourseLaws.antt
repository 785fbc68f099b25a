-- Laws of a course: the bytes that are read of a half whose generation and gate are the same before and after are of one moment.
use Rattle.std.proofs.Common.{◌≡◌, ◌≢◌, ◌⊎◌, inl, inr, ⊎_elim, ℕ, zero, suc, ◌+◌, ◌-◌, ◌%◌, ◌<◌, ◌≤◌, refl, sym, ap, ◌∙◌, subst, arith}
use Rattle.std.proofs.lemmas.Bool.{cases_eq}
use Rattle.journal_layout.specs.declared.shape.Half.{Half}
use Rattle.journal_layout.specs.declared.shape.Half.TheVariants.{A, B}
use Rattle.journal_layout.specs.Rewriting.{other_half}
use Rattle.shared_disk.specs.Course.{IsStill, HasMoved, IsCourse, HasMarks}

along_by : (P : ℕ → Type 0) (i d : ℕ) → P i → ((k : ℕ) → i ≤ k → k < i + d → P k → P (k + 1)) → P (i + d)
along_by P i zero first step = let e : i ≡ i + 0 = omega arith in subst P e first
along_by P i (suc d) first step =
    let e : i + d + 1 ≡ i + suc d = omega arith in
    subst P e (step (i + d) (omega arith) (omega arith) (along_by P i d first (λ k low high. step k low (omega (arith, high)))))

-- a property that holds at a moment, and at the next one if at one, holds later
pub along : (P : ℕ → Type 0) (i j : ℕ) → i ≤ j → P i → ((k : ℕ) → i ≤ k → k < j → P k → P (k + 1)) → P j
along P i j le first step =
    let e : i + (j - i) ≡ j = omega (arith, le) in
    subst P e (along_by P i (j - i) first (λ k low high. step k low (omega (arith, high, le))))

pub other_twice : (h : Half) → other_half (other_half h) ≡ h
other_twice A = refl
other_twice B = refl

module _ (n size : ℕ) (start : Half → ℕ) (byte : ℕ → ℕ → ℕ) (half : ℕ → Half) (generation used : ℕ → ℕ)
    (c : IsCourse n size start byte half generation used) where
  -- generations never fall
  one_later : (k : ℕ) → k + 1 < n → generation k ≤ generation (k + 1)
  one_later k within = ⊎_elim (λ still. let e = still.1 in omega (arith, e)) (λ moved. let e = moved.1 in omega (arith, e)) (c.moves k within)

  pub later : (i j : ℕ) → i ≤ j → j < n → generation i ≤ generation j
  later i j le within =
      along (λ (k : ℕ). generation i ≤ generation k) i j le (omega arith)
      (λ k low high so. let more = one_later k (omega (arith, high, within)) in omega (arith, so, more))

  -- while the generation stays, the same half is taken, its bytes stay, and more may be in use
  pub record IsHeld (i j p : ℕ) : Type 0 where
    pub half_same : half j ≡ half i
    pub more : used i ≤ used j
    pub byte_same : byte j p ≡ byte i p

  pub held : (i j p : ℕ) → i ≤ j → j < n → generation j ≡ generation i → start (half i) ≤ p → p < start (half i) + used i → IsHeld i j p
  held i j p le within same from below =
      along (λ (k : ℕ). k ≤ j → IsHeld i k p) i j le (λ last. record { half_same = refl; more = omega arith; byte_same = refl })
      (λ k low high so last.
      let was = so (omega (arith, high)) in
      let before = later i k low (omega (arith, high, within)) in
      let after = later (k + 1) j last within in
      let now = one_later k (omega (arith, high, within)) in
      let still : generation (k + 1) ≡ generation k = omega (arith, before, after, now, same) in
      let more = was.more in
      let grown = c.grows k (omega (arith, high, within)) still in
      let here : start (half k) ≡ start (half i) = ap start was.half_same in
      record {
        half_same = ⊎_elim (λ stays. stays.0 ∙ was.half_same) (λ moved. let e = moved.1 in absurd (omega (arith, e, still))) (c.moves k (omega (arith, high, within)));
        more = omega (arith, more, grown);
        byte_same = c.kept k p (omega (arith, high, within)) (omega (arith, here, from)) (omega (arith, here, below, more)) ∙ was.byte_same;
      })
      (omega arith)

  -- a half whose gate is closed is closed until it is taken
  pub stays_shut : (i j : ℕ) → i ≤ j → j < n → generation j ≡ generation i → byte i (start (other_half (half i))) ≢ 165 → byte j (start (other_half (half i))) ≢ 165
  stays_shut i j le within same closed =
      (along (λ (k : ℕ). k ≤ j → (half k ≡ half i) × (byte k (start (other_half (half i))) ≢ 165)) i j le (λ last. (refl, closed))
      (λ k low high so last.
      let was = so (omega (arith, high)) in
      let before = later i k low (omega (arith, high, within)) in
      let after = later (k + 1) j last within in
      let now = one_later k (omega (arith, high, within)) in
      let still : generation (k + 1) ≡ generation k = omega (arith, before, after, now, same) in
      let P : Half → ℕ → Type 0 = λ h m. byte m (start (other_half h)) ≢ 165 in (
        ⊎_elim (λ stays. stays.0 ∙ was.0) (λ moved. let e = moved.1 in absurd (omega (arith, e, still))) (c.moves k (omega (arith, high, within))),
        subst (λ (h : Half). P h (k + 1)) was.0 (c.shut k (omega (arith, high, within)) (subst (λ (h : Half). P h k) (sym was.0) was.1) still),
      ))
      (omega arith)).1

  -- While the generation stays, all of the other half stays if its gate is open at the end.
  pub other_kept : (e k j p : ℕ) → e ≤ k → k ≤ j → j < n → generation j ≡ generation e → byte j (start (other_half (half e))) ≡ 165
      → start (other_half (half e)) ≤ p → p < start (other_half (half e)) + size → (byte e (start (other_half (half e))) ≡ 165) × (byte k p ≡ byte e p)
  other_kept e k j p from before within same gate above below =
      let place = start (other_half (half e)) in
      let steady_until : (m : ℕ) → e ≤ m → m ≤ j → (half m ≡ half e) × (generation m ≡ generation e) × (byte m place ≡ 165) =
      λ m low high.
      let first = later e m low (omega (arith, high, within)) in
      let second = later m j high within in
      let still : generation m ≡ generation e = omega (arith, first, second, same) in
      let header = c.header e (omega (arith, low, high, within)) in
      let here = (held e m (start (half e)) low (omega (arith, high, within)) still (omega arith) (omega (arith, header))).half_same in
      let rest : generation j ≡ generation m = omega (arith, first, second, same) in (
        here,
        still,
        ⊎_elim (λ open_now. open_now)
            (λ closed. absurd (stays_shut m j high within rest (λ g. closed (sym (ap (λ (h : Half). byte m (start (other_half h))) here) ∙ g)) (ap (λ (h : Half). byte j (start (other_half h))) here ∙ gate)))
            (cases_eq (byte m place) 165),
      ) in (
        (steady_until e (omega arith) (omega (arith, from, before))).2,
        along (λ (m : ℕ). byte m p ≡ byte e p) e k from refl
            (λ m low high so.
            let now = steady_until m low (omega (arith, high, before)) in
            let next = steady_until (m + 1) (omega (arith, low)) (omega (arith, high, before)) in
            let there : start (other_half (half m)) ≡ place = ap (λ (h : Half). start (other_half h)) now.0 in
            ⊎_elim
            (λ closed. absurd (closed (ap (byte (m + 1)) there ∙ next.2)))
            (λ byte_same. byte_same ∙ so)
            (c.other m p (omega (arith, high, before, within)) (ap (byte m) there ∙ now.2) (omega (arith, there, above)) (omega (arith, there, below)))),
      )

  module _ (mark : Half → ℕ → ℕ) (marks : HasMarks n start byte half generation mark) where
    -- marks never fall
    pub marks_rise : (h : Half) (i j : ℕ) → i ≤ j → j < n → mark h i ≤ mark h j
    marks_rise h i j le within =
        along (λ (k : ℕ). mark h i ≤ mark h k) i j le (omega arith)
        (λ k low high so. let more = marks.rises h k (omega (arith, high, within)) in omega (arith, so, more))

    -- From moment a to moment z neither half's mark changes.
    module _ (a z : ℕ) (within : z < n) (same : (h : Half) → mark h z ≡ mark h a) where
      pub steady : (h : Half) (i j : ℕ) → a ≤ i → i ≤ j → j ≤ z → mark h j ≡ mark h i
      steady h i j low le high =
          let first = marks_rise h a i low (omega (arith, le, high, within)) in
          let second = marks_rise h i j le (omega (arith, high, within)) in
          let third = marks_rise h j z high within in
          let e = same h in
          omega (arith, first, second, third, e)

      -- At most one half is taken meanwhile.
      pub moves_once : (i j : ℕ) → a ≤ i → i ≤ j → j ≤ z → IsStill (half i) (generation i) (half j) (generation j) ⊎ HasMoved (half i) (generation i) (half j) (generation j)
      moves_once i j low le high =
          along (λ (k : ℕ). IsStill (half i) (generation i) (half k) (generation k) ⊎ HasMoved (half i) (generation i) (half k) (generation k)) i j le (inl (refl, refl))
          (λ k from below so. ⊎_elim
          (λ still. ⊎_elim
          (λ stays. inl (stays.0 ∙ still.0, stays.1 ∙ still.1))
          (λ moved. inr (moved.0 ∙ ap other_half still.0, moved.1 ∙ ap (λ (g : ℕ). g + 1) still.1))
          (c.moves k (omega (arith, below, high, within))))
          (λ had. ⊎_elim
          (λ stays. inr (stays.0 ∙ had.0, stays.1 ∙ had.1))
          (λ moved.
          let back : half (k + 1) ≡ half i = moved.0 ∙ ap other_half had.0 ∙ other_twice (half i) in
          let then_taken = marks.taken (k + 1) (omega (arith, below, high, within)) in
          let now_marked : mark (half i) (k + 1) ≡ generation (k + 1) = subst (λ (h : Half). mark h (k + 1) ≡ generation (k + 1)) back then_taken in
          let first_taken = marks.taken i (omega (arith, le, high, within)) in
          let constant = steady (half i) i (k + 1) low (omega (arith, from)) (omega (arith, below, high)) in
          let e = moved.1 in
          let d = had.1 in
          absurd (omega (arith, now_marked, first_taken, constant, e, d)))
          (c.moves k (omega (arith, below, high, within))))
          so)

      -- The half that is taken at e, its gate read before and after: as the same, so as open.
      pub gate_is_open : (m e j x : ℕ) → a ≤ m → m ≤ e → e ≤ j → j ≤ z → byte m (start (half e)) ≡ x → byte j (start (half e)) ≡ x → x ≡ 165
      gate_is_open m e j x low before after high first second =
          ⊎_elim
          (λ still. sym first ∙ ap (λ (h : Half). byte m (start h)) still.0 ∙ c.opened m (omega (arith, before, after, high, within)))
          (λ moved. ⊎_elim
          (λ still.
          let fell = later e j after (omega (arith, high, within)) in
          let d = moved.1 in
          let g = still.1 in
          absurd (omega (arith, fell, d, g)))
          (λ again. sym second ∙ ap (λ (h : Half). byte j (start h)) (moved.0 ∙ sym again.0) ∙ c.opened j (omega (arith, high, within)))
          (moves_once m j low (omega (arith, before, after)) high))
          (moves_once m e low before (omega (arith, after, high)))

      -- If its gate was open before, it was taken then.
      pub taken_before : (m e : ℕ) → a ≤ m → m ≤ e → e ≤ z → byte m (start (half e)) ≡ 165 → IsStill (half m) (generation m) (half e) (generation e)
      taken_before m e low before high first =
          ⊎_elim (λ still. still)
          (λ moved.
          let was_open : byte m (start (other_half (half m))) ≡ 165 = ap (λ (h : Half). byte m (start h)) (sym moved.0) ∙ first in
          let older = marks.older m (omega (arith, before, high, within)) was_open in
          let constant = steady (other_half (half m)) m e low before high in
          let now_taken : mark (other_half (half m)) e ≡ generation e = subst (λ (h : Half). mark h e ≡ generation e) moved.0 (marks.taken e (omega (arith, high, within))) in
          let d = moved.1 in
          absurd (omega (arith, older, constant, now_taken, d)))
          (moves_once m e low before high)

      -- The bytes that it has in use at e stay until its gate is read as open.
      pub kept_open : (e k j p : ℕ) → a ≤ e → e ≤ k → k ≤ j → j ≤ z → byte j (start (half e)) ≡ 165 → start (half e) ≤ p → p < start (half e) + used e → byte k p ≡ byte e p
      kept_open e k j p low from before high gate above below =
          let header = c.header e (omega (arith, from, before, high, within)) in
          let Shut : ℕ → Type 0 = λ m. (half m ≡ other_half (half e)) × (generation m ≡ generation e + 1) × (byte m (start (half e)) ≢ 165) in
          let Open : ℕ → Type 0 = λ m. (half m ≡ other_half (half e)) × (generation m ≡ generation e + 1) × (byte m (start (half e)) ≡ 165) × (byte m p ≡ byte e p) in
          let last : (generation k ≡ generation e) ⊎ Open k ⊎ Shut k =
          along (λ (m : ℕ). (generation m ≡ generation e) ⊎ Open m ⊎ Shut m) e k from (inl refl)
          (λ m start_at under so.
          let inside : m + 1 < n = omega (arith, under, before, high, within) in
          ⊎_elim
          (λ same_generation.
          let as_held = held e m p start_at (omega (arith, inside)) same_generation above below in
          let gate_held = held e m (start (half e)) start_at (omega (arith, inside)) same_generation (omega arith) (omega (arith, header)) in
          ⊎_elim
          (λ stays. inl (stays.1 ∙ same_generation))
          (λ moved.
          let here : start (half m) ≡ start (half e) = ap start as_held.half_same in
          let more = as_held.more in
          inr (inl (
            moved.0 ∙ ap other_half as_held.half_same,
            moved.1 ∙ ap (λ (g : ℕ). g + 1) same_generation,
            c.kept m (start (half e)) inside (omega (arith, here)) (omega (arith, here, more, header)) ∙ gate_held.byte_same ∙ c.opened e (omega (arith, start_at, inside)),
            c.kept m p inside (omega (arith, here, above)) (omega (arith, here, more, below)) ∙ as_held.byte_same,
          )))
          (c.moves m inside))
          (λ moved_on. ⊎_elim
          (λ opened.
          let back : other_half (half m) ≡ half e = ap other_half opened.0 ∙ other_twice (half e) in
          let place : start (other_half (half m)) ≡ start (half e) = ap start back in
          let gate_open : byte m (start (other_half (half m))) ≡ 165 = ap (byte m) place ∙ opened.2 in
          let in_half : used e ≤ size = c.fits e (omega (arith, start_at, inside)) in
          ⊎_elim
          (λ stays. ⊎_elim
          (λ closed. inr (inr (stays.0 ∙ opened.0, stays.1 ∙ opened.1, λ o. closed (ap (byte (m + 1)) place ∙ o))))
          (λ gate_same. ⊎_elim
          (λ closed. inr (inr (stays.0 ∙ opened.0, stays.1 ∙ opened.1, λ o. closed (ap (byte (m + 1)) place ∙ o))))
          (λ byte_same. inr (inl (stays.0 ∙ opened.0, stays.1 ∙ opened.1, sym (ap (byte (m + 1)) place) ∙ gate_same ∙ gate_open, byte_same ∙ opened.3)))
          (c.other m p inside gate_open (omega (arith, place, above)) (omega (arith, place, below, in_half))))
          (c.other m (start (other_half (half m))) inside gate_open (omega arith) (let some = c.size_some in omega (arith, some))))
          (λ moved. absurd (c.shut_before m inside moved.1 gate_open))
          (c.moves m inside))
          (λ shut.
          let back : other_half (half m) ≡ half e = ap other_half shut.0 ∙ other_twice (half e) in
          let place : start (other_half (half m)) ≡ start (half e) = ap start back in
          ⊎_elim
          (λ stays. inr (inr (stays.0 ∙ shut.0, stays.1 ∙ shut.1, λ o. c.shut m inside (λ g. shut.2 (sym (ap (byte m) place) ∙ g)) stays.1 (ap (byte (m + 1)) place ∙ o))))
          (λ moved.
          let d = shut.1 in
          let g = moved.1 in
          ⊎_elim
          (λ still. let f = still.1 in absurd (omega (arith, d, g, f)))
          (λ once. let f = once.1 in absurd (omega (arith, d, g, f)))
          (moves_once e (m + 1) low (omega (arith, start_at)) (omega (arith, under, before, high))))
          (c.moves m inside))
          moved_on)
          so) in
          ⊎_elim
          (λ same_generation. (held e k p from (omega (arith, before, high, within)) same_generation above below).byte_same)
          (λ moved_on. ⊎_elim
          (λ opened. opened.3)
          (λ shut.
          let back : other_half (half k) ≡ half e = ap other_half shut.0 ∙ other_twice (half e) in
          let place : start (other_half (half k)) ≡ start (half e) = ap start back in
          let rose = later k j before (omega (arith, high, within)) in
          let d = shut.1 in
          let settled : generation j ≡ generation k =
          ⊎_elim
          (λ still. let f = still.1 in omega (arith, d, f, rose))
          (λ once. let f = once.1 in omega (arith, d, f))
          (moves_once e j low (omega (arith, from, before)) high) in
          absurd (stays_shut k j before (omega (arith, high, within)) settled (λ g. shut.2 (sym (ap (byte k) place) ∙ g)) (ap (byte j) place ∙ gate)))
          moved_on)
          last

      -- The other half, its gate read as open before and after: it is not taken meanwhile.
      pub other_is_older : (m e j : ℕ) → a ≤ m → m ≤ e → e ≤ j → j ≤ z → byte m (start (other_half (half e))) ≡ 165 → generation j ≡ generation e
      other_is_older m e j low before after high first =
          ⊎_elim
          (λ still. still.1)
          (λ moved. ⊎_elim
          (λ was.
          let e_then : other_half (half m) ≡ other_half (half e) = ap other_half (sym was.0) in
          let gate : byte m (start (other_half (half m))) ≡ 165 = ap (λ (h : Half). byte m (start h)) e_then ∙ first in
          let older = marks.older m (omega (arith, before, after, high, within)) gate in
          let marked : mark (half j) j ≡ generation j = marks.taken j (omega (arith, high, within)) in
          let back : half j ≡ other_half (half m) = moved.0 ∙ sym e_then in
          let now_marked : mark (other_half (half m)) j ≡ generation j = subst (λ (h : Half). mark h j ≡ generation j) back marked in
          let constant = steady (other_half (half m)) m j low (omega (arith, before, after)) high in
          let d = moved.1 in
          let f = was.1 in
          absurd (omega (arith, older, constant, now_marked, d, f)))
          (λ twice.
          let d = moved.1 in
          let f = twice.1 in
          ⊎_elim
          (λ still. let g = still.1 in absurd (omega (arith, d, f, g)))
          (λ once. let g = once.1 in absurd (omega (arith, d, f, g)))
          (moves_once m j low (omega (arith, before, after)) high))
          (moves_once m e low before (omega (arith, after, high))))
          (moves_once e j (omega (arith, low, before)) after high)

-- Two numbers that lie close together and have the same lowest byte are the same.
pub close_same : (x y : ℕ) → x ≤ y → y < x + 256 → x % 256 ≡ y % 256 → x ≡ y
close_same x y le close same = omega (arith, le, close, same)
