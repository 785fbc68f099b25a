-- The reads of a look, put together.
use Rattle.std.proofs.Common.{◌≡◌, inl, ⊎_elim, ℕ, ◌+◌, ◌-◌, ◌<◌, ◌≤◌, List, [], ◌∷◌, length, drop, slice_index, refl, sym, ap, ◌∙◌, subst, arith, length-drop, length-append, Ok}
use Rattle.std.proofs.lemmas.List.{get_or_append_left}
use Rattle.disk_model.specs.Places.{part}
use Rattle.disk_model.specs.PartLaws.{part_place, part_length}
use Rattle.journal_layout.specs.declared.shape.Shape.{Shape}
use Rattle.journal_layout.specs.declared.shape.Half.{Half}
use Rattle.journal_layout.specs.declared.shape.Half.TheVariants.{A, B}
use Rattle.journal_layout.specs.Layout.{IsWithinLimits, field, half_start, half_length, data_start, disk_length}
use Rattle.journal_layout.specs.ByteLaws.{field_part}
use Rattle.journal_layout.specs.Front.{Front, front_opening}
use Rattle.journal_layout.specs.Rewriting.{other_half}
use Rattle.shared_disk.specs.FrontFacts.{gate_open, generation_there, other_older}
use Rattle.journal_layout.specs.Standing.{Standing}
use Rattle.journal_layout.specs.Stands.{Stands, front_of, records_start}
use Rattle.case_journal.proofs.StandLemmas.{half_low, half_ends}
use Rattle.shared_disk.specs.declared.heads.Heads.{Heads}
use Rattle.shared_disk.specs.Heads.{HasHeads, IsLater, ReadsGates, ReadsGenerations}
use Rattle.shared_disk.specs.History.{moment, AreMoments, AreMarked}
use Rattle.shared_disk.specs.CourseLaws.{along}
use Rattle.shared_disk.specs.LookLaws.{is_a_moment, chain_le, turn_le}
use Rattle.shared_disk.specs.JournalLooks.{IsReadIn, GivesSeen, OpensInTurn, IsChain, IsGeneration, IsGate, IsRead, IsLook, AreFew}
use Rattle.shared_disk.specs.Outcome.{seen_over, IsSeen}
use Rattle.shared_disk.specs.Reading.{AreReadIn}
use Rattle.shared_disk.specs.RowsLaws.{field_by_places}

-- a chain in bytes that begin alike
chain_same : (front seen : List ℕ) (n at : ℕ) (places : List ℕ) (behind : ℕ) → ((p : ℕ) → p < n → slice_index seen p ≡ slice_index front p) → behind < n → IsChain front at places behind
    → IsChain seen at places behind
chain_same front seen n at [] behind same within chain =
    let e = chain.0 in
    (chain.0, λ opened. chain.1 (sym (same at (omega (arith, e, within))) ∙ opened))
chain_same front seen n at (p ∷ rest) behind same within chain =
    let long = chain.2 in
    let to_end = chain_le front (at + field front (at + 4) 4) rest behind chain.3 in
    let size : field seen (at + 4) 4 ≡ field front (at + 4) 4 =
    field_by_places seen front (at + 4) (at + 4) 4 (λ k below. same (at + 4 + k) (omega (arith, below, long, to_end, within))) in (
      chain.0,
      same at (omega (arith, long, to_end, within)) ∙ chain.1,
      omega (arith, size, long),
      subst (λ (m : ℕ). IsChain seen (at + m) rest behind) (sym size) (chain_same front seen n (at + field front (at + 4) 4) rest behind same within chain.3),
    )

module _ (moments : List (List ℕ)) (shape : Shape) (half : Half) (front : List ℕ) (heads again : Heads) (places : List ℕ) (behind t0 m1 t1 t2 t3 m2 t4 : ℕ)
    (limits : IsWithinLimits shape) (size : length (moment moments t2) ≡ disk_length shape) (long : length front ≡ data_start shape)
    (start : half_start shape half ≤ behind) (in_half : behind < half_start shape half + half_length shape) (last : t4 < length moments)
    (generations1 : ReadsGenerations moments t0 m1 shape heads) (gates1 : ReadsGates moments m1 t1 shape heads) (order : OpensInTurn moments t1 t2 places)
    (read : GivesSeen moments t2 t3 front (IsRead shape half behind)) (gates2 : ReadsGates moments t3 m2 shape again) (generations2 : ReadsGenerations moments m2 t4 shape again)
    (has1 : HasHeads front shape heads) (has2 : HasHeads front shape again) (chain : IsChain front (half_start shape half + 32) places behind) (chosen : IsLater heads half) where
  abbrev seen : List ℕ
  seen = seen_over front (moment moments t2)

  seen_front : (p : ℕ) → p < length front → slice_index seen p ≡ slice_index front p
  seen_front p below = get_or_append_left front (drop (length front) (moment moments t2)) 0 p below

  whole : length front ≤ length (moment moments t2)
  whole = let some = limits.some_data in omega (arith, size, long)

  seen_long : length seen ≡ length (moment moments t2)
  seen_long =
      let one = length-append front (drop (length front) (moment moments t2)) in
      let two = length-drop (length front) (moment moments t2) in
      let room = whole in
      omega (arith, one, two, room)

  -- a part that was read, and is the same in the front
  part_given : (i j at n p : ℕ) (bytes : List ℕ) → part front at n ≡ bytes → AreReadIn moments i j at bytes → at ≤ p → p < at + n → at + n ≤ length front → IsReadIn moments i j p (slice_index seen p)
  part_given i j at n p bytes same given from below within =
      let k : ℕ = p - at in
      let back : at + k ≡ p = omega (arith, from) in
      let size_is : length bytes ≡ n = ap length (sym same) ∙ part_length front at n within in
      let r = given k (omega (arith, size_is, from, below)) in (
        r.0,
        r.1,
        r.2,
        seen_front p (omega (arith, below, within)) ∙ ap (slice_index front) (sym back) ∙ sym (part_place front at n k 0 (omega (arith, from, below)))
            ∙ ap (λ (l : List ℕ). slice_index l k) same ∙ r.3 ∙ ap (slice_index (moment moments r.0)) back,
      )

  a_within : half_start shape A + 32 ≤ length front
  a_within = let ends = half_ends shape A in let some = limits.some_half in omega (arith, ends, some, long)

  b_within : half_start shape B + 32 ≤ length front
  b_within = let ends = half_ends shape B in let some = limits.some_half in omega (arith, ends, some, long)

  generations_given : (i j : ℕ) (h : Heads) → HasHeads front shape h → ReadsGenerations moments i j shape h → GivesSeen moments i j seen (IsGeneration shape)
  generations_given i j h has r p there = of there.0 there.1 there.2
    where
      of : (x : Half) → half_start shape x + 8 ≤ p → p < half_start shape x + 16 → IsReadIn moments i j p (slice_index seen p)
      of A from below = let w = a_within in part_given i j (half_start shape A + 8) 8 p h.generation_a has.generation_a r.0 from (omega (arith, below)) (omega (arith, w))
      of B from below = let w = b_within in part_given i j (half_start shape B + 8) 8 p h.generation_b has.generation_b r.1 from (omega (arith, below)) (omega (arith, w))

  gates_given : (i j : ℕ) (h : Heads) → HasHeads front shape h → ReadsGates moments i j shape h → GivesSeen moments i j seen (IsGate shape)
  gates_given i j h has r p there = of there.0 there.1
    where
      of : (x : Half) → p ≡ half_start shape x → IsReadIn moments i j p (slice_index seen p)
      of A is = let w = a_within in part_given i j (half_start shape A) 1 p h.gate_a has.gate_a r.0 (omega (arith, is)) (omega (arith, is)) (omega (arith, w))
      of B is = let w = b_within in part_given i j (half_start shape B) 1 p h.gate_b has.gate_b r.1 (omega (arith, is)) (omega (arith, is)) (omega (arith, w))

  read_low : (p : ℕ) → IsRead shape half behind p → p < length front
  read_low p there =
      let ends = half_ends shape half in
      let first = half_low shape half in
      ⊎_elim
      (λ head. omega (arith, head, long, ends, first))
      (λ more. ⊎_elim
      (λ header. let under = header.2 in let h_ends = half_ends shape header.0 in let some = limits.some_half in omega (arith, under, h_ends, some, long))
      (λ part_there. let under = part_there.1 in omega (arith, under, in_half, ends, long)) more)
      there

  read_given : GivesSeen moments t2 t3 seen (IsRead shape half behind)
  read_given p there =
      let r = read p there in
      (r.0, r.1, r.2, seen_front p (read_low p there) ∙ r.3)

  chain_given : IsChain seen (half_start shape half + 32) places behind
  chain_given =
      let ends = half_ends shape half in
      chain_same front seen (length front) (half_start shape half + 32) places behind seen_front (omega (arith, in_half, ends, long)) chain

  -- the gates and generations that were read are those of what is seen
  gate_seen : (at : ℕ) (bytes : List ℕ) → part front at 1 ≡ bytes → at + 1 ≤ length front → slice_index bytes 0 ≡ slice_index seen at
  gate_seen at bytes same within =
      let e : at + 0 ≡ at = omega arith in
      ap (λ (l : List ℕ). slice_index l 0) (sym same) ∙ part_place front at 1 0 0 (omega arith) ∙ ap (slice_index front) e ∙ sym (seen_front at (omega (arith, within)))

  number_seen : (at : ℕ) (bytes : List ℕ) → part front at 8 ≡ bytes → at + 8 ≤ length front → field bytes 0 8 ≡ field seen at 8
  number_seen at bytes same within =
      ap (λ (l : List ℕ). field l 0 8) (sym same) ∙ field_part front at 8
      ∙ field_by_places front seen at at 8 (λ k below. sym (seen_front (at + k) (omega (arith, below, within))))

  -- so the front tells the half that was chosen
  prints_chosen : (f : Front) → f.shape ≡ shape → front_opening seen ≡ Ok f → f.half ≡ half
  prints_chosen f same_shape opens =
      of f.half half chosen
      (subst (λ (x : Shape). slice_index seen (half_start x f.half) ≡ 165) same_shape (gate_open seen f opens))
      (subst (λ (x : Shape). field seen (half_start x f.half + 8) 8 ≡ f.generation) same_shape (generation_there seen f opens))
      (subst (λ (x : Shape). slice_index seen (half_start x (other_half f.half)) ≡ 165 → field seen (half_start x (other_half f.half) + 8) 8 < f.generation) same_shape (other_older seen f opens))
    where
      gate_a : slice_index heads.gate_a 0 ≡ slice_index seen (half_start shape A)
      gate_a = let w = a_within in gate_seen (half_start shape A) heads.gate_a has1.gate_a (omega (arith, w))

      gate_b : slice_index heads.gate_b 0 ≡ slice_index seen (half_start shape B)
      gate_b = let w = b_within in gate_seen (half_start shape B) heads.gate_b has1.gate_b (omega (arith, w))

      number_a : field heads.generation_a 0 8 ≡ field seen (half_start shape A + 8) 8
      number_a = let w = a_within in number_seen (half_start shape A + 8) heads.generation_a has1.generation_a (omega (arith, w))

      number_b : field heads.generation_b 0 8 ≡ field seen (half_start shape B + 8) 8
      number_b = let w = b_within in number_seen (half_start shape B + 8) heads.generation_b has1.generation_b (omega (arith, w))

      of : (g h : Half) → IsLater heads h → slice_index seen (half_start shape g) ≡ 165 → field seen (half_start shape g + 8) 8 ≡ f.generation
          → (slice_index seen (half_start shape (other_half g)) ≡ 165 → field seen (half_start shape (other_half g) + 8) 8 < f.generation) → g ≡ h
      of A A later opened there older = refl
      of B B later opened there older = refl
      of B A later opened there older =
          let a = number_a in
          let b = number_b in
          ⊎_elim
          (λ closed. absurd (closed (gate_b ∙ opened)))
          (λ greater. let less = older (sym gate_a ∙ later.0) in absurd (omega (arith, a, b, greater, less, there)))
          later.1
      of A B later opened there older =
          let a = number_a in
          let b = number_b in
          ⊎_elim
          (λ closed. absurd (closed (gate_a ∙ opened)))
          (λ greater. let less = older (sym gate_b ∙ later.0) in absurd (omega (arith, a, b, greater, less, there)))
          later.1

  module _ (f : Front) (same_shape : f.shape ≡ shape) (same_half : f.half ≡ half) (opens : front_opening seen ≡ Ok f) where
    abbrev the_look : IsLook moments seen f
    the_look = record {
      begin = t0;
      has_generations = m1;
      has_gates = t1;
      has_order = t2;
      has_records = t3;
      has_gates_again = m2;
      finish = t4;
      last = last;
      long = seen_long;
      front = opens;
      places = places;
      behind = behind;
      chain = subst (λ (x : Half). IsChain seen (records_start f.shape x) places behind) (sym same_half)
          (subst (λ (x : Shape). IsChain seen (records_start x half) places behind) (sym same_shape) chain_given);
      generations = subst (λ (x : Shape). GivesSeen moments t0 m1 seen (IsGeneration x)) (sym same_shape) (generations_given t0 m1 heads has1 generations1);
      gates = subst (λ (x : Shape). GivesSeen moments m1 t1 seen (IsGate x)) (sym same_shape) (gates_given m1 t1 heads has1 gates1);
      order = order;
      records = subst (λ (x : Half). GivesSeen moments t2 t3 seen (IsRead f.shape x behind)) (sym same_half)
          (subst (λ (x : Shape). GivesSeen moments t2 t3 seen (IsRead x half behind)) (sym same_shape) read_given);
      gates_again = subst (λ (x : Shape). GivesSeen moments t3 m2 seen (IsGate x)) (sym same_shape) (gates_given t3 m2 again has2 gates2);
      generations_again = subst (λ (x : Shape). GivesSeen moments m2 t4 seen (IsGeneration x)) (sym same_shape) (generations_given m2 t4 again has2 generations2);
    }

  pub is_seen : t0 ≤ t2 → t2 ≤ t4 → IsSeen moments t0 t4 shape half front
  is_seen early late = record {
    at = t2;
    from = early;
    until = late;
    look = λ f same_shape opens.
        let same_half = prints_chosen f same_shape opens in
        (the_look f same_shape same_half opens, refl, omega arith, omega arith, same_half);
  }

-- a look begins before it ends
look_le : (moments : List (List ℕ)) (seen : List ℕ) (f : Front) (look : IsLook moments seen f) → look.begin ≤ look.finish
look_le moments seen f look =
    let g1 = look.generations (half_start f.shape A + 8) (A, omega arith, omega arith) in
    let g2 = look.gates (half_start f.shape A) (A, refl) in
    let o = turn_le moments look.has_gates look.has_order look.places look.order in
    let r = look.records 0 (inl (omega arith)) in
    let g3 = look.gates_again (half_start f.shape A) (A, refl) in
    let g4 = look.generations_again (half_start f.shape A + 8) (A, omega arith, omega arith) in
    let a1 = g1.1 in
    let a2 = g1.2 in
    let b1 = g2.1 in
    let b2 = g2.2 in
    let c1 = r.1 in
    let c2 = r.2 in
    let d1 = g3.1 in
    let d2 = g3.2 in
    let e1 = g4.1 in
    let e2 = g4.2 in
    omega (arith, a1, a2, b1, b2, o, c1, c2, d1, d2, e1, e2)

-- what is seen is a moment
module _ (moments : List (List ℕ)) (mark : Half → ℕ → ℕ) (shape0 : Shape) (marked : AreMarked moments shape0 mark) where
  mark_rises : (h : Half) (i j : ℕ) → i ≤ j → j < length moments → mark h i ≤ mark h j
  mark_rises h i j le within =
      along (λ (k : ℕ). mark h i ≤ mark h k) i j le (omega arith)
      (λ k low high so. let more = marked.rises h k (omega (arith, high, within)) in omega (arith, so, more))

  pub few_within : (i j k m : ℕ) → i ≤ k → k ≤ m → m ≤ j → j < length moments → AreFew mark i j → AreFew mark k m
  few_within i j k m low le high within few h =
      let one = mark_rises h i k low (omega (arith, le, high, within)) in
      let two = mark_rises h m j high within in
      let close = few h in
      omega (arith, one, two, close)

pub what_is_seen_is_a_moment : (moments : List (List ℕ)) (standing : ℕ → Standing) (mark : Half → ℕ → ℕ) (i j : ℕ) (shape : Shape) (half : Half) (front : List ℕ) (f : Front)
    → AreMoments moments standing → AreMarked moments (standing 0).shape mark → j < length moments → AreFew mark i j
    → (s : IsSeen moments i j shape half front) → f.shape ≡ shape → front_opening (seen_over front (moment moments s.at)) ≡ Ok f
    → (t : Standing) × (f ≡ front_of t) × Stands (seen_over front (moment moments s.at)) t × Stands (moment moments s.at) t
what_is_seen_is_a_moment moments standing mark i j shape half front f are marked last few s same_shape opens =
    let l = s.look f same_shape opens in
    let look = l.0 in
    let low = l.2 in
    let high = l.3 in
    let few_then = few_within moments mark (standing 0).shape marked i j look.begin look.finish low (look_le moments (seen_over front (moment moments s.at)) f look) high last few in
    let m = is_a_moment moments standing mark (seen_over front (moment moments s.at)) f are marked look few_then in
    (m.0, m.3, m.4, subst (λ (k : ℕ). Stands (moment moments k) m.0) l.1 m.5)
