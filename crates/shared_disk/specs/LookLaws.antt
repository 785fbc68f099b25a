-- A look takes the content of one moment: the one at which all gates of its records had been read in their order.
use Rattle.std.proofs.Common.{◌≡◌, ◌≢◌, inl, inr, ⊎_elim, ℕ, ◌+◌, ◌-◌, ◌%◌, ◌<◌, ◌≤◌, List, [], ◌∷◌, ◌++◌, length, slice_index, refl, sym, ap, ◌∙◌, subst, arith, append_assoc, Ok}
use Rattle.std.proofs.lemmas.Bool.{cases_eq}
use Rattle.disk_model.specs.Places.{part}
use Rattle.disk_model.specs.PartLaws.{part_place}
use Rattle.journal_layout.specs.declared.shape.Shape.{Shape}
use Rattle.journal_layout.specs.declared.shape.Half.{Half}
use Rattle.journal_layout.specs.declared.shape.Half.TheVariants.{A, B}
use Rattle.journal_layout.specs.Layout.{field, half_start, half_length}
use Rattle.journal_layout.specs.Record.{Record, record_size}
use Rattle.journal_layout.specs.Folding.{nothing_yet, sizes}
use Rattle.journal_layout.specs.Front.{Front, front_opening}
use Rattle.journal_layout.specs.FrontLaws.{front_same}
use Rattle.journal_layout.specs.TakenLaws.{front_alone}
use Rattle.journal_layout.specs.RowLaws.{sizes_push, row_same}
use Rattle.journal_layout.specs.SpellLaws.{record_some}
use Rattle.journal_layout.specs.Standing.{Standing}
use Rattle.journal_layout.specs.Stands.{Stands, front_of, records_start, records_area}
use Rattle.journal_layout.specs.StandLaws.{stands_limits, stands_size, stands_in_half, area_length, half_lies}
use Rattle.journal_layout.specs.Rewriting.{other_half}
use Rattle.case_journal.proofs.PublishLemmas.{closed_gate}
use Rattle.shared_disk.specs.CourseLaws.{later, close_same, marks_rise, gate_is_open, taken_before, kept_open, other_is_older, other_kept}
use Rattle.shared_disk.specs.FrontFacts.{shapes_same, gate_open}
use Rattle.shared_disk.specs.History.{moment, AreMoments, AreMarked}
use Rattle.shared_disk.specs.HistoryLaws.{stands_at, shape_at, long_at, head_at, course, marks}
use Rattle.shared_disk.specs.GrowLaws.{area_short, RowAt, records_at, used_at, records_grow, half_same, used_more}
use Rattle.shared_disk.specs.RowsLaws.{row_gate, row_length, field_by_places, sizes_append, next_boundary, area_agrees, part_by_places}
use Rattle.shared_disk.specs.JournalLooks.{IsReadIn, GivesSeen, OpensInTurn, IsChain, IsGeneration, IsGate, IsLook, AreFew}

pub turn_le : (moments : List (List ℕ)) (i j : ℕ) (places : List ℕ) → OpensInTurn moments i j places → i ≤ j
turn_le moments i j [] turn = turn
turn_le moments i j (p ∷ rest) turn =
    let low = turn.1 in
    let high = turn_le moments turn.0 j rest turn.3 in
    omega (arith, low, high)

pub chain_le : (seen : List ℕ) (at : ℕ) (places : List ℕ) (behind : ℕ) → IsChain seen at places behind → at ≤ behind
chain_le seen at [] behind chain = let e = chain.0 in omega (arith, e)
chain_le seen at (p ∷ rest) behind chain =
    let further = chain_le seen (at + field seen (at + 4) 4) rest behind chain.3 in
    omega (arith, further)

module _ (moments : List (List ℕ)) (standing : ℕ → Standing) (mark : Half → ℕ → ℕ) (seen : List ℕ) (f : Front) (are : AreMoments moments standing)
    (marked : AreMarked moments (standing 0).shape mark) (look : IsLook moments seen f) (few : AreFew mark look.begin look.finish) where
  abbrev a : ℕ
  a = look.has_generations

  abbrev e : ℕ
  e = look.has_order

  abbrev z : ℕ
  z = look.has_gates_again

  -- the order of the reads

  generation_in : (h : Half) → IsGeneration f.shape (half_start f.shape h + 8)
  generation_in h = (h, omega arith, omega arith)

  begins : look.begin ≤ a
  begins =
      let r = look.generations (half_start f.shape A + 8) (generation_in A) in
      let low = r.1 in
      let high = r.2 in
      omega (arith, low, high)

  gates_next : a ≤ look.has_gates
  gates_next =
      let r = look.gates (half_start f.shape A) (A, refl) in
      let low = r.1 in
      let high = r.2 in
      omega (arith, low, high)

  order_next : look.has_gates ≤ e
  order_next = turn_le moments look.has_gates e look.places look.order

  records_next : e ≤ look.has_records
  records_next =
      let r = look.records 0 (inl (omega arith)) in
      let low = r.1 in
      let high = r.2 in
      omega (arith, low, high)

  again_next : look.has_records ≤ z
  again_next =
      let r = look.gates_again (half_start f.shape A) (A, refl) in
      let low = r.1 in
      let high = r.2 in
      omega (arith, low, high)

  ends : z ≤ look.finish
  ends =
      let r = look.generations_again (half_start f.shape A + 8) (generation_in A) in
      let low = r.1 in
      let high = r.2 in
      omega (arith, low, high)

  z_within : z < length moments
  z_within = let x = ends in let y = look.last in omega (arith, x, y)

  e_within : e < length moments
  e_within = let x = records_next in let y = again_next in let w = z_within in omega (arith, x, y, w)

  abbrev s : Standing
  s = standing e

  abbrev c : List ℕ
  c = moment moments e

  abbrev stands : Stands c s
  stands = stands_at moments standing are e e_within

  c_long : 4096 ≤ length c
  c_long = let size = stands_size c s stands in omega (arith, size)

  -- the superblock
  superblock_same : part seen 0 24 ≡ part c 0 24
  superblock_same =
      let long = c_long in
      part_by_places c seen 0 24 (omega (arith, long)) look.long
      (λ k below.
      let r = look.records (0 + k) (inl (omega (arith, below))) in
      let high = r.2 in
      let within = again_next in
      let last = z_within in
      r.3
      ∙ head_at moments standing are r.0 (0 + k) (omega (arith, high, within, last)) (omega (arith, below))
      ∙ sym (head_at moments standing are e (0 + k) e_within (omega (arith, below))))

  shape_same : f.shape ≡ (standing 0).shape
  shape_same = shapes_same c seen (front_of s) f stands.front look.front look.long superblock_same ∙ shape_at moments standing are e e_within

  abbrev start : Half → ℕ
  start h = half_start (standing 0).shape h

  -- neither half's generation changed
  generation_read : (i j : ℕ) (h : Half) → GivesSeen moments i j seen (IsGeneration f.shape) → IsReadIn moments i j (start h + 8) (slice_index seen (start h + 8))
  generation_read i j h gives =
      (subst (λ (x : Shape). GivesSeen moments i j seen (IsGeneration x)) shape_same gives) (start h + 8) (h, omega arith, omega arith)

  gate_read : (i j : ℕ) (h : Half) → GivesSeen moments i j seen (IsGate f.shape) → IsReadIn moments i j (start h) (slice_index seen (start h))
  gate_read i j h gives = (subst (λ (x : Shape). GivesSeen moments i j seen (IsGate x)) shape_same gives) (start h) (h, refl)

  marks_same : (h : Half) → mark h z ≡ mark h a
  marks_same h =
      let first = generation_read look.begin a h look.generations in
      let second = generation_read z look.finish h look.generations_again in
      let k = first.0 in
      let m = second.0 in
      let k_low = first.1 in
      let k_high = first.2 in
      let m_low = second.1 in
      let m_high = second.2 in
      let one = gates_next in
      let two = order_next in
      let three = records_next in
      let four = again_next in
      let last = look.last in
      let crs = course moments standing are in
      let mks = marks moments standing are mark marked in
      let low : mark h k % 256 ≡ mark h m % 256 =
      sym (marked.lowest h k (omega (arith, k_high, one, two, three, four, m_low, m_high, last))) ∙ sym first.3 ∙ second.3
      ∙ marked.lowest h m (omega (arith, m_high, last)) in
      let r1 = marks_rise _ _ _ _ _ _ _ crs mark mks h look.begin k k_low (omega (arith, k_high, one, two, three, four, m_low, m_high, last)) in
      let r2 = marks_rise _ _ _ _ _ _ _ crs mark mks h k a k_high (omega (arith, one, two, three, four, m_low, m_high, last)) in
      let r3 = marks_rise _ _ _ _ _ _ _ crs mark mks h a z (omega (arith, one, two, three, four)) z_within in
      let r4 = marks_rise _ _ _ _ _ _ _ crs mark mks h z m m_low (omega (arith, m_high, last)) in
      let r5 = marks_rise _ _ _ _ _ _ _ crs mark mks h m look.finish m_high last in
      let close = few h in
      let same = close_same (mark h k) (mark h m) (omega (arith, r2, r3, r4)) (omega (arith, r1, r5, close)) low in
      omega (arith, same, r2, r3, r4)

  -- the half that is taken when the gates of the records have been read
  abbrev taken : Half
  taken = s.half

  abbrev before : IsReadIn moments a look.has_gates (start taken) (slice_index seen (start taken))
  before = gate_read a look.has_gates taken look.gates

  abbrev behind : IsReadIn moments look.has_records z (start taken) (slice_index seen (start taken))
  behind = gate_read look.has_records z taken look.gates_again

  abbrev other : Half
  other = other_half s.half

  abbrev other_before : IsReadIn moments a look.has_gates (start other) (slice_index seen (start other))
  other_before = gate_read a look.has_gates other look.gates

  abbrev other_behind : IsReadIn moments look.has_records z (start other) (slice_index seen (start other))
  other_behind = gate_read look.has_records z other look.gates_again

  -- its gate was read as open
  taken_open : slice_index seen (start taken) ≡ 165
  taken_open =
      let b_low = before.1 in
      let b_high = before.2 in
      let h_low = behind.1 in
      let h_high = behind.2 in
      let one = order_next in
      let two = records_next in
      gate_is_open _ _ _ _ _ _ _ (course moments standing are) mark (marks moments standing are mark marked) a z z_within marks_same before.0 e behind.0 (slice_index seen (start taken))
      b_low (omega (arith, b_high, one)) (omega (arith, h_low, two)) h_high (sym before.3) (sym behind.3)

  -- the bytes that it had in use stayed until all was read
  taken_kept : (k p : ℕ) → e ≤ k → k ≤ look.has_records → start taken ≤ p → p < start taken + s.used → slice_index (moment moments k) p ≡ slice_index c p
  taken_kept k p from until above below =
      let h_low = behind.1 in
      let h_high = behind.2 in
      let one = gates_next in
      let two = order_next in
      kept_open _ _ _ _ _ _ _ (course moments standing are) mark (marks moments standing are mark marked) a z z_within marks_same e k behind.0 p
      (omega (arith, one, two)) from (omega (arith, until, h_low)) h_high (sym behind.3 ∙ taken_open) above below

  -- from the reading of its gate on it was taken, with this generation
  taken_since : (k : ℕ) → look.has_gates ≤ k → k ≤ e → (standing k).generation ≡ s.generation
  taken_since k from until =
      let b_low = before.1 in
      let b_high = before.2 in
      let one = order_next in
      let two = records_next in
      let three = again_next in
      let crs = course moments standing are in
      let still = (taken_before _ _ _ _ _ _ _ crs mark (marks moments standing are mark marked) a z z_within marks_same before.0 e
      b_low (omega (arith, b_high, one)) (omega (arith, two, three)) (sym before.3 ∙ taken_open)).1 in
      let r1 = later _ _ _ _ _ _ _ crs before.0 k (omega (arith, b_high, from)) (let w = e_within in omega (arith, until, w)) in
      let r2 = later _ _ _ _ _ _ _ crs k e until e_within in
      omega (arith, still, r1, r2)

  -- the header of the other half stayed too, if its gate was read as open
  other_stayed : slice_index seen (start other) ≡ 165 → (k p : ℕ) → e ≤ k → k ≤ look.has_records → start other ≤ p → p < start other + half_length (standing 0).shape
      → (slice_index c (start other) ≡ 165) × (slice_index (moment moments k) p ≡ slice_index c p)
  other_stayed open_too k p from until above below =
      let b_low = other_before.1 in
      let b_high = other_before.2 in
      let h_low = other_behind.1 in
      let h_high = other_behind.2 in
      let one = order_next in
      let two = records_next in
      let last = z_within in
      let crs = course moments standing are in
      let older = other_is_older _ _ _ _ _ _ _ crs mark (marks moments standing are mark marked) a z z_within marks_same other_before.0 e other_behind.0
      b_low (omega (arith, b_high, one)) (omega (arith, h_low, two)) h_high (sym other_before.3 ∙ open_too) in
      other_kept _ _ _ _ _ _ _ crs e k other_behind.0 p from (omega (arith, until, h_low)) (omega (arith, h_high, last)) older (sym other_behind.3 ∙ open_too) above below

  -- the header of a half, if it stayed
  header_read : (h : Half) → slice_index seen (start h) ≡ slice_index c (start h)
      → ((k p : ℕ) → e ≤ k → k ≤ look.has_records → start h ≤ p → p < start h + 32 → slice_index (moment moments k) p ≡ slice_index c p)
      → part seen (half_start s.shape h) 32 ≡ part c (half_start s.shape h) 32
  header_read h gate stayed =
      subst (λ (x : Shape). part seen (half_start x h) 32 ≡ part c (half_start x h) 32) (sym (shape_at moments standing are e e_within))
      (part_by_places c seen (start h) 32
      (let limits = (stands_limits (moment moments 0) (standing 0) are.first).some_half in
      let lies = half_lies (standing 0).shape h (stands_limits (moment moments 0) (standing 0) are.first) in
      let size = stands_size (moment moments 0) (standing 0) are.first in
      let long = long_at moments standing are e e_within in
      omega (arith, limits, lies, size, long))
      look.long
      (λ k below.
      let r = (subst (λ (x : Shape). (p : ℕ) → half_start x h ≤ p → p < half_start x h + 32 → IsReadIn moments e look.has_records p (slice_index seen p)) shape_same
      (λ p low high. look.records p (inr (inl (h, low, high))))) (start h + k) (omega arith) (omega (arith, below)) in
      r.3 ∙ stayed r.0 (start h + k) r.1 r.2 (omega arith) (omega (arith, below))))

  taken_header : part seen (half_start s.shape taken) 32 ≡ part c (half_start s.shape taken) 32
  taken_header =
      header_read taken
      (taken_open ∙ sym (subst (λ (x : Shape). slice_index c (half_start x taken) ≡ 165) (shape_at moments standing are e e_within) (gate_open c (front_of s) stands.front)))
      (λ k p from until above below. taken_kept k p from until above (let header = stands.header in omega (arith, below, header)))

  -- the bytes that are seen have the front of that moment
  front_seen : front_opening seen ≡ Ok (front_of s)
  front_seen =
      ⊎_elim
      (λ open_too.
      let some = (stands_limits (moment moments 0) (standing 0) are.first).some_half in
      let rest : part seen (half_start s.shape other) 32 ≡ part c (half_start s.shape other) 32 =
      header_read other
      (open_too ∙ sym (other_stayed open_too e (start other) (omega arith) records_next (omega arith) (omega (arith, some))).0)
      (λ k p from until above below. (other_stayed open_too k p from until above (omega (arith, below, some))).1) in
      both s.half taken_header rest)
      (λ closed.
      front_alone c seen (front_of s) stands.front (record { long = look.long; superblock = superblock_same; taken = taken_header })
      (λ is. closed (subst (λ (x : Shape). slice_index seen (half_start x other) ≡ 165) (shape_at moments standing are e e_within) is)))
      (cases_eq (slice_index seen (start other)) 165)
    where
      both : (h : Half) → part seen (half_start s.shape h) 32 ≡ part c (half_start s.shape h) 32 → part seen (half_start s.shape (other_half h)) 32 ≡ part c (half_start s.shape (other_half h)) 32
          → front_opening seen ≡ Ok (front_of s)
      both A first second = front_same c seen (front_of s) stands.front look.long superblock_same first second
      both B first second = front_same c seen (front_of s) stands.front look.long superblock_same second first

  fronts : f ≡ front_of s
  fronts =
      let both : Ok f ≡ Ok (front_of s) = sym look.front ∙ front_seen in
      cc

  -- the records of that moment
  abbrev there : List Record
  there = records_at moments standing are e e_within

  abbrev area : List ℕ
  area = records_area c s.shape s.half

  abbrev area_seen : List ℕ
  area_seen = records_area seen s.shape s.half

  abbrev first : ℕ
  first = records_start s.shape s.half

  chain_seen : IsChain seen first look.places look.behind
  chain_seen = subst (λ (x : Front). IsChain seen (records_start x.shape x.half) look.places look.behind) fronts look.chain

  there_size : 32 + sizes there ≡ s.used
  there_size = used_at moments standing are e e_within

  room : s.used + 1 ≤ half_length s.shape
  room = stands_in_half c s stands

  lies : half_start s.shape s.half + half_length s.shape ≤ length c
  lies =
      let x = half_lies s.shape s.half (stands_limits c s stands) in
      let y = stands_size c s stands in
      omega (arith, x, y)

  area_place : (k : ℕ) → k < half_length s.shape - 32 → slice_index area k ≡ slice_index c (first + k)
  area_place k below = part_place c first (half_length s.shape - 32) k 0 below

  -- the bytes that are seen are those that were in use then
  seen_same : (p : ℕ) → first ≤ p → p < half_start s.shape s.half + s.used → p ≤ look.behind → slice_index seen p ≡ slice_index c p
  seen_same p above below reached =
      let place : half_start s.shape s.half ≡ start taken = ap (λ (x : Shape). half_start x s.half) (shape_at moments standing are e e_within) in
      let r = (subst (λ (x : Front). (q : ℕ) → half_start x.shape x.half ≤ q → q ≤ look.behind → IsReadIn moments e look.has_records q (slice_index seen q)) fronts
      (λ q low high. look.records q (inr (inr (low, high))))) p (omega (arith, above)) reached in
      r.3 ∙ taken_kept r.0 p r.1 r.2 (omega (arith, place, above)) (omega (arith, place, below))

  -- a gate that is read as open is not the one behind the records of that moment
  not_behind : (k n : ℕ) → look.has_gates ≤ k → k ≤ e → slice_index (moment moments k) (first + n) ≡ 165 → (standing k).used ≢ 32 + n
  not_behind k n from until opened used =
      let last = e_within in
      let within : k < length moments = omega (arith, until, last) in
      let same_half = half_same moments standing are k e until within e_within (sym (taken_since k from until)) in
      let here : half_start (standing k).shape (standing k).half ≡ half_start s.shape s.half =
      ap (λ (x : Shape). half_start x (standing k).half) (shape_at moments standing are k within ∙ sym (shape_at moments standing are e e_within)) ∙ ap (half_start s.shape) (sym same_half) in
      let gate : half_start (standing k).shape (standing k).half + (standing k).used ≡ first + n = omega (arith, here, used) in
      closed_gate (moment moments k) (standing k) (stands_at moments standing are k within) (ap (slice_index (moment moments k)) gate ∙ opened)

  -- a record of that moment has the length that the seen bytes give
  length_seen : (ps : List Record) (q : Record) (qs : List Record) → there ≡ ps ++ q ∷ qs → first + sizes ps + 16 ≤ look.behind → field seen (first + sizes ps + 4) 4 ≡ record_size q
  length_seen ps q qs whole reached =
      let limits = stands_limits c s stands in
      let size = ap sizes whole ∙ sizes_append ps (q ∷ qs) in
      let some = record_some q in
      let there_used = there_size in
      let space = room in
      let row : RowAt c (ps ++ q ∷ qs) (front_of s) = subst (λ (l : List Record). RowAt c l (front_of s)) whole stands.records.row in
      field_by_places seen area (first + sizes ps + 4) (sizes ps + 4) 4
      (λ k below.
      let e : first + (sizes ps + 4 + k) ≡ first + sizes ps + 4 + k = omega arith in
      seen_same (first + sizes ps + 4 + k) (omega arith) (omega (arith, below, size, some, there_used)) (omega (arith, below, reached))
      ∙ ap (slice_index c) (sym e)
      ∙ sym (area_place (sizes ps + 4 + k) (omega (arith, below, size, some, there_used, space))))
      ∙ row_length s.shape.data_blocks area (nothing_yet s.version) ps q qs (area_short c s.shape s.half limits) row

  -- The seen records end where the records of that moment did: the gates were read in order, each when the records before it were there.
  follows : (ps qs : List Record) (places : List ℕ) (at w : ℕ) → look.has_gates ≤ w → there ≡ ps ++ qs → at ≡ first + sizes ps → 32 + sizes ps ≤ (standing w).used
      → IsChain seen at places look.behind → OpensInTurn moments w e places → (look.behind ≡ first + sizes there) × (slice_index seen (first + sizes there) ≢ 165)
  follows ps [] [] at w from whole place inside chain turn =
      let size = ap sizes whole ∙ sizes_append ps [] in
      let here : at ≡ first + sizes there = omega (arith, place, size) in
      (sym chain.0 ∙ here, λ opened. chain.1 (ap (slice_index seen) here ∙ opened))
  follows ps [] (p ∷ rest) at w from whole place inside chain turn =
      let k = turn.0 in
      let low = turn.1 in
      let high = turn_le moments k e rest turn.3 in
      let last = e_within in
      let within : k < length moments = omega (arith, high, last) in
      let size = ap sizes whole ∙ sizes_append ps [] in
      let still_w = taken_since w from (omega (arith, low, high)) in
      let still_k = taken_since k (omega (arith, from, low)) high in
      let more = used_more moments standing are w k low (omega (arith, low, within)) within (still_k ∙ sym still_w) in
      let most = used_more moments standing are k e high within e_within (sym still_k) in
      let there_used = there_size in
      absurd (not_behind k (sizes ps) (omega (arith, from, low)) high (ap (slice_index (moment moments k)) (sym (chain.0 ∙ place)) ∙ turn.2) (omega (arith, inside, more, most, size, there_used)))
  follows ps (q ∷ qs) [] at w from whole place inside chain turn =
      let size = ap sizes whole ∙ sizes_append ps (q ∷ qs) in
      let some = record_some q in
      let there_used = there_size in
      let space = room in
      let row : RowAt c (ps ++ q ∷ qs) (front_of s) = subst (λ (l : List Record). RowAt c l (front_of s)) whole stands.records.row in
      let ends_here = chain.0 in
      absurd (chain.1
      (ap (slice_index seen) place
      ∙ seen_same (first + sizes ps) (omega arith) (omega (arith, size, some, there_used)) (omega (arith, ends_here, place))
      ∙ sym (area_place (sizes ps) (omega (arith, size, some, there_used, space)))
      ∙ row_gate s.shape.data_blocks area (nothing_yet s.version) ps q qs row))
  follows ps (q ∷ qs) (p ∷ rest) at w from whole place inside chain turn =
      let k = turn.0 in
      let low = turn.1 in
      let high = turn_le moments k e rest turn.3 in
      let last = e_within in
      let within : k < length moments = omega (arith, high, last) in
      let still_w = taken_since w from (omega (arith, low, high)) in
      let still_k = taken_since k (omega (arith, from, low)) high in
      let more = used_more moments standing are w k low (omega (arith, low, within)) within (still_k ∙ sym still_w) in
      let away : (standing k).used ≢ 32 + sizes ps =
      not_behind k (sizes ps) (omega (arith, from, low)) high (ap (slice_index (moment moments k)) (sym (chain.0 ∙ place)) ∙ turn.2) in
      let k_used = used_at moments standing are k within in
      let grows = records_grow moments standing are k e high within e_within (sym still_k) in
      let next = next_boundary ps q qs (records_at moments standing are k within) grows.0 (sym whole ∙ grows.1) (omega (arith, inside, more, away, k_used)) in
      let pushed = sizes_push ps q in
      let long_enough = chain.2 in
      let to_end = chain_le seen (at + field seen (at + 4) 4) rest look.behind chain.3 in
      let as_long : field seen (at + 4) 4 ≡ record_size q =
      ap (λ (x : ℕ). field seen (x + 4) 4) place ∙ length_seen ps q qs whole (omega (arith, long_enough, to_end, place)) in
      follows (ps ++ q ∷ []) qs rest (at + field seen (at + 4) 4) k (omega (arith, from, low))
      (whole ∙ sym (append_assoc ps (q ∷ []) qs))
      (omega (arith, place, pushed, as_long))
      (omega (arith, next, k_used, pushed))
      chain.3 turn.3

  seen_ends : (look.behind ≡ first + sizes there) × (slice_index seen (first + sizes there) ≢ 165)
  seen_ends =
      let x = order_next in
      let y = e_within in
      let header = (stands_at moments standing are look.has_gates (omega (arith, x, y))).header in
      follows [] there look.places first look.has_gates (omega arith) refl (omega arith) (omega (arith, header)) chain_seen look.order

  -- so the seen bytes encode the archive of that moment
  seen_stands : Stands seen s
  seen_stands =
      let limits = stands_limits c s stands in
      let long_c = area_length c s.shape s.half limits (stands_size c s stands) in
      let long_seen = area_length seen s.shape s.half limits (stands_size c s stands ∙ sym look.long) in
      let there_used = there_size in
      let space = room in
      let behind = seen_ends.0 in
      record {
        front = front_seen;
        header = stands.header;
        records = record {
          records = there;
          row = row_same s.shape.data_blocks (sizes there) area area_seen (nothing_yet s.version) there (long_seen ∙ sym long_c) (omega arith)
              (area_agrees c seen s.shape s.half (sizes there) lies look.long (omega (arith, there_used, space))
              (λ p above below. seen_same p above (omega (arith, below, there_used)) (omega (arith, below, behind))))
              stands.records.row;
          closed = λ opened. seen_ends.1 (sym (part_place seen first (half_length s.shape - 32) (sizes there) 0 (omega (arith, there_used, space))) ∙ opened);
          folded = stands.records.folded;
          size = stands.records.size;
        };
      }

  pub is_a_moment : (t : Standing) × (look.begin ≤ e) × (e ≤ look.finish) × (f ≡ front_of t) × Stands seen t × Stands c t
  is_a_moment =
      let x = begins in
      let y = gates_next in
      let u = order_next in
      let v = records_next in
      let w = again_next in
      let last = ends in (
        s,
        omega (arith, x, y, u),
        omega (arith, v, w, last),
        fronts,
        seen_stands,
        stands,
      )
