-- Pieces of an image that are read one by one.
use Rattle.std.proofs.Common.{◌≡◌, ◌⊎◌, ◌≤◌, ◌<◌, ⊎_elim, inl, inr, ℕ, zero, suc, ◌+◌, ◌-◌, Bool, true, false, List, [], ◌∷◌, ◌++◌, take, drop, get_or, length, Ok, refl, ap, sym, ◌∙◌, subst, arith}
use Rattle.std.proofs.lemmas.Bool.{false≢true}
use Rattle.std.proofs.lemmas.Option.{same_Some}
use Rattle.std.proofs.lemmas.List.{length-append, length-take, length-drop, take-take, take-append-le, drop-take, drop-drop}
use Rattle.std.proofs.Math.Seq.{take-append_seam, drop-append_seam, drop-append-add, drop-cons}
use Rattle.disk_model.specs.Places.{part as disk_part}
use Rattle.disk_model.specs.PartLaws.{part_is}
use Rattle.disk_model.specs.declared.disk.Disk as disk
use Rattle.elf_view.specs.Field.{part}
use Rattle.intake.specs.Contents.{Contents, image_at}
use Rattle.intake.specs.Part.{PartCall}
use Rattle.intake.specs.Parts.{Parts, state_of, contents_of}
use Rattle.intake.specs.QuietLaws.{quiet_then}
use Rattle.intake.specs.State.{ArchiveState}
use Rattle.intake.specs.StayLaws.{stays_then}
use Rattle.seen_memory.specs.Parts.{IsPartOf}
use Rattle.case_queries.specs.Fronts.{HasSize}
use Rattle.case_queries.specs.Pieces.{ApartFrom, AreApart, AreBeside, ArePieces, BeginsWith, SeesPieces}
use Rattle.case_queries.specs.Seeing.{SeesImage}
use Rattle.case_queries.specs.declared.walk.CaseImage.{CaseImage}
use Rattle.case_queries.specs.declared.window.Part.{Part}

-- other bytes in place of those from a place on
abbrev pub spliced : List ℕ → ℕ → List ℕ → List ℕ
spliced b at xs = take at b ++ (xs ++ drop (at + length xs) b)

module _ (b : List ℕ) (at : ℕ) (xs : List ℕ) (fits : at + length xs ≤ length b) where
  front_long : length (take at b) ≡ at
  front_long = let l = length-take at b in omega (arith, l, fits)

  behind : drop at (spliced b at xs) ≡ xs ++ drop (at + length xs) b
  behind = ap (λ n. drop n (spliced b at xs)) (sym front_long) ∙ drop-append_seam (take at b) (xs ++ drop (at + length xs) b)

  pub spliced_long : length (spliced b at xs) ≡ length b
  spliced_long =
      let l1 = length-append (take at b) (xs ++ drop (at + length xs) b) in
      let l2 = length-append xs (drop (at + length xs) b) in
      let l3 = length-drop (at + length xs) b in
      let l4 = front_long in
      omega (arith, l1, l2, l3, l4, fits)

  -- they are there
  pub spliced_has : IsPartOf (spliced b at xs) at xs
  spliced_has = sym (ap (take (length xs)) behind ∙ take-append_seam xs (drop (at + length xs) b))

  -- what was before them or after them stays
  begins : (p n : ℕ) → p + n ≤ at → take (p + n) (spliced b at xs) ≡ take (p + n) b
  begins p n low =
      let l = front_long in
      take-append-le (p + n) (take at b) (xs ++ drop (at + length xs) b) (omega (arith, l, low)) ∙ take-take (p + n) at b low

  pub before_stays : (p n : ℕ) → p + n ≤ at → part (spliced b at xs) p n ≡ part b p n
  before_stays p n low = sym (drop-take p n (spliced b at xs)) ∙ ap (drop p) (begins p n low) ∙ drop-take p n b

  pub after_stays : (p n : ℕ) → at + length xs ≤ p → part (spliced b at xs) p n ≡ part b p n
  after_stays p n high =
      let place : p ≡ p - at + at = omega (arith, high) in
      let whole : p - at ≡ length xs + (p - (at + length xs)) = omega (arith, high) in
      let last : p - (at + length xs) + (at + length xs) ≡ p = omega (arith, high) in
      ap (take n)
      (
      drop_sum at (p - at) p (spliced b at xs) (omega (arith, high))
      ∙ ap (drop (p - at)) behind
      ∙ ap (λ k. drop k (xs ++ drop (at + length xs) b)) whole
      ∙ drop-append-add xs (drop (at + length xs) b) (p - (at + length xs))
      ∙ sym (drop_sum (at + length xs) (p - (at + length xs)) p b (omega (arith, high)))
      )
    where
      drop_sum : (m k q : ℕ) (ys : List ℕ) → q ≡ m + k → drop q ys ≡ drop k (drop m ys)
      drop_sum m k q ys is = ap (λ j. drop j ys) is ∙ sym (drop-drop k m ys)

  pub part_stays : (p n : ℕ) → (at + length xs ≤ p) ⊎ (p + n ≤ at) → part (spliced b at xs) p n ≡ part b p n
  part_stays p n apart = ⊎_elim (λ high. after_stays p n high) (λ low. before_stays p n low) apart

  pub pieces_stay : (ps : List Part) → AreApart at (at + length xs) ps → ArePieces b ps → ArePieces (spliced b at xs) ps
  pieces_stay [] apart are = tt
  pieces_stay (p ∷ ps) apart are = (are.0 ∙ sym (part_stays p.at (length p.bytes.items) apart.0), pieces_stay ps apart.1 are.1)

-- one more piece
pub are_more : (b : List ℕ) (ps : List Part) (p : Part) → ArePieces b ps → IsPartOf b p.at p.bytes.items → ArePieces b (ps ++ p ∷ [])
are_more b [] p are is = (is, tt)
are_more b (q ∷ ps) p are is = (are.0, are_more b ps p are.1 is)

pub are_fewer : (b : List ℕ) (ps : List Part) (p : Part) → ArePieces b (ps ++ p ∷ []) → ArePieces b ps
are_fewer b [] p are = tt
are_fewer b (q ∷ ps) p are = (are.0, are_fewer b ps p are.1)

-- an image that has one more piece
pub begins_more : (o : CaseImage) (ps : List Part) (p : Part) (b : List ℕ) → BeginsWith o ps b → length o.front.now ≤ p.at → p.at + length p.bytes.items ≤ o.size → AreApart p.at (p.at + length p.bytes.items) ps → (x : List ℕ) × BeginsWith o (ps ++ p ∷ []) x
begins_more o ps p b has after within apart =
    let xs = p.bytes.items in
    let long = has.0.0 in
    let fits : p.at + length xs ≤ length b = omega (arith, long, within) in
    let x = spliced b p.at xs in
    let front : o.front.now ≡ take (length o.front.now) x = has.0.1 ∙ sym (before_stays b p.at xs fits 0 (length o.front.now) (omega (arith, after))) in
    (x, ((spliced_long b p.at xs fits ∙ long, front), are_more x ps p (pieces_stay b p.at xs fits ps apart has.1) (spliced_has b p.at xs fits)))

module _ {D : Type 0} (g : disk.Ghosts D) (before mid new : Parts D) (o : CaseImage) (ps : List Part) (p : Part) (has : HasSize (state_of mid) o.seq o.size) where
  -- a piece is read: of the case's own image if the disk is honest, and of one of that length on any disk
  sees_by : SeesPieces g before o ps mid → length o.front.now ≤ p.at → p.at + length p.bytes.items ≤ o.size → AreApart p.at (p.at + length p.bytes.items) ps → PartCall g mid o.seq p.at (length p.bytes.items) (Ok tt) p.bytes.items new → (t : Bool) → g.is_honest before.disk ≡ t
      → SeesPieces g before o (ps ++ p ∷ []) new
  sees_by sees after within apart call true e =
      let image = sees.0 in
      let looks = sees.1 in
      let q = call.bytes (looks.stays.honesty ∙ e) in
      let moved : image_at o.seq (state_of mid).cases (contents_of g.seen mid).images ≡ image_at o.seq (state_of before).cases (contents_of g.seen before).images =
      ap (λ (s : ArchiveState). image_at o.seq s.cases (contents_of g.seen mid).images) looks.state
      ∙ ap (λ (x : Contents). image_at o.seq (state_of before).cases x.images) (looks.contents e) in
      let is : q.0 ≡ image = same_Some q.0 image (sym q.1 ∙ moved ∙ looks.own.bytes e) in
      let sees_now : SeesImage g before o.seq image new = record {
        own = looks.own;
        state = call.step.2 ∙ looks.state;
        contents = λ honest. q.4 ∙ looks.contents honest;
        quiet = quiet_then g before.disk mid.disk new.disk looks.quiet call.quiet;
        stays = stays_then g before mid new looks.stays call.stays;
      } in
      (image, sees_now, (sees.2.0, are_more image ps p sees.2.1 (q.2 ∙ ap (λ x. disk_part x p.at (length p.bytes.items)) is ∙ part_is image p.at (length p.bytes.items))))
  sees_by sees after within apart call false e =
      let looks = sees.1 in
      let x = begins_more o ps p sees.0 sees.2 after within apart in
      let sees_now : SeesImage g before o.seq x.0 new = record {
        own = record {
          bytes = λ honest. absurd (false≢true (sym e ∙ honest));
          long = λ d found. x.1.0.0 ∙ sym sees.2.0.0 ∙ looks.own.long d found;
        };
        state = call.step.2 ∙ looks.state;
        contents = λ honest. absurd (false≢true (sym e ∙ honest));
        quiet = quiet_then g before.disk mid.disk new.disk looks.quiet call.quiet;
        stays = stays_then g before mid new looks.stays call.stays;
      } in
      (x.0, sees_now, x.1)

  pub sees_more : SeesPieces g before o ps mid → length o.front.now ≤ p.at → p.at + length p.bytes.items ≤ o.size → AreApart p.at (p.at + length p.bytes.items) ps → PartCall g mid o.seq p.at (length p.bytes.items) (Ok tt) p.bytes.items new → SeesPieces g before o (ps ++ p ∷ []) new
  sees_more sees after within apart call = sees_by sees after within apart call (g.is_honest before.disk) refl

-- the next piece, and those after it
one_left : (ps : List Part) (i : ℕ) (d p : Part) → i < length ps → p ≡ get_or ps i d → drop i ps ≡ p ∷ drop (i + 1) ps
one_left ps i d p within is = let next : suc i ≡ i + 1 = omega arith in drop-cons ps i d within ∙ ap (λ x. x ∷ drop (suc i) ps) (sym is) ∙ ap (λ n. p ∷ drop n ps) next

beside_more : (place : ℕ) (ps : List Part) (i : ℕ) → AreBeside place (drop i ps) → AreBeside place (drop (suc i) ps)
beside_more place [] zero beside = beside
beside_more place [] (suc i) beside = beside
beside_more place (p ∷ ps) zero beside = beside.1
beside_more place (p ∷ ps) (suc i) beside = beside_more place ps i beside

pub beside_rest : (place : ℕ) (ps : List Part) (i : ℕ) → AreBeside place (drop i ps) → AreBeside place (drop (i + 1) ps)
beside_rest place ps i beside = let next : suc i ≡ i + 1 = omega arith in subst (λ n. AreBeside place (drop n ps)) next (beside_more place ps i beside)

-- a range within another
narrowed : (p : Part) (low high start past : ℕ) → low ≤ start → past ≤ high → ApartFrom low high p → ApartFrom start past p
narrowed p low high start past after before apart = ⊎_elim (λ below. inl (omega (arith, below, before))) (λ above. inr (omega (arith, above, after))) apart

pub apart_then : (ps : List Part) (i : ℕ) (d p : Part) (low high start past : ℕ) → i < length ps → p ≡ get_or ps i d → low ≤ start → past ≤ high → ApartFrom low high p
    → (AreApart start past (drop i ps) → AreApart start past ps) → AreApart start past (drop (i + 1) ps) → AreApart start past ps
apart_then ps i d p low high start past within is after before apart all rest =
    all (subst (AreApart start past) (sym (one_left ps i d p within is)) (narrowed p low high start past after before apart, rest))
