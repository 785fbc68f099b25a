-- Steps for the stretches of a range.
use Rattle.std.proofs.Common.{◌≡◌, ◌<◌, ◌≤◌, ℕ, zero, suc, ◌+◌, ◌-◌, ◌^◌, cond, Bool, List, [], ◌∷◌, ◌++◌, length, map, replicate, refl, sym, ap, subst, ◌∙◌, arith, inl, inr}
use Rattle.std.proofs.lemmas.Bool.{cases_Bool, cond-true, cond-false}
use Rattle.std.proofs.lemmas.List.{append_cancel_right, length-append, length-replicate}
use Rattle.std.proofs.Math.Seq.{take-append_seam}
use Rattle.std.specs.List.{flat_map}
use Rattle.elf_view.specs.Header.{SegmentView}
use Rattle.address_space.specs.Source.{Space}
use Rattle.address_space.specs.Pieces.{PieceView, grown, is_same_at, piece_of, pieces_of, stretches}
use Rattle.address_space.specs.StretchWords.{piece_in}
use Rattle.address_space.specs.Whole.{AreHeldWithin, IsFrontOf}
use Rattle.address_space.specs.declared.source.Stretch.{Stretch}
use Rattle.memory_replies.specs.Texts.{content_bytes, values_between}
use Rattle.memory_replies.proofs.PieceLemmas.{pieces_are}
use Rattle.windowed_search.specs.StepWords.{IsNextStep, Leads, StepsFit, count_of, place_after}
use Rattle.windowed_search.specs.Runs.{values_from}
use Rattle.windowed_search.specs.declared.steps.Step.{Step}
use Rattle.windowed_search.proofs.Values.{values_split}

-- the first stretch begins the range, and the others are those of what is left
abbrev Goes : (ℕ → ℕ → Bool) → ℕ → ℕ → List (ℕ × ℕ) → Type 0
Goes same a n [] = n ≡ 0
Goes same a n (x ∷ xs) = (x.0 ≡ a) × (x.1 ≤ n) × (xs ≡ stretches same (a + x.1) (n - x.1))

grown_goes : (same : ℕ → ℕ → Bool) (a n : ℕ) (xs : List (ℕ × ℕ)) → xs ≡ stretches same (a + 1) n → Goes same (a + 1) n xs → Goes same a (suc n) (grown same a xs)
unfolding stretches
grown_goes same a n [] is goes = (refl, omega arith, (let none : suc n - 1 ≡ 0 = omega (arith, goes) in sym (ap (stretches same (a + 1)) none)))
grown_goes same a n (x ∷ xs) is goes = elim (cases_Bool (same a x.0)) as (λ _. Goes same a (suc n) (cond (same a x.0) ((a, x.1 + 1) ∷ xs) ((a, 1) ∷ x ∷ xs))) [
  | inl joins ↦
      let next : a + 1 + x.1 ≡ a + (x.1 + 1) = omega arith in
      let left : n - x.1 ≡ suc n - (x.1 + 1) = omega arith in
      let short = goes.1 in
      subst (Goes same a (suc n)) (sym (cond-true (same a x.0) ((a, x.1 + 1) ∷ xs) ((a, 1) ∷ x ∷ xs) joins))
      (refl, omega (arith, short), goes.2 ∙ ap (λ b. stretches same b (n - x.1)) next ∙ ap (stretches same (a + (x.1 + 1))) left)
  | inr apart ↦
      let left : n ≡ suc n - 1 = omega arith in
      subst (Goes same a (suc n)) (sym (cond-false (same a x.0) ((a, x.1 + 1) ∷ xs) ((a, 1) ∷ x ∷ xs) apart))
      (refl, omega arith, is ∙ ap (stretches same (a + 1)) left)
]

goes : (same : ℕ → ℕ → Bool) (n a : ℕ) → Goes same a n (stretches same a n)
unfolding stretches
goes same zero a = refl
goes same (suc n) a = grown_goes same a n (stretches same (a + 1) n) refl (goes same n (a + 1))

-- the first piece of a range, and those of what is left
pub record IsFirstPiece (space : Space) (a n : ℕ) (p : PieceView) (ps : List PieceView) : Type 0 where
  pub within : p.length ≤ n
  pub values : values_from space a p.length ≡ content_bytes p.content
  pub others : ps ≡ pieces_of space (a + p.length) (n - p.length)

values_same : (space : Space) (a n : ℕ) → values_between space a n ≡ values_from space a n
unfolding values_between values_from
values_same space a n = refl

first_by : (space : Space) (a n : ℕ) (xs : List (ℕ × ℕ)) (p : PieceView) (ps : List PieceView) → pieces_of space a n ≡ p ∷ ps → stretches (is_same_at space) a n ≡ xs → Goes (is_same_at space) a n xs → map (piece_of space) xs ≡ p ∷ ps → IsFirstPiece space a n p ps
unfolding pieces_of
first_by space a n [] p ps is all goes maps = cc
first_by space a n (x ∷ xs) p ps is all goes maps =
    let one : piece_of space x ≡ p = cc in
    let more : map (piece_of space) xs ≡ ps = cc in
    let count : x.1 ≡ p.length = ap (λ (q : PieceView). q.length) one in
    let short = goes.1 in
    let others : ps ≡ pieces_of space (a + p.length) (n - p.length) = sym more ∙ ap (map (piece_of space)) goes.2 ∙ ap (λ k. pieces_of space (a + k) (n - k)) count in
    let whole : p.length + (n - p.length) ≡ n = omega (arith, short, count) in
    record {
      within = omega (arith, short, count);
      values = sym (append_cancel_right (content_bytes p.content) (values_from space a p.length) (values_from space (a + p.length) (n - p.length))
          (
          ap (λ t. content_bytes p.content ++ t) (sym (ap (flat_map (λ (q : PieceView). content_bytes q.content)) others ∙ pieces_are space (a + p.length) (n - p.length) ∙ values_same space (a + p.length) (n - p.length)))
          ∙ sym (ap (flat_map (λ (q : PieceView). content_bytes q.content)) is)
          ∙ pieces_are space a n ∙ values_same space a n
          ∙ ap (values_from space a) (sym whole)
          ∙ values_split space a p.length (n - p.length)
          ));
      others = others;
    }

pub first_piece : (space : Space) (a n : ℕ) (p : PieceView) (ps : List PieceView) → pieces_of space a n ≡ p ∷ ps → IsFirstPiece space a n p ps
unfolding pieces_of
first_piece space a n p ps is = first_by space a n (stretches (is_same_at space) a n) p ps is refl (goes (is_same_at space) n a) is

-- a range that has no piece
pub nothing_left : (space : Space) (a n : ℕ) → pieces_of space a n ≡ [] → n ≡ 0
unfolding pieces_of
nothing_left space a n is = by (stretches (is_same_at space) a n) (goes (is_same_at space) n a) is
  where
    by : (xs : List (ℕ × ℕ)) → Goes (is_same_at space) a n xs → map (piece_of space) xs ≡ [] → n ≡ 0
    by [] goes maps = goes
    by (x ∷ xs) goes maps = cc

-- all of an image stands in it
pub all_within : (size first n : ℕ) (ss : List SegmentView) → AreHeldWithin size first n 0 size ss
all_within size first n [] = tt
all_within size first n (s ∷ ss) = ((λ a after before covers file image. (omega arith, image)), all_within size first n ss)

-- one more step
pub leads_then : (image : List ℕ) (space : Space) (xs : List Step) (p a q b r c : ℕ) (ys : List Step) → Leads image space p a xs q b → Leads image space q b ys r c → Leads image space p a (xs ++ ys) r c
leads_then image space [] p a q b r c ys first second = subst (λ k. Leads image space k a ys r c) (sym first.0) (subst (λ k. Leads image space q k ys r c) (sym first.1) second)
leads_then image space (s ∷ xs) p a q b r c ys first second = (first.0, first.1, leads_then image space xs (place_after p s) (a + count_of s) q b r c ys first.2 second)

-- The steps so far lead to place p and to the address from which on the pieces are left.
pub record LeadTo (image : List ℕ) (space : Space) (n : ℕ) (steps : List Step) (p : ℕ) (left : List PieceView) : Type 0 where
  pub address : ℕ
  pub within : address ≤ n
  pub leads : Leads image space 0 0 steps p address
  pub pieces : left ≡ pieces_of space address (n - address)

pub none_yet : (image : List ℕ) (space : Space) (n : ℕ) (steps : List Step) (left : List PieceView) → steps ≡ [] → left ≡ pieces_of space 0 n → LeadTo image space n steps 0 left
none_yet image space n steps left none is =
    let all : n ≡ n - 0 = omega arith in record {
      address = 0;
      within = omega arith;
      leads = subst (λ (ss : List Step). Leads image space 0 0 ss 0 0) (sym none) (refl, refl);
      pieces = is ∙ ap (pieces_of space 0) all;
    }

pub one_more : (image : List ℕ) (space : Space) (n p past : ℕ) (steps : List Step) (s : Stretch) (step : Step) (left others : List PieceView) → LeadTo image space n steps p left → left ≡ piece_in image s ∷ others
    → IsNextStep p s step → place_after p step ≤ length image → LeadTo image space n (steps ++ step ∷ []) (place_after p step) others
one_more image space n p past steps s step left others so_far is next fits =
    let a = so_far.address in
    let first = first_piece space a (n - a) (piece_in image s) others (sym so_far.pieces ∙ is) in
    let count = next.count in
    let low = so_far.within in
    let short = first.within in
    let rest : n - a - s.length ≡ n - (a + count_of step) = omega (arith, count) in
    let one : Leads image space p a (step ∷ []) (place_after p step) (a + count_of step) =
    (ap (values_from space a) count ∙ first.values ∙ next.bytes image, fits, (refl, refl)) in
    record {
      address = a + count_of step;
      within = omega (arith, count, low, short);
      leads = leads_then image space steps 0 0 p a (place_after p step) (a + count_of step) (step ∷ []) so_far.leads one;
      pieces = first.others ∙ ap (λ k. pieces_of space (a + k) (n - a - s.length)) (sym count) ∙ ap (pieces_of space (a + count_of step)) rest;
    }

pub at_end : (image : List ℕ) (space : Space) (n p : ℕ) (steps : List Step) (left : List PieceView) → LeadTo image space n steps p left → left ≡ [] → Leads image space 0 0 steps p n
at_end image space n p steps left so_far none =
    let low = so_far.within in
    let done = nothing_left space so_far.address (n - so_far.address) (sym so_far.pieces ∙ none) in
    let last : so_far.address ≡ n = omega (arith, low, done) in
    subst (Leads image space 0 0 steps p) last so_far.leads

leads_up : (image : List ℕ) (space : Space) (steps : List Step) (p a q b : ℕ) → Leads image space p a steps q b → a ≤ b
leads_up image space [] p a q b leads = (let same = leads.1 in omega (arith, same))
leads_up image space (s ∷ ss) p a q b leads = (let more = leads_up image space ss (place_after p s) (a + count_of s) q b leads.2 in omega (arith, more))

pub leads_fit : (image : List ℕ) (space : Space) (size : ℕ) (steps : List Step) (p a q b : ℕ) → length image ≡ size → b < 2 ^ 64 → Leads image space p a steps q b → StepsFit size p a steps
leads_fit image space size [] p a q b long bound leads = tt
leads_fit image space size (s ∷ ss) p a q b long bound leads =
    let low = leads_up image space ss (place_after p s) (a + count_of s) q b leads.2 in
    let within = leads.1 in
    (omega (arith, within, long), omega (arith, low, bound), leads_fit image space size ss (place_after p s) (a + count_of s) q b long bound leads.2)

-- an image of that size which begins with these bytes
pub some_image : (front : List ℕ) (size : ℕ) → length front ≤ size → IsFrontOf front size (front ++ replicate (size - length front) 0)
some_image front size short =
    let long = length-append front (replicate (size - length front) 0) in
    let rest = length-replicate {A = ℕ} (size - length front) 0 in
    (omega (arith, long, rest, short), sym (take-append_seam front (replicate (size - length front) 0)))
