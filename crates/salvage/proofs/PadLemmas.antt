-- A read of a file from a place on, with zeros behind its end.
use Rattle.std.proofs.Common.{◌≡◌, ◌↔◌, ◌⊎◌, inl, inr, ℕ, ◌+◌, ◌-◌, ◌<◌, ◌≤◌, List, ◌++◌, length, take, drop, replicate, sym, ap, ◌∙◌, arith, length-drop, Bool, true, false, IsTrue, subst, ◌*◌}
use Rattle.std.proofs.lemmas.Bool.{cases_lt, false≢true}
use Rattle.std.proofs.lemmas.List.{drop_all, take-append-le, take-replicate, take_all}
use Rattle.std.proofs.Math.Seq.{take-append-add}
use Rattle.disk_model.specs.PartLaws.{part_is}
use Rattle.disk_model.specs.Places.{part}
use Rattle.salvage.specs.MendLaws.{all_there, all_zeros, read_stretched}
use Rattle.salvage.specs.Mending.{HasSecond, IsHeader, MayBegin, padded, stretched}

module _ (n : ℕ) (b : List ℕ) (at m : ℕ) (within : at + m ≤ n) where
  whole : at + m ≤ length b → part (stretched n b) at m ≡ padded b at m
  unfolding padded
  whole fits =
      let long : m ≤ length (drop at b) = omega (arith, length-drop at b, fits) in
      all_there n b at m within fits ∙ part_is b at m ∙ sym (take-append-le m (drop at b) (replicate m 0) long)

  -- the bytes end on the way
  ending : at ≤ length b → length b < at + m → part (stretched n b) at m ≡ padded b at m
  unfolding padded
  ending low ends =
      let d = length b - at in
      let long : length (drop at b) ≡ d = length-drop at b in
      let e : d + (m - d) ≡ m = omega (arith, low, ends) in
      let zeros : take (m - d) (replicate {A = ℕ} m 0) ≡ replicate (m - d) 0 = take-replicate (m - d) m 0 (omega arith) in
      read_stretched n b at m at d within (omega (arith, low)) (omega (arith, low, ends))
      ∙ ap (λ (l : List ℕ). l ++ replicate (m - d) 0) (part_is b at d ∙ take_all d (drop at b) (omega (arith, long)))
      ∙ ap (λ (l : List ℕ). drop at b ++ l) (sym zeros)
      ∙ sym (take-append-add (drop at b) (replicate m 0) (m - d))
      ∙ ap (λ (k : ℕ). take k (drop at b ++ replicate m 0)) (ap (λ (k : ℕ). k + (m - d)) long ∙ e)

  -- there are none
  behind : length b < at → part (stretched n b) at m ≡ padded b at m
  unfolding padded
  behind past =
      all_zeros n b at m within (omega (arith, past))
      ∙ sym (take-replicate m m 0 (omega arith))
      ∙ ap (λ (l : List ℕ). take m (l ++ replicate m 0)) (sym (drop_all at b (omega (arith, past))))

  pub padded_is : part (stretched n b) at m ≡ padded b at m
  padded_is = by_end (cases_lt (length b) (at + m)) (cases_lt (length b) at)
    where
      by_end : (length b < at + m) ⊎ (at + m ≤ length b) → (length b < at) ⊎ (at ≤ length b) → part (stretched n b) at m ≡ padded b at m
      by_end (inr fits) there = whole fits
      by_end (inl ends) (inl past) = behind past
      by_end (inl ends) (inr low) = ending low ends

-- a header is there, and what may begin a record is what the bytes behind it say
pub second_there : (blocks : ℕ) (b x : List ℕ) (head begins : Bool) → x ≡ padded b (4096 * (1 + blocks)) 40 → length x ≡ 40 → head ≡ true
    → IsTrue head ↔ IsHeader x → IsTrue begins ↔ MayBegin (take 8 (drop 32 x)) → IsTrue begins ↔ HasSecond b blocks
second_there blocks b x head begins is long there header head_there =
    let all : take 8 (drop 32 x) ≡ drop 32 x = take_all 8 (drop 32 x) (omega (arith, long, length-drop 32 x)) in
    let same : drop 32 x ≡ drop 32 (padded b (4096 * (1 + blocks)) 40) = ap (drop 32) is in (
      λ t. (subst IsHeader is (header.0 there), subst MayBegin (all ∙ same) (head_there.0 t)),
      λ second. head_there.1 (subst MayBegin (sym (all ∙ same)) second.1),
    )

-- there is no header
pub second_missing : (blocks : ℕ) (b x : List ℕ) (head : Bool) → x ≡ padded b (4096 * (1 + blocks)) 40 → head ≡ false
    → IsTrue head ↔ IsHeader x → IsTrue head ↔ HasSecond b blocks
second_missing blocks b x head is none header =
    (λ t. absurd (false≢true (sym none ∙ t)), λ second. header.1 (subst IsHeader (sym is) second.0))
