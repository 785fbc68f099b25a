-- Lines that are put together, one pair after the other.
use Rattle.std.proofs.Common.{◌≡◌, ◌⊎◌, ⊎_elim, inl, inr, ◌||◌, false, true, codes, if◌then◌else◌, is_some, refl, ◌<◌, ℕ, ◌+◌, Bool, List, ◌∷◌, ◌++◌, length, get_or, drop, map, Bor, sym, subst}
use Rattle.std.proofs.lemmas.List.{drop_more}
use Rattle.std.proofs.lemmas.Bool.{true≢false}
use Rattle.command_line.specs.Requesting.{HasAdded, IsJoined, IsPair, IsRefused, IsUnspelled, TakesPairs, is_named_twice, is_said_twice, template_said}
use Rattle.archive_files.specs.declared.failures.Refusal.{Refusal}
use Rattle.archive_files.specs.declared.failures.Refusal.TheVariants.{BadLine}
use Rattle.command_line.specs.declared.store_words.GivenStore.{GivenStore}

-- one pair more in front of those that are left
pub joined_more : (escapes : Bool) (line : List ℕ) (pairs : List (Bor (List ℕ))) (i : ℕ) (d : Bor (List ℕ)) (spelled whole : List ℕ) → i < length pairs
    → IsPair escapes (get_or pairs i d).now spelled → IsJoined escapes (line ++ 32 ∷ spelled) (map (λ p. p.now) (drop (i + 1) pairs)) whole
    → IsJoined escapes line (map (λ p. p.now) (drop i pairs)) whole
joined_more escapes line pairs i d spelled whole lt pair rest =
    subst (λ t. IsJoined escapes line (map (λ p. p.now) t) whole) (sym (drop_more pairs i d lt)) (spelled, pair, rest)

either_none : {X : Type 0} (e n r : Bool) (x y : X) → (e || (n || r)) ≡ false → (if n then x else y) ≡ y
either_none true n r x y isnt = absurd (true≢false isnt)
either_none false true r x y isnt = absurd (true≢false isnt)
either_none false false r x y isnt = refl

-- a file that is stored by its build has no name of its own
pub plain_template : (given : GivenStore) → is_said_twice given ≡ false → template_said given ≡ given.settings.template.now
plain_template given isnt = either_none (is_some given.exec) (is_some given.name) _ (codes "core") given.settings.template.now isnt

-- a core that is named twice is refused as such
pub named_refused : (given : GivenStore) (why : Refusal) → ((why ≡ BadLine) × (is_named_twice given ≡ true)) ⊎ IsUnspelled why → IsRefused given why
named_refused given why = ⊎_elim (λ h. inl (inl (h.0, inr (inr (inr (inr (inr (inr h.1)))))))) (λ u. inl (inr u))

-- one pair more in front of those of `handle` that are left
pub taken_more : (line : List ℕ) (left pairs : List (Bor (List ℕ))) (i : ℕ) (d : Bor (List ℕ)) (line' : List ℕ) (left' : List (Bor (List ℕ))) (whole : List ℕ) (all : List (Bor (List ℕ)))
    → i < length pairs → HasAdded line left (get_or pairs i d) line' left' → TakesPairs line' left' (drop (i + 1) pairs) whole all → TakesPairs line left (drop i pairs) whole all
taken_more line left pairs i d line' left' whole all lt added rest =
    subst (λ t. TakesPairs line left t whole all) (sym (drop_more pairs i d lt)) (line', left', added, rest)
