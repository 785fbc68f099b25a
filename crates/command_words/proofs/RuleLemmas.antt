-- What the builders of clap make of an argument, as a parse reads it.
use Rattle.std.proofs.Common.{rules, ◌≡◌, ℕ, Bool, true, false, ◌&&◌, List, ◌∷◌, [], ◌++◌, Bor, refl, ap, ◌∙◌}
use Rattle.clap.specs.Walk.{is_empty, rule_of}
use Rattle.clap.specs.declared.builder.arg.Arg.{Arg}
use Rattle.clap.specs.declared.builder.arg.ArgPredicate.{ArgPredicate}

and_false : (p q r : Bool) → q ≡ false → (p && (q && r)) ≡ false
and_false true q r e = rw e refl
and_false false q r e = refl

not_empty : {X : Type 0} → (xs : List X) (x : X) → is_empty (xs ++ x ∷ []) ≡ false
not_empty [] x = refl
not_empty (y ∷ xs) x = search rules

-- an argument that conflicts with another has a rule on it
pub conflicting : (a b : Arg) (x : Bor (List ℕ)) → b ≡ record a { conflicts = b.conflicts } → b.conflicts.items ≡ a.conflicts.items ++ x ∷ [] → rule_of b ≡ record (rule_of a) { is_free = false }
conflicting a b x same items =
    ap rule_of same ∙ ap (λ (free : Bool). record (rule_of a) { is_free = free }) (and_false _ (is_empty b.conflicts.items) _ (ap is_empty items ∙ not_empty a.conflicts.items x))

and_false_third : (p q r s : Bool) → r ≡ false → (p && (q && (r && s))) ≡ false
and_false_third true q r s e = and_false q r s e
and_false_third false q r s e = refl

-- an argument that requires another has a rule on it
pub requiring : (a b : Arg) (x : ArgPredicate × Bor (List ℕ)) → b ≡ record a { needs = b.needs } → b.needs.items ≡ a.needs.items ++ x ∷ [] → rule_of b ≡ record (rule_of a) { is_free = false }
requiring a b x same items =
    ap rule_of same ∙ ap (λ (free : Bool). record (rule_of a) { is_free = free }) (and_false_third _ _ (is_empty b.needs.items) _ (ap is_empty items ∙ not_empty a.needs.items x))
