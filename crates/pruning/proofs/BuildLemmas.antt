-- Which executables go.
use Rattle.std.proofs.Common.{◌≡◌, ◌<◌, ◌+◌, inl, inr, ℕ, suc, Bool, true, false, not, cond, ◌||◌, List, [], ◌∷◌, ◌++◌, All, length, get_or, drop, drop-cons, refl, sym, ap, subst, ◌∙◌, append_assoc, append-nil, arith}
use Rattle.std.proofs.lemmas.Bool.{false≢true}
use Rattle.std.specs.Bool.{Decides}
use Rattle.build_ids.specs.BuildName.{IsNameOf, build_name, debug_name}
use Rattle.pruning.specs.Cases.{is_core, number}
use Rattle.pruning.specs.Pruning.{ArePicked, Goes}
use Rattle.pruning.specs.declared.cases.LiveCase.{LiveCase}

-- no name is of two builds
pub record OneBuild : Type 0 where
  pub builds : (a b : List ℕ) → build_name a ≡ build_name b → a ≡ b
  pub debugs : (a b : List ℕ) → debug_name a ≡ debug_name b → a ≡ b
  pub apart : (a b : List ℕ) → build_name a ≡ debug_name b → ⊥

pub one_id : OneBuild → (id other name : List ℕ) → IsNameOf id name → IsNameOf other name → id ≡ other
one_id one id other name (h, inl is) (g, inl too) = one.builds id other (sym is ∙ too)
one_id one id other name (h, inr is) (g, inr too) = one.debugs id other (sym is ∙ too)
one_id one id other name (h, inl is) (g, inr too) = absurd (one.apart id other (sym is ∙ too))
one_id one id other name (h, inr is) (g, inl too) = absurd (one.apart other id (sym too ∙ is))

neither : (a b : Bool) → not (a || b) ≡ true → (a ≡ false) × (b ≡ false)
neither true b e = cc
neither false true e = cc
neither false false e = (refl, refl)

both_not : (a b : Bool) → a ≡ false → b ≡ false → not (a || b) ≡ true
both_not a b e f = rw (e, f) refl

-- a case goes unless its build, or its name, is kept
pub goes_unless : OneBuild → (needed named : List ℕ → Bool) (c : LiveCase) (id : List ℕ) (kept : Bool) → kept ≡ (needed id || named c.name.now) → All (λ (b : ℕ). b < 256) id
    → is_core c ≡ false → c.brief.pinned ≡ false → IsNameOf id c.name.now → Decides (not kept) (Goes needed named c)
goes_unless one needed named c id kept is bytes executable unpinned of = (
  (λ e.
      let free = neither (needed id) (named c.name.now) (ap not (sym is) ∙ e) in
      record { executable = executable; unpinned = unpinned; build = record { id = id; bytes = bytes; named = of }; not_needed = free.0; not_named = free.1 }),
  (λ g.
      let same = one_id one id g.build.id c.name.now of g.build.named in
      ap not is ∙ both_not (needed id) (named c.name.now) (ap needed same ∙ g.not_needed) g.not_named),
)

-- the same where the tests answer alike
pub goes_alike : (needed named needed' named' : List ℕ → Bool) → ((id : List ℕ) → needed id ≡ needed' id) → ((name : List ℕ) → named name ≡ named' name)
    → (c : LiveCase) → Goes needed named c → Goes needed' named' c
goes_alike needed named needed' named' ids names c g = record {
  executable = g.executable;
  unpinned = g.unpinned;
  build = g.build;
  not_needed = sym (ids g.build.id) ∙ g.not_needed;
  not_named = sym (names c.name.now) ∙ g.not_named;
}

pub picked_alike : (P Q : LiveCase → Type 0) → ((c : LiveCase) → P c → Q c) → ((c : LiveCase) → Q c → P c) → (cs : List LiveCase) (ns : List ℕ) → ArePicked P cs ns → ArePicked Q cs ns
picked_alike P Q to from [] ns is = is
picked_alike P Q to from (c ∷ cs) ns (inl (p, rest, is, more)) = inl (to c p, rest, is, picked_alike P Q to from cs rest more)
picked_alike P Q to from (c ∷ cs) ns (inr (not_p, more)) = inr ((λ q. not_p (from c q)), picked_alike P Q to from cs ns more)

-- a loop's step: what is picked of the cases that are left follows
abbrev pub Follows : (LiveCase → Type 0) → List LiveCase → List ℕ → List LiveCase → Type 0
Follows P all numbers left = (rest : List ℕ) → ArePicked P left rest → ArePicked P all (numbers ++ rest)

one_follows : (P : LiveCase → Type 0) (all : List LiveCase) (numbers numbers' : List ℕ) (goes : Bool) (c : LiveCase) (cs : List LiveCase) → Decides goes (P c)
    → numbers' ≡ cond goes (numbers ++ number c ∷ []) numbers → Follows P all numbers (c ∷ cs) → Follows P all numbers' cs
one_follows P all numbers numbers' true c cs is after before = λ rest more.
    subst (ArePicked P all) (sym (ap (λ ns. ns ++ rest) after ∙ append_assoc numbers (number c ∷ []) rest)) (before (number c ∷ rest) (inl (is.0 refl, rest, refl, more)))
one_follows P all numbers numbers' false c cs is after before = λ rest more.
    subst (λ ns. ArePicked P all (ns ++ rest)) (sym after) (before rest (inr ((λ p. false≢true (is.1 p)), more)))

pub follows_at : (P : LiveCase → Type 0) (all : List LiveCase) (numbers numbers' : List ℕ) (goes : Bool) (i : ℕ) (d : LiveCase) → i < length all → Decides goes (P (get_or all i d))
    → numbers' ≡ cond goes (numbers ++ number (get_or all i d) ∷ []) numbers → Follows P all numbers (drop i all) → Follows P all numbers' (drop (i + 1) all)
follows_at P all numbers numbers' goes i d lt is after before =
    let next : suc i ≡ i + 1 = omega arith in
    subst (λ k. Follows P all numbers' (drop k all)) next (one_follows P all numbers numbers' goes (get_or all i d) (drop (suc i) all) is after (subst (Follows P all numbers) (drop-cons all i d lt) before))

pub all_picked : (P : LiveCase → Type 0) (all : List LiveCase) (numbers : List ℕ) (left : List LiveCase) → left ≡ [] → Follows P all numbers left → ArePicked P all numbers
all_picked P all numbers left none before = subst (ArePicked P all) (append-nil numbers) (before [] (subst (λ cs. ArePicked P cs []) (sym none) refl))
