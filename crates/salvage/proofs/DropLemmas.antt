-- The numbers that Drop records name, one after another.
use Rattle.std.proofs.Common.{◌≡◌, ◌⊎◌, inl, inr, Some, refl, ℕ, zero, suc, ◌<◌, List, [], ◌∷◌, ◌++◌, length, get_or, sym, ap, ◌∙◌, subst, arith}
use Rattle.std.proofs.lemmas.Bool.{cases_eq}
use Rattle.std.specs.BTreeMap.{BTreeMap, get}
use Rattle.std.specs.List.{Contains, slice_get}
use Rattle.std.specs.Ordering.{nat_cmp}
use Rattle.salvage.specs.Records.{AreDrops, AreIndexed, IsDeleted, IsDrop}
use Rattle.salvage.specs.declared.records.Dropped.{Dropped}

pub drops_more : (bytes : List ℕ) (ds : List Dropped) (d : Dropped) → AreDrops bytes ds → IsDrop bytes d → AreDrops bytes (ds ++ d ∷ [])
drops_more bytes [] d are is = (is, tt)
drops_more bytes (x ∷ xs) d are is = (are.0, drops_more bytes xs d are.1 is)

pub deleted_there : (ds : List Dropped) (k : ℕ) (d : Dropped) (seq : ℕ) → k < length ds → d ≡ get_or ds k d → d.seq ≡ seq → IsDeleted ds seq
deleted_there [] k d seq low is same = absurd (omega (arith, low))
deleted_there (x ∷ xs) zero d seq low is same = inl (ap (λ (y : Dropped). y.seq) (sym is) ∙ same)
deleted_there (x ∷ xs) (suc k) d seq low is same = inr (deleted_there xs k d seq (omega (arith, low)) is same)

pub named_there : (ds : List Dropped) (k : ℕ) (d : Dropped) (seq : ℕ) → k < length ds → d ≡ get_or ds k d → d.seq ≡ seq → Contains ds (record { seq = seq; place = d.place })
named_there ds k d seq low is same =
    subst (λ (n : ℕ). Contains ds (record { seq = n; place = d.place })) same (k, low, sym is)

deleted_more : (ds : List Dropped) (d : Dropped) (seq : ℕ) → IsDeleted (ds ++ d ∷ []) seq → IsDeleted ds seq ⊎ (d.seq ≡ seq)
deleted_more [] d seq (inl e) = inr e
deleted_more [] d seq (inr none) = absurd none
deleted_more (x ∷ xs) d seq (inl e) = inl (inl e)
deleted_more (x ∷ xs) d seq (inr rest) = by_rest (deleted_more xs d seq rest)
  where
    by_rest : IsDeleted xs seq ⊎ (d.seq ≡ seq) → IsDeleted (x ∷ xs) seq ⊎ (d.seq ≡ seq)
    by_rest (inl old) = inl (inr old)
    by_rest (inr e) = inr e

there_more : (ds : List Dropped) (d x : Dropped) (i : ℕ) → slice_get ds i ≡ Some x → slice_get (ds ++ d ∷ []) i ≡ Some x
there_more [] d x i is = absurd (cc)
there_more (y ∷ ys) d x zero is = is
there_more (y ∷ ys) d x (suc i) is = there_more ys d x i is

last_there : (ds : List Dropped) (d : Dropped) → slice_get (ds ++ d ∷ []) (length ds) ≡ Some d
last_there [] d = refl
last_there (y ∷ ys) d = last_there ys d

module _ (ds : List Dropped) (seq place : ℕ) (m : BTreeMap ℕ ℕ) (are : AreIndexed ds m) where
  abbrev new : Dropped
  new = record { seq = seq; place = place }

  -- the number was named before
  pub index_stays : (i : ℕ) → get nat_cmp m seq ≡ Some i → AreIndexed (ds ++ record { seq = seq; place = place } ∷ []) m
  index_stays i has = record {
    each = λ q deleted. by_part q (deleted_more ds new q deleted);
    there = λ q j is. (let old = are.there q j is in (old.0, there_more ds new old.0 j old.1, old.2));
  }
    where
      by_part : (q : ℕ) → IsDeleted ds q ⊎ (seq ≡ q) → (k : ℕ) × (get nat_cmp m q ≡ Some k)
      by_part q (inl old) = are.each q old
      by_part q (inr e) = (i, sym (ap (get nat_cmp m) e) ∙ has)

  -- it is the first of its number
  pub index_more : (n : BTreeMap ℕ ℕ) (i : ℕ) → i ≡ length ds → get nat_cmp n seq ≡ Some i → ((q : ℕ) → (q ≡ seq → ⊥) → get nat_cmp n q ≡ get nat_cmp m q)
      → AreIndexed (ds ++ record { seq = seq; place = place } ∷ []) n
  index_more n i last has others = record {
    each = λ q deleted. by_number q deleted (cases_eq q seq);
    there = λ q j is. there_at q j is (cases_eq q seq);
  }
    where
      old_or : (q : ℕ) → (q ≡ seq → ⊥) → IsDeleted ds q ⊎ (seq ≡ q) → (k : ℕ) × (get nat_cmp n q ≡ Some k)
      old_or q other (inl old) = (let had = are.each q old in (had.0, others q other ∙ had.1))
      old_or q other (inr e) = absurd (other (sym e))

      by_number : (q : ℕ) → IsDeleted (ds ++ new ∷ []) q → (q ≡ seq) ⊎ (q ≡ seq → ⊥) → (k : ℕ) × (get nat_cmp n q ≡ Some k)
      by_number q deleted (inl e) = (i, ap (get nat_cmp n) e ∙ has)
      by_number q deleted (inr other) = old_or q other (deleted_more ds new q deleted)

      there_at : (q j : ℕ) → get nat_cmp n q ≡ Some j → (q ≡ seq) ⊎ (q ≡ seq → ⊥) → (d : Dropped) × (slice_get (ds ++ new ∷ []) j ≡ Some d) × (d.seq ≡ q)
      there_at q j is (inl e) =
          let same : Some j ≡ Some i = sym is ∙ ap (get nat_cmp n) e ∙ has in
          let place_is : j ≡ length ds = (cc) in
          (new, ap (slice_get (ds ++ new ∷ [])) place_is ∙ last_there ds new, sym e)
      there_at q j is (inr other) = (let old = are.there q j (sym (others q other) ∙ is) in (old.0, there_more ds new old.0 j old.1, old.2))

pub deleted_old : (ds : List Dropped) (d : Dropped) (seq : ℕ) → IsDeleted ds seq → IsDeleted (ds ++ d ∷ []) seq
deleted_old [] d seq old = absurd old
deleted_old (x ∷ xs) d seq (inl e) = inl e
deleted_old (x ∷ xs) d seq (inr old) = inr (deleted_old xs d seq old)

pub deleted_last : (ds : List Dropped) (d : Dropped) → IsDeleted (ds ++ d ∷ []) d.seq
deleted_last [] d = inl refl
deleted_last (x ∷ xs) d = inr (deleted_last xs d)
