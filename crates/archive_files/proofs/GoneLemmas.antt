-- What is not answered where a case is gone, or where none is.
use Rattle.std.proofs.Common.{ℕ, List, [], ◌∷◌, sym, subst, ◌∙◌, ⊎_elim, Option, IsTrue}
use Rattle.std.specs.Io.KnownBytes.{Appends}
use Rattle.journal_layout.specs.declared.shape.Shape.{Shape}
use Rattle.intake.specs.Durable.{Durable, FoundCase, StandsFor}
use Rattle.intake.specs.InTurn.{ACaseIsThereBetween, last_state}
use Rattle.intake.specs.Lasting.{NumbersAreAbove}
use Rattle.shared_disk.specs.Meanwhile.{EndsWith}
use Rattle.shared_disk.specs.declared.shared.SharedDisk as shared
use Rattle.archive_files.specs.UnlockedCopies.{Meanwhile}
use Rattle.archive_files.specs.History.{HasEach, HasNone, HasOne, HoldsArchive, IsNumbered, IsOneOf}
use Rattle.archive_files.proofs.UnlockedCopyLemmas.{stands_for}

has_this : (x : Durable) (numbers : List ℕ) (n : ℕ) → HasEach x numbers → IsOneOf numbers n → HasOne x n
has_this x [] n each one = absurd one
has_this x (k ∷ ks) n each one = ⊎_elim (λ here. subst (HasOne x) (sym here) each.0) (λ later. has_this x ks n each.1 later) one

module _ {S : Type 0} (g : shared.Ghosts S) where
  pub noticed : (s : S) (numbers : List ℕ) (n : ℕ) (shape : Shape) (x : Durable) (ys : List Durable) → IsTrue (g.is_honest s) → HoldsArchive g s shape x ys → IsOneOf numbers n → HasNone (last_state x ys) n
      → (IsTrue (g.is_honest s) → (b : List ℕ) × EndsWith (g.meanwhile s) b × ((z : Durable) → StandsFor b z → HasEach z numbers)) → ⊥
  noticed s numbers n shape x ys honest holds one none leaves =
      let again = leaves honest in
      let each = again.2 (last_state x ys) (stands_for shape again.0 (last_state x ys) (holds.last again.0 again.1)) in
      let there = has_this (last_state x ys) numbers n each one in
      none there.0 there.1

  pub asked : (s : S) (shape : Shape) (x : Durable) (ys : List Durable) → IsTrue (g.is_honest s) → HoldsArchive g s shape x ys → ((n : ℕ) → HasOne x n → HasOne (last_state x ys) n)
      → Meanwhile g s (λ x ys. (n : ℕ) × HasOne x n × HasNone (last_state x ys) n) → ⊥
  asked s shape x ys honest holds all goes =
      let gone = goes shape x ys honest holds in
      let there = all gone.0 gone.1 in
      gone.2 there.0 there.1

  pub copied : NumbersAreAbove → ACaseIsThereBetween → (s : S) (seq : ℕ) (start taken : Option (List ℕ)) (shape : Shape) (x : Durable) (ys : List Durable) → IsTrue (g.is_honest s) → HoldsArchive g s shape x ys
      → Meanwhile g s (λ x ys. (c : FoundCase) × IsNumbered x seq c × Appends start taken c.image) → HasOne x seq × ((c : FoundCase) → IsNumbered x seq c → Appends start taken c.image)
  copied numbers law s seq start taken shape x ys honest holds copies =
      let is = copies shape x ys honest holds in (
        (is.0, is.1),
        λ c numbered.
            let same = law x [] is.0 c (numbers (g.looked s) x (stands_for shape (g.looked s) x holds.first)) tt is.1.0 numbered.0 (numbered.1 ∙ sym is.1.1) in
            subst (Appends start taken) (sym same.0.image) is.2,
      )

  pub refused : (s : S) (seq : ℕ) (shape : Shape) (x : Durable) (ys : List Durable) → IsTrue (g.is_honest s) → HoldsArchive g s shape x ys → HasOne (last_state x ys) seq
      → Meanwhile g s (λ x ys. HasNone (last_state x ys) seq) → ⊥
  refused s seq shape x ys honest holds there goes = goes shape x ys honest holds there.0 there.1
