-- The source lines of frames, and the executables that they are of.
use Rattle.std.proofs.Common.{◌≡◌, inl, inr, ℕ, suc, ◌+◌, true, cond, List, [], ◌∷◌, ◌++◌, Option, Some, map, refl, sym, ap, subst, ◌∙◌, arith}
use Rattle.std.specs.Prelude.{find}
use Rattle.std.proofs.lemmas.Bool.{cases_Bool}
use Rattle.std.proofs.lemmas.Slice.Eq.{bytes_eq-Decides}
use Rattle.image_replies.specs.Lines.{numbered_lines}
use Rattle.frame_replies.specs.Line.{SourceView}
use Rattle.memory_replies.specs.Naming.{NamedFile, has_path}
use Rattle.frame_replies.specs.FrameSources.{line_at, source_line}
use Rattle.frame_replies.specs.FrameValues.{FrameValue}
use Rattle.frame_replies.specs.LastSource.{IsFirst}

passes : (name : List ℕ) (xs : List NamedFile) (n : NamedFile) → find (has_path name) xs ≡ Some n → has_path name n ≡ true
passes name [] n is = cc
passes name (x ∷ xs) n is =
    elim (cases_Bool (has_path name x)) [
      | inl passed ↦
          let same : x ≡ n = (let found : Some x ≡ Some n = sym (ap (λ t. cond t (Some x) (find (has_path name) xs)) passed) ∙ is in cc) in
          subst (λ z. has_path name z ≡ true) same passed
      | inr failed ↦ passes name xs n (sym (ap (λ t. cond t (Some x) (find (has_path name) xs)) failed) ∙ is)
    ]

-- the first executable of a path is the first of its own path
pub first_of_its_path : (name : List ℕ) (xs : List NamedFile) (n : NamedFile) → Some n ≡ find (has_path name) xs → IsFirst xs n
first_of_its_path name xs n is =
    let path : n.file.path ≡ name = (bytes_eq-Decides n.file.path name).0 (passes name xs n (sym is)) in
    ap (λ p. find (has_path p) xs) path ∙ sym is

-- each frame's line, taken by its number from those of all frames
lines_from : (lines : List (Option SourceView)) (source : FrameValue → Option SourceView) (i : ℕ) (vs : List FrameValue) → ((k : ℕ) → line_at lines (i + k) ≡ line_at (map source vs) k)
    → numbered_lines (λ k v. source_line k v (line_at lines k)) i vs ≡ numbered_lines (λ k v. source_line k v (source v)) i vs
lines_from lines source i [] same = refl
lines_from lines source i (v ∷ vs) same =
    let here : i + 0 ≡ i = omega arith in
    let one = ap (source_line i v) (sym (ap (line_at lines) here) ∙ same 0) in
    let next = λ (k : ℕ). (let e : i + 1 + k ≡ i + suc k = omega arith in ap (line_at lines) e ∙ same (suc k)) in
    ap (λ (t : List ℕ). t ++ numbered_lines (λ k v. source_line k v (line_at lines k)) (i + 1) vs) one
    ∙ ap (λ (t : List ℕ). source_line i v (source v) ++ t) (lines_from lines source (i + 1) vs next)

pub lines_by_number : (lines : List (Option SourceView)) (source : FrameValue → Option SourceView) (vs : List FrameValue) → lines ≡ map source vs
    → numbered_lines (λ k v. source_line k v (line_at lines k)) 0 vs ≡ numbered_lines (λ k v. source_line k v (source v)) 0 vs
lines_by_number lines source vs is = lines_from lines source 0 vs (λ (k : ℕ). (let e : 0 + k ≡ k = omega arith in ap (line_at lines) e ∙ ap (λ (ls : List (Option SourceView)). line_at ls k) is))
