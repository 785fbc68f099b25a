use Rattle.std.proofs.Common.{◌≡◌, ◌≢◌, arith, ℕ, List, [], ◌∷◌, ◌++◌, Ok, Err, inl, inr, sym, subst, ◌∙◌, append_assoc}
use Rattle.std.proofs.lemmas.List.{append_cancel_left, append_cancel_right}
use Rattle.std.specs.Prelude.{codes}
use Rattle.script_streams.specs.Lines.{IsLine}
use Rattle.script_streams.specs.Replies.{reply_of}
use Rattle.image_replies.specs.Ended.{AreLines}
use Rattle.image_replies.proofs.laws.replies_are_read_one_way.Goals as goal

pub returns-clause-lines : goal.returns-clause-lines
returns-clause-lines c lines others e = append_cancel_right lines others _ e

pub returns-clause-reason : goal.returns-clause-reason
returns-clause-reason c reason other e =
    append_cancel_left (codes "no ") reason other (append_cancel_right (codes "no " ++ reason) (codes "no " ++ other) (10 ∷ []) e)

none_apart : (reason : List ℕ) → reply_of (Ok []) ≡ reply_of (Err reason) → ⊥
none_apart reason e = cc

some_apart : ((line front rest : List ℕ) → IsLine line → line ≡ front ++ 10 ∷ rest → ⊥) → (front reason : List ℕ) → IsLine (codes "no " ++ reason) → reply_of (Ok (front ++ 10 ∷ [])) ≡ reply_of (Err reason) → ⊥
some_apart law front reason line e =
    let told : (front ++ 10 ∷ 111 ∷ 107 ∷ []) ++ 10 ∷ [] ≡ (front ++ 10 ∷ []) ++ 111 ∷ 107 ∷ 10 ∷ [] = append_assoc front (10 ∷ 111 ∷ 107 ∷ []) (10 ∷ []) ∙ sym (append_assoc front (10 ∷ []) (111 ∷ 107 ∷ 10 ∷ [])) in
    law (codes "no " ++ reason) front (111 ∷ 107 ∷ []) line (sym (append_cancel_right (front ++ 10 ∷ 111 ∷ 107 ∷ []) (codes "no " ++ reason) (10 ∷ []) (told ∙ e)))

refused_in_line : (reason : List ℕ) → IsLine reason → IsLine (codes "no " ++ reason)
refused_in_line reason line =
    let n : 110 ≢ 10 = omega arith in
    let o : 111 ≢ 10 = omega arith in
    let space : 32 ≢ 10 = omega arith in
    (n, (o, (space, line)))

apart : ((line front rest : List ℕ) → IsLine line → line ≡ front ++ 10 ∷ rest → ⊥) → (lines reason : List ℕ) → AreLines lines → IsLine (codes "no " ++ reason) → reply_of (Ok lines) ≡ reply_of (Err reason) → ⊥
apart law lines reason (inl none) line e = none_apart reason (subst (λ (t : List ℕ). reply_of (Ok t) ≡ reply_of (Err reason)) none e)
apart law lines reason (inr more) line e = some_apart law more.0 reason line (subst (λ (t : List ℕ). reply_of (Ok t) ≡ reply_of (Err reason)) more.1 e)

pub returns-clause-apart : goal.returns-clause-apart
returns-clause-apart c lines reason ended line e =
    apart c.lines_are_cut_one_way.ensures.last lines reason ended (refused_in_line reason line) e
