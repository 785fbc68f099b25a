-- What mount points come to.
use Rattle.std.proofs.Common.{◌≡◌, ℕ, ◌+◌, ◌<◌, ◌≤◌, ◌==◌, nat_le, Bool, true, false, cond, List, [], ◌∷◌, ◌++◌, length, Option, None, Some, refl, sym, ap, ◌∙◌, subst, arith, ⊎_elim, inl, inr, ◌⊎◌, eqb-true, unwrap_or}
use Rattle.std.proofs.lemmas.Bool.{cases_Bool, cases_lt, and_parts, or_cases, eq-eqb, le-leb, lt-leb, false≢true}
use Rattle.std.specs.List.{AllByRecursion}
use Rattle.mount_table.specs.Lines.{MountView}
use Rattle.mount_table.specs.Nearest.{is_as_deep, nearest}
use Rattle.mount_table.specs.PointLaws.{written_byte, written, IsAtOrAbove, AreShorter, IsNearest}
use Rattle.mount_table.specs.Points.{unescaped_past, unescaped, goes_on, is_above}

-- a byte as Linux writes it is read as itself
byte_back : (c : ℕ) (rest : List ℕ) → unescaped_past 0 (written_byte c ++ rest) ≡ c ∷ unescaped_past 0 rest
byte_back c rest =
    let P : ℕ → Type 0 = λ n. unescaped_past 0 (written_byte n ++ rest) ≡ n ∷ unescaped_past 0 rest in
    ⊎_elim (λ is. subst P (sym (eqb-true c 32 is)) refl) (λ (no_space : (c == 32) ≡ false).
    ⊎_elim (λ is. subst P (sym (eqb-true c 9 is)) refl) (λ (no_tab : (c == 9) ≡ false).
    ⊎_elim (λ is. subst P (sym (eqb-true c 10 is)) refl) (λ (no_end : (c == 10) ≡ false).
    ⊎_elim (λ is. subst P (sym (eqb-true c 92 is)) refl) (λ (no_backslash : (c == 92) ≡ false).
    rw (no_space, no_tab, no_end, no_backslash) (rw no_backslash refl))
    (cases_Bool (c == 92))) (cases_Bool (c == 10))) (cases_Bool (c == 9))) (cases_Bool (c == 32))

pub reads_back : (path : List ℕ) → unescaped (written path) ≡ path
reads_back [] = refl
reads_back (c ∷ cs) = byte_back c (written cs) ∙ ap (λ rest. c ∷ rest) (reads_back cs)

-- where a path goes on, behind a slash or not
abbrev GoesOn : Bool → List ℕ → List ℕ → Type 0
GoesOn after point path = IsAtOrAbove point path ⊎ ((after ≡ true) × (point ≡ []))

one_more : (p c : ℕ) (ps cs : List ℕ) → p ≡ c → GoesOn (p == 47) ps cs → IsAtOrAbove (p ∷ ps) (c ∷ cs)
one_more p c ps cs same (inl (inl is)) = inl (ap (λ b. b ∷ cs) (sym same) ∙ ap (λ bs. p ∷ bs) is)
one_more p c ps cs same (inl (inr (inl below))) = inr (inl (below.0, ap (λ b. b ∷ cs) (sym same) ∙ ap (λ bs. p ∷ bs) below.1))
one_more p c ps cs same (inl (inr (inr root))) =
    inr (inr (p ∷ root.0, root.1, ap (λ bs. p ∷ bs) root.2, ap (λ b. b ∷ cs) (sym same) ∙ ap (λ bs. p ∷ bs) root.3))
one_more p c ps cs same (inr slash) =
    inr (inr ([], cs, ap (λ b. b ∷ ps) (eqb-true p 47 slash.0) ∙ ap (λ bs. 47 ∷ bs) slash.1, ap (λ b. b ∷ cs) (sym same) ∙ ap (λ bs. p ∷ (bs ++ cs)) (sym slash.1)))

found : (after : Bool) (point path : List ℕ) → goes_on after point path ≡ true → GoesOn after point path
found after [] [] goes = inl (inl refl)
found after [] (c ∷ cs) goes =
    ⊎_elim (λ slash. inr (slash, refl)) (λ next. inl (inr (inl (cs, ap (λ b. b ∷ cs) (eqb-true c 47 next))))) (or_cases after (c == 47) goes)
found after (p ∷ ps) [] goes = absurd (false≢true goes)
found after (p ∷ ps) (c ∷ cs) goes =
    inl (one_more p c ps cs (eqb-true p c (and_parts (p == c) (goes_on (p == 47) ps cs) goes).0) (found (p == 47) ps cs (and_parts (p == c) (goes_on (p == 47) ps cs) goes).1))

-- and back
itself : (after : Bool) (point : List ℕ) → goes_on after point point ≡ true
itself after [] = refl
itself after (p ∷ ps) = rw (eq-eqb p p refl) (itself (p == 47) ps)

below : (after : Bool) (point rest : List ℕ) → goes_on after point (point ++ 47 ∷ rest) ≡ true
below true [] rest = refl
below false [] rest = refl
below after (p ∷ ps) rest = rw (eq-eqb p p refl) (below (p == 47) ps rest)

rooted : (after : Bool) (front rest : List ℕ) → goes_on after (front ++ 47 ∷ []) ((front ++ 47 ∷ []) ++ rest) ≡ true
rooted after [] [] = refl
rooted after [] (c ∷ cs) = refl
rooted after (p ∷ ps) rest = rw (eq-eqb p p refl) (rooted (p == 47) ps rest)

goes_back : (point path : List ℕ) → IsAtOrAbove point path → is_above point path ≡ true
goes_back point path (inl is) = subst (λ whole. goes_on false point whole ≡ true) (sym is) (itself false point)
goes_back point path (inr (inl next)) = subst (λ whole. goes_on false point whole ≡ true) (sym next.1) (below false point next.0)
goes_back point path (inr (inr root)) =
    subst (λ whole. goes_on false point whole ≡ true) (sym root.3) (subst (λ one. goes_on false one (one ++ root.1) ≡ true) (sym root.2) (rooted false root.0 root.1))

pub is_at_or_above : (point path : List ℕ) → (is_above point path ≡ true → IsAtOrAbove point path) × (IsAtOrAbove point path → is_above point path ≡ true)
is_at_or_above point path =
    (λ goes. ⊎_elim (λ above. above) (λ slash. absurd (false≢true slash.0)) (found false point path goes), goes_back point path)

-- none of the mounts is as near as the one before them
abbrev Stays : List ℕ → ℕ → Option (List ℕ) → List MountView → Option (List ℕ) → Type 0
Stays path depth kind mounts result = (result ≡ kind) × AreShorter path depth mounts

-- this one of them is the nearest
record Nears (path : List ℕ) (depth : ℕ) (mounts : List MountView) (result : Option (List ℕ)) : Type 0 where
  before : List MountView
  mount : MountView
  behind : List MountView
  parts : mounts ≡ before ++ mount ∷ behind
  kind : result ≡ Some mount.kind
  above : is_above mount.point path ≡ true
  deep : depth ≤ length mount.point
  first : AreShorter path (length mount.point + 1) before
  last : AreShorter path (length mount.point) behind

-- a mount in front that is not as near
in_front : (path : List ℕ) (depth : ℕ) (one : MountView) (mounts : List MountView) (result : Option (List ℕ))
    → (is_above one.point path ≡ true → length one.point < depth + 1) → Nears path depth mounts result → (small : ℕ) → small ≤ depth → Nears path small (one ∷ mounts) result
in_front path depth one mounts result short near small less = record {
  before = one ∷ near.before;
  mount = near.mount;
  behind = near.behind;
  parts = ap (λ more. one ∷ more) near.parts;
  kind = near.kind;
  above = near.above;
  deep = (let deep = near.deep in omega arith);
  first = (λ above. let h = short above in let deep = near.deep in omega arith, near.first);
  last = near.last;
}

-- a mount that is not as near changes nothing
passed : (path : List ℕ) (depth : ℕ) (kind : Option (List ℕ)) (one : MountView) (mounts : List MountView)
    → nearest path depth kind (one ∷ mounts) ≡ nearest path depth kind mounts → (is_above one.point path ≡ true → length one.point < depth)
    → Stays path depth kind mounts (nearest path depth kind mounts) ⊎ Nears path depth mounts (nearest path depth kind mounts)
    → Stays path depth kind (one ∷ mounts) (nearest path depth kind (one ∷ mounts)) ⊎ Nears path depth (one ∷ mounts) (nearest path depth kind (one ∷ mounts))
passed path depth kind one mounts step short rest =
    let P : Option (List ℕ) → Type 0 = λ r. Stays path depth kind (one ∷ mounts) r ⊎ Nears path depth (one ∷ mounts) r in
    subst P (sym step) (⊎_elim
    (λ stays. inl (stays.0, (short, stays.1)))
    (λ near. inr (in_front path depth one mounts _ (λ above. let h = short above in omega arith) near depth (omega arith)))
    rest)

-- which of the two the tests choose
chosen : (path : List ℕ) (depth : ℕ) (kind : Option (List ℕ)) (one : MountView) (mounts : List MountView) (b : Bool)
    → is_above one.point path ≡ true → nat_le depth (length one.point) ≡ b
    → nearest path depth kind (one ∷ mounts) ≡ cond b (nearest path (length one.point) (Some one.kind) mounts) (nearest path depth kind mounts)
chosen path depth kind one mounts b above deep =
    ap (λ t. cond (is_as_deep depth (cond t (Some (length one.point)) None)) (nearest path (unwrap_or (cond t (Some (length one.point)) None) 0) (Some one.kind) mounts) (nearest path depth kind mounts)) above
    ∙ ap (λ t. cond t (nearest path (length one.point) (Some one.kind) mounts) (nearest path depth kind mounts)) deep

nearest_is : (path : List ℕ) (depth : ℕ) (kind : Option (List ℕ)) (mounts : List MountView)
    → Stays path depth kind mounts (nearest path depth kind mounts) ⊎ Nears path depth mounts (nearest path depth kind mounts)
nearest_is path depth kind [] = inl (refl, tt)
nearest_is path depth kind (one ∷ mounts) =
    ⊎_elim
    (λ above. ⊎_elim
    (λ short.
    let step : nearest path depth kind (one ∷ mounts) ≡ nearest path depth kind mounts = chosen path depth kind one mounts false above (lt-leb depth (length one.point) short) in
    passed path depth kind one mounts step (λ _. short) (nearest_is path depth kind mounts))
    (λ deep.
    let step : nearest path depth kind (one ∷ mounts) ≡ nearest path (length one.point) (Some one.kind) mounts = chosen path depth kind one mounts true above (le-leb depth (length one.point) deep) in
    let P : Option (List ℕ) → Type 0 = λ r. Stays path depth kind (one ∷ mounts) r ⊎ Nears path depth (one ∷ mounts) r in
    subst P (sym step) (inr (⊎_elim
    (λ stays. record { before = []; mount = one; behind = mounts; parts = refl; kind = stays.0; above = above; deep = deep; first = tt; last = stays.1 })
    (λ near. in_front path (length one.point) one mounts _ (λ _. omega arith) near depth deep)
    (nearest_is path (length one.point) (Some one.kind) mounts))))
    (cases_lt (length one.point) depth))
    (λ aside.
    let step : nearest path depth kind (one ∷ mounts) ≡ nearest path depth kind mounts = rw aside in
    passed path depth kind one mounts step (λ is. absurd (false≢true (sym aside ∙ is))) (nearest_is path depth kind mounts))
    (cases_Bool (is_above one.point path))

-- none is as near as a path with no byte is deep
none_above : (path : List ℕ) (mounts : List MountView) → AreShorter path 0 mounts → AllByRecursion (λ mount. is_above mount.point path ≡ false) mounts
none_above path [] short = tt
none_above path (one ∷ mounts) short =
    (⊎_elim (λ above. let h = short.0 above in absurd (omega arith)) (λ aside. aside) (cases_Bool (is_above one.point path)), none_above path mounts short.1)

pub is_nearest : (path : List ℕ) (mounts : List MountView) → IsNearest path mounts (nearest path 0 None mounts)
is_nearest path mounts =
    ⊎_elim
    (λ stays. subst (IsNearest path mounts) (sym stays.0) (none_above path mounts stays.1))
    (λ near. subst (IsNearest path mounts) (sym near.kind) (near.before, near.mount, near.behind, near.parts, refl, near.above, near.first, near.last))
    (nearest_is path 0 None mounts)
