-- A frame and those after it.
use Rattle.std.proofs.Common.{◌≡◌, ◌≤◌, ◌<◌, ◌+◌, length, ◌-◌, ℕ, zero, suc, List, [], ◌∷◌, Result, Ok, Err, refl, sym, ap, subst, ◌∙◌, cond, arith}
use Rattle.std.proofs.lemmas.Bool.{ne_eqb}
use Rattle.unwind.specs.Code.{ProcessView}
use Rattle.unwind.specs.Coming.{MayCome, most_by}
use Rattle.unwind.specs.Unwinding.{by_rules, bounded, next, IsUnwoundFrom, frames_behind, stop_behind, frames_from, stop_from, first_frame, unwound, stop_of, most}
use Rattle.unwind.specs.declared.faults.Stop.{Stop}
use Rattle.unwind.specs.declared.faults.Stop.TheVariants.{Limit}
use Rattle.unwind.specs.declared.frame.Frame.{Frame}

-- the frames after a frame are those after its next
frames_none : (p : ProcessView) (r : Result Frame Stop) → [] ≡ frames_behind (frames_from p zero) (bounded zero r)
frames_none p (Ok g) = refl
frames_none p (Err stop) = refl

no_zero : (n : ℕ) → suc n ≡ 0 → ⊥
no_zero n h = omega (arith, h)

-- where at least one more may come nothing is bounded
pub more_come : (n : ℕ) (r : Result Frame Stop) → bounded (suc n) r ≡ r
more_come n (Ok g) = ap (λ t. cond t (Err Limit) (Ok g)) (ne_eqb (suc n) 0 (λ same. no_zero n same))
more_come n (Err stop) = refl

one_less : (n : ℕ) → n ≡ suc n - 1
one_less n = omega arith

frames_some : (p : ProcessView) (n : ℕ) (r : Result Frame Stop) → frames_behind (frames_from p n) r ≡ frames_behind (frames_from p (suc n - 1)) (bounded (suc n) r)
frames_some p n r =
    ap (frames_behind (frames_from p n)) (sym (more_come n r)) ∙ ap (λ k. frames_behind (frames_from p k) (bounded (suc n) r)) (one_less n)

frames_step : (p : ProcessView) (n : ℕ) (f : Frame) → frames_from p n f ≡ f ∷ frames_behind (frames_from p (n - 1)) (next p n f)
unfolding frames_from next
frames_step p zero f = ap (λ fs. f ∷ fs) (frames_none p (by_rules p f))
frames_step p (suc n) f = ap (λ fs. f ∷ fs) (frames_some p n (by_rules p f))

-- and they end for the same reason
stop_none : (p : ProcessView) (r : Result Frame Stop) → stop_behind (λ g. Limit) r ≡ stop_behind (stop_from p zero) (bounded zero r)
stop_none p (Ok g) = refl
stop_none p (Err stop) = refl

stop_some : (p : ProcessView) (n : ℕ) (r : Result Frame Stop) → stop_behind (stop_from p n) r ≡ stop_behind (stop_from p (suc n - 1)) (bounded (suc n) r)
stop_some p n r =
    ap (stop_behind (stop_from p n)) (sym (more_come n r)) ∙ ap (λ k. stop_behind (stop_from p k) (bounded (suc n) r)) (one_less n)

stop_step : (p : ProcessView) (n : ℕ) (f : Frame) → stop_from p n f ≡ stop_behind (stop_from p (n - 1)) (next p n f)
unfolding stop_from next
stop_step p zero f = stop_none p (by_rules p f)
stop_step p (suc n) f = stop_some p n (by_rules p f)

-- the same of what is known to be the next
pub frames_next : (p : ProcessView) (n m : ℕ) (f : Frame) (r : Result Frame Stop) → n - 1 ≡ m → r ≡ next p n f → frames_from p n f ≡ f ∷ frames_behind (frames_from p m) r
frames_next p n m f r less is =
    frames_step p n f ∙ ap (λ k. f ∷ frames_behind (frames_from p k) (next p n f)) less ∙ ap (λ q. f ∷ frames_behind (frames_from p m) q) (sym is)

pub stop_next : (p : ProcessView) (n m : ℕ) (f : Frame) (r : Result Frame Stop) → n - 1 ≡ m → r ≡ next p n f → stop_from p n f ≡ stop_behind (stop_from p m) r
stop_next p n m f r less is =
    stop_step p n f ∙ ap (λ k. stop_behind (stop_from p k) (next p n f)) less ∙ ap (λ q. stop_behind (stop_from p m) q) (sym is)

-- the frames are those of the relation
last_by : (p : ProcessView) (f : Frame) (r : Result Frame Stop) → bounded zero r ≡ Err (stop_behind (λ g. Limit) r)
last_by p f (Ok g) = refl
last_by p f (Err stop) = refl

found_by : (p : ProcessView) (n : ℕ) (f : Frame) (r : Result Frame Stop) → next p (suc n) f ≡ r
    → ((g : Frame) → r ≡ Ok g → (gs : List Frame) × (frames_from p n g ≡ g ∷ gs) × IsUnwoundFrom p n g gs (stop_from p n g))
    → (fs : List Frame) × (f ∷ frames_behind (frames_from p n) r ≡ f ∷ fs) × IsUnwoundFrom p (suc n) f fs (stop_behind (stop_from p n) r)
found_by p n f (Ok g) is later =
    let rest = later g refl in
    (g ∷ rest.0, ap (λ fs. f ∷ fs) rest.1, (is, subst (λ k. IsUnwoundFrom p k g rest.0 (stop_from p n g)) (one_less n) rest.2))
found_by p n f (Err stop) is later = ([], refl, is)

next_more : (p : ProcessView) (n : ℕ) (f : Frame) → next p (suc n) f ≡ by_rules p f
unfolding next
next_more p n f = more_come n (by_rules p f)

next_last : (p : ProcessView) (f : Frame) → next p zero f ≡ Err (stop_behind (λ g. Limit) (by_rules p f))
unfolding next
next_last p f = last_by p f (by_rules p f)

found_from : (p : ProcessView) (n : ℕ) (f : Frame) → (fs : List Frame) × (frames_from p n f ≡ f ∷ fs) × IsUnwoundFrom p n f fs (stop_from p n f)
unfolding frames_from stop_from
found_from p zero f = ([], refl, next_last p f)
found_from p (suc n) f = found_by p n f (by_rules p f) (next_more p n f) (λ g is. found_from p n g)

pub unwound_found : (p : ProcessView) (desc : List ℕ) → (fs : List Frame) × (unwound p desc ≡ first_frame desc ∷ fs) × IsUnwoundFrom p most (first_frame desc) fs (stop_of p desc)
unfolding unwound stop_of
unwound_found p desc = found_from p most (first_frame desc)

-- and the only ones
abbrev ok : Frame → Result Frame Stop
ok g = Ok g

abbrev err : Stop → Result Frame Stop
err stop = Err stop

same_frames : (p : ProcessView) (fs gs : List Frame) (n : ℕ) (f : Frame) (stop other : Stop) → IsUnwoundFrom p n f fs stop → IsUnwoundFrom p n f gs other → (fs ≡ gs) × (stop ≡ other)
same_frames p [] [] n f stop other x y =
    let same : err stop ≡ err other = sym x ∙ y in (refl, cc)
same_frames p [] (g ∷ gs) n f stop other x y =
    let same : err stop ≡ ok g = sym x ∙ y.0 in absurd cc
same_frames p (g ∷ fs) [] n f stop other x y =
    let same : err other ≡ ok g = sym y ∙ x.0 in absurd cc
same_frames p (g ∷ fs) (h ∷ gs) n f stop other x y =
    let both : ok g ≡ ok h = sym x.0 ∙ y.0 in
    let same : g ≡ h = cc in
    let rest = same_frames p fs gs (n - 1) g stop other x.1 (subst (λ (k : Frame). IsUnwoundFrom p (n - 1) k gs other) (sym same) y.1) in
    (ap (λ k. k ∷ fs) same ∙ ap (λ ks. h ∷ ks) rest.0, rest.1)

pub unwound_only : (p : ProcessView) (desc : List ℕ) (fs : List Frame) (stop : Stop) → IsUnwoundFrom p most (first_frame desc) fs stop → (unwound p desc ≡ first_frame desc ∷ fs) × (stop_of p desc ≡ stop)
unwound_only p desc fs stop is =
    let found = unwound_found p desc in
    let same = same_frames p found.0 fs most (first_frame desc) (stop_of p desc) stop found.2 is in
    (found.1 ∙ ap (λ gs. first_frame desc ∷ gs) same.0, same.1)

-- so many frames at most
few_behind : (p : ProcessView) (n : ℕ) (r : Result Frame Stop) → ((g : Frame) → length (frames_from p n g) ≤ n + 1) → length (frames_behind (frames_from p n) r) ≤ n + 1
few_behind p n (Ok g) h = h g
few_behind p n (Err stop) h = omega arith

few_from : (p : ProcessView) (n : ℕ) (f : Frame) → length (frames_from p n f) ≤ n + 1
unfolding frames_from
few_from p zero f = omega arith
few_from p (suc n) f = omega (arith, few_behind p n (by_rules p f) (few_from p n))

pub unwound_few : (p : ProcessView) (desc : List ℕ) → length (unwound p desc) ≤ 1024
unfolding unwound
unwound_few p desc = few_from p most (first_frame desc)

-- where the next is given fewer may come after it
pub fewer_left : (more m : ℕ) (r : Result Frame Stop) → m ≡ more - 1 → MayCome more (Ok r) → most_by m r < suc more
fewer_left more m (Ok f) less some = omega (arith, less, some)
fewer_left more m (Err stop) less some = omega arith
