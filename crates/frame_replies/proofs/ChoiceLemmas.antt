-- On which executables a frame stands.
use Rattle.std.proofs.Common.{◌≡◌, inl, inr, ℕ, Bool, true, cond, List, [], ◌∷◌, find, map, Option, None, Some, Result, Ok, refl, sym, ap, subst, ◌∙◌}
use Rattle.std.specs.Prelude.{is_ok, slice_get}
use Rattle.std.specs.List.{AllByRecursion, filter}
use Rattle.std.proofs.lemmas.Bool.{cases_Bool, false≢true}
use Rattle.std.proofs.lemmas.Slice.Eq.{bytes_eq-Decides}
use Rattle.elf_view.specs.Header.{segments_of}
use Rattle.address_space.specs.Source.{ExecutableView, SpotView}
use Rattle.build_replies.specs.Builds.{name_of, once}
use Rattle.build_replies.specs.Choosing.{Choice, choice_for, core_fronts, debugs_under, told_files, told_id, under_names}
use Rattle.build_replies.specs.ChoosingLaws.{IsDebugOf, choice_plain, each_debug, each_own, each_with_code}
use Rattle.memory_replies.specs.Memory.{is_attached, mapped_files, memory_of}
use Rattle.memory_replies.specs.Naming.{NamedFile, with_debug}
use Rattle.symbols.specs.Offsets.{address_of}
use Rattle.unwind.specs.Code.{CodeFile, CodeView, ProcessView, code_at, code_of, has_path, missing}
use Rattle.unwind.specs.Reasons.{checked}
use Rattle.unwind.specs.Unwinding.{unwound}
use Rattle.unwind.specs.declared.faults.Stop.{Stop}
use Rattle.unwind.specs.declared.faults.Stop.TheVariants.{NoAddress, NoFile}
use Rattle.unwind.specs.declared.frame.Frame.{Frame}
use Rattle.frame_replies.specs.Choices.{AreNoDebugFiles, IsBuildOf, IsOwnBuild, by_path_alone, frame_by_path, process_of, spot_of_frame, unwind_by_path}
use Rattle.frame_replies.specs.FrameLines.{unwind_answer, unwound_answer, unwound_lines}
use Rattle.frame_replies.specs.FrameRegisters.{frame_answer, one_frame_answer, registers_of}
use Rattle.frame_replies.specs.Processes.{named_among, of_thread, process_in, start_of, state_of, with_code}

module _ {A : Type 0} (P : A → Type 0) where
  all_passed : (p : A → Bool) (xs : List A) → AllByRecursion P xs → AllByRecursion P (filter p xs)
  all_passed p [] all = tt
  all_passed p (x ∷ xs) all =
      elim (cases_Bool (p x)) [
        | inl passed ↦ subst (λ t. AllByRecursion P (cond t (x ∷ filter p xs) (filter p xs))) (sym passed) (all.0, all_passed p xs all.1)
        | inr failed ↦ subst (λ t. AllByRecursion P (cond t (x ∷ filter p xs) (filter p xs))) (sym failed) (all_passed p xs all.1)
      ]

  -- one that is found is one of them, and passes
  all_found : (p : A → Bool) (xs : List A) (x : A) → AllByRecursion P xs → find p xs ≡ Some x → P x × (p x ≡ true)
  all_found p [] x all is = cc
  all_found p (y ∷ ys) x all is =
      elim (cases_Bool (p y)) [
        | inl passed ↦
            let same : y ≡ x = (let found : Some y ≡ Some x = sym (ap (λ t. cond t (Some y) (find p ys)) passed) ∙ is in cc) in
            (subst P same all.0, subst (λ z. p z ≡ true) same passed)
        | inr failed ↦ all_found p ys x all.1 (sym (ap (λ t. cond t (Some y) (find p ys)) failed) ∙ is)
      ]

abbrev IsOwnCode : List ℕ → CodeFile → Type 0
IsOwnCode b x = IsOwnBuild b x.file

used_own : (b : List ℕ) (stored : List ExecutableView) → AllByRecursion (IsOwnBuild b) (choice_for b stored).used
unfolding choice_for
used_own b stored = each_own (core_fronts b) stored (once (map name_of (mapped_files b)))

pub used_code : (b : List ℕ) (stored : List ExecutableView) → AreNoDebugFiles (choice_for b stored).used
unfolding choice_for
used_code b stored = each_with_code stored (told_files b)

pub debugs_own : (b : List ℕ) (stored : List ExecutableView) → AllByRecursion (IsDebugOf (choice_for b stored).used) (choice_for b stored).debugs
unfolding choice_for
debugs_own b stored = each_debug stored (told_files b)

each_code : (b : List ℕ) (debugs xs : List ExecutableView) → AllByRecursion (IsOwnBuild b) xs → AllByRecursion (IsOwnCode b) (map (with_code debugs) xs)
each_code b debugs [] all = tt
each_code b debugs (x ∷ xs) all = (all.0, each_code b debugs xs all.1)

pub attached_own : (b : List ℕ) (stored : List ExecutableView) → AllByRecursion (IsOwnCode b) (process_of b stored).executables
unfolding process_in memory_of
attached_own b stored =
    each_code b (choice_for b stored).debugs (filter is_attached (choice_for b stored).used) (all_passed (IsOwnBuild b) is_attached (choice_for b stored).used (used_own b stored))

each_named : (b : List ℕ) (debugs xs : List ExecutableView) → AllByRecursion (IsOwnBuild b) xs → AllByRecursion (λ (n : NamedFile). IsOwnBuild b n.file) (map (with_debug debugs) xs)
each_named b debugs [] all = tt
each_named b debugs (x ∷ xs) all = (all.0, each_named b debugs xs all.1)

pub named_own : (b : List ℕ) (stored : List ExecutableView) → AllByRecursion (λ (n : NamedFile). IsOwnBuild b n.file) (named_among (choice_for b stored))
named_own b stored = each_named b (choice_for b stored).debugs (filter is_attached (choice_for b stored).used) (all_passed (IsOwnBuild b) is_attached (choice_for b stored).used (used_own b stored))

abbrev code_by : CodeFile → ℕ → Result CodeView Stop
code_by x v = Ok (record { image = x.file.image; debug = x.debug; address = v })

abbrev in_executable : SpotView → CodeFile → Result CodeView Stop
in_executable spot x = checked (address_of x.file.image spot.offset) NoAddress (code_by x)

image_in : (x : CodeFile) (o : Option ℕ) (code : CodeView) → checked o NoAddress (code_by x) ≡ Ok code → x.file.image ≡ code.image
image_in x None code is = absurd (false≢true (ap is_ok is))
image_in x (Some v) code is =
    let same : code_by x v ≡ Ok code = is in
    let one : record { image = x.file.image; debug = x.debug; address = v } ≡ code = cc in ap (λ (k : CodeView). k.image) one

code_found : (o : Option CodeFile) (stop : Stop) (spot : SpotView) (code : CodeView) → checked o stop (in_executable spot) ≡ Ok code → (x : CodeFile) × (o ≡ Some x) × (x.file.image ≡ code.image)
code_found None stop spot code is = absurd (false≢true (ap is_ok is))
code_found (Some x) stop spot code is = (x, refl, image_in x (address_of x.file.image spot.offset) code is)

code_in : (xs : List CodeFile) (others : List ExecutableView) (spot : SpotView) (code : CodeView) → code_at xs others spot ≡ Ok code → (x : CodeFile) × (find (has_path spot.name) xs ≡ Some x) × (x.file.image ≡ code.image)
unfolding code_at
code_in xs others spot code is = code_found (find (has_path spot.name) xs) (missing others spot.name) spot code is

code_there : (p : ProcessView) (f : Frame) (spot : SpotView) (code : CodeView) → spot_of_frame p f ≡ Some spot → code_of p f ≡ Ok code → code_at p.executables p.others spot ≡ Ok code
unfolding code_of
code_there p f spot code at is = sym (ap (λ o. checked o NoFile (code_at p.executables p.others)) at) ∙ is

-- the code of a frame is that of the build that was mapped
pub code_own : (b : List ℕ) (stored : List ExecutableView) (f : Frame) (spot : SpotView) (code : CodeView) → spot_of_frame (process_of b stored) f ≡ Some spot → code_of (process_of b stored) f ≡ Ok code → IsBuildOf b spot.name code.image
code_own b stored f spot code at is =
    let p = process_of b stored in
    let found = code_in p.executables p.others spot code (code_there p f spot code at is) in
    let own = all_found (IsOwnCode b) (has_path spot.name) p.executables found.0 (attached_own b stored) found.1 in
    let named : found.0.file.path ≡ spot.name = (bytes_eq-Decides found.0.file.path spot.name).0 own.1 in
    subst (λ image. IsBuildOf b spot.name image) found.2 (subst (λ path. IsBuildOf b path found.0.file.image) named own.0)

-- those that pass one test are among those that pass another
filter_within : {A : Type 0} (p q : A → Bool) → ((x : A) → p x ≡ true → q x ≡ true) → (xs : List A) → filter p (filter q xs) ≡ filter p xs
filter_within p q in_all [] = refl
filter_within p q in_all (x ∷ xs) =
    elim (cases_Bool (q x)) [
      | inl passed ↦
          ap (λ t. filter p (cond t (x ∷ filter q xs) (filter q xs))) passed
          ∙ ap (λ ys. cond (p x) (x ∷ ys) ys) (filter_within p q in_all xs)
      | inr failed ↦
          ap (λ t. filter p (cond t (x ∷ filter q xs) (filter q xs))) failed ∙ filter_within p q in_all xs
          ∙ sym
          (elim (cases_Bool (p x)) [
            | inl passes ↦ absurd (false≢true (sym failed ∙ in_all x passes))
            | inr fails ↦ ap (λ t. cond t (x ∷ filter p xs) (filter p xs)) fails
          ])
    ]

process_from : List ℕ → List ExecutableView → List ExecutableView → ProcessView
process_from b debugs attached = record {
  space = record { segments = segments_of b; files = mapped_files b; executables = attached };
  executables = map (with_code debugs) attached;
  others = [];
  start = start_of b;
}

thread_same : (f g : List ℕ → Result (List ℕ) (List ℕ)) → ((desc : List ℕ) → f desc ≡ g desc) → (o : Option (List ℕ)) → of_thread f o ≡ of_thread g o
thread_same f g same None = refl
thread_same f g same (Some desc) = same desc

module _ (b : List ℕ) (stored : List ExecutableView) (unknown : (path : List ℕ) → told_id b path ≡ None) (codes : AreNoDebugFiles stored) where
  abbrev under : List ExecutableView
  under = under_names stored (once (map name_of (mapped_files b)))

  abbrev plain : Choice
  plain = record { used = filter is_attached under; others = []; debugs = debugs_under stored (once (map name_of (mapped_files b))) }

  chosen_plain : choice_for b stored ≡ plain
  unfolding choice_for
  chosen_plain = choice_plain (core_fronts b) stored unknown codes (once (map name_of (mapped_files b)))

  process_plain : process_in b plain ≡ process_in b (by_path_alone b stored)
  unfolding process_in memory_of process_from
  process_plain = ap (process_from b plain.debugs) (filter_within is_attached is_attached (λ x h. h) under)

  named_plain : named_among plain ≡ named_among (by_path_alone b stored)
  named_plain = ap (map (with_debug plain.debugs)) (filter_within is_attached is_attached (λ x h. h) under)

  unwound_plain : (desc : List ℕ) → unwound_answer b plain desc ≡ unwound_answer b (by_path_alone b stored) desc
  unwound_plain desc =
      ap (λ (p : ProcessView). Ok (unwound_lines p (named_among plain) desc)) process_plain
      ∙ ap (λ (named : List NamedFile). Ok (unwound_lines (process_in b (by_path_alone b stored)) named desc)) named_plain

  one_frame_plain : (i : ℕ) (desc : List ℕ) → one_frame_answer b plain i desc ≡ one_frame_answer b (by_path_alone b stored) i desc
  one_frame_plain i desc = ap (λ (p : ProcessView). registers_of (slice_get (unwound p desc) i)) process_plain

  pub unwind_plain : (t : ℕ) → unwind_answer b stored t ≡ unwind_by_path b stored t
  unfolding unwind_answer
  unwind_plain t =
      ap (λ (c : Choice). of_thread (unwound_answer b c) (state_of b t)) chosen_plain
      ∙ thread_same (unwound_answer b plain) (unwound_answer b (by_path_alone b stored)) unwound_plain (state_of b t)

  pub frame_plain : (t i : ℕ) → frame_answer b stored t i ≡ frame_by_path b stored t i
  unfolding frame_answer
  frame_plain t i =
      ap (λ (c : Choice). of_thread (one_frame_answer b c i) (state_of b t)) chosen_plain
      ∙ thread_same (one_frame_answer b plain i) (one_frame_answer b (by_path_alone b stored) i) (one_frame_plain i) (state_of b t)
