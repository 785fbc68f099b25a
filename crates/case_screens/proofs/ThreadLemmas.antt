-- One thread more.
use Rattle.std.proofs.Common.{◌≡◌, ◌==◌, ℕ, ◌+◌, ◌<◌, Bool, true, false, if◌then◌else◌, List, [], ◌∷◌, ◌++◌, Option, None, drop, take, length, get_or, refl, ap, ◌∙◌}
use Rattle.std.specs.Prelude.{◌||◌, codes, is_some}
use Rattle.std.proofs.lemmas.List.{at_drop_more}
use Rattle.core_notes.specs.FileList.{FileView}
use Rattle.core_notes.specs.Typed.{all_descs, first_desc}
use Rattle.elf_view.specs.NoteList.{NoteView}
use Rattle.case_screens.specs.Core.{files_in}
use Rattle.case_screens.specs.Frames.{each_thread, in_function, place_text, shown_threads, thread_count, thread_text, threads_rest}
use Rattle.frame_replies.specs.declared.values.FrameAnswer.{FrameAnswer}
use Rattle.frame_replies.specs.declared.values.FramesAnswer.{FramesAnswer}

pub no_threads : (files : List FileView) (count : ℕ) (descs : List (List ℕ)) (unwound : List (Option FramesAnswer)) → descs ≡ [] → each_thread files count descs unwound ≡ []
no_threads files count descs [] is = refl
no_threads files count descs (u ∷ us) is = ap (λ ds. each_thread files count ds (u ∷ us)) is

pub more_threads : (files : List FileView) (count : ℕ) (descs left : List (List ℕ)) (unwound : List (Option FramesAnswer)) (i : ℕ) (d : List ℕ) (none : Option FramesAnswer) → descs ≡ d ∷ left → i < length unwound
    → each_thread files count descs (drop i unwound) ≡ thread_text files count d (get_or unwound i none) ++ each_thread files count left (drop (i + 1) unwound)
more_threads files count descs left unwound i d none is within = ap (λ ds. each_thread files count ds (drop i unwound)) is ∙ at_drop_more (each_thread files count (d ∷ left)) unwound i none within

-- what is shown of a core of which some threads are unwound
pub shown_some : (notes : List NoteView) (unwound : List (Option FramesAnswer)) → (length unwound == 0) ≡ false
    → shown_threads notes unwound ≡ each_thread (files_in (first_desc 0x46494c45 notes)) (thread_count (all_descs 1 notes)) (all_descs 1 notes) (take 256 unwound) ++ threads_rest (thread_count (all_descs 1 notes)) (length unwound)
shown_some notes [] some = absurd (let e : true ≡ false = some in cc)
shown_some notes (u ∷ us) some = refl

told_if : (b : Bool) (t : List ℕ) → b ≡ true → t ≡ (if b then t else [])
told_if true t is = refl
told_if false t is = absurd (let e : false ≡ true = is in cc)

-- the function of a frame, where it is known or a signal handler returns there
pub function_told : (f : FrameAnswer) → (f.signal || is_some f.function) ≡ true → codes " in " ++ place_text f None ≡ in_function f
function_told f is = told_if (f.signal || is_some f.function) (codes " in " ++ place_text f None) is

pub or_right : (a b : Bool) → b ≡ true → (a || b) ≡ true
or_right true b is = refl
or_right false b is = is
