-- What is answered of a thread's frames.
use Rattle.std.proofs.Common.{◌≡◌, ◌<◌, ℕ, cond, List, ◌++◌, length, take, Option, None, Some, refl, ap, sym, subst, ◌∙◌, arith, inl, inr, Ok, Err}
use Rattle.std.proofs.lemmas.Bool.{cases_lt}
use Rattle.std.proofs.lemmas.List.{length-take, take_all}
use Rattle.std.specs.Borrow.{Bor}
use Rattle.std.specs.Prelude.{IfSome, codes, is_none, slice_get}
use Rattle.std.specs.List.{flat_map}
use Rattle.std.specs.Option.{option_map, option_or}
use Rattle.elf_view.specs.NoteList.{NoteView}
use Rattle.elf_view.specs.Header.{segments_of}
use Rattle.elf_view.specs.Sound.{IsHeaderWhole, IsSound, first_fault}
use Rattle.elf_view.specs.declared.faults.Want.{Want}
use Rattle.elf_view.specs.ViewWords.{notes_of}
use Rattle.elf_view.specs.declared.faults.ElfFault.{ElfFault}
use Rattle.elf_view.specs.declared.faults.Want.TheVariants.{Core, Exec}
use Rattle.core_notes.specs.Typed.{all_descs}
use Rattle.thread_regs.specs.Register.{register_in}
use Rattle.address_space.specs.Source.{Space, ExecutableView}
use Rattle.address_space.specs.Whole.{space_in}
use Rattle.symbols.specs.SymbolTable as table
use Rattle.backtrace.specs.Chain.{chain, stop_of}
use Rattle.backtrace.specs.declared.frames.Frame.{Frame}
use Rattle.backtrace.specs.declared.frames.Stop.{Stop}
use Rattle.image_replies.specs.CoreWords.{core_bytes}
use Rattle.image_replies.specs.Reasons.{elf_reason}
use Rattle.image_replies.specs.declared.core_image.CoreImage.{CoreImage}
use Rattle.memory_replies.specs.Backtrace.{Places, frame_line, frames_answer, stop_line, thread_answer, thread_lines, words_of}
use Rattle.memory_replies.specs.Places.{if_known}
use Rattle.memory_replies.specs.Memory.{memory_of}
use Rattle.memory_replies.specs.Stack.{HasFrames, HasFramesOf, IsWalked}
use Rattle.memory_replies.specs.Symbol.{executable_fault, symbol_reason}

pub elf_fault_is : (b : List ℕ) (f : ElfFault) → Some f ≡ first_fault Exec b → Some (elf_reason f) ≡ executable_fault b
unfolding executable_fault
elf_fault_is b f is = ap (λ (o : Option ElfFault). option_or (option_map elf_reason o) (option_map symbol_reason (table.first_fault b))) is

pub is_known : (x : ExecutableView) → None ≡ executable_fault x.image → Some x ≡ if_known x
is_known x sound = ap (λ (o : Option (List ℕ)). cond (is_none o) (Some x) None) sound

pub is_unknown : (x : ExecutableView) (reason : List ℕ) → Some reason ≡ executable_fault x.image → None ≡ if_known x
is_unknown x reason fault = ap (λ (o : Option (List ℕ)). cond (is_none o) (Some x) None) fault

pub thread_is : (space : Space) (places : Places) (desc : List ℕ) (ra pc fp : ℕ) (frames : List Frame) (stop : Stop)
    → ra ≡ register_in desc 1 → pc ≡ register_in desc 32 → fp ≡ register_in desc 8
    → frames ≡ chain (words_of space) pc fp → stop ≡ stop_of (words_of space) pc fp
    → flat_map (frame_line places ra) frames ++ stop_line stop ≡ thread_lines space places desc
unfolding thread_lines
thread_is space places desc ra pc fp frames stop ra_is pc_is fp_is frames_are stop_is =
    ap (λ fs. flat_map (frame_line places ra) fs ++ stop_line stop) frames_are
    ∙ ap (λ s. flat_map (frame_line places ra) (chain (words_of space) pc fp) ++ stop_line s) stop_is
    ∙ ap (λ n. flat_map (frame_line places n) (chain (words_of space) pc fp) ++ stop_line (stop_of (words_of space) pc fp)) ra_is
    ∙ ap (λ n. flat_map (frame_line places (register_in desc 1)) (chain (words_of space) n fp) ++ stop_line (stop_of (words_of space) n fp)) pc_is
    ∙ ap (λ n. flat_map (frame_line places (register_in desc 1)) (chain (words_of space) (register_in desc 32) n) ++ stop_line (stop_of (words_of space) (register_in desc 32) n)) fp_is

-- the descriptor of the thread, if there is one
pub desc_is : (b : List ℕ) (t : ℕ) (o : Option (List ℕ)) (descs : List (List ℕ)) (notes : List NoteView) → o ≡ slice_get descs t → descs ≡ all_descs 1 notes → notes ≡ notes_of Core b
    → o ≡ slice_get (all_descs 1 (notes_of Core b)) t
desc_is b t o descs notes is descs_are own = is ∙ ap (λ ds. slice_get ds t) (descs_are ∙ ap (all_descs 1) own)

pub thread_missing : (b : List ℕ) (xs : List ExecutableView) (places : Places) (t : ℕ) (descs : List (List ℕ)) (notes : List NoteView) → None ≡ slice_get descs t → descs ≡ all_descs 1 notes → notes ≡ notes_of Core b
    → Err (codes "NoThread") ≡ frames_answer b xs places t
unfolding frames_answer
thread_missing b xs places t descs notes is descs_are own = ap (thread_answer (memory_of b xs) places) (desc_is b t None descs notes is descs_are own)

pub thread_shown : (b : List ℕ) (xs : List ExecutableView) (places : Places) (t : ℕ) (desc : List ℕ) (descs : List (List ℕ)) (notes : List NoteView) (space : Space)
    → Some desc ≡ slice_get descs t → descs ≡ all_descs 1 notes → notes ≡ notes_of Core b → space ≡ memory_of b xs
    → Ok (thread_lines space places desc) ≡ frames_answer b xs places t
unfolding frames_answer
thread_shown b xs places t desc descs notes space is descs_are own space_is =
    ap (λ s. Ok (thread_lines s places desc)) space_is
    ∙ ap (thread_answer (memory_of b xs) places) (desc_is b t (Some desc) descs notes is descs_are own)

-- What is told from the first bytes of an image, and from bytes of the thread's stack where the image has more.
module _ (core : CoreImage) (image : List ℕ) (size t : ℕ) (bytes : List ℕ) (has : HasFrames (core_bytes core) size bytes t image) where
  pub notes_in_front : ((want : Want) (b : List ℕ) (n : ℕ) → IsHeaderWhole (take n b) → IsSound want (take n b) → notes_of want (take n b) ≡ notes_of want b) → notes_of Core (core_bytes core) ≡ notes_of Core image
  notes_in_front law =
      let f = core_bytes core in
      let front = has.begins.1 in
      let sound : IsSound Core f = subst (λ (w : Want). IsSound w f) core.is_core core.elf.sound in
      ap (notes_of Core) front ∙ law Core image (length f) (subst IsHeaderWhole front core.elf.whole) (subst (IsSound Core) front sound)

  whole_is : length (core_bytes core) ≡ size → core_bytes core ≡ image
  whole_is same = has.begins.1 ∙ take_all (length (core_bytes core)) image (let long = has.begins.0 in omega (arith, same, long))

  -- the memory of the image is walked
  pub walked : (stack : Option (Bor (List ℕ))) (desc : List ℕ) (space : Space) (xs : List ExecutableView) → space ≡ memory_of (core_bytes core) xs
      → (stack ≡ None → length (core_bytes core) ≡ size) → IfSome stack (λ b. b.now ≡ bytes) → IfSome stack (λ b. length (core_bytes core) ≡ size → ⊥)
      → Some desc ≡ slice_get (all_descs 1 (notes_of Core (core_bytes core))) t
      → IsWalked stack (register_in desc 32) (register_in desc 8) space (space_in image space)
  unfolding memory_of
  walked None desc space xs is whole part short found =
      let same : segments_of image ≡ space.segments = ap segments_of (sym (whole_is (whole refl))) ∙ sym (ap (λ (s : Space). s.segments) is) in
      ap (λ ss. let s : Space = record space { segments = ss } in s) same
  walked (Some b) desc space xs is whole part short found =
      let less : length (core_bytes core) < size = (let same = ap length has.begins.1 in let l = length-take (length (core_bytes core)) image in let long = has.begins.0 in elim (cases_lt (length (core_bytes core)) size) as (λ _. length (core_bytes core) < size) [
        | inl below ↦ below
        | inr above ↦ absurd (short (omega (arith, same, l, long, above)))
      ]) in
      let frames : IfSome (Some desc) (λ d. (s : Space) → s.segments ≡ segments_of image → HasFramesOf (register_in d 32) (register_in d 8) bytes s) =
      subst (λ o. IfSome o (λ d. (s : Space) → s.segments ≡ segments_of image → HasFramesOf (register_in d 32) (register_in d 8) bytes s)) (sym found) (has.frames less) in
      subst (λ x. HasFramesOf (register_in desc 32) (register_in desc 8) x (space_in image space)) (sym part) (frames (space_in image space) refl)
