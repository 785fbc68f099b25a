-- The frames that the bytes of a stack show.
use Rattle.std.proofs.Common.{◌≡◌, ◌<◌, ℕ, ◌+◌, ◌-◌, leb, ltb, cond, ◌&&◌, true, List, length, get_or, Option, None, Some, refl, sym, ap, subst, ◌∙◌, arith, inl, inr}
use Rattle.std.specs.Prelude.{IfSome, is_some, slice_get}
use Rattle.std.proofs.lemmas.Bool.{and_parts, cases_Bool, cond-false, cond-true, false≢true, leb-true}
use Rattle.std.proofs.lemmas.Option.{none-some}
use Rattle.elf_view.specs.Field.{field}
use Rattle.elf_view.specs.Header.{segments_of}
use Rattle.elf_view.specs.ViewWords.{notes_of}
use Rattle.elf_view.specs.declared.faults.Want.TheVariants.{Core}
use Rattle.core_notes.specs.Typed.{all_descs}
use Rattle.thread_regs.specs.Register.{register_in}
use Rattle.address_space.specs.Source.{Space, value_at}
use Rattle.address_space.specs.WordLaws.{word_field, word_none}
use Rattle.address_space.specs.Whole.{IsFrontOf}
use Rattle.backtrace.specs.Agreeing.{AgreeAt}
use Rattle.backtrace.specs.AgreeLaws.{chain_alike}
use Rattle.backtrace.specs.Chain.{Memory, both, chain, link_below, stop_of}
use Rattle.backtrace.specs.MemoryWords.{words_in}
use Rattle.memory_replies.specs.Backtrace.{words_of}
use Rattle.memory_replies.specs.Stack.{AreStackOf, HasFrames, HasFramesOf}

-- a word of the stack is one of the memory
pub word_known : (space : Space) (first a w : ℕ) (bytes : List ℕ) → AreStackOf space first bytes → words_in first bytes a ≡ Some w → words_of space a ≡ Some w
unfolding words_in
word_known space first a w bytes values is =
    elim (cases_Bool (leb first a && leb (a + 8) (first + length bytes))) as (λ _. words_of space a ≡ Some w) [
      | inl within ↦
          let bounds = and_parts (leb first a) (leb (a + 8) (first + length bytes)) within in
          let low = leb-true first a bounds.0 in
          let high = leb-true (a + 8) (first + length bytes) bounds.1 in
          let values_here : (k : ℕ) → k < 8 → value_at space (a + k) ≡ Some (get_or bytes (a - first + k) 0) = λ k h.
          (let e : a + k ≡ first + (a - first + k) = omega arith in ap (value_at space) e ∙ values (a - first + k) (omega arith)) in
          word_field space 8 a (a - first) bytes values_here ∙ (sym (cond-true (leb first a && leb (a + 8) (first + length bytes)) (Some (field bytes (a - first) 8)) None within) ∙ is)
      | inr past ↦ absurd (none-some w (sym (cond-false (leb first a && leb (a + 8) (first + length bytes)) (Some (field bytes (a - first) 8)) None past) ∙ is))
    ]

-- where the memory has none the stack has none
word_missing : (space : Space) (first a : ℕ) (bytes : List ℕ) (o : Option ℕ) → AreStackOf space first bytes → words_in first bytes a ≡ o → words_of space a ≡ None → words_in first bytes a ≡ None
word_missing space first a bytes None values is none = is
word_missing space first a bytes (Some w) values is none = absurd (none-some w (sym none ∙ word_known space first a w bytes values is))

both_none : (o : Option ℕ) → both o None ≡ None
both_none None = refl
both_none (Some x) = refl

module _ (m p : Memory) (fp : ℕ) where
  pub link_low : fp < 16 → link_below m fp ≡ link_below p fp
  unfolding link_below
  link_low low = grind (arith, low)

  link_same : m (fp - 8) ≡ p (fp - 8) → m (fp - 16) ≡ p (fp - 16) → link_below m fp ≡ link_below p fp
  unfolding link_below
  link_same pc link = ap (λ o. cond (ltb fp 16) None (both o (m (fp - 16)))) pc ∙ ap (λ o. cond (ltb fp 16) None (both (p (fp - 8)) o)) link

  no_pc : m (fp - 8) ≡ None → p (fp - 8) ≡ None → link_below m fp ≡ link_below p fp
  unfolding link_below
  no_pc here there = ap (λ o. cond (ltb fp 16) None (both o (m (fp - 16)))) here ∙ sym (ap (λ o. cond (ltb fp 16) None (both o (p (fp - 16)))) there)

  no_link : m (fp - 16) ≡ None → p (fp - 16) ≡ None → link_below m fp ≡ link_below p fp
  unfolding link_below
  no_link here there =
      ap (λ o. cond (ltb fp 16) None (both (m (fp - 8)) o)) here
      ∙ ap (cond (ltb fp 16) None) (both_none (m (fp - 8)) ∙ sym (both_none (p (fp - 8))))
      ∙ sym (ap (λ o. cond (ltb fp 16) None (both (p (fp - 8)) o)) there)

module _ (space : Space) (first fp : ℕ) (bytes : List ℕ) (values : AreStackOf space first bytes) where
  link_known : (x y : ℕ) → words_in first bytes (fp - 8) ≡ Some x → words_in first bytes (fp - 16) ≡ Some y → link_below (words_of space) fp ≡ link_below (words_in first bytes) fp
  link_known x y pc link =
      link_same (words_of space) (words_in first bytes) fp (word_known space first (fp - 8) x bytes values pc ∙ sym pc) (word_known space first (fp - 16) y bytes values link ∙ sym link)

  pub links_known : (pc link : Option ℕ) → pc ≡ words_in first bytes (fp - 8) → link ≡ words_in first bytes (fp - 16) → true ≡ is_some pc → true ≡ is_some link → link_below (words_of space) fp ≡ link_below (words_in first bytes) fp
  links_known (Some x) (Some y) pc_is link_is some also = link_known x y (sym pc_is) (sym link_is)
  links_known (Some x) None pc_is link_is some also = absurd (false≢true (sym also))
  links_known None link pc_is link_is some also = absurd (false≢true (sym some))

  no_word : (a : ℕ) → value_at space a ≡ None → words_of space a ≡ None
  no_word a none = let zero : a + 0 ≡ a = omega arith in word_none space 8 a 0 (omega arith) (ap (value_at space) zero ∙ none)

  pub pc_missing : value_at space (fp - 8) ≡ None → link_below (words_of space) fp ≡ link_below (words_in first bytes) fp
  pc_missing none =
      let here = no_word (fp - 8) none in
      no_pc (words_of space) (words_in first bytes) fp here (word_missing space first (fp - 8) bytes (words_in first bytes (fp - 8)) values refl here)

  pub link_missing : value_at space (fp - 16) ≡ None → link_below (words_of space) fp ≡ link_below (words_in first bytes) fp
  link_missing none =
      let here = no_word (fp - 16) none in
      no_link (words_of space) (words_in first bytes) fp here (word_missing space first (fp - 16) bytes (words_in first bytes (fp - 16)) values refl here)

-- the frames of a thread whose registers are these
pub frames_known : (b image : List ℕ) (size t : ℕ) (bytes desc : List ℕ) (pc fp first : ℕ) → Some desc ≡ slice_get (all_descs 1 (notes_of Core b)) t → pc ≡ register_in desc 32 → fp ≡ register_in desc 8 → first ≡ fp - 16 → IsFrontOf b size image
    → ((space : Space) → space.segments ≡ segments_of image → AgreeAt (words_of space) (words_in first bytes) None (chain (words_in first bytes) pc fp)) → HasFrames b size bytes t image
frames_known b image size t bytes desc pc fp first is pc_is fp_is first_is front agree =
    let known : (space : Space) → space.segments ≡ segments_of image → HasFramesOf (register_in desc 32) (register_in desc 8) bytes space = λ space own.
    (subst (λ n. HasFramesOf n (register_in desc 8) bytes space) pc_is
    (subst (λ n. HasFramesOf pc n bytes space) fp_is
    (subst (λ n. (chain (words_of space) pc fp ≡ chain (words_in n bytes) pc fp) × (stop_of (words_of space) pc fp ≡ stop_of (words_in n bytes) pc fp)) first_is
    (chain_alike (words_of space) (words_in first bytes) pc fp (agree space own))))) in
    record {
      begins = front;
      frames = λ less. subst (λ o. IfSome o (λ d. (space : Space) → space.segments ≡ segments_of image → HasFramesOf (register_in d 32) (register_in d 8) bytes space)) is known;
    }
