-- Lines over archives that hold the same get the same replies.
use Rattle.std.proofs.Common.{◌≡◌, ℕ, Bool, List, [], ◌∷◌, ◌++◌, length, Option, Result, Ok, Err, refl, sym, ap, subst, ◌∙◌, arith}
use Rattle.std.proofs.lemmas.Bool.{false≢true}
use Rattle.std.specs.Prelude.{IsTrue}
use Rattle.std.specs.List.{flat_map}
use Rattle.disk_model.specs.declared.disk.Disk as disk
use Rattle.archive_replies.specs.Reasons.{reason_of}
use Rattle.archive_replies.specs.Texts.{plain_reply, begin_reply, end_reply, retire_reply, free_reply, list_reply, dropped_line, unmet_line}
use Rattle.intake.specs.Contents.{Contents, AbandonBytes, BeginBytes, DropBytes, FinishBytes, LabelBytes, PinBytes, RetireBytes, UnmovedBytes, UpgradeBytes}
use Rattle.intake.specs.OneAnswer.{IsDecided, BeginsOneWay, AbandonsOneWay, FinishesOneWay, DeletesOneWay, PinsOneWay, LabelsOneWay, UpgradesOneWay, RetiresOneWay, FillsOneWay, decision_said}
use Rattle.intake.specs.Parts.{Parts, state_of, contents_of}
use Rattle.intake.specs.State.{ArchiveState, StreamFacts}
use Rattle.intake.specs.Step.{BeginStep, AbandonStep, FinishStep, DeleteStep, PinStep, LabelStep, UpgradeStep, RetireStep, FreeReply}
use Rattle.intake.specs.declared.faults.ArchiveFault.{ArchiveFault}
use Rattle.intake.specs.declared.faults.ArchiveFault.TheVariants.{Stopped, OutOfMemory, Disk}
use Rattle.intake.specs.declared.space.Space.{Space}
use Rattle.retention.specs.declared.Decision.{Decision}
use Rattle.retention.specs.declared.Policy.{Policy}
use Rattle.script_streams.specs.Replies.{no_reply, ok_reply}
use Rattle.script_lines.specs.Said.{silence, bad_line, long_line, begin_exec, begin_core, part_of, end_of, drop_of, delete_of, pin_of, label_of, retire_by, list_all_cases, count_free, upgrade_archive, inspect_of}
use Rattle.stream_names.specs.Streams.{exec_stream, core_stream}
use Rattle.inspector_cli.specs.Agreement.{HoldSame, IsFree, LinesAgree}
use Rattle.inspector_cli.specs.Reply.{Begins, Drops, Deletes, Ends, Feeds, Frees, Labels, Pins, Retires, TakeBytes, TakeStep, Upgrades, query_by}
use Rattle.inspector_cli.proofs.AgreeLemmas.{SameBytes, begin_decided, end_decided, plain_decided, retire_decided, same_begun, same_dropped, same_as, same_finished, same_gone, same_took, same_unmoved, take_one}
use Rattle.inspector_cli.proofs.AgreeLooks.{decided_as, held_still, inspects_agree}

-- what each call's answer is one of
pub record OneWay : Type 0 where
  pub begin : BeginsOneWay
  pub abandon : AbandonsOneWay
  pub finish : FinishesOneWay
  pub delete : DeletesOneWay
  pub pin : PinsOneWay
  pub label : LabelsOneWay
  pub upgrade : UpgradesOneWay
  pub retire : RetiresOneWay
  pub fills : FillsOneWay

ok_is : (x y : List ℕ × Bool) → ◌≡◌ {A = Result (List ℕ × Bool) ArchiveFault} (Ok y) (Ok x) → y ≡ x
ok_is x y is = cc

-- two archives and a line
module _ {D E : Type 0} (g : disk.Ghosts D) (h : disk.Ghosts E) (one : OneWay) (old new : Parts D) (old' new' : Parts E) (reply reply' : List ℕ) (honest : IsTrue (g.is_honest old.disk)) (honest' : IsTrue (h.is_honest old'.disk))
    (same : HoldSame g h old old') (bound : IsFree reply → ⊥) (bound' : IsFree reply' → ⊥) where
  abbrev Agrees : Type 0
  Agrees = (reply' ≡ reply) × HoldSame g h new new'

  abbrev before : Contents
  before = contents_of g.seen old

  abbrev before' : Contents
  before' = contents_of h.seen old'

  abbrev after : Contents
  after = contents_of g.seen new

  abbrev after' : Contents
  after' = contents_of h.seen new'

  alike : SameBytes before before'
  alike = record { images = same.images; taken = same.taken }

  holds : state_of new' ≡ state_of new → SameBytes after after' → HoldSame g h new new'
  holds state bytes = record { state = state; images = bytes.images; taken = bytes.taken }

  begins : (slot : ℕ) (r : Result StreamFacts (List ℕ)) (accepted accepted' : Bool) → Begins g old slot r reply new accepted → Begins h old' slot r reply' new' accepted' → Agrees
  begins slot (Err reason) accepted accepted' (told, is, bad) (told', is', bad') = (told' ∙ sym told, held_still g h old new old' new' same is is')
  begins slot (Ok stream) accepted accepted' (r, call, told, good) (r', call', told', good') =
      let d = begin_decided stream.origin.name r reply told bound in
      let d' = begin_decided stream.origin.name r' reply' told' bound' in
      let is = one.begin (state_of old) slot stream r r' (state_of new) (state_of new') call.step (subst (λ (s : ArchiveState). BeginStep s slot stream r' (state_of new')) same.state call'.step) d d' in (
        told' ∙ ap (begin_reply stream.origin.name) is.0 ∙ sym told,
        holds is.1 (same_begun before before' after after' alike slot r call.bytes (subst (λ (q : Result (Unit {0}) ArchiveFault). BeginBytes before' slot q after') is.0 call'.bytes)),
      )

  feeds : (slot : ℕ) (raw : List ℕ) → Feeds g old slot raw reply new → Feeds h old' slot raw reply' new' → Agrees
  feeds slot raw (r, call, told) (r', call', told') =
      let d = plain_decided r reply told bound in
      let d' = plain_decided r' reply' told' bound' in
      let is = take_one one.fills (state_of old) slot (length raw) r r' (state_of new) (state_of new') call.step (subst (λ (s : ArchiveState). TakeStep s slot (length raw) r' (state_of new')) same.state call'.step) d d' in (
        told' ∙ ap plain_reply is.0 ∙ sym told,
        holds is.1 (same_took before before' after after' alike slot raw r d (call.bytes honest) (subst (λ (q : Result (Unit {0}) ArchiveFault). TakeBytes before' slot raw q after') is.0 (call'.bytes honest'))),
      )

  ends : (slot : ℕ) (stored stored' : Option ℕ) → Ends g old slot reply new stored → Ends h old' slot reply' new' stored' → Agrees
  ends slot stored stored' (r, call, told, number) (r', call', told', number') =
      let d = end_decided r reply told bound in
      let d' = end_decided r' reply' told' bound' in
      let is = one.finish (state_of old) slot r r' (state_of new) (state_of new') call.step (subst (λ (s : ArchiveState). FinishStep s slot r' (state_of new')) same.state call'.step) d d' in (
        told' ∙ ap end_reply is.0 ∙ sym told,
        holds is.1 (same_finished before before' after after' alike slot r d (call.bytes honest) (subst (λ (q : Result ℕ ArchiveFault). FinishBytes before' slot q after') is.0 (call'.bytes honest'))),
      )

  drops : (slot : ℕ) → Drops g old slot reply new → Drops h old' slot reply' new' → Agrees
  drops slot (r, call, told) (r', call', told') =
      let d = plain_decided r reply told bound in
      let d' = plain_decided r' reply' told' bound' in
      let is = one.abandon (state_of old) slot r r' (state_of new) (state_of new') call.step (subst (λ (s : ArchiveState). AbandonStep s slot r' (state_of new')) same.state call'.step) d d' in (
        told' ∙ ap plain_reply is.0 ∙ sym told,
        holds is.1 (same_dropped before before' after after' alike slot r call.bytes (subst (λ (q : Result (Unit {0}) ArchiveFault). AbandonBytes before' slot q after') is.0 call'.bytes)),
      )

  deletes : (seq : ℕ) → Deletes g old seq reply new → Deletes h old' seq reply' new' → Agrees
  deletes seq (r, call, told) (r', call', told') =
      let d = plain_decided r reply told bound in
      let d' = plain_decided r' reply' told' bound' in
      let is = one.delete (state_of old) seq r r' (state_of new) (state_of new') call.step (subst (λ (s : ArchiveState). DeleteStep s seq r' (state_of new')) same.state call'.step) d d' in (
        told' ∙ ap plain_reply is.0 ∙ sym told,
        holds is.1 (same_gone before before' after after' alike (state_of old) (seq ∷ []) r d (call.bytes honest)
            (subst (λ (q : Result (Unit {0}) ArchiveFault). DropBytes (state_of old) before' (seq ∷ []) q after') is.0 (subst (λ (s : ArchiveState). DropBytes s before' (seq ∷ []) r' after') same.state (call'.bytes honest')))),
      )

  pins : (seq : ℕ) (flag : Bool) → Pins g old seq flag reply new → Pins h old' seq flag reply' new' → Agrees
  pins seq flag (r, call, told) (r', call', told') =
      let d = plain_decided r reply told bound in
      let d' = plain_decided r' reply' told' bound' in
      let is = one.pin (state_of old) seq flag r r' (state_of new) (state_of new') call.step (subst (λ (s : ArchiveState). PinStep s seq flag r' (state_of new')) same.state call'.step) d d' in (
        told' ∙ ap plain_reply is.0 ∙ sym told,
        holds is.1 (unmoved r d (call.bytes honest) (subst (λ (q : Result (Unit {0}) ArchiveFault). PinBytes before' q after') is.0 (call'.bytes honest'))),
      )
    where
      unmoved : (q : Result (Unit {0}) ArchiveFault) → IsDecided q → PinBytes before q after → PinBytes before' q after' → SameBytes after after'
      unmoved (Ok u) d is is' = same_as before before' after after' alike is is'
      unmoved (Err f) d is is' = same_unmoved before before' after after' alike f d is is'

  labels : (seq : ℕ) (text : List ℕ) → Labels g old seq text reply new → Labels h old' seq text reply' new' → Agrees
  labels seq text (r, call, told) (r', call', told') =
      let d = plain_decided r reply told bound in
      let d' = plain_decided r' reply' told' bound' in
      let is = one.label (state_of old) seq text r r' (state_of new) (state_of new') call.step (subst (λ (s : ArchiveState). LabelStep s seq text r' (state_of new')) same.state call'.step) d d' in (
        told' ∙ ap plain_reply is.0 ∙ sym told,
        holds is.1 (unmoved r d (call.bytes honest) (subst (λ (q : Result (Unit {0}) ArchiveFault). LabelBytes before' q after') is.0 (call'.bytes honest'))),
      )
    where
      unmoved : (q : Result (Unit {0}) ArchiveFault) → IsDecided q → LabelBytes before q after → LabelBytes before' q after' → SameBytes after after'
      unmoved (Ok u) d is is' = same_as before before' after after' alike is is'
      unmoved (Err f) d is is' = same_unmoved before before' after after' alike f d is is'

  upgrades : Upgrades g old reply new → Upgrades h old' reply' new' → Agrees
  upgrades (r, call, told) (r', call', told') =
      let d = plain_decided r reply told bound in
      let d' = plain_decided r' reply' told' bound' in
      let is = one.upgrade (state_of old) r r' (state_of new) (state_of new') call.step (subst (λ (s : ArchiveState). UpgradeStep s r' (state_of new')) same.state call'.step) d d' in (
        told' ∙ ap plain_reply is.0 ∙ sym told,
        holds is.1 (unmoved r d (call.bytes honest) (subst (λ (q : Result (Unit {0}) ArchiveFault). UpgradeBytes before' q after') is.0 (call'.bytes honest'))),
      )
    where
      unmoved : (q : Result (Unit {0}) ArchiveFault) → IsDecided q → UpgradeBytes before q after → UpgradeBytes before' q after' → SameBytes after after'
      unmoved (Ok u) d is is' = same_as before before' after after' alike is is'
      unmoved (Err f) d is is' = same_unmoved before before' after after' alike f d is is'

  -- the cases that a retirement drops are those that it tells
  retires : (policy : Policy) → Retires g old policy reply new → Retires h old' policy reply' new' → Agrees
  retires policy (r, call, told) (r', call', told') =
      let d = retire_decided r reply told bound in
      let d' = retire_decided r' reply' told' bound' in
      let is = one.retire (state_of old) policy (decision_said r) (decision_said r') (state_of new) (state_of new') (r, call.step, refl)
      (r', subst (λ (s : ArchiveState). RetireStep s policy r' (state_of new')) same.state call'.step, refl) (said_decided r d) (said_decided r' d') in (
        told' ∙ retold r r' is.0 ∙ sym told,
        holds is.1 (moved r r' d is.0 (call.bytes honest) (subst (λ (s : ArchiveState). RetireBytes s before' r' after') same.state (call'.bytes honest'))),
      )
    where
      said_decided : (q : Result Decision ArchiveFault) → IsDecided q → IsDecided (decision_said q)
      said_decided (Ok x) d = tt
      said_decided (Err OutOfMemory) d = d
      said_decided (Err Disk) d = d
      said_decided (Err _) d = tt

      retold : (q q' : Result Decision ArchiveFault) → decision_said q' ≡ decision_said q → retire_reply q' ≡ retire_reply q
      retold (Ok x) (Ok y) is =
          let e : (y.dropped.items, y.unmet) ≡ (x.dropped.items, x.unmet) = ok_is _ _ is in
          ap (λ (p : List ℕ × Bool). flat_map dropped_line p.0 ++ (unmet_line p.1 ++ ok_reply)) e
      retold (Ok x) (Err f) is = absurd (let e = is in cc)
      retold (Err f) (Ok y) is = absurd (let e = is in cc)
      retold (Err f) (Err f') is = let e : f' ≡ f = (let e = is in cc) in ap (λ (x : ArchiveFault). no_reply (reason_of x)) e

      moved : (q q' : Result Decision ArchiveFault) → IsDecided q → decision_said q' ≡ decision_said q → RetireBytes (state_of old) before q after → RetireBytes (state_of old) before' q' after' → SameBytes after after'
      moved (Ok x) (Ok y) d is bytes bytes' =
          let e : y.dropped.items ≡ x.dropped.items = ap (λ (p : List ℕ × Bool). p.0) (ok_is _ _ is) in
          same_gone before before' after after' alike (state_of old) x.dropped.items (Ok tt) tt bytes (subst (λ (l : List ℕ). DropBytes (state_of old) before' l (Ok tt) after') e bytes')
      moved (Ok x) (Err f) d is bytes bytes' = absurd (let e = is in cc)
      moved (Err f) (Ok y) d is bytes bytes' = absurd (let e = is in cc)
      moved (Err f) (Err f') d is bytes bytes' =
          let e : f' ≡ f = (let e = is in cc) in
          same_unmoved before before' after after' alike f (decided_as Decision (Unit {0}) f d) bytes (subst (λ (x : ArchiveFault). UnmovedBytes before' x after') e bytes')

  frees : Frees old reply new → Frees old' reply' new' → Agrees
  frees (r, says, told, is) (r', says', told', is') =
      (told' ∙ counted r r' says (subst (λ (s : ArchiveState). FreeReply s r') same.state says') ∙ sym told, held_still g h old new old' new' same is is')
    where
      counted : (q q' : Result Space ArchiveFault) → FreeReply (state_of old) q → FreeReply (state_of old) q' → free_reply q' ≡ free_reply q
      counted (Ok x) (Ok y) a b =
          let free : y.free ≡ x.free = (let p = a.1 in let q = b.1 in omega (arith, p, q)) in
          let all : y.data_blocks ≡ x.data_blocks = b.2 ∙ sym a.2 in
          ap (λ (n : ℕ). free_reply (Ok (record { free = n; data_blocks = y.data_blocks }))) free ∙ ap (λ (n : ℕ). free_reply (Ok (record { free = x.free; data_blocks = n }))) all
      counted (Ok x) (Err Stopped) a b = absurd (false≢true (sym a.0 ∙ b))
      counted (Ok x) (Err _) a b = absurd b
      counted (Err Stopped) (Ok y) a b = absurd (false≢true (sym b.0 ∙ a))
      counted (Err Stopped) (Err Stopped) a b = refl
      counted (Err Stopped) (Err _) a b = absurd b
      counted (Err _) q' a b = absurd a

-- each line
pub lines_agree : {D E : Type 0} (g : disk.Ghosts D) (h : disk.Ghosts E) → OneWay → LinesAgree g h
lines_agree g h one naming old new old' new' silence raw reply reply' honest honest' same r r' bound bound' = (r'.0 ∙ sym r.0, held_still g h old new old' new' same r.1 r'.1)
lines_agree g h one naming old new old' new' bad_line raw reply reply' honest honest' same r r' bound bound' = (r'.0 ∙ sym r.0, held_still g h old new old' new' same r.1 r'.1)
lines_agree g h one naming old new old' new' long_line raw reply reply' honest honest' same r r' bound bound' = (r'.0 ∙ sym r.0, held_still g h old new old' new' same r.1 r'.1)
lines_agree g h one naming old new old' new' (begin_exec slot name) raw reply reply' honest honest' same r r' bound bound' =
    begins g h one old new old' new' reply reply' honest honest' same bound bound' slot (exec_stream name) r.0 r'.0 r.1 r'.1
lines_agree g h one naming old new old' new' (begin_core slot process) raw reply reply' honest honest' same r r' bound bound' =
    begins g h one old new old' new' reply reply' honest honest' same bound bound' slot (core_stream naming process) r.0 r'.0 r.1 r'.1
lines_agree g h one naming old new old' new' (part_of slot n) raw reply reply' honest honest' same r r' bound bound' = feeds g h one old new old' new' reply reply' honest honest' same bound bound' slot raw r r'
lines_agree g h one naming old new old' new' (end_of slot) raw reply reply' honest honest' same r r' bound bound' = ends g h one old new old' new' reply reply' honest honest' same bound bound' slot r.0 r'.0 r.1 r'.1
lines_agree g h one naming old new old' new' (drop_of slot) raw reply reply' honest honest' same r r' bound bound' = drops g h one old new old' new' reply reply' honest honest' same bound bound' slot r r'
lines_agree g h one naming old new old' new' (delete_of seq) raw reply reply' honest honest' same r r' bound bound' = deletes g h one old new old' new' reply reply' honest honest' same bound bound' seq r r'
lines_agree g h one naming old new old' new' (pin_of seq flag) raw reply reply' honest honest' same r r' bound bound' = pins g h one old new old' new' reply reply' honest honest' same bound bound' seq flag r r'
lines_agree g h one naming old new old' new' (label_of seq text) raw reply reply' honest honest' same r r' bound bound' = labels g h one old new old' new' reply reply' honest honest' same bound bound' seq text r r'
lines_agree g h one naming old new old' new' (retire_by policy) raw reply reply' honest honest' same r r' bound bound' = retires g h one old new old' new' reply reply' honest honest' same bound bound' policy r r'
lines_agree g h one naming old new old' new' list_all_cases raw reply reply' honest honest' same r r' bound bound' =
    (r'.0 ∙ ap (λ (s : ArchiveState). list_reply s.stopped s.version s.cases) same.state ∙ sym r.0, held_still g h old new old' new' same r.1 r'.1)
lines_agree g h one naming old new old' new' count_free raw reply reply' honest honest' same r r' bound bound' = frees g h one old new old' new' reply reply' honest honest' same bound bound' r r'
lines_agree g h one naming old new old' new' upgrade_archive raw reply reply' honest honest' same r r' bound bound' = upgrades g h one old new old' new' reply reply' honest honest' same bound bound' r r'
lines_agree g h one naming old new old' new' (inspect_of seq query) raw reply reply' honest honest' same r r' bound bound' = inspects_agree g h old new old' new' seq (query_by naming query) reply reply' honest honest' same r r' bound bound'
