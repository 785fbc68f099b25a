-- A case that no line takes away is found again, over commands and stops.
use Rattle.std.proofs.Common.{◌≡◌, ◌⊎◌, inl, inr, ⊎_elim, ℕ, ◌+◌, ◌==◌, ◌<◌, ◌≤◌, ◌^◌, Bool, true, false, not, cond, List, [], ◌∷◌, ◌++◌, length, map, Option, Some, None, Result, Ok, refl, sym, ap, subst, ◌∙◌, arith, append_assoc}
use Rattle.std.proofs.lemmas.Bool.{cases_Bool, false≢true, eqb-false}
use Rattle.std.proofs.lemmas.List.{append-nil}
use Rattle.std.proofs.lemmas.Bool.Decides.{eqb_tells}
use Rattle.std.specs.Prelude.{codes, IsTrue}
use Rattle.std.specs.List.{AllByRecursion}
use Rattle.disk_model.specs.declared.disk.Disk as disk
use Rattle.journal_layout.specs.Folding.{is_among, pinned_as, labelled_as}
use Rattle.journal_layout.specs.Soundness.{Rise}
use Rattle.intake.specs.Durable.{Durable, FoundCase, without, flagged, labelled, with_case, made_of}
use Rattle.intake.specs.Lasting.{HasNumbers, NumbersAreAbove, number_of}
use Rattle.intake.specs.Lives.{IsAmong}
use Rattle.intake.specs.Marks.{IsOneOf}
use Rattle.intake.specs.State.{StreamFacts}
use Rattle.retention.specs.declared.Policy.{Policy}
use Rattle.script_lines.specs.Said.{Said, silence, bad_line, long_line, begin_exec, begin_core, part_of, end_of, drop_of, delete_of, pin_of, label_of, retire_by, list_all_cases, count_free, upgrade_archive, inspect_of}
use Rattle.script_streams.specs.Replies.{no_reply, ok_reply}
use Rattle.stream_names.specs.declared.naming.Naming.{Naming}
use Rattle.archive_replies.specs.Texts.{end_reply, dropped_line, unmet_line}
use Rattle.inspector_cli.specs.declared.session.Order.{Order}
use Rattle.inspector_cli.specs.declared.session.LifeFault.{LifeFault}
use Rattle.inspector_cli.specs.declared.session.StoreOutcome.{StoreOutcome}
use Rattle.inspector_cli.specs.Headline.{HasFlag, Moment, Line, Course, IsCrashSafe, IsCourse, Leads, LeadsOn, WouldLeave, AllLead, FindsMoment, FindsSince, IsSafe, AreSafe, answer_of, moment_of, begins_as, begun_in, last_moment}
use Rattle.inspector_cli.specs.Kept.{Kept, IsKeptAs, HasThisLabel, HoldsKept, FindsKept, Spares, AllSpare, Command, IsSession, IsStore, IsCommand, AStopIsTakenUp, AReopeningIsTakenUp, AreNext, StaysFound, ASessionKeepsACase, ALineStoresACase, AStoreStoresACase, AStoreKeepsACase, relabelled, ALineLabelsACase, AStoreLabelsACase, AStorePinsACase}
use Rattle.inspector_cli.specs.Session.{Streams}
use Rattle.inspector_cli.specs.StoreHeadline.{IsStoreSafe, AddsCase, StoresOrNot, PrintsStored, Gone, GoInTurn, StoreCourse, IsStoreCourse, moments_of, no_stream}
use Rattle.inspector_cli.specs.Storing.{Options, retire_line, said_pin, said_label, stated_in}
use Rattle.inspector_cli.specs.Told.{Answer, HasLine, what_of, parts_in}
use Rattle.inspector_cli.proofs.FoundLemmas.{told_once}
use Rattle.inspector_cli.proofs.KeptLemmas.{among_more, among_last, among_filtered, among_mapped, all_append, all_mapped, one_apart, has_line}

module _ (k : Kept) where
  abbrev Holds : Durable → Type 0
  Holds x = HoldsKept k x

  same : (x y : Durable) → y ≡ x → Holds x → Holds y
  same x y is holds = subst Holds (sym is) holds

  with_case_holds : (x : Durable) (s : StreamFacts) (blocks image : List ℕ) → Holds x → Holds (with_case x s blocks image)
  with_case_holds x s blocks image (c, among, is) = (c, among_more x.cases _ c among, is)

  without_holds : (x : Durable) (seqs : List ℕ) → is_among seqs k.seq ≡ false → Holds x → Holds (without x seqs)
  without_holds x seqs apart (c, among, is) =
      (c, among_filtered (λ (d : FoundCase). not (is_among seqs d.case.seq)) x.cases c among (ap not (ap (is_among seqs) is.number ∙ apart)), is)

  flag_set : (t flag : Bool) (c : FoundCase) → IsKeptAs k c → IsKeptAs k (record c { case = cond t (record c.case { pinned = flag }) c.case })
  flag_set true flag c is = record { number = is.number; origin = is.origin; bytes = is.bytes; labelled = is.labelled }
  flag_set false flag c is = is

  flagged_holds : (x : Durable) (seq : ℕ) (flag : Bool) → Holds x → Holds (flagged x seq flag)
  flagged_holds x seq flag (c, among, is) = (
    made_of (pinned_as seq flag) c,
    among_mapped (made_of (pinned_as seq flag)) x.cases c among,
    flag_set (c.case.seq == seq) flag c is,
  )

  -- the label of another case, or of this one if none is named
  abbrev IsLeft : ℕ → Type 0
  IsLeft seq = (k.label ≡ None) ⊎ (seq ≡ k.seq → ⊥)

  label_set : (t : Bool) (text : List ℕ) (c : FoundCase) → (t ≡ true → k.label ≡ None) → IsKeptAs k c → IsKeptAs k (record c { case = cond t (record c.case { label = text }) c.case })
  label_set true text c unnamed is = record {
    number = is.number;
    origin = is.origin;
    bytes = is.bytes;
    labelled = subst (λ (o : Option (List ℕ)). HasThisLabel o text) (sym (unnamed refl)) tt;
  }
  label_set false text c unnamed is = is

  labelled_holds : (x : Durable) (seq : ℕ) (text : List ℕ) → IsLeft seq → Holds x → Holds (labelled x seq text)
  labelled_holds x seq text spared (c, among, is) = (
    made_of (labelled_as seq text) c,
    among_mapped (made_of (labelled_as seq text)) x.cases c among,
    label_set (c.case.seq == seq) text c unnamed is,
  )
    where
      unnamed : (c.case.seq == seq) ≡ true → k.label ≡ None
      unnamed hit =
          ⊎_elim (λ none. none)
          (λ apart. ⊎_elim (λ h. absurd (apart (sym h.1 ∙ is.number))) (λ h. absurd (false≢true (sym h.0 ∙ hit))) (eqb_tells c.case.seq seq)) spared

  module _ (begins : Said → Option StreamFacts) where
    label_left : (seq : ℕ) (text reply : List ℕ) → (reply ≡ ok_reply) ⊎ (reply ≡ no_reply (codes "Disk")) → Spares k (label_of seq text) reply → IsLeft seq
    label_left seq text reply told spares = ⊎_elim (λ none. inl none) (λ not. inr (λ is. not (is, told))) spares.1

    leads_keeps : (earlier : List Answer) (what : Said) (reply : List ℕ) (x y : Durable) → Leads begins earlier what reply x y → Spares k what reply → Holds x → Holds y
    leads_keeps earlier silence reply x y leads spares holds = same x y leads.1 holds
    leads_keeps earlier bad_line reply x y leads spares holds = same x y leads.1 holds
    leads_keeps earlier long_line reply x y leads spares holds = same x y leads.1 holds
    leads_keeps earlier (begin_exec slot name) reply x y leads spares holds = ⊎_elim (λ is. same x y is holds) (λ no. same x y no.2 holds) leads
    leads_keeps earlier (begin_core slot process) reply x y leads spares holds = ⊎_elim (λ is. same x y is holds) (λ no. same x y no.2 holds) leads
    leads_keeps earlier (part_of slot n) reply x y leads spares holds = ⊎_elim (λ is. same x y is holds) (λ no. same x y no.2 holds) leads
    leads_keeps earlier (end_of slot) reply x y leads spares holds =
        ⊎_elim (λ does. same (with_case x (record does.0 { len = does.1 }) does.2 does.3) y does.7 (with_case_holds x (record does.0 { len = does.1 }) does.2 does.3 holds)) (λ no. same x y no.2 holds) leads
    leads_keeps earlier (drop_of slot) reply x y leads spares holds = ⊎_elim (λ is. same x y is holds) (λ no. same x y no.2 holds) leads
    leads_keeps earlier (delete_of seq) reply x y leads spares holds =
        ⊎_elim (λ does. same (without x (seq ∷ [])) y does.2 (without_holds x (seq ∷ []) (one_apart seq k.seq (λ is. spares.0 (is, inl does.1))) holds)) (λ no. same x y no.2 holds) leads
    leads_keeps earlier (pin_of seq flag) reply x y leads spares holds =
        ⊎_elim (λ does. ⊎_elim (λ is. same (flagged x seq flag) y is (flagged_holds x seq flag holds)) (λ is. same x y is.1 holds) does.1) (λ no. same x y no.2 holds) leads
    leads_keeps earlier (label_of seq text) reply x y leads spares holds =
        ⊎_elim (λ does. ⊎_elim (λ is. same (labelled x seq text) y is (labelled_holds x seq text (label_left seq text reply (inl does.0) spares) holds)) (λ is. same x y is.1 holds) does.1) (λ no. same x y no.2 holds) leads
    leads_keeps earlier upgrade_archive reply x y leads spares holds = ⊎_elim (λ does. subst Holds (sym does.1) holds) (λ no. same x y no.2 holds) leads
    leads_keeps earlier (retire_by policy) reply x y leads spares holds =
        ⊎_elim
        (λ does.
        (let apart : is_among does.0 k.seq ≡ false =
        ⊎_elim (λ among. absurd (spares.0 (inl (subst (HasLine (dropped_line k.seq)) (sym does.3) (has_line k.seq does.0 (unmet_line does.1 ++ ok_reply) among))))) (λ none. none)
        (cases_Bool (is_among does.0 k.seq))
        in same (without x does.0) y does.4 (without_holds x does.0 apart holds)))
        (λ no. same x y no.2 holds) leads
    leads_keeps earlier list_all_cases reply x y leads spares holds = ⊎_elim (λ is. same x y is holds) (λ no. same x y no.2 holds) leads
    leads_keeps earlier count_free reply x y leads spares holds = ⊎_elim (λ is. same x y is holds) (λ no. same x y no.2 holds) leads
    leads_keeps earlier (inspect_of seq query) reply x y leads spares holds = ⊎_elim (λ is. same x y is holds) (λ no. same x y no.2 holds) leads

    -- what a line would have left, had the disk not failed
    would_keep : (earlier : List Answer) (what : Said) (reply : List ℕ) (x y : Durable) → reply ≡ no_reply (codes "Disk") → Spares k what reply → Holds x → WouldLeave begins earlier what x y → Holds y
    would_keep earlier silence reply x y told spares holds would = absurd (false≢true would.0)
    would_keep earlier bad_line reply x y told spares holds would = absurd (false≢true would.0)
    would_keep earlier long_line reply x y told spares holds would = absurd (false≢true would.0)
    would_keep earlier (begin_exec slot name) reply x y told spares holds would = absurd (false≢true would.0)
    would_keep earlier (begin_core slot process) reply x y told spares holds would = absurd (false≢true would.0)
    would_keep earlier (part_of slot n) reply x y told spares holds would = absurd (false≢true would.0)
    would_keep earlier (end_of slot) reply x y told spares holds (changing, answer, does) =
        same (with_case x (record does.0 { len = does.1 }) does.2 does.3) y does.7 (with_case_holds x (record does.0 { len = does.1 }) does.2 does.3 holds)
    would_keep earlier (drop_of slot) reply x y told spares holds would = absurd (false≢true would.0)
    would_keep earlier (delete_of seq) reply x y told spares holds (changing, answer, does) =
        same (without x (seq ∷ [])) y does.2 (without_holds x (seq ∷ []) (one_apart seq k.seq (λ is. spares.0 (is, inr told))) holds)
    would_keep earlier (pin_of seq flag) reply x y told spares holds (changing, answer, does) =
        ⊎_elim (λ is. same (flagged x seq flag) y is (flagged_holds x seq flag holds)) (λ is. same x y is.1 holds) does.1
    would_keep earlier (label_of seq text) reply x y told spares holds (changing, answer, does) =
        ⊎_elim (λ is. same (labelled x seq text) y is (labelled_holds x seq text (label_left seq text reply (inr told) spares) holds)) (λ is. same x y is.1 holds) does.1
    would_keep earlier upgrade_archive reply x y told spares holds (changing, answer, does) = subst Holds (sym does.1) holds
    would_keep earlier (retire_by policy) reply x y told spares holds would = absurd (spares.0 (inr told))
    would_keep earlier list_all_cases reply x y told spares holds would = absurd (false≢true would.0)
    would_keep earlier count_free reply x y told spares holds would = absurd (false≢true would.0)
    would_keep earlier (inspect_of seq query) reply x y told spares holds would = absurd (false≢true would.0)

  one_holds : (ys : List Durable) (x : Durable) → IsOneOf ys x → AllByRecursion Holds ys → Holds x
  one_holds [] x one all = absurd one
  one_holds (y ∷ ys) x one all = ⊎_elim (λ is. subst Holds (sym is) all.0) (λ more. one_holds ys x more all.1) one

  module _ {D : Type 0} where
    -- the moment holds the case, and so does all that is in doubt
    abbrev pub IsHeldAt : Moment D → Type 0
    IsHeldAt m = Holds m.holds × AllByRecursion Holds m.in_doubt

    pub held_surely : (m : Moment D) → Holds m.holds → m.in_doubt ≡ [] → IsHeldAt m
    held_surely m holds clear = (holds, subst (AllByRecursion Holds) (sym clear) tt)

    pub moment_keeps : (begins : Said → Option StreamFacts) (earlier : List Answer) (old new : Moment D) (what : Said) (reply : List ℕ) → LeadsOn begins earlier old what reply new → Spares k what reply → IsHeldAt old → IsHeldAt new
    moment_keeps begins earlier old new what reply leads spares held =
        let doubts : AllByRecursion Holds leads.doubts =
        ⊎_elim (λ none. subst (AllByRecursion Holds) (sym none) tt)
        (λ would. all_mapped leads.doubts (λ x is. would_keep begins earlier what reply old.holds x would.0 spares held.0 is) would.1) leads.doubted
        in
        (leads_keeps begins earlier what reply old.holds new.holds leads.leads spares held.0, subst (AllByRecursion Holds) (sym leads.in_doubt) (all_append Holds leads.doubts old.in_doubt doubts held.1))

    lines_keep : (begins : Said → Option StreamFacts) (earlier : List Answer) (old : Moment D) (lines : List (Line D)) → AllLead begins earlier old lines → AllSpare k (map answer_of lines) → IsHeldAt old
        → AllByRecursion IsHeldAt (map moment_of lines) × IsHeldAt (last_moment old lines)
    lines_keep begins earlier old [] leads spare held = (tt, held)
    lines_keep begins earlier old (l ∷ ls) leads spare held =
        let here = moment_keeps begins earlier old l.after (what_of l.answer) l.answer.reply leads.0 spare.0 held in
        let more = lines_keep begins (earlier ++ l.answer ∷ []) l.after ls leads.2 spare.1 here in
        ((here, more.0), more.1)

    -- an opening that finds what a moment has finds the case
    found_here : (left : List ℕ) (m : Moment D) → FindsMoment left m → IsHeldAt m → FindsKept k left
    found_here left m finds held = (finds.0, finds.1, ⊎_elim (λ is. subst Holds (sym is) held.0) (λ one. one_holds m.in_doubt finds.0 one held.1) finds.2)

    pub found_since : (left : List ℕ) (m : Moment D) (ns : List (Moment D)) → FindsSince left m ns → IsHeldAt m → AllByRecursion IsHeldAt ns → FindsKept k left
    found_since left m [] finds held all = found_here left m finds held
    found_since left m (n ∷ ns) finds held all = ⊎_elim (λ here. found_here left m here held) (λ later. found_since left n ns later all.0 all.1) finds

all_moments : {D : Type 0} (P : Moment D → Type 0) (xs : List (Moment D)) (last : Moment D) → AllByRecursion P xs → P last → AllByRecursion P (xs ++ last ∷ [])
all_moments P [] last all is = (is, tt)
all_moments P (x ∷ xs) last all is = (all.0, all_moments P xs last all.1 is)

-- a course, cut behind some of its lines
last_of_both : {D : Type 0} (m : Moment D) (front rest : List (Line D)) → last_moment m (front ++ rest) ≡ last_moment (last_moment m front) rest
last_of_both m [] rest = refl
last_of_both m (l ∷ ls) rest = last_of_both l.after ls rest

leads_behind : {D : Type 0} (begins : Said → Option StreamFacts) (earlier : List Answer) (m : Moment D) (front rest : List (Line D)) → AllLead begins earlier m (front ++ rest)
    → AllLead begins (earlier ++ map answer_of front) (last_moment m front) rest
leads_behind begins earlier m [] rest leads = subst (λ (list : List Answer). AllLead begins list m rest) (sym (append-nil earlier)) leads
leads_behind begins earlier m (l ∷ ls) rest leads =
    subst (λ (list : List Answer). AllLead begins list (last_moment l.after ls) rest) (append_assoc earlier (l.answer ∷ []) (map answer_of ls)) (leads_behind begins (earlier ++ l.answer ∷ []) l.after ls rest leads.2)

safe_behind : {D : Type 0} (g : disk.Ghosts D) (end : D) (m : Moment D) (front rest : List (Line D)) (last : Moment D) → AreSafe g end m (map moment_of (front ++ rest) ++ last ∷ [])
    → AreSafe g end (last_moment m front) (map moment_of rest ++ last ∷ [])
safe_behind g end m [] rest last safe = safe
safe_behind g end m (l ∷ ls) rest last safe = safe_behind g end l.after ls rest last safe.1

-- what holds from a moment on holds from a later one on
skipped : {D : Type 0} (g : disk.Ghosts D) (end : D) (m : Moment D) (xs : List (Moment D)) (n : Moment D) (ns : List (Moment D)) → AreSafe g end m (xs ++ n ∷ ns) → AreSafe g end n ns
skipped g end m [] n ns safe = safe.1
skipped g end m (x ∷ xs) n ns safe = skipped g end x xs n ns safe.1

safe_here : {D : Type 0} (g : disk.Ghosts D) (end : D) (m : Moment D) (later : List (Moment D)) → AreSafe g end m later → IsSafe g end m later
safe_here g end m [] safe = safe
safe_here g end m (n ∷ ns) safe = safe.0

module _ {D : Type 0} (g : disk.Ghosts D) (k : Kept) where
  -- the moments of a session behind some of its lines
  course_keeps : (begins : Said → Option StreamFacts) (c : Course D) → IsCourse begins c → (front rest : List (Line D)) → c.lines ≡ front ++ rest → IsHeldAt k (last_moment c.begin front)
      → AllSpare k (map answer_of rest) → Spares k c.last c.reply → AllByRecursion (IsHeldAt k) (map moment_of rest ++ c.end ∷ [])
  course_keeps begins c is front rest lines held spare last =
      let leads : AllLead begins (map answer_of front) (last_moment c.begin front) rest = leads_behind begins [] c.begin front rest (subst (AllLead begins [] c.begin) lines is.lines) in
      let run = lines_keep k begins (map answer_of front) (last_moment c.begin front) rest leads spare held in
      let final : IsHeldAt k (last_moment c.begin c.lines) = subst (IsHeldAt k) (sym (ap (last_moment c.begin) lines ∙ last_of_both c.begin front rest)) run.1 in
      all_moments (IsHeldAt k) (map moment_of rest) c.end run.0 (moment_keeps k begins (map answer_of c.lines) (last_moment c.begin c.lines) c.end c.last c.reply is.last last final)

  stays_found : (end : D) (m : Moment D) (later : List (Moment D)) → AreSafe g end m later → IsHeldAt k m → AllByRecursion (IsHeldAt k) later → StaysFound g k end m.disk
  stays_found end m later safe held all left since = found_since k left m later ((safe_here g end m later safe).stops left since) held all

  -- what a store leaves of the case
  module _ (asked : Option Policy) (found : Result StreamFacts (List ℕ)) (given : Options) (file file' : Option (List ℕ)) (c : StoreCourse D) (is : IsStoreCourse asked found given file file' c) where
    case_stays : (stored : Option ℕ) (x y : Durable) → StoresOrNot found (stated_in given) file file' c.cut x stored y → HoldsKept k x → HoldsKept k y
    case_stays None x y stores holds = same k x y stores holds
    case_stays (Some n) x y stores holds = same k (with_case x (record stores.stream { len = length stores.image }) stores.blocks stores.image) y stores.adds (with_case_holds k x (record stores.stream { len = length stores.image }) stores.blocks stores.image holds)

    ended_holds : IsHeldAt k c.filled → IsHeldAt k c.ended
    ended_holds held =
        let doubts : AllByRecursion (HoldsKept k) is.doubts =
        ⊎_elim (λ none. subst (AllByRecursion (HoldsKept k)) (sym none) tt)
        (λ may. all_mapped is.doubts (λ z adds. case_stays (Some adds.0) c.filled.holds z adds.1 held.0) may.1) is.doubted
        in
        (case_stays c.stored c.filled.holds c.ended.holds is.stores held.0, subst (AllByRecursion (HoldsKept k)) (sym is.in_doubt) (all_append (HoldsKept k) is.doubts c.filled.in_doubt doubts held.1))

    -- the same case at a moment that holds the same
    held_as : (m n : Moment D) → n.holds ≡ m.holds → n.in_doubt ≡ m.in_doubt → IsHeldAt k m → IsHeldAt k n
    held_as m n holds doubts held = (subst (HoldsKept k) (sym holds) held.0, subst (AllByRecursion (HoldsKept k)) (sym doubts) held.1)

    -- cases go, and spare it
    gone_holds : (order : Order) (m : Moment D) (gone : List (Gone D)) (filled : Moment D) → GoInTurn order m gone filled → AllByRecursion (λ (x : Gone D). Spares k (delete_of x.seq) x.reply) gone → IsHeldAt k m
        → AllByRecursion (IsHeldAt k) (moments_of gone) × IsHeldAt k filled
    gone_holds order m [] filled goes spares held = (tt, held_as m filled goes.0 goes.1 held)
    gone_holds order m (x ∷ xs) filled goes spares held =
        let before = held_as m x.before goes.0 goes.1 held in
        let after = moment_keeps k no_stream [] x.before x.after (delete_of x.seq) x.reply goes.3 spares.0 before in
        let rest = gone_holds order x.after xs filled goes.4 spares.1 after in
        ((before, (after, rest.0)), rest.1)

    both_held : (xs ys : List (Moment D)) → AllByRecursion (IsHeldAt k) xs → AllByRecursion (IsHeldAt k) ys → AllByRecursion (IsHeldAt k) (xs ++ ys)
    both_held [] ys all more = more
    both_held (x ∷ xs) ys all more = (all.0, both_held xs ys all.1 more)

    named_holds : Spares k (said_label c.stored given.label) c.labels → IsHeldAt k c.ended → IsHeldAt k c.labelled
    named_holds spares held = moment_keeps k no_stream [] c.ended c.labelled (said_label c.stored given.label) c.labels is.gives_label spares held

    -- a pin takes no case away, and no label
    pin_spares : (stored : Option ℕ) (pin : Bool) (reply : List ℕ) → Spares k (said_pin stored pin) reply
    pin_spares (Some seq) true reply = ((λ may. may), inr (λ may. may))
    pin_spares (Some seq) false reply = ((λ may. may), inr (λ may. may))
    pin_spares None pin reply = ((λ may. may), inr (λ may. may))

    end_holds : IsHeldAt k c.labelled → IsHeldAt k c.end
    end_holds held = moment_keeps k no_stream [] c.labelled c.end (said_pin c.stored given.pin) c.pins is.gives_pin (pin_spares c.stored given.pin c.pins) held

    store_holds : Spares k (retire_line c.policy) c.told → AllByRecursion (λ (x : Gone D). Spares k (delete_of x.seq) x.reply) c.gone → Spares k (said_label c.stored given.label) c.labels → IsHeldAt k c.begin
        → AllByRecursion (IsHeldAt k) (c.retired ∷ (moments_of c.gone ++ (c.filled ∷ c.ended ∷ c.labelled ∷ c.end ∷ [])))
    store_holds retired gone label held =
        let made = moment_keeps k no_stream [] c.begin c.retired (retire_line c.policy) c.told is.retires_first retired held in
        let taken = gone_holds given.order c.retired c.gone c.filled is.goes gone made in
        let ended = ended_holds taken.1 in
        let named = named_holds label ended in
        (made, both_held (moments_of c.gone) (c.filled ∷ c.ended ∷ c.labelled ∷ c.end ∷ []) taken.0 (taken.1, (ended, (named, (end_holds named, tt)))))

  -- An opening of what reads give finds the case, and so does one of whatever a stop leaves.
  abbrev IsReady : D → Type 0
  IsReady d = FindsKept k (g.seen d) × ((left : List ℕ) → g.may_leave d left → FindsKept k left)

  session_keeps : (c : Command D) → IsSession g k c → IsReady c.before → StaysFound g k c.after c.before
  session_keeps c s ready left since =
      let begin : IsHeldAt k s.safe.course.begin = held_surely k s.safe.course.begin (subst (HoldsKept k) (sym (s.safe.found ready.0.0 ready.0.1)) ready.0.2) s.safe.is.clear in
      let all = course_keeps (begins_as s.naming) s.safe.course s.safe.is [] s.safe.course.lines refl begin s.lines s.last in
      ⊎_elim (λ before. ready.1 left before)
      (λ finds. found_since k left s.safe.course.begin (map moment_of s.safe.course.lines ++ s.safe.course.end ∷ []) finds begin all) (s.safe.opening left since)

  store_keeps : (c : Command D) → IsStore g k c → IsReady c.before → StaysFound g k c.after c.before
  store_keeps c s ready left since =
      let begin : IsHeldAt k s.safe.course.begin = held_surely k s.safe.course.begin (subst (HoldsKept k) (sym (s.safe.found_again ready.0.0 ready.0.1)) ready.0.2) s.safe.is.clear in
      let all = store_holds s.asked s.found s.given s.streams.input s.streams.input' s.safe.course s.safe.is s.retired s.gone s.gives begin in
      ⊎_elim (λ before. ready.1 left before)
      (λ finds. found_since k left s.safe.course.begin (s.safe.course.retired ∷ (moments_of s.safe.course.gone ++ (s.safe.course.filled ∷ s.safe.course.ended ∷ s.safe.course.labelled ∷ s.safe.course.end ∷ []))) finds begin all) (s.safe.opening left since)

  command_keeps : (c : Command D) → IsCommand g k c → IsReady c.before → StaysFound g k c.after c.before
  command_keeps c is ready = ⊎_elim (λ s. session_keeps c s ready) (λ more. ⊎_elim (λ s. store_keeps c s ready) (λ r. (λ left since. ready.1 left (r.leaves left since))) more) is

  next_keep : (end since : D) (cs : List (Command D)) → AreNext g k end since cs → StaysFound g k end since → AllByRecursion (λ (c : Command D). StaysFound g k c.after c.before) cs
  next_keep end since [] next found = tt
  next_keep end since (c ∷ cs) next found =
      let here = command_keeps c next.1 (found (g.seen c.before) next.0.reads, λ left may. found left (next.0.leaves left may)) in (here, next_keep c.after c.before cs next.2 here)

-- a list that is not empty
abbrev IsSome : List Durable → Type 0
IsSome [] = ⊥
IsSome (x ∷ xs) = Unit {0}

some_apart : (x : Durable) (xs : List Durable) → x ∷ xs ≡ [] → ⊥
some_apart x xs is = subst IsSome is tt

next_apart : (n : ℕ) → n + 1 ≡ n → ⊥
next_apart n is = omega (arith, is)

-- nothing was in doubt where the next number rose
clear_before : (ds : List Durable) (x y : Durable) → ((ds ≡ [] → ⊥) → y ≡ x) → y.next ≡ x.next + 1 → ds ≡ []
clear_before [] x y frozen risen = refl
clear_before (d ∷ ds) x y frozen risen = absurd (next_apart x.next (sym risen ∙ ap (λ (z : Durable). z.next) (frozen (some_apart d ds))))

-- the first byte of a reply tells a refusal from what is answered
abbrev first_of : List ℕ → ℕ
first_of [] = 0
first_of (a ∷ rest) = a

stored_apart : (n : ℕ) (reason : List ℕ) → end_reply (Ok n) ≡ no_reply reason → ⊥
stored_apart n reason is = eqb-false (first_of (end_reply (Ok n))) (first_of (no_reply reason)) refl (ap first_of is)

ok_apart : (reason : List ℕ) → ok_reply ≡ no_reply reason → ⊥
ok_apart reason is = eqb-false (first_of ok_reply) (first_of (no_reply reason)) refl (ap first_of is)

-- cases have numbers of their own
above : (last : ℕ) (xs : List FoundCase) (d : FoundCase) → Rise last (map number_of xs) → IsAmong xs d → last < d.case.seq
above last [] d rise among = absurd among
above last (x ∷ xs) d rise among =
    ⊎_elim (λ is. subst (λ (c : FoundCase). last < c.case.seq) (sym is) rise.0) (λ more. let later = above x.case.seq xs d rise.1 more in omega (arith, rise.0, later)) among

only_one : (last : ℕ) (xs : List FoundCase) (c d : FoundCase) → Rise last (map number_of xs) → IsAmong xs c → IsAmong xs d → c.case.seq ≡ d.case.seq → c ≡ d
only_one last [] c d rise first second is = absurd first
only_one last (x ∷ xs) c d rise first second is =
    ⊎_elim
    (λ here.
    ⊎_elim (λ there. here ∙ sym there)
    (λ more. (let later = above x.case.seq xs d rise.1 more in let number : c.case.seq ≡ x.case.seq = ap (λ (e : FoundCase). e.case.seq) here in absurd (omega (arith, later, number, is)))) second)
    (λ more.
    ⊎_elim (λ there. (let later = above x.case.seq xs c rise.1 more in let number : d.case.seq ≡ x.case.seq = ap (λ (e : FoundCase). e.case.seq) there in absurd (omega (arith, later, number, is))))
    (λ rest. only_one x.case.seq xs c d rise.1 more rest is) second)
    first

module _ {D : Type 0} (g : disk.Ghosts D) (numbers : NumbersAreAbove) where
  -- what is held at a moment stands, so its cases have numbers below the next one
  numbered : (end : D) (m : Moment D) (later : List (Moment D)) → AreSafe g end m later → m.in_doubt ≡ [] → HasNumbers m.holds
  numbered end m later safe clear =
      let reads = (safe_here g end m later safe).reads in
      let is : reads.0 ≡ m.holds = ⊎_elim (λ same. same) (λ one. absurd (subst (λ (ds : List Durable). IsOneOf ds reads.0) clear one)) reads.2 in
      subst HasNumbers is (numbers (g.seen m.disk) reads.0 reads.1)

  clear_after : (begins : Said → Option StreamFacts) (earlier : List Answer) (old new : Moment D) (what : Said) (reply : List ℕ) → LeadsOn begins earlier old what reply new → (reply ≡ no_reply (codes "Disk") → ⊥) → old.in_doubt ≡ []
      → new.in_doubt ≡ []
  clear_after begins earlier old new what reply leads apart clear =
      let none : leads.doubts ≡ [] = ⊎_elim (λ is. is) (λ would. absurd (apart would.0)) leads.doubted in
      leads.in_doubt ∙ ap (λ (ds : List Durable). ds ++ old.in_doubt) none ∙ clear

  label_held : (t : Bool) (k : Kept) (text : List ℕ) (c : FoundCase) → t ≡ true → IsKeptAs k c → IsKeptAs (relabelled k text) (record c { case = cond t (record c.case { label = text }) c.case })
  label_held true k text c set is = record { number = is.number; origin = is.origin; bytes = is.bytes; labelled = refl }
  label_held false k text c set is = absurd (false≢true set)

  label_there : (k : Kept) (text : List ℕ) (c d : FoundCase) → c ≡ d → d.case.label ≡ text → IsKeptAs k c → IsKeptAs (relabelled k text) d
  label_there k text c d same label is =
      let there : IsKeptAs k d = subst (IsKeptAs k) same is in
      record { number = there.number; origin = there.origin; bytes = there.bytes; labelled = label }

  label_given : (k : Kept) (text : List ℕ) (begins : Said → Option StreamFacts) (earlier : List Answer) (old new : Moment D) → LeadsOn begins earlier old (label_of k.seq text) ok_reply new → HasNumbers old.holds → HoldsKept k old.holds
      → old.in_doubt ≡ [] → HoldsKept (relabelled k text) new.holds × (new.in_doubt ≡ [])
  label_given k text begins earlier old new leads number (c, among, is) clear = (
    ⊎_elim
        (λ does.
        ⊎_elim
        (λ set. subst (HoldsKept (relabelled k text)) (sym set) (
          made_of (labelled_as k.seq text) c,
          among_mapped (made_of (labelled_as k.seq text)) old.holds.cases c among,
          label_held (c.case.seq == k.seq) k text c (⊎_elim (λ h. h.0) (λ h. absurd (h.1 is.number)) (eqb_tells c.case.seq k.seq)) is,
        ))
        (λ stays. subst (HoldsKept (relabelled k text)) (sym stays.1) (
          stays.0.0,
          stays.0.1,
          label_there k text c stays.0.0 (only_one 0 old.holds.cases c stays.0.0 number.rise among stays.0.1 (is.number ∙ sym stays.0.2)) stays.0.3 is,
        ))
        does.1)
        (λ no. absurd (ok_apart no.0 no.1)) leads.leads,
    clear_after begins earlier old new (label_of k.seq text) ok_reply leads (ok_apart (codes "Disk")) clear,
  )

  -- the case that a line has stored
  line_stores : (begins : Said → Option StreamFacts) (earlier : List Answer) (old new : Moment D) (slot told : ℕ) (reply : List ℕ) → LeadsOn begins earlier old (end_of slot) reply new → ((old.in_doubt ≡ [] → ⊥) → new.holds ≡ old.holds)
      → reply ≡ end_reply (Ok told) → told < 2 ^ 64 → (old.in_doubt ≡ [] → HasNumbers old.holds)
      → (k : Kept) × (k.seq ≡ told) × (begun_in begins slot earlier ≡ Some k.stream) × (parts_in slot earlier ≡ Some k.image) × (k.label ≡ Some []) × HoldsKept k new.holds × (new.in_doubt ≡ [])
  line_stores begins earlier old new slot told reply leads frozen is small number =
      ⊎_elim
      (λ does.
      (let clear : old.in_doubt ≡ [] = clear_before old.in_doubt old.holds new.holds frozen (ap (λ (z : Durable). z.next) does.7) in
      let below = (number clear).greatest in
      let k : Kept = record { seq = old.holds.next; stream = does.0; image = does.3; label = Some [] } in (
        record { seq = old.holds.next; stream = does.0; image = does.3; label = Some [] },
        told_once old.holds.next told (omega (arith, below)) small (sym does.6 ∙ is),
        does.4,
        does.5,
        refl,
        subst (HoldsKept (record { seq = old.holds.next; stream = does.0; image = does.3; label = Some [] })) (sym does.7)
            (_, among_last old.holds.cases _, record { number = refl; origin = refl; bytes = refl; labelled = refl }),
        clear_after begins earlier old new (end_of slot) reply leads (λ no. stored_apart told (codes "Disk") (sym is ∙ no)) clear,
      )))
      (λ no. absurd (stored_apart told no.0 (sym is ∙ no.1))) leads.leads

  pub sessions_keep : ASessionKeepsACase g
  sessions_keep k naming t before after answer s front rest cs lines holds clear spare last next =
      let m : Moment D = last_moment s.course.begin front in
      let held : IsHeldAt k m = held_surely k m holds clear in
      let all = course_keeps g k (begins_as naming) s.course s.is front rest lines held spare last in
      let safe : AreSafe g after m (map moment_of rest ++ s.course.end ∷ []) =
      safe_behind g after s.course.begin front rest s.course.end (subst (λ (ls : List (Line D)). AreSafe g after s.course.begin (map moment_of ls ++ s.course.end ∷ [])) lines s.safe)
      in
      let found = stays_found g k after m (map moment_of rest ++ s.course.end ∷ []) safe held all in (found, next_keep g k after m.disk cs next found)

  module _ (naming : Naming) (t : Streams) (before after : D) (answer : Result (Unit {0}) LifeFault) (s : IsCrashSafe (Unit {0}) LifeFault g naming t before after answer) (front rest : List (Line D)) (line : Line D) (lines : s.course.lines ≡ front ++ line ∷ rest) where
    abbrev behind : Moment D
    behind = last_moment s.course.begin front

    leads_here : AllLead (begins_as naming) (map answer_of front) behind (line ∷ rest)
    leads_here = leads_behind (begins_as naming) [] s.course.begin front (line ∷ rest) (subst (AllLead (begins_as naming) [] s.course.begin) lines s.is.lines)

    numbered_here : behind.in_doubt ≡ [] → HasNumbers behind.holds
    numbered_here clear =
        numbered after behind (map moment_of (line ∷ rest) ++ s.course.end ∷ [])
        (safe_behind g after s.course.begin front (line ∷ rest) s.course.end (subst (λ (ls : List (Line D)). AreSafe g after s.course.begin (map moment_of ls ++ s.course.end ∷ [])) lines s.safe)) clear

    pub stores_here : (slot told : ℕ) → what_of line.answer ≡ end_of slot → line.answer.reply ≡ end_reply (Ok told) → told < 2 ^ 64
        → (k : Kept) × (k.seq ≡ told) × (begun_in (begins_as naming) slot (map answer_of front) ≡ Some k.stream) × (parts_in slot (map answer_of front) ≡ Some k.image) × (k.label ≡ Some []) × HoldsKept k line.after.holds × (line.after.in_doubt ≡ [])
    stores_here slot told what is small =
        line_stores (begins_as naming) (map answer_of front) behind line.after slot told line.answer.reply
        (subst (λ (w : Said). LeadsOn (begins_as naming) (map answer_of front) behind w line.answer.reply line.after) what leads_here.0) leads_here.1 is small numbered_here

    pub labels_here : (k : Kept) (text : List ℕ) → what_of line.answer ≡ label_of k.seq text → line.answer.reply ≡ ok_reply → HoldsKept k behind.holds → behind.in_doubt ≡ []
        → HoldsKept (relabelled k text) line.after.holds × (line.after.in_doubt ≡ [])
    labels_here k text what is holds clear =
        label_given k text (begins_as naming) (map answer_of front) behind line.after
        (subst (λ (r : List ℕ). LeadsOn (begins_as naming) (map answer_of front) behind (label_of k.seq text) r line.after) is
        (subst (λ (w : Said). LeadsOn (begins_as naming) (map answer_of front) behind w line.answer.reply line.after) what leads_here.0))
        (numbered_here clear) holds clear

  pub lines_store : ALineStoresACase g
  lines_store naming t before after answer s front rest line slot told lines what is small = stores_here naming t before after answer s front rest line lines slot told what is small

  pub lines_label : ALineLabelsACase g
  lines_label k naming t before after answer s front rest line text lines what is holds clear = labels_here naming t before after answer s front rest line lines k text what is holds clear

  pub stores_store : AStoreStoresACase g
  stores_store t asked found given before after answer s n stored =
      let a : AddsCase found (stated_in given) t.input t.input' s.course.cut s.course.filled.holds n s.course.ended.holds = subst (λ (o : Option ℕ). StoresOrNot found (stated_in given) t.input t.input' s.course.cut s.course.filled.holds o s.course.ended.holds) stored s.is.stores in
      let told : s.course.reply ≡ end_reply (Ok n) = subst (λ (o : Option ℕ). PrintsStored o s.course.first s.course.reply) stored s.is.states in
      let none : s.is.doubts ≡ [] = ⊎_elim (λ is. is) (λ may. absurd (stored_apart n (codes "Disk") (sym told ∙ may.0))) s.is.doubted in (
        record { seq = n; stream = a.stream; image = a.image; label = Some [] },
        refl,
        a.begun,
        a.read,
        refl,
        subst (HoldsKept (record { seq = n; stream = a.stream; image = a.image; label = Some [] })) (sym a.adds)
            (_, among_last s.course.filled.holds.cases _, record { number = sym a.number; origin = refl; bytes = refl; labelled = refl }),
        s.is.in_doubt ∙ ap (λ (ds : List Durable). ds ++ s.course.filled.in_doubt) none ∙ s.is.sure n stored,
      )

  -- from the end of the stream on
  safe_ended : (t : Streams) (asked : Option Policy) (found : Result StreamFacts (List ℕ)) (given : Options) (before after : D) (answer : Result StoreOutcome LifeFault) (s : IsStoreSafe g t asked found given before after answer)
      → AreSafe g after s.course.ended (s.course.labelled ∷ s.course.end ∷ [])
  safe_ended t asked found given before after answer s =
      (skipped g after s.course.retired (moments_of s.course.gone) s.course.filled (s.course.ended ∷ s.course.labelled ∷ s.course.end ∷ []) s.safe.1).1

  pub stores_keep : AStoreKeepsACase g
  stores_keep k t asked found given before after answer s cs = (
    (λ holds clear spares next.
        (let held = held_surely k s.course.ended holds clear in
        let named = named_holds g k asked found given t.input t.input' s.course s.is spares held in
        let found_there = stays_found g k after s.course.ended (s.course.labelled ∷ s.course.end ∷ []) (safe_ended t asked found given before after answer s) held (named, (end_holds g k asked found given t.input t.input' s.course s.is named, tt)) in
        (found_there, next_keep g k after s.course.ended.disk cs next found_there))),
    (λ holds clear next.
        (let held = held_surely k s.course.labelled holds clear in
        let found_there = stays_found g k after s.course.labelled (s.course.end ∷ []) (safe_ended t asked found given before after answer s).1 held (end_holds g k asked found given t.input t.input' s.course s.is held, tt) in
        (found_there, next_keep g k after s.course.labelled.disk cs next found_there))),
    (λ holds clear next. (let found_there = stays_found g k after s.course.end [] (safe_ended t asked found given before after answer s).1.1 (held_surely k s.course.end holds clear) tt in (found_there, next_keep g k after s.course.end.disk cs next found_there))),
  )

  pub stores_label : AStoreLabelsACase g
  stores_label k t asked found given before after answer s text stored asks is holds clear =
      label_given k text no_stream [] s.course.ended s.course.labelled
      (subst (λ (r : List ℕ). LeadsOn no_stream [] s.course.ended (label_of k.seq text) r s.course.labelled) is
      (subst (λ (o : Option (List ℕ)). LeadsOn no_stream [] s.course.ended (said_label (Some k.seq) o) s.course.labels s.course.labelled) asks
      (subst (λ (o : Option ℕ). LeadsOn no_stream [] s.course.ended (said_label o given.label) s.course.labels s.course.labelled) stored s.is.gives_label)))
      (numbered after s.course.ended (s.course.labelled ∷ s.course.end ∷ []) (safe_ended t asked found given before after answer s) clear) holds clear

  flag_held : (t : Bool) (n : ℕ) (c : FoundCase) → t ≡ true → c.case.seq ≡ n → ((cond t (record c.case { pinned = true }) c.case).seq ≡ n) × ((cond t (record c.case { pinned = true }) c.case).pinned ≡ true)
  flag_held true n c set is = (is, refl)
  flag_held false n c set is = absurd (false≢true set)

  pin_given : (k : Kept) (begins : Said → Option StreamFacts) (earlier : List Answer) (old new : Moment D) → LeadsOn begins earlier old (pin_of k.seq true) ok_reply new → HoldsKept k old.holds
      → HasFlag new.holds k.seq true × HoldsKept k new.holds × (old.in_doubt ≡ [] → new.in_doubt ≡ [])
  pin_given k begins earlier old new leads (c, among, is) = (
    ⊎_elim
        (λ does.
        ⊎_elim
        (λ set.
        (let held = flag_held (c.case.seq == k.seq) k.seq c (⊎_elim (λ h. h.0) (λ h. absurd (h.1 is.number)) (eqb_tells c.case.seq k.seq)) is.number in
        subst (λ (x : Durable). HasFlag x k.seq true) (sym set) (
          made_of (pinned_as k.seq true) c,
          among_mapped (made_of (pinned_as k.seq true)) old.holds.cases c among,
          held.0,
          held.1,
        )))
        (λ stays. subst (λ (x : Durable). HasFlag x k.seq true) (sym stays.1) stays.0)
        does.1)
        (λ no. absurd (ok_apart no.0 no.1)) leads.leads,
    leads_keeps k begins earlier (pin_of k.seq true) ok_reply old.holds new.holds leads.leads ((λ may. may), inr (λ may. may)) (c, among, is),
    clear_after begins earlier old new (pin_of k.seq true) ok_reply leads (ok_apart (codes "Disk")),
  )

  pub stores_pin : AStorePinsACase g
  stores_pin k t asked found given before after answer s stored asks is holds =
      pin_given k no_stream [] s.course.labelled s.course.end
      (subst (λ (r : List ℕ). LeadsOn no_stream [] s.course.labelled (pin_of k.seq true) r s.course.end) is
      (subst (λ (b : Bool). LeadsOn no_stream [] s.course.labelled (said_pin (Some k.seq) b) s.course.pins s.course.end) asks
      (subst (λ (o : Option ℕ). LeadsOn no_stream [] s.course.labelled (said_pin o given.pin) s.course.pins s.course.end) stored s.is.gives_pin)))
      holds

module _ {D : Type 0} (g : disk.Ghosts D) where
  pub stop_taken_up : AStopIsTakenUp g
  stop_taken_up end since next left was restarts = record {
    honest = restarts.honest;
    reads = subst (g.left_since end (g.clock since)) (sym restarts.seen) was;
    leaves = λ c may. subst (g.left_since end (g.clock since)) (sym (restarts.settled c may)) was;
  }

  pub reopening_taken_up : ((d : D) → IsTrue (g.is_honest d) → g.may_leave d (g.seen d)) → ((d : D) (t : ℕ) (c : List ℕ) → t ≤ g.clock d → g.may_leave d c → g.left_since d t c) → AReopeningIsTakenUp g
  reopening_taken_up stays counts end since next honest later kind =
      ⊎_elim
      (λ again. record {
        honest = again.honest;
        reads = subst (g.left_since end (g.clock since)) (sym again.seen) (counts end (g.clock since) (g.seen end) later (stays end honest));
        leaves = λ c may. counts end (g.clock since) c later (again.leaves c may);
      })
      (λ anew. stop_taken_up end since next anew.left (counts end (g.clock since) anew.left later anew.may) anew.restarts) kind
