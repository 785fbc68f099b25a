-- A case that was answered `stored N` is found after every stop, with the bytes of its parts.
use Rattle.std.proofs.Common.{◌≡◌, inr, ⊎_elim, ℕ, suc, ◌<◌, ◌^◌, false, List, [], ◌∷◌, ◌++◌, length, map, Option, Some, None, Ok, Err, refl, sym, ap, subst, ◌∙◌, arith}
use Rattle.std.proofs.lemmas.Bool.{false≢true}
use Rattle.std.proofs.lemmas.Fmt.{decimal_injective}
use Rattle.std.proofs.lemmas.List.{append_cancel_left, append_cancel_right}
use Rattle.std.specs.Prelude.{codes, decimal, option_map, IsTrue}
use Rattle.std.specs.List.{AllByRecursion}
use Rattle.disk_model.specs.declared.disk.Disk as disk
use Rattle.intake.specs.Contents.{Taken}
use Rattle.intake.specs.Durable.{Durable, StandsFor, durable_of}
use Rattle.intake.specs.Lasting.{WhatStandsIsOne}
use Rattle.intake.specs.Lives.{KeptOverManyStops, Life, IsLived, AreLived, last_acknowledged}
use Rattle.intake.specs.Marks.{Mark, IsOneOf, Has, FindsOne, HasOne, IsRunOfMarks, IsMarkSettled, FoundAfterAStop, last_of}
use Rattle.intake.specs.State.{ArchiveState}
use Rattle.stream_names.specs.declared.naming.Naming.{Naming}
use Rattle.script_lines.specs.Said.{Said, end_of}
use Rattle.script_streams.specs.Replies.{ok_reply}
use Rattle.inspector_cli.specs.Reply.{Replies, Ends}
use Rattle.archive_replies.specs.Texts.{end_reply}
use Rattle.inspector_cli.specs.Runs.{IsClear, IsLifeOf}
use Rattle.inspector_cli.specs.Session.{last_stage}
use Rattle.inspector_cli.specs.Stages.{Stage, Moves, mark_at, marks_of}
use Rattle.inspector_cli.specs.Stored.{Stored, IsFresh, HasImage, Spares, Spared, FindsImage}
use Rattle.inspector_cli.specs.Told.{Answer, Answers, Session, IsHad, what_of, is_no, held_then, held_behind, parts_in, Finishes}
use Rattle.inspector_cli.proofs.ClearLemmas.{line_halts, clear_on}
use Rattle.inspector_cli.proofs.HeldLemmas.{IsHeld, taken_at, none_taken, then_held}
use Rattle.inspector_cli.proofs.KeptLemmas.{LastingLaws, rest_keeps, among_last}

-- the number that a reply tells is one
pub told_once : (seq n : ℕ) → seq < 2 ^ 64 → n < 2 ^ 64 → end_reply (Ok seq) ≡ end_reply (Ok n) → seq ≡ n
told_once seq n first second is =
    decimal_injective seq n first second
    (append_cancel_left (codes "stored ") (decimal seq) (decimal n)
    (append_cancel_right (codes "stored " ++ decimal seq) (codes "stored " ++ decimal n) (10 ∷ [])
    (append_cancel_right ((codes "stored " ++ decimal seq) ++ 10 ∷ []) ((codes "stored " ++ decimal n) ++ 10 ∷ []) ok_reply is)))

some_is : {X : Type 0} (x y : X) → Some x ≡ Some y → x ≡ y
some_is {X = X} x y is = ap (λ o. get o) is
  where
    get : Option X → X
    get None = x
    get (Some z) = z

module _ {D : Type 0} (g : disk.Ghosts D) (naming : Naming) where
  -- how things stand behind answers: honest, nothing is in doubt unless the archive is stopped, and what the stream in a slot holds
  pub record Stands (slot : ℕ) (s : Stage D) (held : Option (List ℕ)) : Type 0 where
    pub honest : IsTrue (g.is_honest s.archive.disk)
    pub clear : IsClear s
    pub has : IsHeld g slot s.archive held

  pub answer_stands : (slot : ℕ) (old new : Stage D) (a : Answer) (held : Option (List ℕ)) → Stands slot old held → Replies g naming old.archive (what_of a) a.item.raw a.reply new.archive → Moves g old (what_of a) a.reply new
      → Stands slot new (held_then slot (what_of a) a.item.raw (is_no a.reply) held)
  answer_stands slot old new a held stands replies moves =
      let halts = line_halts g naming old.archive new.archive (what_of a) a.item.raw a.reply replies in
      record {
        honest = moves.passes.honesty ∙ stands.honest;
        clear = clear_on g old new (what_of a) a.reply stands.clear halts moves;
        has = then_held g slot naming old.archive new.archive (what_of a) a.item.raw a.reply held stands.honest halts.0 replies stands.has;
      }

  pub answers_stand : (slot : ℕ) (old : Stage D) (list : List Answer) (ss : List (Stage D)) (held : Option (List ℕ)) → Stands slot old held → Answers g naming old list ss → Stands slot (last_stage old ss) (held_behind slot held list)
  answers_stand slot old [] [] held stands answers = stands
  answers_stand slot old [] (s ∷ ss) held stands answers = absurd answers
  answers_stand slot old (a ∷ list) [] held stands answers = absurd answers
  answers_stand slot old (a ∷ list) (s ∷ ss) held stands answers =
      answers_stand slot s list ss (held_then slot (what_of a) a.item.raw (is_no a.reply) held) (answer_stands slot old s a held stands answers.0 answers.1) answers.2

  -- answers, cut at one of them
  record Cut (old : Stage D) (before : List Answer) (line : Answer) (after : List Answer) (stages : List (Stage D)) : Type 0 where
    front : List (Stage D)
    here : Stage D
    rest : List (Stage D)
    is : stages ≡ front ++ here ∷ rest
    first : Answers g naming old before front
    replies : Replies g naming (last_stage old front).archive (what_of line) line.item.raw line.reply here.archive
    moves : Moves g (last_stage old front) (what_of line) line.reply here
    later : Answers g naming here after rest
    long : length front ≡ length before

  cut_at : (old : Stage D) (before : List Answer) (line : Answer) (after : List Answer) (stages : List (Stage D)) → Answers g naming old (before ++ line ∷ after) stages → Cut old before line after stages
  cut_at old [] line after [] answers = absurd answers
  cut_at old [] line after (s ∷ ss) answers =
      record { front = []; here = s; rest = ss; is = refl; first = tt; replies = answers.0; moves = answers.1; later = answers.2; long = refl }
  cut_at old (a ∷ before) line after [] answers = absurd answers
  cut_at old (a ∷ before) line after (s ∷ ss) answers =
      let c = cut_at s before line after ss answers.2 in
      record {
        front = s ∷ c.front;
        here = c.here;
        rest = c.rest;
        is = ap (λ (x : List (Stage D)). s ∷ x) c.is;
        first = (answers.0, answers.1, c.first);
        replies = c.replies;
        moves = c.moves;
        later = c.later;
        long = ap suc c.long;
      }

  last_cut : (old : Stage D) (front : List (Stage D)) (here : Stage D) (rest : List (Stage D)) → last_stage old (front ++ here ∷ rest) ≡ last_stage here rest
  last_cut old [] here rest = refl
  last_cut old (s ∷ front) here rest = last_cut s front here rest

  -- The line that ends a stream, where it is answered `stored n`: the stream had taken bytes, and they are the image of the case.
  record Adds (old new : Stage D) (slot n : ℕ) (held : Option (List ℕ)) : Type 0 where
    bytes : List ℕ
    is : held ≡ Some bytes
    has : HasImage n bytes (durable_of g.seen new.archive)
    none : new.in_doubt ≡ []

  module _ (lasts : LastingLaws g) (old new : Stage D) (slot n : ℕ) (raw reply : List ℕ) (held : Option (List ℕ)) (stands : Stands slot old held) (moves : Moves g old (end_of slot) reply new) (number : n < 2 ^ 64) (told : reply ≡ end_reply (Ok n)) where
    adds : (stored : Option ℕ) → Ends g old.archive slot reply new.archive stored → Adds old new slot n held
    adds stored (Err f, call, answered, is) = absurd (false≢true (ap is_no (sym told ∙ answered)))
    adds stored (Ok seq, call, answered, is) =
        let m = lasts.finish old.archive new.archive slot seq stands.honest call in
        let runs : old.archive.stopped ≡ false = call.step.2.0 in
        let same : seq ≡ n = told_once seq n (let below = call.step.5 in let at = call.step.6 in omega (arith, below, at)) number (sym answered ∙ told) in
        let taken : taken_at g slot old.archive ≡ Some m.1.1.bytes = ap (option_map (λ (t : Taken). t.bytes)) m.1.3 in
        let halts = line_halts g naming old.archive new.archive (end_of slot) raw reply (stored, (Ok seq, call, answered, is)) in
        record {
          bytes = m.1.1.bytes;
          is = ⊎_elim (λ stopped. absurd (false≢true (sym runs ∙ stopped))) (λ holds. sym holds ∙ taken) stands.has;
          has = subst (HasImage n m.1.1.bytes) (sym m.1.5) (_, among_last (durable_of g.seen old.archive).cases _, sym call.step.6 ∙ same, refl);
          none = clear_on g old new (end_of slot) reply stands.clear halts moves (ap (λ (b : ArchiveState). b.stopped) call.step.7 ∙ runs);
        }

-- lists of marks that all have something
module _ {D : Type 0} (P : Mark D → Type 0) where
  -- the last of those that are acknowledged has it, and so do the later ones
  split : (first : Mark D) (acks later : List (Mark D)) → P first → AllByRecursion P (acks ++ later) → P (last_of first acks) × AllByRecursion P later
  split first [] later holds all = (holds, all)
  split first (a ∷ acks) later holds all = split a acks later all.0 all.1

  behind : (first : Mark D) (front back acks later : List (Mark D)) → acks ++ later ≡ front ++ back → length front < length acks → AllByRecursion P back → P (last_of first acks) × AllByRecursion P later
  behind first front back [] later is long all = absurd (omega (arith, long))
  behind first [] back (a ∷ acks) later is long all =
      let marks : AllByRecursion P (a ∷ (acks ++ later)) = subst (AllByRecursion P) (sym is) all in split a acks later marks.0 marks.1
  behind first (f ∷ front) back (a ∷ acks) later is long all = behind a front back acks later (ap rest_of is) (omega (arith, long)) all
    where
      rest_of : List (Mark D) → List (Mark D)
      rest_of [] = []
      rest_of (x ∷ xs) = xs

mapped_cut : {X Y : Type 0} (f : X → Y) (xs ys : List X) (zs : List Y) → map f (xs ++ ys) ++ zs ≡ map f xs ++ (map f ys ++ zs)
mapped_cut f [] ys zs = refl
mapped_cut {Y = Y} f (x ∷ xs) ys zs = ap (λ (l : List Y). f x ∷ l) (mapped_cut f xs ys zs)

length_mapped : {X Y : Type 0} (f : X → Y) (xs : List X) → length (map f xs) ≡ length xs
length_mapped f [] = refl
length_mapped f (x ∷ xs) = ap suc (length_mapped f xs)

module _ {D : Type 0} (g : disk.Ghosts D) (lasts : LastingLaws g) (law : FoundAfterAStop g) (one : WhatStandsIsOne) (kept : KeptOverManyStops g) (n : ℕ) (bytes : List ℕ) where
  abbrev HoldsIt : Mark D → Type 0
  HoldsIt m = HasImage n bytes m.durable × AllByRecursion (HasImage n bytes) m.in_doubt

  doubt_has : (xs : List Durable) (x : Durable) → AllByRecursion (HasImage n bytes) xs → IsOneOf xs x → HasImage n bytes x
  doubt_has [] x all is = absurd is
  doubt_has (y ∷ ys) x all is = ⊎_elim (λ same. subst (HasImage n bytes) (sym same) all.0) (λ there. doubt_has ys x all.1 there) is

  at_mark : (m : Mark D) (x : Durable) → HoldsIt m → Has m x → HasImage n bytes x
  at_mark m x holds has = ⊎_elim (λ is. subst (HasImage n bytes) (sym is) holds.0) (λ is. doubt_has m.in_doubt x holds.1 is) has

  mark_has : (m : Mark D) (c : List ℕ) (x : Durable) → HoldsIt m → StandsFor c x → (y : Durable) × StandsFor c y × Has m y → HasImage n bytes x
  mark_has m c x holds stands (y, found, has) = subst (HasImage n bytes) (one c y x found stands) (at_mark m y holds has)

  marks_have : (m : Mark D) (ns : List (Mark D)) (c : List ℕ) (x : Durable) → HoldsIt m → AllByRecursion HoldsIt ns → StandsFor c x → FindsOne c m ns → HasImage n bytes x
  marks_have m [] c x holds all stands found = mark_has m c x holds stands found
  marks_have m (k ∷ ks) c x holds all stands found = ⊎_elim (λ here. mark_has m c x holds stands here) (λ there. marks_have k ks c x all.0 all.1 stands there) found

  run_ends : (m : Mark D) (ns : List (Mark D)) → IsTrue (g.is_honest m.disk) → IsMarkSettled g m → IsRunOfMarks g m ns → IsTrue (g.is_honest (last_of m ns).disk) × IsMarkSettled g (last_of m ns)
  run_ends m [] honest settled run = (honest, settled)
  run_ends m (k ∷ ks) honest settled run = run_ends k ks (run.0.honesty ∙ honest) (run.0.settled honest settled) run.1

  from_here : (m : Mark D) (ns : List (Mark D)) → IsTrue (g.is_honest m.disk) → IsMarkSettled g m → IsRunOfMarks g m ns → (c : List ℕ) → g.left_since (last_of m ns).disk (g.clock m.disk) c → FindsOne c m ns
  from_here m [] honest settled run = law m [] honest settled run
  from_here m (k ∷ ks) honest settled run = (law m (k ∷ ks) honest settled run).0

  -- a life whose marks hold the case from the last acknowledged one on
  life_finds : (l : Life D) → IsLived g l → HoldsIt (last_acknowledged l) → AllByRecursion HoldsIt l.later → FindsImage g n bytes l
  life_finds l lived holds all left x was stands =
      let end = run_ends l.first l.acknowledged lived.honest lived.settled lived.before in
      marks_have (last_acknowledged l) l.later left x holds all stands (from_here (last_acknowledged l) l.later end.0 end.1 lived.after left was)

  first_life : (l : Life D) (ls : List (Life D)) → AreLived g l ls → IsLived g l
  first_life l [] lived = lived
  first_life l (k ∷ ks) lived = lived.0

  -- what a life begins with is what one of these marks has
  begins_with : (m : Mark D) (ns : List (Mark D)) (x : Durable) → HoldsIt m → AllByRecursion HoldsIt ns → HasOne m ns x → HasImage n bytes x
  begins_with m [] x holds all has = at_mark m x holds has
  begins_with m (k ∷ ks) x holds all has = ⊎_elim (λ here. at_mark m x holds here) (λ there. begins_with k ks x all.0 all.1 there) has

  later_find : (l : Life D) (ls : List (Life D)) (ss : List (Session D)) → AreLived g l ls → HoldsIt (last_acknowledged l) → AllByRecursion HoldsIt l.later → Spared g n ss ls → AllByRecursion (FindsImage g n bytes) (l ∷ ls)
  later_find l [] [] lived holds all spared = (life_finds l lived holds all, tt)
  later_find l [] (s ∷ ss) lived holds all spared = absurd spared
  later_find l (k ∷ ks) [] lived holds all spared = absurd spared
  later_find l (k ∷ ks) (s ∷ ss) lived holds all spared =
      let life = first_life k ks lived.2 in
      let is = spared.2.0 in
      let has : HasImage n bytes k.first.durable = begins_with (last_acknowledged l) l.later k.first.durable holds all (kept l (k ∷ ks) lived).0 in
      let clear : s.first.in_doubt ≡ [] = ap (λ (m : Mark D). m.in_doubt) (sym is ∙ lived.1.first) in
      let begins : HoldsIt (mark_at g.seen s.first) = (
        subst (λ (m : Mark D). HasImage n bytes m.durable) is has,
        subst (AllByRecursion (HasImage n bytes)) (sym clear) tt,
      ) in
      let honest : IsTrue (g.is_honest s.first.archive.disk) = subst (λ (m : Mark D). IsTrue (g.is_honest m.disk)) is life.honest in
      let rest = rest_keeps n bytes g lasts s s.first s.answers s.stages spared.0.answered spared.1 (honest, begins) spared.0.finishes spared.0.moves spared.0.closes.stays in
      let marks : AllByRecursion HoldsIt (k.acknowledged ++ k.later) = subst (AllByRecursion HoldsIt) (sym spared.2.1) rest in
      let parts = split HoldsIt k.first k.acknowledged k.later (subst HoldsIt (sym is) begins) marks in
      (life_finds l lived.0 holds all, later_find k ks ss lived.2 parts.0 parts.1 spared.3)

-- the session in which the case is stored
module _ {D : Type 0} (g : disk.Ghosts D) (lasts : LastingLaws g) (s : Session D) (n : ℕ) (honest : IsTrue (g.is_honest s.first.archive.disk)) (had : IsHad g s) (fresh : IsFresh s) (t : Stored s n) where
  cut : Cut g s.naming s.first t.before t.line t.after s.stages
  cut = cut_at g s.naming s.first t.before t.line t.after s.stages (subst (λ (list : List Answer). Answers g s.naming s.first list s.stages) t.answers had.answered)

  begins : Stands g s.naming t.slot s.first None
  begins = record {
    honest = honest;
    clear = λ runs. fresh.clear;
    has = inr (ap (option_map (λ (k : Taken). k.bytes)) (none_taken g t.slot s.first.archive t.slot (fresh.quiet t.slot)));
  }

  stands : Stands g s.naming t.slot (last_stage s.first cut.front) (parts_in t.slot t.before)
  stands = answers_stand g s.naming t.slot s.first t.before cut.front None begins cut.first

  line : Replies g s.naming (last_stage s.first cut.front).archive (end_of t.slot) t.line.item.raw t.line.reply cut.here.archive
  line = subst (λ (w : Said). Replies g s.naming (last_stage s.first cut.front).archive w t.line.item.raw t.line.reply cut.here.archive) t.ends cut.replies

  moves : Moves g (last_stage s.first cut.front) (end_of t.slot) t.line.reply cut.here
  moves = subst (λ (w : Said). Moves g (last_stage s.first cut.front) w t.line.reply cut.here) t.ends cut.moves

  added : Adds g s.naming (last_stage s.first cut.front) cut.here t.slot n (parts_in t.slot t.before)
  added = adds g s.naming lasts (last_stage s.first cut.front) cut.here t.slot n t.line.item.raw t.line.reply (parts_in t.slot t.before) stands moves t.number t.told line.0 line.1

  pub has_parts : (bytes : List ℕ) × (parts_in t.slot t.before ≡ Some bytes)
  has_parts = (added.bytes, added.is)

  module _ (law : FoundAfterAStop g) (one : WhatStandsIsOne) (kept : KeptOverManyStops g) (bytes : List ℕ) (are : parts_in t.slot t.before ≡ Some bytes) (spares : Spares s n t.after) (l : Life D) (is : IsLifeOf g.seen s.first s.stages s.end s.closed l)
      (answered : length t.before < length l.acknowledged) where
    here_holds : HoldsIt g lasts law one kept n bytes (mark_at g.seen cut.here)
    here_holds = (
      subst (λ (b : List ℕ). HasImage n b (durable_of g.seen cut.here.archive)) (some_is added.bytes bytes (sym added.is ∙ are)) added.has,
      subst (AllByRecursion (HasImage n bytes)) (sym added.none) tt,
    )

    abbrev back : List (Mark D)
    back = mark_at g.seen cut.here ∷ marks_of g.seen cut.rest s.end s.closed

    marks_cut : l.acknowledged ++ l.later ≡ map (mark_at g.seen) cut.front ++ back
    marks_cut = is.1 ∙ ap (λ (x : List (Stage D)). marks_of g.seen x s.end s.closed) cut.is ∙ mapped_cut (mark_at g.seen) cut.front (cut.here ∷ cut.rest) (marks_of g.seen [] s.end s.closed)

    all_hold : AllByRecursion (HoldsIt g lasts law one kept n bytes) back
    all_hold =
        let ends : last_stage s.first s.stages ≡ last_stage cut.here cut.rest = ap (last_stage s.first) cut.is ∙ last_cut g s.naming s.first cut.front cut.here cut.rest in
        let honest_here : IsTrue (g.is_honest cut.here.archive.disk) = cut.moves.passes.honesty ∙ stands.honest in (
          here_holds,
          rest_keeps n bytes g lasts s cut.here t.after cut.rest cut.later spares (honest_here, here_holds)
              (subst (λ (x : Stage D). Finishes g s.naming x.archive s.last s.reply s.end.archive) ends had.finishes)
              (subst (λ (x : Stage D). Moves g x s.last s.reply s.end) ends had.moves) had.closes.stays,
        )

    pub stored_holds : HoldsIt g lasts law one kept n bytes (last_acknowledged l) × AllByRecursion (HoldsIt g lasts law one kept n bytes) l.later
    stored_holds =
        let long : length (map (mark_at g.seen) cut.front) ≡ length t.before = length_mapped (mark_at g.seen) cut.front ∙ cut.long in
        behind (HoldsIt g lasts law one kept n bytes) l.first (map (mark_at g.seen) cut.front) back l.acknowledged l.later marks_cut (omega (arith, long, answered)) all_hold

pub stored_found : {D : Type 0} (g : disk.Ghosts D) (lasts : LastingLaws g) (law : FoundAfterAStop g) (one : WhatStandsIsOne) (kept : KeptOverManyStops g) (s : Session D) (later : List (Session D)) (l : Life D) (ls : List (Life D)) (n : ℕ) (bytes : List ℕ) (t : Stored s n)
    → IsHad g s → IsFresh s → Spares s n t.after → parts_in t.slot t.before ≡ Some bytes → IsLifeOf g.seen s.first s.stages s.end s.closed l → length t.before < length l.acknowledged
    → Spared g n later ls → AreLived g l ls → AllByRecursion (FindsImage g n bytes) (l ∷ ls)
stored_found g lasts law one kept s later l ls n bytes t had fresh spares are is answered spared lived =
    let life = first_life g lasts law one kept n bytes l ls lived in
    let honest : IsTrue (g.is_honest s.first.archive.disk) = subst (λ (m : Mark _). IsTrue (g.is_honest m.disk)) is.0 life.honest in
    let holds = stored_holds g lasts s n honest had fresh t law one kept bytes are spares l is answered in
    later_find g lasts law one kept n bytes l ls later lived holds.0 holds.1 spared
