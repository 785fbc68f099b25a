-- How much of what is told is heard.
use Rattle.std.proofs.Common.{◌≡◌, ℕ, ◌≤◌, List, [], ◌∷◌, ◌++◌, length, Option, refl, sym, ap, ◌∙◌, append_assoc, arith}
use Rattle.std.proofs.KnownBytes.{Appends-nil, Appends-trans}
use Rattle.std.proofs.lemmas.List.{append-nil, length-append}
use Rattle.disk_model.specs.declared.disk.Disk as disk
use Rattle.script_streams.specs.Printing.{Sink, Told, Prints}
use Rattle.script_streams.specs.PrintLaws.{prints_as, prints_then}
use Rattle.stream_names.specs.declared.naming.Naming.{Naming}
use Rattle.inspector_cli.specs.Heard.{IsReady, TakesFrontOf, PrintsReady}
use Rattle.inspector_cli.specs.Session.{Item, AnswersItems, ButTheLast}
use Rattle.inspector_cli.specs.Stages.{Stage}

-- what the output has not taken yet, as all that it was told since then
pub told_rest : (start : Option (List ℕ)) (count name : ℕ) (p : Sink) (all : List ℕ) (t : Told start count name p all) → Told p.taken count name p t.rest
told_rest start count name p all t = record { out = []; rest = t.rest; appended = Appends-nil p.taken; split = refl; held = t.held; counted = t.counted; blamed = t.blamed; same = t.same }

-- what it takes later comes after what it has
pub taken_on : (t u v w x : List ℕ) → t ++ u ≡ x → v ++ w ≡ u → (t ++ v) ++ w ≡ x
taken_on t u v w x first second = append_assoc t v w ∙ ap (λ (l : List ℕ). t ++ l) second ∙ first

pub longer : (a b : List ℕ) → length a ≤ length (a ++ b)
longer a b = let e = length-append a b in omega (arith, e)

told_on : (start : Option (List ℕ)) (count name : ℕ) (p q : Sink) (all more : List ℕ) (t : Told start count name p all) → Prints p q more → (u : Told start count name q (all ++ more)) × (length t.out ≤ length u.out)
told_on start count name p q all more t states =
    let v = states p.taken count name t.rest (told_rest start count name p all t) in (
      record {
        out = t.out ++ v.out;
        rest = v.rest;
        appended = Appends-trans start p.taken q.taken t.out v.out t.appended v.appended;
        split = taken_on t.out (t.rest ++ more) v.out v.rest (all ++ more) (sym (append_assoc t.out t.rest more) ∙ ap (λ (l : List ℕ). l ++ more) t.split) v.split;
        held = v.held;
        counted = v.counted;
        blamed = v.blamed;
        same = v.same;
      },
      longer t.out v.out,
    )

-- where no write has failed, all was taken but for what is held
pub ready_front : (o p : Sink) (text : List ℕ) → Prints o p text → IsReady p → TakesFrontOf (record { before = o; after = p }) text text
ready_front o p text states ready start count name begun =
    let t = states start count name [] begun in
    let few = ready.few in
    let held = ap length (t.held ready.unfailed) in
    let whole = ap length t.split in
    let both = length-append t.out t.rest in
    (t, omega (arith, few, held, whole, both))

-- what was taken stays so
pub front_on : (o p q : Sink) (all more front : List ℕ) → TakesFrontOf (record { before = o; after = p }) all front → Prints p q more → TakesFrontOf (record { before = o; after = q }) (all ++ more) front
front_on o p q all more front takes states start count name begun =
    let t = takes start count name begun in
    let u = told_on start count name p q all more t.0 states in
    let few = t.1 in
    let more_out = u.1 in
    (u.0, omega (arith, few, more_out))

module _ {D : Type 0} (g : disk.Ghosts D) (naming : Naming) (old : Stage D) where
  -- before the first item
  pub heard_none : (o : Sink) → ButTheLast g naming old [] [] (TakesFrontOf (record { before = o; after = o }) [])
  heard_none o = record { front = []; last = []; all = refl; one = omega arith; before = []; after = []; split = refl; stages = []; run = refl; holds = λ start count name begun. (begun, omega arith) }

  -- after one more, before which no write had failed
  pub heard_one : (o p q : Sink) (items : List Item) (i : Item) (out reply : List ℕ) (stages : List (Stage D)) → AnswersItems g naming old items out stages → Prints o p out → PrintsReady (record { before = p; after = q }) reply
      → ButTheLast g naming old (items ++ i ∷ []) (out ++ reply) (TakesFrontOf (record { before = o; after = q }) (out ++ reply))
  heard_one o p q items i out reply stages run told ready = record {
    front = items;
    last = i ∷ [];
    all = refl;
    one = omega arith;
    before = out;
    after = reply;
    split = refl;
    stages = stages;
    run = run;
    holds = front_on o ready.from q out reply out (ready_front o ready.from out (prints_as (append-nil out) (prints_then told ready.before)) ready.ready) ready.states;
  }

  -- at the end of a script, before whose last reply no write had failed
  pub heard_all : (o p q : Sink) (out reply : List ℕ) → Prints o p out → PrintsReady (record { before = p; after = q }) reply → TakesFrontOf (record { before = o; after = q }) (out ++ reply) out
  heard_all o p q out reply told ready =
      front_on o ready.from q out reply out (ready_front o ready.from out (prints_as (append-nil out) (prints_then told ready.before)) ready.ready) ready.states

  -- nothing more is told
  pub heard_still : (o p q : Sink) (items : List Item) (out : List ℕ) → ButTheLast g naming old items out (TakesFrontOf (record { before = o; after = p }) out) → Prints p q []
      → ButTheLast g naming old items (out ++ []) (TakesFrontOf (record { before = o; after = q }) (out ++ []))
  heard_still o p q items out heard states = record {
    front = heard.front;
    last = heard.last;
    all = heard.all;
    one = heard.one;
    before = heard.before;
    after = heard.after;
    split = append-nil out ∙ heard.split;
    stages = heard.stages;
    run = heard.run;
    holds = front_on o p q out [] heard.before heard.holds states;
  }
