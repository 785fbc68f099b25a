-- What the working state says once a record is applied.
use Rattle.std.proofs.Common.{◌≡◌, ℕ, ◌+◌, ◌^◌, ◌<◌, ◌≤◌, Bool, true, false, cond, List, [], ◌∷◌, ◌++◌, length, map, refl, sym, ap, ◌∙◌, subst, arith}
use Rattle.std.specs.Str.{bytes_eq}
use Rattle.std.proofs.lemmas.Slice.Eq.{bytes_eq-Decides}
use Rattle.arrayvec.specs.ArrayVec.{ArrayVec}
use Rattle.extents.specs.FreeSet.{one_if}
use Rattle.journal_layout.specs.declared.entry.Entry.{Entry}
use Rattle.journal_layout.specs.Case.{Case, case_of}
use Rattle.journal_layout.specs.Record.{Store, Pin, Next, Label}
use Rattle.journal_layout.specs.Folding.{Folded, after, used_blocks}
use Rattle.journal_layout.specs.Soundness.{uses}
use Rattle.journal_records.specs.declared.cases.Cases.{Cases}
use Rattle.journal_records.specs.Live.{cases_of, AreNumbered, with_flag, with_text, changed_in}
use Rattle.journal_records.specs.Stored.{Numbered}
use Rattle.journal_records.specs.Taken.{Accounts}
use Rattle.journal_records.specs.Named.{has_name}
use Rattle.journal_records.specs.Kept.{said_by, bearers, AreKept, Says}
use Rattle.journal_records.proofs.LiveLemmas.{numbered_up, numbered_changed, changed_as, changed_cases}
use Rattle.journal_records.proofs.KeptLemmas.{sum_changed, uses_cases, used_push, bearers_push, names_more}

pub folded_same : (v w : ℕ) (cs ds : List Case) (m n : ℕ) → v ≡ w → cs ≡ ds → m ≡ n → (let f : Folded = record { version = v; cases = cs; next = m } in f) ≡ (let f : Folded = record { version = w; cases = ds; next = n } in f)
folded_same v w cs ds m n version same number =
    ap (λ (k : ℕ). let f : Folded = record { version = k; cases = cs; next = m } in f) version
    ∙ ap (λ (l : List Case). let f : Folded = record { version = w; cases = l; next = m } in f) same
    ∙ ap (λ (k : ℕ). let f : Folded = record { version = w; cases = ds; next = k } in f) number

-- an entry that changes, and the case that it says
record IsChange (change : Entry → Entry) (told : Case → Case) : Type 0 where
  says : (e : Entry) → case_of (change e) ≡ told (case_of e)
  seq : (e : Entry) → (change e).seq ≡ e.seq
  name : (e : Entry) → (change e).name.items ≡ e.name.items
  blocks : (e : Entry) → (change e).runs ≡ e.runs

-- one entry changed
changed_says : (old new : Cases) (s : ℕ) (change : Entry → Entry) (told : Case → Case) → IsChange change told → AreKept old → new.version ≡ old.version
    → new.live.entries ≡ changed_in s change old.live.entries → new.live.end ≡ old.live.end → new.names ≡ old.names → new.free ≡ old.free → new.next ≡ old.next
    → Says (record (said_by old) { cases = map (changed_as s told) (cases_of old.live.entries) }) (length old.free) new
changed_says old new s change told is kept version live end names free next =
    let es = old.live.entries in
    let cases : cases_of new.live.entries ≡ cases_of (changed_in s change es) = ap cases_of live in
    record {
      kept = record {
        numbered = subst (λ (n : ℕ). AreNumbered 0 n new.live.entries) (sym next) (subst (AreNumbered 0 old.next) (sym live) (numbered_changed 0 old.next s change is.seq es kept.numbered));
        end = (let a = kept.end in omega (arith, next, end, a));
        some = (let a = kept.some in omega (arith, next, a));
        bound = (let a = kept.bound in omega (arith, next, a));
        names = λ name.
            ap (λ (cs : List Case). bearers cs name) cases
            ∙ sum_changed (λ (c : Case). one_if (bytes_eq c.origin.name name)) s change (λ e. ap (λ (n : List ℕ). one_if (bytes_eq n name)) (is.name e)) es
            ∙ kept.names name
            ∙ ap (λ n. one_if (has_name n name)) (sym names);
        accounts = subst (Accounts (used_blocks (cases_of new.live.entries))) (sym free) (λ k.
            let all = kept.accounts k in
            let before = uses_cases k (cases_of es) in
            let changed = sum_changed (λ (c : Case). uses k c.blocks) s change (λ e. ap (λ (l : List ℕ). uses k l) (is.blocks e)) es in
            let after = uses_cases k (cases_of (changed_in s change es)) in
            let moved = ap (λ (cs : List Case). uses k (used_blocks cs)) cases in
            omega (arith, all, before, changed, after, moved));
      };
      says =
          folded_same new.version old.version (cases_of new.live.entries) (map (changed_as s told) (cases_of es)) new.next old.next version
          (cases ∙ changed_cases 0 old.next s change told is.says es kept.numbered) next;
      size = ap length free;
    }

-- a case pinned or unpinned
pub pin_says : (old new : Cases) (s : ℕ) (flag : Bool) → AreKept old → new.version ≡ old.version → new.live.entries ≡ changed_in s (with_flag flag) old.live.entries → new.live.end ≡ old.live.end
    → new.names ≡ old.names → new.free ≡ old.free → new.next ≡ old.next
    → Says (after (Pin s flag) (said_by old)) (length old.free) new
pin_says old new s flag kept version live end names free next =
    changed_says old new s (with_flag flag) (λ (c : Case). record c { pinned = flag }) (record { says = λ e. refl; seq = λ e. refl; name = λ e. refl; blocks = λ e. refl })
    kept version live end names free next

-- a case with a label
pub label_says : (old new : Cases) (s : ℕ) (label : ArrayVec ℕ) → AreKept old → new.version ≡ old.version → new.live.entries ≡ changed_in s (with_text label) old.live.entries → new.live.end ≡ old.live.end
    → new.names ≡ old.names → new.free ≡ old.free → new.next ≡ old.next
    → Says (after (Label s label.items) (said_by old)) (length old.free) new
label_says old new s label kept version live end names free next =
    changed_says old new s (with_text label) (λ (c : Case). record c { label = label.items }) (record { says = λ e. refl; seq = λ e. refl; name = λ e. refl; blocks = λ e. refl })
    kept version live end names free next

-- the next case gets another number
pub next_says : (old new : Cases) (n : ℕ) → AreKept old → new.version ≡ old.version → new.live ≡ old.live → new.names ≡ old.names → new.free ≡ old.free → new.next ≡ n → old.next ≤ n → n ≤ 2 ^ 32
    → Says (after (Next n) (said_by old)) (length old.free) new
next_says old new n kept version live names free next low high =
    let entries = ap (λ (m : Numbered). m.entries) live in
    let end = ap (λ (m : Numbered). m.end) live in
    record {
      kept = record {
        numbered = subst (λ (k : ℕ). AreNumbered 0 k new.live.entries) (sym next) (subst (AreNumbered 0 n) (sym entries) (numbered_up 0 old.next n old.live.entries low kept.numbered));
        end = (let a = kept.end in omega (arith, next, end, a, low));
        some = (let a = kept.some in omega (arith, next, a, low));
        bound = omega (arith, next, high);
        names = λ name. ap (λ (es : List (ℕ × Entry)). bearers (cases_of es) name) entries ∙ kept.names name ∙ ap (λ m. one_if (has_name m name)) (sym names);
        accounts = subst (Accounts (used_blocks (cases_of new.live.entries))) (sym free) (subst (λ (es : List (ℕ × Entry)). Accounts (used_blocks (cases_of es)) old.free) (sym entries) kept.accounts);
      };
      says = folded_same new.version old.version (cases_of new.live.entries) (cases_of old.live.entries) new.next n version (ap cases_of entries) next;
      size = ap length free;
    }

same_name : (a b : List ℕ) → bytes_eq a b ≡ true → a ≡ b
same_name a b is = (bytes_eq-Decides a b).0 is

-- one case more
pub store_says : (old new : Cases) (c : Case) → AreKept old → new.version ≡ old.version
    → cases_of new.live.entries ≡ cases_of old.live.entries ++ c ∷ [] → AreNumbered 0 (c.seq + 1) new.live.entries → new.live.end ≡ c.seq + 1 → new.next ≡ c.seq + 1 → c.seq < 2 ^ 32
    → ((q : List ℕ) → has_name new.names q ≡ cond (bytes_eq c.origin.name q) true (has_name old.names q)) → has_name old.names c.origin.name ≡ false
    → Accounts (used_blocks (cases_of old.live.entries) ++ c.blocks) new.free → length new.free ≡ length old.free
    → Says (after (Store c) (said_by old)) (length old.free) new
store_says old new c kept version cases numbered end next bound names fresh accounts size = record {
  kept = record {
    numbered = subst (λ (k : ℕ). AreNumbered 0 k new.live.entries) (sym next) numbered;
    end = omega (arith, next, end);
    some = omega (arith, next);
    bound = omega (arith, next, bound);
    names = λ name.
        ap (λ (cs : List Case). bearers cs name) cases
        ∙ names_more (bytes_eq c.origin.name name) (has_name old.names name) (bearers (cases_of old.live.entries) name) (bearers (cases_of old.live.entries ++ c ∷ []) name)
        (bearers_push name (cases_of old.live.entries) c) (kept.names name) (λ is. ap (has_name old.names) (sym (same_name c.origin.name name is)) ∙ fresh)
        ∙ ap one_if (sym (names name));
    accounts = subst (λ (l : List ℕ). Accounts l new.free) (sym (ap used_blocks cases ∙ used_push (cases_of old.live.entries) c)) accounts;
  };
  says = folded_same new.version old.version (cases_of new.live.entries) (cases_of old.live.entries ++ c ∷ []) new.next (c.seq + 1) version cases next;
  size = size;
}
