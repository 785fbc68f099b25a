-- The texts of replies: lines and `ok`, or the reason why there are no lines.
use Rattle.std.specs.Prelude.{◌≡◌, ℕ, Bool, true, false, List, [], ◌∷◌, ◌++◌, Result, Ok, Err, codes}
use Rattle.script_streams.specs.Printing.{Sink, sink, Prints}
use Rattle.script_streams.specs.declared.reply.Reply.{Reply}
use Rattle.script_streams.specs.declared.streams.Output as output

-- a reply and its output before and after
pub record Printing : Type 0 where
  pub before : Sink
  pub after : Sink

abbrev pub printing : {O : Type 0} → output.Ghosts O → Reply O → Reply O → Printing
printing o reply reply' = record { before = sink o reply; after = sink o reply' }

abbrev pub PrintsText : Printing → List ℕ → Type 0
PrintsText t text = Prints t.before t.after text

-- a text with this property is printed
abbrev pub PrintsReply : Printing → (List ℕ → Type 0) → Type 0
PrintsReply t P = (text : List ℕ) × P text × PrintsText t text

-- the reply to a command that was carried out
abbrev pub ok_reply : List ℕ
ok_reply = codes "ok" ++ 10 ∷ []

-- the reply to a command that was refused
abbrev pub no_reply : List ℕ → List ℕ
no_reply reason = (codes "no " ++ reason) ++ 10 ∷ []

-- lines and `ok`, or the reason for a refusal
abbrev pub reply_of : Result (List ℕ) (List ℕ) → List ℕ
reply_of (Ok lines) = lines ++ ok_reply
reply_of (Err reason) = no_reply reason

-- The outcome of a line, by its reply: it is done, and the reply is its lines and `ok`; or it is refused, and the reply is why.
abbrev pub IsOutcome : Bool → List ℕ → Type 0
IsOutcome true text = (lines : List ℕ) × (text ≡ reply_of (Ok lines))
IsOutcome false text = (reason : List ℕ) × (text ≡ reply_of (Err reason))

-- a reply with this property is printed, and its outcome is this
abbrev pub PrintsOutcome : Printing → (List ℕ → Type 0) → Bool → Type 0
PrintsOutcome t P done = (text : List ℕ) × P text × IsOutcome done text × PrintsText t text
