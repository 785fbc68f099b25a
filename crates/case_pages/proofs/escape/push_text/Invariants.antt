use Rattle.std.proofs.Common.{◌≡◌, ◌++◌, take}
use Rattle.case_pages.specs.Escaping.{escape}
use Rattle.case_pages.proofs.escape.push_text.Given as goal

-- the bytes so far
abbrev pub invariant-loop-byte : goal.invariant-loop-byte
invariant-loop-byte l = l.page.items ≡ l.fn.page.items ++ escape (take l.byte-index l.text)
