-- The lines of output, as lists of ASCII codes.
use Rattle.std.specs.Prelude.{ℕ, cond, List, [], ◌∷◌, ◌++◌, length, drop, Ok, Err, codes, Result, nat_lt}
use Rattle.audit.specs.Audits.{verdict_text}
use Rattle.faults.specs.Refusals.{refusal_text}
use Rattle.kinds.specs.Texts.{hex_text}
use Rattle.kinds.specs.declared.blocks.Block.{Block}
use Rattle.faults.specs.declared.faults.Fault.{Fault}
use Rattle.faults.specs.declared.faults.Fault.TheVariants.{AreaTooShort}
use Rattle.orders.specs.declared.lines.Reply.{Reply}
use Rattle.orders.specs.declared.lines.Reply.TheVariants as reply

-- an area with a text at its front, and all else as it was
abbrev pub laid : List ℕ → List ℕ → List ℕ
laid text old = text ++ drop (length text) old

-- "block" and the 128 digits of a block
abbrev pub block_text : Block → List ℕ
block_text x = codes "block " ++ hex_text x.bytes

abbrev pub reply_text : Reply Block → List ℕ
reply_text (reply.Block x) = block_text x
reply_text reply.Done = codes "done"
reply_text (reply.Found v) = verdict_text v
reply_text (reply.Refused f) = refusal_text f

-- with the line end
abbrev pub line : Reply Block → List ℕ
line r = reply_text r ++ (10 ∷ [])

-- the line's length, or a refusal where the area is shorter than the longest line
abbrev pub line_answer : ℕ → Reply Block → Result ℕ Fault
line_answer len r = cond (nat_lt len 135) (Err (AreaTooShort len)) (Ok (length (line r)))
