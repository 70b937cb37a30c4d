use Rattle.std.proofs.Common.{◌≡◌, take, string_bytes}
use Rattle.kinds.specs.Texts.{hex_text}
use Rattle.report.proofs.digits.hex_text.Given as goal

abbrev pub invariant-loop-byte : goal.invariant-loop-byte
invariant-loop-byte l = string_bytes l.text ≡ hex_text (take l.byte-index l.bytes)
