use Rattle.std.proofs.Common.{◌≡◌, ℕ, [], ◌∷◌, ◌++◌, get_or, string_bytes, sym, ap, ◌∙◌, rules, append_assoc}
use Rattle.kinds.specs.Texts.{hex_text}
use Rattle.report.proofs.Hexes.{hex_more}
use Rattle.report.proofs.digits.hex_text.Goals as goal

pub loop-byte-preserved : goal.loop-byte-preserved
loop-byte-preserved c =
    let xs = c.args.bytes.now in
    let i : ℕ = c.loop-byte.byte-index in
    let two = hex_text (get_or xs i 0 ∷ []) in
    let e : string_bytes c.push-in-loop-byte.new.self ≡ string_bytes c.loop-byte.text ++ two = search (rules, append_assoc) in
    e ∙ ap (λ t. t ++ two) c.loop-byte.invariant ∙ sym (hex_more xs i c.loop-byte-test.true)
