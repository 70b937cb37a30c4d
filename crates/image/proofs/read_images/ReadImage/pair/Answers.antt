use Rattle.std.proofs.Common.{◌≡◌, ◌+◌, ◌-◌, ◌≤◌, length, take, drop, ap, ◌∙◌, length-drop, arith}
use Rattle.std.proofs.lemmas.List.{take_all}
use Rattle.image.specs.Images.{block_offset}
use Rattle.image.proofs.ImageBytes.{take_part}
use Rattle.image.proofs.read_images.ReadImage.pair.Goals as goal

pub returns : goal.returns
returns c =
    let bs = c.args.self.now.bytes.now in
    let at = c.offset_of.result in
    let l : block_offset c.args.a c.args.b + 64 ≤ length bs = omega (arith, c.args.self.now.sound.long) in
    let rest : take (length bs - at) (drop at bs) ≡ drop at bs = take_all (length bs - at) (drop at bs) (omega (arith, length-drop at bs)) in
    let f = rw c.unwrap.ensures at c.first_chunk.ensures.cases in
    f.same ∙ ap (take 64) rest ∙ ap (λ p. take 64 (drop p bs)) c.offset_of.ensures ∙ take_part bs (block_offset c.args.a c.args.b) 64 l
