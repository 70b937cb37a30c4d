use Rattle.std.proofs.Common.{◌<◌, true, subst, ap₂, ◌∙◌, arith}
use Rattle.std.proofs.lemmas.Bool.Decides.{nat_tests}
use Rattle.code.specs.Marks.{marked}
use Rattle.image.specs.Images.{Filled, TakenOut}
use Rattle.store.specs.Meaning.{out_answer}
use Rattle.image.proofs.ImageBytes.{still_image}
use Rattle.image.proofs.ImageWrites.{taken_out, image_taken, turned_roll}
use Rattle.image.proofs.images.ImageWriteStore.take_out.Goals.{After-lay_marks}
use Rattle.image.proofs.images.ImageWriteStore.take_out.Goals as goal

-- the bytes at the end are those at the start with the station taken out
taken : (c : After-lay_marks) → TakenOut c.args.self.now.bytes.now c.args.s c.lay_marks.new.bytes
taken c =
    let bs = c.args.self.now.bytes.now in
    let r = c.roll-roll.result in
    let l : c.args.s < r.size.number = grind (arith, nat_tests, c.in_ok-admit_out.ensures) in
    taken_out bs c.fill_lost.new.bytes c.lay_marks.new.bytes r _ c.args.s c.args.self.now.sound c.roll-roll.ensures.size c.roll-roll.ensures.out
    (turned_roll r c.args.s true c.with.result l c.with.ensures.marks c.with.ensures.low)
    (subst (λ k. Filled bs c.args.s k c.fill_lost.new.bytes) c.number.ensures.same c.fill_lost.ensures) c.lay_marks.ensures

pub invariant_of-self-2 : goal.invariant_of-self-2
invariant_of-self-2 c =
    let t = taken c in
    record { sound = still_image c.args.self.now.bytes.now c.lay_marks.new.bytes c.args.self.now.sound t.long t.header t.low }

pub returns-clause-bytes : goal.returns-clause-bytes
returns-clause-bytes c = (
  c.in_ok-admit_out.ensures ∙ ap₂ (λ k bits. out_answer k (marked bits) c.args.s) c.roll-roll.ensures.size c.roll-roll.ensures.out,
  taken (goal.at.returns-clause-bytes c).After-lay_marks,
)

pub returns-clause-after : goal.returns-clause-after
returns-clause-after c = image_taken c.args.self.now.bytes.now c.lay_marks.new.bytes c.args.s (returns-clause-bytes c).1
