use Rattle.std.proofs.Common.{◌<◌, false, ap₂, ◌∙◌, arith}
use Rattle.std.proofs.lemmas.Bool.Decides.{nat_tests}
use Rattle.code.specs.Marks.{marked}
use Rattle.image.specs.Images.{BroughtIn}
use Rattle.store.specs.Meaning.{back_answer}
use Rattle.image.proofs.ImageBytes.{still_image}
use Rattle.image.proofs.ImageWrites.{brought_in, image_brought, turned_roll}
use Rattle.image.proofs.images.ImageWriteStore.bring_in.Goals.{After-lay_marks}
use Rattle.image.proofs.images.ImageWriteStore.bring_in.Goals as goal

-- the bytes at the end are those at the start with the station brought in
brought : (c : After-lay_marks) → BroughtIn c.args.self.now.bytes.now c.args.s c.lay_marks.new.bytes
brought c =
    let r = c.roll-roll.result in
    let l : c.args.s < r.size.number = grind (arith, nat_tests, c.in_ok-admit_in.ensures) in
    brought_in c.args.self.now.bytes.now c.lay_marks.new.bytes r _ c.args.s c.args.self.now.sound c.roll-roll.ensures.size c.roll-roll.ensures.out
    (turned_roll r c.args.s false c.with.result l c.with.ensures.marks c.with.ensures.low) c.lay_marks.ensures

pub invariant_of-self : goal.invariant_of-self
invariant_of-self c =
    let t = brought c in
    record { sound = still_image c.args.self.now.bytes.now c.lay_marks.new.bytes c.args.self.now.sound t.long t.header t.low }

pub returns-clause-bytes : goal.returns-clause-bytes
returns-clause-bytes c = (
  c.in_ok-admit_in.ensures ∙ ap₂ (λ k bits. back_answer k (marked bits) c.args.s) c.roll-roll.ensures.size c.roll-roll.ensures.out,
  brought (goal.at.returns-clause-bytes c).After-lay_marks,
)

pub returns-clause-after : goal.returns-clause-after
returns-clause-after c = image_brought c.args.self.now.bytes.now c.lay_marks.new.bytes c.args.s (returns-clause-bytes c).1
