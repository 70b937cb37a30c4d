use Rattle.std.proofs.Common.{sym, ◌∙◌}
use Rattle.std.proofs.lemmas.Bool.{le-ltb}
use Rattle.code.proofs.Toggle.{unmarked}
use Rattle.code.proofs.marks.Marks.has.Goals as goal

pub returns-else-s-lt32 : goal.returns-else-s-lt32
returns-else-s-lt32 c =
    le-ltb c.args.s 32 c.if-s-lt32.false ∙ sym (unmarked c.args.self.bits 32 c.args.s c.args.self.narrow c.if-s-lt32.false)
