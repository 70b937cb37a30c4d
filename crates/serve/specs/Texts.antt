-- The words for the two sorts of tickets.
use Rattle.std.specs.Prelude.{ℕ, List, codes}
use Rattle.serve.specs.declared.turns.Sort.{Sort}
use Rattle.serve.specs.declared.turns.Sort.TheVariants.{Open, Full}

abbrev pub sort_text : Sort → List ℕ
sort_text Open = codes "open"
sort_text Full = codes "full"
