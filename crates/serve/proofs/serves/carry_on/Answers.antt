use Rattle.std.proofs.Common.{◌≡◌, ℕ, ◌<◌, length, get_or, take, sym, refl, ap, ◌∙◌, subst, subst₂, arith}
use Rattle.std.proofs.Math.Seq.{map-set_same}
use Rattle.std.proofs.lemmas.List.{take_more_set, take_all, get_or_default}
use Rattle.book.specs.Books.{state_of}
use Rattle.serve.specs.Matches.{CarriesOn, Tells}
use Rattle.serve.specs.Turns.{Made}
use Rattle.serve.specs.declared.turns.Turn.{Turn}
use Rattle.serve.proofs.Pushed.{promise_none, carry_more, tell_more}
use Rattle.serve.proofs.serves.carry_on.Goals as goal

pub loop-i-init : goal.loop-i-init
loop-i-init g c = record { calls = refl; promise = λ t M. (promise_none _ (length c.args.work.now) t _ M, M); told = λ t M. tt }

pub loop-i-preserved : goal.loop-i-preserved
loop-i-preserved g c =
    let G = g.S.Block.BlockKind.group in
    let inv = c.loop-i.invariant in
    let st = state_of g.S.ReadStore.means c.args.book.now in
    let st₁ = state_of g.S.ReadStore.means c.loop-i.book in
    let st₂ = state_of g.S.ReadStore.means c.make_call-answer.new.book in
    let d = c.index-turns-i-in-loop-i.result in
    let i : ℕ = c.loop-i.i in
    let l : i < length c.loop-i.turns = omega (arith, c.loop-i.auto.turns) in
    let y : Turn g.row.S-Block.Denot = record { call = (get_or c.loop-i.turns i d).call; answer = c.make_call-answer.result } in
    let same : (get_or c.loop-i.turns i c.index-turns-i.result).call ≡ y.call = ap (λ x. x.call) (get_or_default c.loop-i.turns i c.index-turns-i.result d l) in
    let made : Made G (length c.args.work.now) st₁ y.call y.answer st₂ =
    subst₂ (λ k call. Made G k st₁ call y.answer st₂) c.loop-i.auto.work same c.make_call-answer.ensures in
    record {
      calls = map-set_same (λ turn. turn.call) c.loop-i.turns i y d refl ∙ inv.calls;
      promise = subst (λ xs. CarriesOn G (length c.args.work.now) st xs st₂) (sym (take_more_set c.loop-i.turns i y l))
          (carry_more G (length c.args.work.now) st st₁ st₂ (take i c.loop-i.turns) y inv.promise made);
      told = subst (Tells G (length c.args.work.now) st) (sym (take_more_set c.loop-i.turns i y l))
          (tell_more G (length c.args.work.now) st st₁ st₂ (take i c.loop-i.turns) y inv.promise inv.told made);
    }

pub returns : goal.returns
returns g c =
    let G = g.S.Block.BlockKind.group in
    let st = state_of g.S.ReadStore.means c.args.book.now in
    let st₁ = state_of g.S.ReadStore.means c.loop-i.book in
    let all = take_all c.loop-i.i c.loop-i.turns (omega (arith, c.loop-i.auto.turns)) in
    record {
      calls = c.loop-i.invariant.calls;
      promise = subst (λ xs. CarriesOn G (length c.args.work.now) st xs st₁) all c.loop-i.invariant.promise;
      told = subst (Tells G (length c.args.work.now) st) all c.loop-i.invariant.told;
    }
