use Rattle.std.proofs.Common.{◌≡◌, suc, ◌-◌, refl, sym, arith, ◌∙◌}
use Rattle.kr_run_lookahead.proofs.Lefts.{returned_is}
use Rattle.kr_run_lookahead.proofs.leaving.literal_returned.Goals as goal

pub returns-in-Some-literal_at : goal.returns-in-Some-literal_at
returns-in-Some-literal_at c = λ d s i f.
    let two : c.args.fuel ≡ suc (suc (c.args.fuel - 2)) = search arith in
    returned_is c.args.code.now d c.args.node c.in-Return.returned (c.args.fuel - 2) c.in-Some-literal_at.value s i (sym c.in-Some.ensures ∙ c.in-Return.is) (f ∙ two) (c.in-Some-literal_at.ensures d (record s { fuel = suc (c.args.fuel - 2) }) (c.args.fuel - 2) i refl)
