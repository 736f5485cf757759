use Rattle.std.proofs.Common.{◌∷◌, [], refl}
use Rattle.kr_deque_hands.specs.Turns.{in_hand}
use Rattle.kr_deque_hands.proofs.Carrying.{works_then, works_alike, works_kept_none, works_kept_some}
use Rattle.kr_deque_hands.proofs.hand.Hand.keep.Goals as goal

pub returns-in-Err-clause-works : goal.returns-in-Err-clause-works
returns-in-Err-clause-works g c = λ all honest.
    works_then all c.args.self.now _ c.leave.new.self (c.args.span ∷ []) (c.args.span ∷ []) [] (works_alike all c.args.self.now _ (c.args.span ∷ []) refl refl refl c.in-Err.ensures.items refl) (c.leave.ensures.works all)

pub returns-in-None-clause-works : goal.returns-in-None-clause-works
returns-in-None-clause-works g c = λ all honest.
    works_kept_none all c.args.self.now _ c.args.span c.args.piece c.args.rest c.requires.ahead c.requires.parts honest c.requires.few refl refl refl refl c.in-Ok.ensures.items c.in-None.is

pub returns-clause-works : goal.returns-clause-works
returns-clause-works g c = λ all honest.
    works_then all c.args.self.now _ c.lay_out.new.self (c.args.span ∷ []) (c.in-Some.rest ∷ []) (in_hand c.lay_out.result)
    (works_kept_some all c.args.self.now _ c.args.span c.args.piece c.args.rest c.in-Some.rest c.requires.ahead c.requires.parts honest c.requires.few refl refl refl refl c.in-Ok.ensures.items c.in-Some.is) (c.lay_out.ensures.works all)
