use Rattle.std.proofs.Common.{◌∷◌, []}
use Rattle.kr_deque_hands.proofs.Carrying.{works_then, works_same, works_halved, works_before, halves_split}
use Rattle.kr_deque_hands.proofs.hand.Hand.lay_out.Goals as goal

pub returns-in-Ok-Some-clause-works : goal.returns-in-Ok-Some-clause-works
returns-in-Ok-Some-clause-works g c = λ all.
    let old = c.args.self.now in
    let bare = c.is_bare.new.self in
    let first = c.in-Ok-Some.first in
    let second = c.in-Ok-Some.second in
    works_then all old bare c.put.new.self (c.args.rest ∷ []) (c.args.rest ∷ []) (first ∷ [])
    (works_same all old bare (c.args.rest ∷ []) c.is_bare.ensures.stays c.is_bare.ensures.rest c.is_bare.ensures.own c.is_bare.ensures.stolen)
    (works_then all bare bare c.put.new.self (c.args.rest ∷ []) (first ∷ second ∷ []) (first ∷ [])
    (works_halved all bare c.args.rest first second c.requires.ahead (halves_split c.args.rest c.in-Ok-Some.field-0 first second c.in-Ok-Some.field-0-is c.in-Ok-Some.ensures))
    (works_before all bare c.put.new.self first second (c.put.ensures.works all)))

pub returns-in-Err-clause-works : goal.returns-in-Err-clause-works
returns-in-Err-clause-works g c = λ all.
    works_then all c.args.self.now c.is_bare.new.self c.leave.new.self (c.args.rest ∷ []) (c.args.rest ∷ []) []
    (works_same all c.args.self.now c.is_bare.new.self (c.args.rest ∷ []) c.is_bare.ensures.stays c.is_bare.ensures.rest c.is_bare.ensures.own c.is_bare.ensures.stolen) (c.leave.ensures.works all)
