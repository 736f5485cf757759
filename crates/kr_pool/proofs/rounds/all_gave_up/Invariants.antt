use Rattle.std.proofs.Common.{◌≡◌, drop, is_some}
use Rattle.std.specs.List.{list_all}
use Rattle.kr_pool.proofs.rounds.all_gave_up.Given as goal

abbrev pub invariant-loop-hand : goal.invariant-loop-hand
invariant-loop-hand g l = list_all (λ h. is_some h.refused) l.hands ≡ list_all (λ h. is_some h.refused) (drop l.hand-index l.hands)
