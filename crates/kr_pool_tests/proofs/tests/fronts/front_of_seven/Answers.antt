use Rattle.std.proofs.Common.{List, ℕ, sym, subst, ◌∙◌}
use Rattle.kr_core.specs.Openings.{AreInside}
use Rattle.kr_core.proofs.Cuts.{cuts_inside}
use Rattle.kr_pool_tests.proofs.tests.fronts.front_of_seven.Goals as goal

pub start_front-requires-clause-inside : goal.start_front-requires-clause-inside
start_front-requires-clause-inside g c κs within =
    subst (λ (cuts : List (List ℕ)). AreInside cuts c.in_ok-span.span) (sym (c.as_slice.ensures.value ∙ c.in_ok-cuts.ensures)) (cuts_inside c.in_ok-span.span 7)
