-- A known step is known under another name.
use Rattle.std.proofs.Common.{◌≡◌, ℕ, ◌-◌, ◌<◌, Some, None, sym, ap, subst, arith, ◌∙◌}
use Rattle.std.specs.Prelude.{Option, IfSome}
use Rattle.kr_value.specs.declared.value.Value.{Value}
use Rattle.kr_mean.specs.declared.flow.Flow.{Flow}
use Rattle.kr_mean.specs.Steps.{Outcome, Run, bind, tick}
use Rattle.kr_code.specs.declared.code.Code.{Code}
use Rattle.kr_code.specs.Doing.{Doing}
use Rattle.kr_run_state.specs.declared.world.World.{World}
use Rattle.kr_run_state.specs.Noting.{noting}
use Rattle.kr_run_known.specs.declared.known.Known.{Known}
use Rattle.kr_run_known.specs.Knowing.{Knows, fuelled}
use Rattle.kr_run_known.proofs.Going.{noted_then, ticks}
use Rattle.kr_run_frames.specs.declared.frame.Loop.{Loop}
use Rattle.kr_run_frames.specs.Frames.{repeated, test_of, turned}
use Rattle.kr_run_moves.proofs.Moves.{rounds}
use Rattle.kr_run_lookahead.specs.declared.flows.Led.{Led}
use Rattle.kr_run_lookahead.specs.Flows.{KnowsFlow}

pub value_as : {T : Type 0} (code : Code) (w : World) (n : ℕ) (r : Option Known) (m : T → Doing → Run Value) (t u : T) → t ≡ u → IfSome r (λ k. Knows code w n k (m u)) → IfSome r (λ k. Knows code w n k (m t))
value_as code w n r m t u is h = subst (λ s. IfSome r (λ k. Knows code w n k (m s))) (sym is) h

pub flow_as : {T : Type 0} (code : Code) (w : World) (n : ℕ) (r : Option Led) (m : T → Doing → Run Flow) (t u : T) → t ≡ u → IfSome r (λ l. KnowsFlow code w n l (m u)) → IfSome r (λ l. KnowsFlow code w n l (m t))
flow_as code w n r m t u is h = subst (λ s. IfSome r (λ l. KnowsFlow code w n l (m s))) (sym is) h

-- a loop whose test is known
pub round_known : (code : Code) (w : World) (n e : ℕ) (k : Known) (r : Option Led) (l : Loop) → 0 < n → ((d : Doing) → test_of d l ≡ d.value e) → Knows code w (n - 1) k (λ d. d.value e) → IfSome r (λ m. KnowsFlow code w k.fuel m (λ d. turned code d l k.value)) → IfSome r (λ m. KnowsFlow code w n m (λ d. repeated code d l))
round_known code w n e k None l lt is h g = tt
round_known code w n e k (Some m) l lt is h g = λ x a d i.
    ap (λ (q : Outcome Flow). noting w.reads q) (rounds code d l (fuelled w n x) i)
    ∙ (noted_then tick (λ u. bind (test_of d l) (turned code d l)) (fuelled w n x) (fuelled w (n - 1) x) w.reads w.reads tt (ticks w n (n - 1) x (omega (arith, lt)))
    ∙ (ap (λ (t : Run Value). noting w.reads (bind t (turned code d l) (fuelled w (n - 1) x))) (is d)
    ∙ (noted_then (d.value e) (turned code d l) (fuelled w (n - 1) x) (fuelled w k.fuel x) w.reads w.reads k.value (h x a d i)
    ∙ g x a d i)))
