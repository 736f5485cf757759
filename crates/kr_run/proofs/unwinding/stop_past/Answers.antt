use Rattle.std.proofs.Common.{◌≡◌, None, subst, sym}
use Rattle.kr_mean.specs.declared.kind.Stop.{Stop}
use Rattle.kr_code.specs.declared.code.Code.{Code}
use Rattle.kr_run_frames.specs.declared.frame.Waiting.{Waiting}
use Rattle.kr_run.specs.Unwinding.{PassesBy, clause_in}
use Rattle.kr_run.specs.declared.unwinding.Passing.TheVariants as passing
use Rattle.kr_run.specs.declared.unwinding.Ends.TheVariants as parts
use Rattle.kr_run.proofs.Passing.{uncaught}
use Rattle.kr_run.proofs.unwinding.stop_past.Goals as goal

pub returns-in-Catch : goal.returns-in-Catch
returns-in-Catch c =
    subst (λ (w : Waiting). (code : Code) (e : Stop) → clause_in code w e ≡ None → PassesBy code w (passing.Stop e) parts.Nothing) (sym c.in-Catch.is)
    (λ code e h. uncaught code c.in-Catch.field-0 e h)
