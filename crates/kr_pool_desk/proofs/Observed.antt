-- What a seat knows of a call, from the board before it and the board after it.
use Rattle.std.proofs.Common.{◌≡◌, ◌+◌, ℕ, List, Option, Result, Ok, Err, IfOk}
use Rattle.kr_base.specs.declared.span.Span.{Span}
use Rattle.kr_base.specs.declared.entry.Entry.{Entry}
use Rattle.kr_core.specs.declared.event.Event.{Event}
use Rattle.kr_core.specs.declared.event.Lease.{Lease}
use Rattle.kr_survey.specs.declared.part.Part.{Part}
use Rattle.kr_board.specs.Held.{Held}
use Rattle.kr_board.specs.declared.board.taking.Taken.{Taken}
use Rattle.kr_board.specs.declared.board.reporting.Reported.{Reported}
use Rattle.kr_pool_desk.specs.Runs.{IsRun}
use Rattle.kr_pool_desk.specs.Tables.{Answers, Gives, GoesWithin}
use Rattle.kr_pool_desk.specs.Observed.{IsCall, ObservesReport, ObservesTake}

module _ {R : Type 0} (all : List (Entry R)) (span : Span) (cuts : List (List ℕ)) (opening : List Event) (workers from to before now : ℕ) (old new : Held R) where
  call : IsRun all span cuts opening workers old before → IsRun all span cuts opening workers new now → now + from ≡ before + to → IsCall all span cuts opening workers from to old new
  call a b c = record { before = before; now = now; old_run = a; new_run = b; counted = c }

  pub observes_report : {E : Type 0} (limit : Option ℕ) (lease : Lease) (part : Part R) (r : Result (Reported R) E) → IsRun all span cuts opening workers old before → IsRun all span cuts opening workers new now → now + from ≡ before + to
      → IfOk r (Answers old lease part new) → IfOk r (GoesWithin limit new) → IfOk r (ObservesReport all span cuts opening workers limit from to lease part)
  observes_report limit lease part (Ok reported) a b c h w = record { old = old; new = new; call = call a b c; answer = h; within = w }
  observes_report limit lease part (Err e) a b c h w = tt

  pub observes_take : {E : Type 0} (limit : Option ℕ) (seat : ℕ) (r : Result (Option Taken) E) → IsRun all span cuts opening workers old before → IsRun all span cuts opening workers new now → now + from ≡ before + to
      → IfOk r (Gives limit seat old new) → IfOk r (ObservesTake all span cuts opening workers limit seat from to)
  observes_take limit seat (Ok taken) a b c h = record { old = old; new = new; call = call a b c; answer = h }
  observes_take limit seat (Err e) a b c h = tt
