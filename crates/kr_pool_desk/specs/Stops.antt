-- Between crates: the log of a board that is stopped.
use Rattle.std.specs.Prelude.{◌≡◌, ℕ, List, [], ◌∷◌, ◌++◌}
use Rattle.kr_base.specs.declared.span.Bound.TheVariants.{At}
use Rattle.kr_core.specs.declared.event.Event.{Event}
use Rattle.kr_core.specs.declared.event.Event.TheVariants.{StopAt}
use Rattle.kr_board.specs.Closing.{first_mark}
use Rattle.kr_board.specs.Held.{Held}

-- the board's own, followed by a stop at its first segment's mark
pub record IsStopped {R : Type 0} (b : Held R) (log : List Event) : Type 0 where
  pub mark : List ℕ
  pub mark_is : At mark ≡ first_mark b.core
  pub log_is : log ≡ b.log ++ StopAt mark ∷ []
