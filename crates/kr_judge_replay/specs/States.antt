-- Between crates: the state of a world, without its candidates and what was read.
use Rattle.std.specs.Prelude.{◌≡◌}
use Rattle.kr_run_state.specs.declared.world.World.{World}

-- a world has another's state
pub record HasStateOf (w p : World) : Type 0 where
  pub this : p.this ≡ w.this
  pub locals : p.locals.items ≡ w.locals.items
  pub result : p.result ≡ w.result
  pub olds : p.olds.items ≡ w.olds.items
  pub thrown : p.thrown ≡ w.thrown
  pub made : p.made ≡ w.made
  pub fuel : p.fuel ≡ w.fuel
