use Rattle.std.proofs.Common.{sym, ◌∙◌}
use Rattle.kr_run_known.proofs.Told.{local_known}
use Rattle.kr_run_known.proofs.places.local.Goals as goal

pub returns-then-is_free : goal.returns-then-is_free
returns-then-is_free c = local_known c.args.world.now c.args.local c.in-Some.found (sym c.found_in.ensures ∙ c.in-Some.is) (c.is_free.ensures c.if-is_free.true)
