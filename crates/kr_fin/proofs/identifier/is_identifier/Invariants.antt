use Rattle.std.proofs.Common.{◌≡◌}
use Rattle.kr_fin.proofs.Names.{is_empty, is_front}
use Rattle.kr_fin.proofs.identifier.is_identifier.Given as goal

abbrev pub invariant-loop-c : goal.invariant-loop-c
invariant-loop-c l = (l.is_first ≡ is_empty l.yielded) × (l.is_name ≡ is_front l.yielded)
