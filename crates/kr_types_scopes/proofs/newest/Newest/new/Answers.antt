use Rattle.std.proofs.Common.{ℕ, List, length, subst, sym, ap, [], arith}
use Rattle.kr_types_scopes.specs.Newest.{AreNoted}
use Rattle.kr_types_scopes.proofs.Entered.{none_noted}
use Rattle.kr_types_scopes.proofs.newest.Newest.new.Goals as goal

pub returns : goal.returns
returns c = λ tree bs. record {
  within = omega arith;
  entered = omega (arith, ap length c.new-3.ensures.items);
  right = λ e.
      subst (λ (ns : List ℕ). AreNoted tree bs c.new.result ns c.new-3.result.items 0) (sym c.new-2.ensures.items)
      (subst (λ (os : List ℕ). AreNoted tree bs c.new.result [] os 0) (sym c.new-3.ensures.items) (none_noted tree bs c.new.result c.new.ensures));
}
