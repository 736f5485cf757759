use Rattle.std.proofs.Common.{ℕ, List, subst, sym, arith}
use Rattle.kr_types_scopes.specs.Newest.{AreNoted}
use Rattle.kr_types_scopes.proofs.Entered.{more_noted}
use Rattle.kr_types_scopes.proofs.newest.Newest.add.Goals as goal

pub returns-clause-noted : goal.returns-clause-noted
returns-clause-noted c = λ tree bs h.
    let old = c.args.self.now in
    record {
      within = h.within;
      entered = h.entered;
      right = λ e.
          let n = h.right e in
          subst (λ (ns : List ℕ). AreNoted tree bs c.add.new.self ns old.outer.items old.at) (sym c.in_ok-push.ensures.items)
          (more_noted tree bs old.index c.add.new.self old.newest.items old.outer.items old.at c.args.name.now n (c.in_ok-add.ensures n.names n.indexed (omega (arith, n.count, c.len-count.ensures))));
    }
