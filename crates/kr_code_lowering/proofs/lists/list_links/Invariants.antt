use Rattle.std.proofs.Common.{◌≡◌, ℕ, List, ◌++◌, length, drop}
use Rattle.kr_classes_names.specs.ListedTypes.{IsGrown}
use Rattle.kr_code_lowering.specs.Sites.{IsSite}
use Rattle.kr_code_lowering.specs.Lists.{AreItems}
use Rattle.kr_code_lowering.proofs.lists.list_links.Given as goal

abbrev pub invariant-loop-item : goal.invariant-loop-item
invariant-loop-item l = record {
  site : IsSite l.program l.at;
  start : l.start ≡ length l.fn.links;
  grown : IsGrown l.fn.links l.links;
  ahead : (is : List ℕ) → AreItems l.program l.at is → AreItems l.program l.fn.list (drop l.start l.links ++ is);
}

abbrev pub decreases-loop-item : goal.decreases-loop-item
decreases-loop-item l = l.at.node
