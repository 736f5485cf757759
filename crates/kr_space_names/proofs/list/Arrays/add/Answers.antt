use Rattle.std.proofs.Common.{◌≡◌, ◌∷◌, ◌++◌, [], List, ℕ, rules, subst, sym}
use Rattle.kr_space_names.specs.Numbers.{AreMarked}
use Rattle.kr_space_names.proofs.Marks.{marked_more}
use Rattle.kr_space_names.proofs.list.Arrays.add.Goals as goal

pub invariant_of-self-in-Ok : goal.invariant_of-self-in-Ok
invariant_of-self-in-Ok c =
    let items : c.put.new.numbers.items ≡ c.self.inside.numbers.items ++ c.args.number ∷ [] = search rules in
    subst (λ (ns : List ℕ). AreMarked c.mark.new.marks.items ns) (sym items) (marked_more c.self.inside.marks.items c.mark.new.marks.items c.self.inside.numbers.items c.args.number c.self.invariant c.in_ok-mark.ensures.marked)
