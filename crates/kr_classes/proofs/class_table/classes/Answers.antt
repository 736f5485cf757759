use Rattle.std.proofs.Common.{◌∙◌, subst}
use Rattle.std.specs.Prelude.{Option}
use Rattle.kr_classes.specs.declared.refusal.Found.{Found}
use Rattle.kr_classes_members.specs.Shown.{table_in}
use Rattle.kr_classes.specs.MemberRules.{IsMembersFault}
use Rattle.kr_classes.proofs.Fronts.{by_members}
use Rattle.kr_classes.proofs.class_table.classes.Goals as goal

pub returns-in-Some-clause-refused : goal.returns-in-Some-clause-refused
returns-in-Some-clause-refused c =
    let t = table_in c.args.trees.now in
    let first = subst (λ (o : Option Found). IsMembersFault t o) c.in-Some.is c.in-Ok.ensures in
    by_members t c.in_ok-hierarchy.ensures.read.unbroken ∙ first

pub returns-clause-read : goal.returns-clause-read
returns-clause-read c =
    let t = table_in c.args.trees.now in
    let none = subst (λ (o : Option Found). IsMembersFault t o) c.in-None.is c.in-Ok.ensures in
    record {
      table = c.in_ok-table.ensures;
      unbroken = by_members t c.in_ok-hierarchy.ensures.read.unbroken ∙ none;
    }
