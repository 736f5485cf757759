use Rattle.std.proofs.Common.{sym, subst, List, ℕ}
use Rattle.std.specs.Prelude.{Option}
use Rattle.kr_classes.specs.Faults.{AreBelow, AreSuperclasses}
use Rattle.kr_classes_members.specs.Shown.{table_in}
use Rattle.kr_classes.specs.Refusals.{rule_number}
use Rattle.kr_classes.proofs.Fronts.{below_of, by_names, superclasses_of}
use Rattle.kr_classes.proofs.hierarchy.hierarchy_of.Goals as goal

pub first_broken-requires-clause-supers : goal.first_broken-requires-clause-supers
first_broken-requires-clause-supers c =
    let files = c.args.trees.now in
    subst (λ (xs : List (Option ℕ)). AreSuperclasses xs (table_in files)) (sym c.deref.ensures.value) (superclasses_of files c.in_ok-supers.supers.items c.in_ok-supers.ensures)

pub first_broken-requires-clause-below : goal.first_broken-requires-clause-below
first_broken-requires-clause-below c =
    let files = c.args.trees.now in
    subst (λ (xs : List (Option ℕ)). AreBelow xs) (sym c.deref.ensures.value) (below_of files c.in_ok-supers.supers.items c.in_ok-supers.ensures)

pub returns-in-Some-clause-refused : goal.returns-in-Some-clause-refused
returns-in-Some-clause-refused c = by_names (table_in c.args.trees.now) (record { place = c.in-Some.found.place; rule = rule_number c.in-Some.found.rule }) c.in-Some.ensures

pub returns-in-None-clause-read : goal.returns-in-None-clause-read
returns-in-None-clause-read c =
    let files = c.args.trees.now in
    record {
      heads = c.in_ok-heads.ensures;
      supers = superclasses_of files c.in_ok-supers.supers.items c.in_ok-supers.ensures;
      below = below_of files c.in_ok-supers.supers.items c.in_ok-supers.ensures;
      unbroken = c.in-None.ensures;
    }
