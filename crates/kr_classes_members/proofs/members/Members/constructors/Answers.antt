use Rattle.std.proofs.Common.{sym, ap, subst, ◌∙◌, List, map, All}
use Rattle.kr_classes_table.specs.Table.{Class}
use Rattle.kr_classes_members.specs.declared.methods.Constructor.{Constructor}
use Rattle.kr_classes_members.specs.Shown.{IsConstructor, constructor_shown, table_in}
use Rattle.kr_classes_members.specs.Kept.{class_shown}
use Rattle.kr_classes_members.proofs.Classes.{at_class, at_none, declared_by, declares_none, kept_stands}
use Rattle.kr_classes_members.proofs.members.Members.constructors.Goals as goal

pub returns-in-None-clause-shown : goal.returns-in-None-clause-shown
returns-in-None-clause-shown c = λ files h. sym (declares_none (λ (d : Class). d.constructors) (table_in files).classes c.args.class (at_none files c.args.self.now c.args.class h c.in-None.ensures))

pub returns-in-Some-clause-stands : goal.returns-in-Some-clause-stands
returns-in-Some-clause-stands c = λ files h.
    let stands = (kept_stands files c.args.self.now c.args.class c.in-Some.members.now h c.in-Some.ensures).constructors in
    subst (λ (xs : List Constructor). All (IsConstructor files) xs) (sym c.as_slice.ensures.value) stands

pub returns-in-Some-clause-shown : goal.returns-in-Some-clause-shown
returns-in-Some-clause-shown c = λ files h.
    let k = c.in-Some.members.now in
    ap (map (constructor_shown files)) c.as_slice.ensures.value
    ∙ sym (declared_by (λ (d : Class). d.constructors) (table_in files).classes c.args.class (class_shown files k) (at_class files c.args.self.now c.args.class k h c.in-Some.ensures))
