use Rattle.std.proofs.Common.{sym, ap, subst, ◌∙◌, refl, bytes_eq}
use Rattle.std.specs.Prelude.{Option, IfSome, find, option_map}
use Rattle.kr_classes_table.specs.Table as table
use Rattle.kr_classes_names.specs.Listed.{place_of}
use Rattle.kr_classes_members.specs.declared.fields.Field.{Field}
use Rattle.kr_classes_members.specs.Shown.{IsField, field_name, field_shown, table_in}
use Rattle.kr_classes_members.specs.Kept.{class_shown}
use Rattle.kr_classes_members.proofs.Classes.{at_class, at_none, declared_by, declares_none, kept_stands}
use Rattle.kr_classes_members.proofs.Names.{found_one, indexed}
use Rattle.kr_classes_members.proofs.members.Members.own_field.Goals as goal

pub returns-in-None-clause-shown : goal.returns-in-None-clause-shown
returns-in-None-clause-shown c = λ files h.
    sym (ap (find (λ (f : table.Field). bytes_eq f.name c.args.name.now)) (declares_none (λ (d : table.Class). d.fields) (table_in files).classes c.args.class (at_none files c.args.self.now c.args.class h c.in-None.ensures)))

pub returns-in-Some-clause-stands : goal.returns-in-Some-clause-stands
returns-in-Some-clause-stands c = λ files h.
    let k = c.in-Some.members.now in
    let stands = (kept_stands files c.args.self.now c.args.class k h c.in-Some.ensures).fields in
    subst (λ (o : Option Field). IfSome o (IsField files)) (sym c.field.ensures) (found_one (IsField files) k.fields.items (place_of c.args.name.now k.field_index) stands)

pub returns-in-Some-clause-shown : goal.returns-in-Some-clause-shown
returns-in-Some-clause-shown c = λ files h.
    let k = c.in-Some.members.now in
    let stands = kept_stands files c.args.self.now c.args.class k h c.in-Some.ensures in
    let own = declared_by (λ (d : table.Class). d.fields) (table_in files).classes c.args.class (class_shown files k) (at_class files c.args.self.now c.args.class k h c.in-Some.ensures) in
    ap (option_map (field_shown files)) c.field.ensures
    ∙ indexed (field_shown files) (field_name files) (λ (f : table.Field). f.name) c.args.name.now (λ f. refl) k.fields.items k.field_index _ stands.field_index (sym own)
