use Rattle.std.proofs.Common.{sym, ap, ◌∙◌, List, map, bytes_eq}
use Rattle.std.specs.List.{position_from}
use Rattle.kr_classes_names.proofs.Walks.{map_map}
use Rattle.kr_classes_table.specs.Table as table
use Rattle.kr_classes_members.specs.Shown.{method_shown, table_in}
use Rattle.kr_classes_members.specs.Kept.{class_shown}
use Rattle.kr_classes_members.proofs.Classes.{at_class, at_none, declared_by, declares_none, kept_stands}
use Rattle.kr_classes_members.proofs.members.Members.own_method_number.Goals as goal

pub returns-in-None : goal.returns-in-None
returns-in-None c = λ files h.
    sym (ap (λ (xs : List table.Method). position_from (bytes_eq c.args.name.now) 0 (map (λ x. x.name) xs)) (declares_none (λ (d : table.Class). d.methods) (table_in files).classes c.args.class (at_none files c.args.self.now c.args.class h c.in-None.ensures)))

pub returns-in-Some : goal.returns-in-Some
returns-in-Some c = λ files h.
    let k = c.in-Some.members.now in
    let stands = kept_stands files c.args.self.now c.args.class k h c.in-Some.ensures in
    let own = declared_by (λ (d : table.Class). d.methods) (table_in files).classes c.args.class (class_shown files k) (at_class files c.args.self.now c.args.class k h c.in-Some.ensures) in
    c.find.ensures ∙ stands.method_index c.args.name.now
    ∙ ap (position_from (bytes_eq c.args.name.now) 0) (sym (map_map (λ (x : table.Method). x.name) (method_shown files) k.methods.items))
    ∙ sym (ap (λ (xs : List table.Method). position_from (bytes_eq c.args.name.now) 0 (map (λ x. x.name) xs)) own)
