use Rattle.std.proofs.Common.{◌∙◌, sym, ap}
use Rattle.std.specs.Prelude.{unwrap_or}
use Rattle.kr_classes_table.specs.Table.{Table, number_of}
use Rattle.kr_types_judging.proofs.Tables.{headings_are}
use Rattle.kr_types_statements.proofs.classes.class_named.Goals as goal

pub returns-in-None : goal.returns-in-None
returns-in-None c = λ s e.
    let n = c.args.name.now in
    ap (λ (t : Table). unwrap_or (number_of t.headings n) 0) e ∙ ap (λ hs. unwrap_or (number_of hs n) 0) (headings_are c.args.trees.now) ∙ ap (λ o. unwrap_or o 0) (sym (c.number_of.ensures c.args.trees.now c.requires) ∙ c.in-None.is)

pub returns-in-Some : goal.returns-in-Some
returns-in-Some c = λ s e.
    let n = c.args.name.now in
    ap (λ (t : Table). unwrap_or (number_of t.headings n) 0) e ∙ ap (λ hs. unwrap_or (number_of hs n) 0) (headings_are c.args.trees.now) ∙ ap (λ o. unwrap_or o 0) (sym (c.number_of.ensures c.args.trees.now c.requires) ∙ c.in-Some.is)
