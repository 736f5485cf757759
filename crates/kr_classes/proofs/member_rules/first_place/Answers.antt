use Rattle.std.proofs.Common.{◌≡◌, ◌<◌, sym, ap, ◌∙◌, length, map, arith}
use Rattle.std.proofs.lemmas.List.{length-map}
use Rattle.kr_ast.specs.Arena.{root}
use Rattle.kr_classes_table.specs.Table.{headings_of}
use Rattle.kr_classes_table.proofs.Tables.{long}
use Rattle.kr_classes_names.specs.Shown.{heading_shown}
use Rattle.kr_classes_members.proofs.Upwards.{kept_count}
use Rattle.kr_classes.specs.Faults.{no_class}
use Rattle.kr_classes_members.specs.Shown.{table_in}
use Rattle.kr_classes.specs.MemberRules.{member_number, rule_of}
use Rattle.kr_classes_members.proofs.Classes.{classes_in}
use Rattle.kr_classes.proofs.ByClass.{all_in, more_in}
use Rattle.kr_classes.proofs.member_rules.first_place.Goals as goal

pub place_in_class-requires-clause-class : goal.place_in_class-requires-clause-class
place_in_class-requires-clause-class c =
    let files = c.args.trees.now in
    let hs = headings_of (map root files) in
    let xs = c.headings-items.result.now in
    let l : c.loop-class.class < length xs = c.loop-class-test.true in
    let m : length hs ≡ length xs = ap length (sym (c.headings-items.ensures.shown files c.requires.heads)) ∙ length-map xs (heading_shown files) in
    let k : length (table_in files).classes ≡ length hs = ap length (classes_in files) ∙ long hs 0 hs in
    omega (arith, l, m, k, kept_count files c.args.members.now c.requires.members)

pub loop-class-preserved : goal.loop-class-preserved
loop-class-preserved c =
    let files = c.args.trees.now in
    let r = c.args.rule in
    let xs = c.headings-items.result.now in
    let i = c.loop-class.class in
    let l : i < length xs = c.loop-class-test.true in
    more_in (member_number r) (rule_of r) files xs i no_class c.loop-class.first c.in_ok-place.place c.earlier-first.result (c.headings-items.ensures.shown files c.requires.heads) l c.loop-class.invariant c.earlier-first.ensures.fault c.in_ok-place.ensures

pub returns : goal.returns
returns c =
    let files = c.args.trees.now in
    let r = c.args.rule in
    all_in (member_number r) (rule_of r) files c.headings-items.result.now c.loop-class.class c.loop-class.first (c.headings-items.ensures.shown files c.requires.heads) (omega arith) c.loop-class.invariant
