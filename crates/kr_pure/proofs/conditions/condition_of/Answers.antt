use Rattle.std.proofs.Common.{◌≡◌, sym, ap, refl, ◌∙◌, subst}
use Rattle.kr_ast.specs.Arena.{tree_in}
use Rattle.kr_ast.specs.Files.{file_at}
use Rattle.kr_ast.specs.declared.node.Node.TheVariants as nodes
use Rattle.kr_types_meaning.specs.Running.{running}
use Rattle.kr_code_members.specs.Nodes.{arena_at, node_scope, node_tree}
use Rattle.kr_pure.specs.declared.conditions.Side.{Side}
use Rattle.kr_pure.specs.declared.conditions.Side.TheVariants as sides
use Rattle.kr_pure.specs.Entries.{IsCondition, stated}
use Rattle.kr_pure.proofs.ContractLines.{condition_stands, ensures, line_shown, requires, signals, unstated}
use Rattle.kr_pure.proofs.conditions.condition_of.Goals as goal

pub returns-in-Required : goal.returns-in-Required
returns-in-Required c =
    let p = c.args.program.now in
    let same = c.tree_of.ensures ∙ ap (λ (ts : _). file_at ts c.args.file) c.deref.ensures.value in
    subst (λ (side : Side). IsCondition p side c.args.file c.args.line c.in-Requires.condition) (sym c.in-Required.is)
    (condition_stands p (requires c.in-Requires.condition) c.args.file c.args.line c.tree_of.result.now c.entry.result c.requires.program c.requires.line same c.entry.ensures.tree c.entry.ensures.parts c.in-Requires.is)

pub returns-in-Ensured : goal.returns-in-Ensured
returns-in-Ensured c =
    let p = c.args.program.now in
    let s = running (node_scope p c.args.file c.args.line) in
    let same = c.tree_of.ensures ∙ ap (λ (ts : _). file_at ts c.args.file) c.deref.ensures.value in
    ap (λ (side : Side). stated side s (node_tree p c.args.file c.args.line)) c.in-Ensured.is
    ∙ ap (stated sides.Ensured s) (line_shown p c.args.file c.args.line c.tree_of.result.now c.entry.result (nodes.Requires c.in-Requires.condition) same c.entry.ensures.tree c.in-Requires.is)

pub returns-in-Required-side : goal.returns-in-Required-side
returns-in-Required-side c =
    let p = c.args.program.now in
    let s = running (node_scope p c.args.file c.args.line) in
    let same = c.tree_of.ensures ∙ ap (λ (ts : _). file_at ts c.args.file) c.deref.ensures.value in
    ap (λ (side : Side). stated side s (node_tree p c.args.file c.args.line)) c.in-Required-side.is
    ∙ ap (stated sides.Required s) (line_shown p c.args.file c.args.line c.tree_of.result.now c.entry.result (nodes.Ensures c.in-Ensures.condition) same c.entry.ensures.tree c.in-Ensures.is)

pub returns-in-Ensured-side : goal.returns-in-Ensured-side
returns-in-Ensured-side c =
    let p = c.args.program.now in
    let same = c.tree_of.ensures ∙ ap (λ (ts : _). file_at ts c.args.file) c.deref.ensures.value in
    subst (λ (side : Side). IsCondition p side c.args.file c.args.line c.in-Ensures.condition) (sym c.in-Ensured-side.is)
    (condition_stands p (ensures c.in-Ensures.condition) c.args.file c.args.line c.tree_of.result.now c.entry.result c.requires.program c.requires.line same c.entry.ensures.tree c.entry.ensures.parts c.in-Ensures.is)

pub returns-in-Required-side-2 : goal.returns-in-Required-side-2
returns-in-Required-side-2 c =
    let p = c.args.program.now in
    let s = running (node_scope p c.args.file c.args.line) in
    let same = c.tree_of.ensures ∙ ap (λ (ts : _). file_at ts c.args.file) c.deref.ensures.value in
    ap (λ (side : Side). stated side s (node_tree p c.args.file c.args.line)) c.in-Required-side-2.is
    ∙ ap (stated sides.Required s) (line_shown p c.args.file c.args.line c.tree_of.result.now c.entry.result (nodes.Signals _ c.in-Signals.condition) same c.entry.ensures.tree c.in-Signals.is)

pub returns-in-Ensured-side-2 : goal.returns-in-Ensured-side-2
returns-in-Ensured-side-2 c =
    let p = c.args.program.now in
    let same = c.tree_of.ensures ∙ ap (λ (ts : _). file_at ts c.args.file) c.deref.ensures.value in
    subst (λ (side : Side). IsCondition p side c.args.file c.args.line c.in-Signals.condition) (sym c.in-Ensured-side-2.is)
    (condition_stands p (signals _ c.in-Signals.condition) c.args.file c.args.line c.tree_of.result.now c.entry.result c.requires.program c.requires.line same c.entry.ensures.tree c.entry.ensures.parts c.in-Signals.is)

pub returns-in_default : goal.returns-in_default
returns-in_default c =
    let p = c.args.program.now in
    let s = running (node_scope p c.args.file c.args.line) in
    let arena = arena_at p c.args.file in
    let n = c.entry.result.node in
    let same = c.tree_of.ensures ∙ ap (λ (ts : _). file_at ts c.args.file) c.deref.ensures.value in
    ap (stated c.args.side s) (line_shown p c.args.file c.args.line c.tree_of.result.now c.entry.result n same c.entry.ensures.tree refl)
    ∙ unstated c.args.side s arena.text (tree_in arena) c.entry.result.place n c.in_default.not-Requires c.in_default.not-Ensures c.in_default.not-Signals
