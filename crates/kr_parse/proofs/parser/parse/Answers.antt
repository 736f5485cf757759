use Rattle.std.proofs.Common.{◌+◌, ◌*◌, ◌<◌, ◌≤◌, ℕ, List, length, sym, subst, ap, ◌∙◌, arith}
use Rattle.kr_ast.specs.Tree.{Tree, size}
use Rattle.kr_parse_grammar.specs.declared.goal.Symbol.{Symbol}
use Rattle.kr_parse_grammar.specs.Grammar.{Derives}
use Rattle.kr_parse_grammar.specs.State.{State}
use Rattle.kr_parse_trees.specs.Built.{values_of}
use Rattle.kr_parse.proofs.States.{state_start, least_left, derived}
use Rattle.kr_parse.proofs.parser.parse.Goals as goal

pub loop-symbol-init : goal.loop-symbol-init
loop-symbol-init c =
    record {
      standing = c.start-cursor.ensures.standing;
      built = c.new-builder.ensures.built;
      state = rw (c.start-cursor.ensures.first, c.in_ok-push.ensures, c.new-stack.ensures, c.new-builder.ensures.none) (state_start c.laws.ensures c.args.tokens.now.list);
    }

pub dead-requires : goal.dead-requires
dead-requires c =
    let ts = c.args.tokens.now in
    let at = c.loop-symbol.cursor.at in
    let vs = values_of c.loop-symbol.builder in
    let h = subst (λ (ss : List Symbol). State ts.list at ss vs) c.in_default.ensures.0 c.loop-symbol.invariant.state in
    let l : at < length ts.list = omega (arith, c.len.ensures) in
    least_left c.laws.ensures ts at vs h c.loop-symbol.invariant.standing.shallow l

pub finish-requires-clause-one : goal.finish-requires-clause-one
finish-requires-clause-one c =
    let ts = c.args.tokens.now in
    let at = c.loop-symbol.cursor.at in
    let vs = values_of c.loop-symbol.builder in
    let h = subst (λ (ss : List Symbol). State ts.list at ss vs) c.in_default.ensures.0 c.loop-symbol.invariant.state in
    let l : length ts.list ≤ at = omega (arith, c.len.ensures) in
    let d = derived c.laws.ensures ts at vs h l in
    (d.0, d.1, d.2, d.3)

pub returns-clause-derived : goal.returns-clause-derived
returns-clause-derived c =
    let ts = c.args.tokens.now in
    let at = c.loop-symbol.cursor.at in
    let vs = values_of c.loop-symbol.builder in
    let h = subst (λ (ss : List Symbol). State ts.list at ss vs) c.in_default.ensures.0 c.loop-symbol.invariant.state in
    let l : length ts.list ≤ at = omega (arith, c.len.ensures) in
    let d = derived c.laws.ensures ts at vs h l in
    subst (λ (t : Tree). Derives ts.list t) (sym (c.finish.ensures d.0 d.1 d.2 d.3).0) d.4

pub returns-clause-small : goal.returns-clause-small
returns-clause-small c =
    let ts = c.args.tokens.now in
    let at = c.loop-symbol.cursor.at in
    let vs = values_of c.loop-symbol.builder in
    let h = subst (λ (ss : List Symbol). State ts.list at ss vs) c.in_default.ensures.0 c.loop-symbol.invariant.state in
    let l : length ts.list ≤ at = omega (arith, c.len.ensures) in
    let d = derived c.laws.ensures ts at vs h l in
    subst (λ (n : ℕ). n ≤ 3 * length ts.list + 1) (sym (c.finish.ensures d.0 d.1 d.2 d.3).1) (c.laws.ensures.small ts.list d.2 d.4)

pub returns-clause-whole : goal.returns-clause-whole
returns-clause-whole c =
    let ts = c.args.tokens.now in
    let at = c.loop-symbol.cursor.at in
    let vs = values_of c.loop-symbol.builder in
    let h = subst (λ (ss : List Symbol). State ts.list at ss vs) c.in_default.ensures.0 c.loop-symbol.invariant.state in
    let l : length ts.list ≤ at = omega (arith, c.len.ensures) in
    let d = derived c.laws.ensures ts at vs h l in
    let built = c.finish.ensures d.0 d.1 d.2 d.3 in
    built.1 ∙ ap size (sym built.0)
