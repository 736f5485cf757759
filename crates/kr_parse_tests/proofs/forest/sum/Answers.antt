use Rattle.std.proofs.Common.{◌∷◌, [], ◌∙◌, arith}
use Rattle.kr_ast.proofs.Roots.{roots_none}
use Rattle.kr_parse_tests.proofs.forest.sum.Goals as goal

pub put-requires-3-clause-free : goal.put-requires-3-clause-free
put-requires-3-clause-free c =
    let none = roots_none c.add_name.new.self.entries (c.in_ok-name.ensures.entries ∙ c.new-forest.ensures.entries) in
    let one = c.in_ok-right.ensures.roots [] none in
    let two = c.in_ok-left.ensures.roots (c.in_ok-right.right ∷ []) one in
    two.free

pub finish-requires : goal.finish-requires
finish-requires c =
    let none = roots_none c.add_name.new.self.entries (c.in_ok-name.ensures.entries ∙ c.new-forest.ensures.entries) in
    let one = c.in_ok-right.ensures.roots [] none in
    let two = c.in_ok-left.ensures.roots (c.in_ok-right.right ∷ []) one in
    let all = c.in_ok-put.ensures.roots [] two in
    (c.in_ok-put.field-0, all, omega (arith, c.in_ok-put.ensures.at, c.in_ok-put.ensures.count))
