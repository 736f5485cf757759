use Rattle.std.proofs.Common.{sym, ap, ◌∙◌, subst, ◌+◌, ◌<◌, false, List, ◌∷◌, [], length, get_or, All, arith, length-append}
use Rattle.std.proofs.Math.ListN.{set, length-set}
use Rattle.std.proofs.lemmas.List.{get_or_default}
use Rattle.std.proofs.lemmas.List.Elements.{All-push}
use Rattle.kr_ast.specs.declared.files.NodeId.{NodeId}
use Rattle.kr_ast.specs.Files.{IsNode}
use Rattle.kr_pure.specs.Found.{IsAdded, number_of}
use Rattle.kr_pure.proofs.Adding.{already, known_more, mark_more, pushed}
use Rattle.kr_pure.proofs.found.Found.add.Goals as goal

pub returns-then-index-clause-added : goal.returns-then-index-clause-added
returns-then-index-clause-added c =
    let marks = c.args.self.now.marks.items in
    let number = c.number_of-number.ensures.number in
    let l : c.number_of-number.result < length marks = let a = c.requires.found.long in let b = c.number_of-number.ensures.within in omega arith in
    let read = get_or_default marks c.number_of-number.result c.index.result.now false l in
    let at = ap (λ k. get_or marks k false) number in
    already c.args.self.now.nodes.items c.args.at (c.requires.found.known c.args.at c.requires.node (sym at ∙ (sym read ∙ (sym c.index.ensures ∙ c.if-index.true))))

pub returns-clause-found : goal.returns-clause-found
returns-clause-found c =
    let files = c.args.trees.now in
    let marks = c.args.self.now.marks.items in
    let nodes = c.args.self.now.nodes.items in
    let number = c.number_of-number.ensures.number in
    let l : c.number_of-number.result < length marks = let a = c.requires.found.long in let b = c.number_of-number.ensures.within in omega arith in
    let read = get_or_default marks c.number_of-number.result c.index.result.now false l in
    let items = c.in_ok-push.ensures in
    let one = mark_more marks c.number_of-number.result l (sym read ∙ (sym c.index.ensures ∙ c.if-index.false)) in
    let count = c.requires.found.count in
    record {
      nodes = subst (λ (xs : List NodeId). All (IsNode files) xs) (sym items) (All-push (IsNode files) nodes c.args.at c.requires.found.nodes c.requires.node);
      long = length-set marks c.number_of-number.result Rattle.std.proofs.Common.true ∙ c.requires.found.long;
      count = ap length items ∙ (length-append nodes (c.args.at ∷ []) ∙ (ap (λ k. k + 1) count ∙ sym one));
      known = λ n h e. subst (λ (xs : List NodeId). Rattle.std.specs.Prelude.Contains xs n) (sym items)
          (known_more files marks nodes c.args.at c.requires.node c.requires.found.known n h (sym (ap (λ k. get_or (set marks k Rattle.std.proofs.Common.true) (number_of files n) false) number) ∙ e));
    }

pub returns-clause-added : goal.returns-clause-added
returns-clause-added c = subst (λ (xs : List NodeId). IsAdded c.args.self.now.nodes.items (c.args.at ∷ []) xs) (sym c.in_ok-push.ensures) (pushed c.args.self.now.nodes.items c.args.at)
