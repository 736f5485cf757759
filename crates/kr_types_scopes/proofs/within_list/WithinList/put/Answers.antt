use Rattle.std.proofs.Common.{◌≡◌, ap, ◌∙◌, List, [], ◌∷◌, ◌++◌, length, arith}
use Rattle.std.proofs.Math.ListN.{set}
use Rattle.kr_types_scopes.specs.declared.within.Within.{Within}
use Rattle.kr_types_scopes.specs.Kept.{Withins, kept}
use Rattle.kr_types_scopes.proofs.Kept.{kept_put}
use Rattle.kr_types_scopes.proofs.within_list.WithinList.put.Goals as goal

pub returns : goal.returns
returns c =
    let made = c.self.inside.made.items in
    let ns = c.self.inside.numbers.items in
    let node = c.args.node in
    let count : c.len-count.result ≡ length made = omega arith in
    ap (λ (ws : List Within). kept ws (set ns node c.len-count.result)) c.in_ok-push.ensures.items
    ∙ (ap (λ n. kept (made ++ c.args.here ∷ []) (set ns node n)) count
    ∙ (kept_put made ns node c.args.here c.self.invariant ∙ ap (λ (w : Withins). set w.items node c.args.here) c.self.view_is))
