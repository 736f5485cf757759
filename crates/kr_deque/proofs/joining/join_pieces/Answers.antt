use Rattle.std.proofs.Common.{◌≡◌, List, sym, subst}
use Rattle.kr_survey.specs.declared.piece.Piece.{Piece}
use Rattle.kr_deque_hands.specs.Pieces.{spans_of, AllAhead}
use Rattle.kr_deque.specs.Checking.{Checks}
use Rattle.kr_deque.proofs.Orders.{spans_permutation, ahead_permutation}
use Rattle.kr_deque.proofs.Checked.{whole, refuses_moved, no_break_moved}
use Rattle.kr_deque.proofs.joining.join_pieces.Goals as goal

pub check-requires-clause-ahead : goal.check-requires-clause-ahead
check-requires-clause-ahead g c =
    subst (λ (ps : List (Piece g.row.R.Denot)). AllAhead (spans_of ps)) (sym c.as_slice.ensures.value) (ahead_permutation c.args.pieces.items c.sort.new.pieces.items c.sort.ensures.same c.requires.ahead)

pub returns-in-Ok-listing_of : goal.returns-in-Ok-listing_of
returns-in-Ok-listing_of g c =
    let ps = c.args.pieces.items in
    let qs = c.sort.new.pieces.items in
    let chain = subst (λ (l : List (Piece g.row.R.Denot)). Checks c.args.asked.now (spans_of l) c.check.result) c.as_slice.ensures.value c.check.ensures in
    let chain' = subst (λ r. Checks c.args.asked.now (spans_of qs) r) c.in-Ok.is chain in
    record {
      none = no_break_moved c.args.asked.now (spans_of ps) (spans_of qs) (spans_permutation ps qs c.sort.ensures.same)
          (whole c.args.asked.now (spans_of qs) (ahead_permutation ps qs c.sort.ensures.same c.requires.ahead) chain');
      ordered = qs;
      same = c.sort.ensures.same;
      adjoin = chain';
      listing = c.in-Ok-listing_of.ensures;
    }

pub returns-in-Err : goal.returns-in-Err
returns-in-Err g c =
    let ps = c.args.pieces.items in
    let qs = c.sort.new.pieces.items in
    let chain = subst (λ (l : List (Piece g.row.R.Denot)). Checks c.args.asked.now (spans_of l) c.check.result) c.as_slice.ensures.value c.check.ensures in
    let chain' = subst (λ r. Checks c.args.asked.now (spans_of qs) r) c.in-Err.is chain in
    refuses_moved c.args.asked.now (spans_of ps) (spans_of qs) c.in-Err.refusal (spans_permutation ps qs c.sort.ensures.same) chain'
