use Rattle.std.proofs.Common.{ℕ, List, [], Bor, arith, get_or, refl}
use Rattle.kr_text.specs.Lines.{line_bytes}
use Rattle.kr_emit.proofs.Lines.{all_added, item_added}
use Rattle.kr_emit.proofs.line.add_all.Goals as goal

pub loop-piece-preserved : goal.loop-piece-preserved
loop-piece-preserved c =
    let ps = c.args.pieces.now in
    let i = c.loop-piece.piece-index in
    let d : Bor (List ℕ) = record { ref_ptr = (0, 0); now = [] } in
    item_added (λ (p : Bor (List ℕ)). p.now) ps i d (line_bytes c.args.line.now) (line_bytes c.loop-piece.line) (line_bytes c.add.new.self) (get_or ps i d).now c.loop-piece-test.true c.loop-piece.invariant c.in_ok-add.ensures.added refl

pub returns : goal.returns
returns c = all_added (λ (p : Bor (List ℕ)). p.now) c.args.pieces.now c.loop-piece.piece-index (line_bytes c.args.line.now) (line_bytes c.loop-piece.line) (omega (arith, c.loop-piece-test.false)) c.loop-piece.invariant
