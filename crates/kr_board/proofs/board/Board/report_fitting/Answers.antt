use Rattle.std.proofs.Common.{◌≡◌, ◌∙◌, ℕ, [], true, false, sym, ap, length}
use Rattle.kr_core.specs.declared.event.Reply.TheVariants.{Noted}
use Rattle.kr_board.specs.Windows.{is_over}
use Rattle.kr_board.proofs.Reports.{is_full, full_event, look_stays, none_refused_if, report_is, report_kept}
use Rattle.kr_board.proofs.board.Board.report_fitting.Goals as goal

pub returns-then-not-is_over-clause-refusal : goal.returns-then-not-is_over-clause-refusal
returns-then-not-is_over-clause-refusal g c =
    let now = c.args.self.now in
    let n = c.args.lease.segment in
    let room : is_over now n (length c.args.part.rows) ≡ false = ap (λ (m : ℕ). is_over now n m) (sym c.len.ensures) ∙ (sym c.is_over.ensures ∙ c.if-not-is_over.true) in
    none_refused_if now c.args.lease c.args.part c.take_in.result c.requires.fits room

pub returns-then-not-is_over-clause-event : goal.returns-then-not-is_over-clause-event
returns-then-not-is_over-clause-event g c =
    let now = c.args.self.now in
    let n = c.args.lease.segment in
    let room : is_over now n (length c.args.part.rows) ≡ false = ap (λ (m : ℕ). is_over now n m) (sym c.len.ensures) ∙ (sym c.is_over.ensures ∙ c.if-not-is_over.true) in
    report_is now c.args.lease c.args.part c.take_in.result c.take_in.new.self c.requires.fits room c.take_in.ensures.event

pub returns-then-not-is_over-clause-stays : goal.returns-then-not-is_over-clause-stays
returns-then-not-is_over-clause-stays g c = report_kept c.args.self.now c.args.lease c.args.part c.take_in.result c.take_in.new.self c.requires.fits c.take_in.ensures.event

pub returns-in-Ok-clause-refusal : goal.returns-in-Ok-clause-refusal
returns-in-Ok-clause-refusal g c =
    let now = c.args.self.now in
    let n = c.args.lease.segment in
    let over : is_over now n (length c.args.part.rows) ≡ true = ap (λ (m : ℕ). is_over now n m) (sym c.len.ensures) ∙ (sym c.is_over.ensures ∙ c.if-not-is_over.false) in
    is_full now c.args.lease c.args.part c.requires.fits over

pub returns-in-Ok-clause-event : goal.returns-in-Ok-clause-event
returns-in-Ok-clause-event g c =
    let now = c.args.self.now in
    let n = c.args.lease.segment in
    let over : is_over now n (length c.args.part.rows) ≡ true = ap (λ (m : ℕ). is_over now n m) (sym c.len.ensures) ∙ (sym c.is_over.ensures ∙ c.if-not-is_over.false) in
    full_event now c.args.lease c.args.part c.look.new.self c.requires.fits over c.in-Ok.ensures.added

pub returns-in-Ok-clause-stays : goal.returns-in-Ok-clause-stays
returns-in-Ok-clause-stays g c = look_stays c.args.self.now c.args.lease c.args.part c.args.lease.seat Noted [] c.look.new.self c.in-Ok.ensures.added
