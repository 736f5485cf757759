use Rattle.std.proofs.Common.{ℕ, sym, subst, ◌∙◌}
use Rattle.kr_run_state.specs.Rows.{IsWrittenAfter}
use Rattle.kr_run_state.proofs.reads.index_spot.Goals as goal

pub write-requires : goal.write-requires
write-requires c = (_, sym c.number_at.ensures ∙ c.in-Some.is)

pub returns-in-Some-clause-written : goal.returns-in-Some-clause-written
returns-in-Some-clause-written c =
    let before = c.args.rows.now.items in
    subst (λ (n : ℕ). IsWrittenAfter before c.write.new.rows.items c.args.object n c.args.number) c.column-column.ensures (before, (λ o n k e. e), c.write.ensures)

pub returns-in_ok-make_room-in-None-clause-written : goal.returns-in_ok-make_room-in-None-clause-written
returns-in_ok-make_room-in-None-clause-written c =
    let before = c.args.rows.now.items in
    subst (λ (n : ℕ). IsWrittenAfter before c.write-in-None.new.rows.items c.args.object n c.args.number) c.column-column.ensures (c.make_room.new.rows.items, c.make_room.ensures.kept, c.write-in-None.ensures)
