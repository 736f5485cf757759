use Rattle.std.proofs.Common.{◌≡◌, ℕ, List, [], ◌++◌, true, length, refl, sym, ap, ◌∙◌, subst}
use Rattle.std.proofs.lemmas.List.{append-nil}
use Rattle.kr_core.specs.declared.event.Event.{Event}
use Rattle.kr_core.specs.Openings.{opening}
use Rattle.kr_core.specs.Rows.{drained}
use Rattle.kr_pool_desk.specs.Limits.{IsWanted, KeepsWindow}
use Rattle.kr_pool_desk.specs.Runs.{are_shared}
use Rattle.kr_pool_desk.specs.Short.{AreShortEvents}
use Rattle.kr_pool_desk.proofs.Limits.{none_drained}
use Rattle.kr_pool_desk.proofs.desk.Desk.new.Goals as goal

pub invariant_of-result : goal.invariant_of-result
invariant_of-result g c =
    let n = g.N.Run in
    let none : drained c.args.board.log ≡ 0 = ap (λ (l : List Event). drained l) c.requires.opening ∙ c.requires.undrained in (
      record {
        ascends = c.requires.ascends;
        inside = c.requires.inside;
        board = c.requires.board;
        grown = record {
          more = [];
          logged = c.requires.opening ∙ sym (append-nil n.opening);
          shared = ap (λ (l : List Event). are_shared g.N.Crew.workers l) c.requires.opening ∙ c.requires.shared;
          counted = sym c.requires.none.0;
        };
        short = λ s. subst AreShortEvents (sym c.requires.opening) c.requires.short;
      },
      c.requires.window,
      none ∙ sym c.requires.none.1,
      subst (λ (d : ℕ). IsWanted n.limit d c.new.result) (sym none) (rw (sym c.requires.limit) c.new.ensures),
      none_drained n.limit c.args.board.log none,
      subst (λ (l : List Event). KeepsWindow n.window (opening n.span n.cuts) l) (sym c.requires.opening) c.requires.kept,
    )
