use Rattle.std.proofs.Common.{◌++◌, ℕ, List, append_assoc, map, subst}
use Rattle.std.specs.Prelude.{codes}
use Rattle.kr_base.specs.Told.{Writes}
use Rattle.kr_base.specs.Writing.{stopped_early, writes_exit, writes_then}
use Rattle.kr_ast.specs.Arena.{root}
use Rattle.kr_classes_table.specs.Table.{headings_of}
use Rattle.kr_report.specs.Texts.{trap_text}
use Rattle.kr_report.proofs.Texts.{two_pieces}
use Rattle.kr_report.proofs.verdicts.put_trap.Goals as goal

pub returns-in_err-put_all : goal.returns-in_err-put_all
returns-in_err-put_all g c =
    writes_exit c.from_residual.result c.from_residual.ensures.0
    (stopped_early (trap_text (headings_of (map root c.args.trees.now)) c.args.kind ++ codes " ") c.in_err-put_all.ensures (append_assoc c.args.word.now (trap_text (headings_of (map root c.args.trees.now)) c.args.kind) (codes " ")))

pub returns : goal.returns
returns g c =
    let P : List ℕ → Type 0 = λ text. Writes g.K.Sink.taken g.K.Sink.faults c.put_all.new.out c.put_pieces.new.out text c.put_pieces.result in
    writes_then c.put_pieces.new.out (trap_text (headings_of (map root c.args.trees.now)) c.args.kind ++ codes " ") c.put_pieces.result c.in_ok-put_all.ensures
    (subst P (two_pieces (trap_text (headings_of (map root c.args.trees.now)) c.args.kind) (codes " ") c.trap_name.result.now c.trap_name.ensures) c.put_pieces.ensures)
    (append_assoc c.args.word.now (trap_text (headings_of (map root c.args.trees.now)) c.args.kind) (codes " "))
