-- Takers that were handed nothing yet.
use Rattle.std.proofs.Common.{◌≡◌, ℕ, zero, suc, List, [], length, take, refl, sym, ap, ◌∙◌, subst, arith}
use Rattle.std.specs.Prelude.{Option, Some}
use Rattle.kr_base.specs.Told.{Added}
use Rattle.kr_base.specs.Writing.{added_none}
use Rattle.kr_report.specs.Reports.{lines}
use Rattle.kr_report_streaming.specs.Lines.{failing_lines, last_of, texts}
use Rattle.kr_report_streaming.specs.Tallies.{HasCounted}
use Rattle.kr_report_streaming.specs.Writers.{WritesLines}
use Rattle.kr_report_streaming.specs.declared.counter.Counter.{Counter}
use Rattle.kr_report_streaming.specs.declared.row_line.RowLine.{RowLine}
use Rattle.kr_report_streaming.specs.declared.writer.LineWriter.{LineWriter}
use Rattle.kr_survey.specs.declared.taker.Room.TheVariants.{More}

none : (n : ℕ) → take n (let ls : List RowLine = [] in ls) ≡ []
none zero = refl
none (suc n) = refl

pub fresh_writer : {K : Type 0} (taken : K → Option (List ℕ)) (faults : K → ℕ) (w : LineWriter) (out : K) → w.valid ≡ 0 → w.failing ≡ 0 → w.last ≡ [] → WritesLines taken faults w out [] w out (Some More)
fresh_writer taken faults w out v f l = (
  record {
    limit_is = refl;
    text = subst (λ (ls : List RowLine). Added taken faults out out (lines (texts ls))) (sym (none w.limit)) (added_none out);
    valid = v ∙ ap (λ (ls : List RowLine). length ls) (sym (none w.limit));
    failing = f ∙ ap (λ (ls : List RowLine). length (failing_lines ls)) (sym (none w.limit));
    last = l ∙ ap (last_of []) (sym (none w.limit));
  },
  omega arith,
)

pub fresh_counter : {K : Type 0} (c : Counter) (out : K) → c.count ≡ 0 → HasCounted out [] c out (Some More)
fresh_counter c out e = record { same = refl; count = e; more = refl }
