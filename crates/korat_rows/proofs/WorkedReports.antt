-- The lines of the small problems, as the checker computes them.
use Rattle.std.proofs.Common.{◌≡◌, refl}
use Rattle.std.specs.Prelude.{true, false, [], ◌∷◌, map, codes, Some, None}
use Rattle.std.specs.Fmt.{digits}
use Rattle.kr_base.specs.Bounds.{less}
use Rattle.kr_mean.specs.Space.{space_of}
use Rattle.kr_mean.specs.Heaps.{heap_of, walk}
use Rattle.kr_classes_table.specs.Predefined.{predefined}
use Rattle.kr_classes_table.specs.Table.{table_of}
use Rattle.kr_classes_table.specs.Constants.{values_of, is_constant, evaluated, constant_width}
use Rattle.kr_types_meaning.specs.Typing.{judged}
use Rattle.kr_mean.specs.Steps.{bind}
use Rattle.kr_mean.specs.Verdicts.{verdict_of}
use Rattle.kr_mean.specs.Meaning.{eval, exec, value, body_of}
use Rattle.kr_mean.specs.Runs.{end_on, read_slots, order_of}
use Rattle.kr_mean.specs.Entries.{mark_of, all_of, all_entries}
use Rattle.kr_value.specs.declared.value.Value.TheVariants.{Bool as Truth}
use Rattle.kr_mean.specs.declared.kind.Kind.TheVariants.{NullPointerException, ArithmeticException, Thrown, NoReturn}
use Rattle.kr_mean.specs.declared.kind.Verdict.TheVariants.{Pass, Ensures, Signals, RepOk, Trap, CheckTrap, Spent as OutOfFuel}
use Rattle.korat_rows.specs.Examples.{cell, two_ints, two_nodes, two_subclasses, arrays, later_first}
use Rattle.korat_rows.specs.Listings.{loops, plus}
use Rattle.kr_report.specs.Texts.{structure_text, value_text, verdict_text, tested_text}
use Rattle.kr_report.specs.Reports.{listing_answer, is_failing}
use Rattle.korat_top_reports.specs.Reports.{tally_of}
use Rattle.korat_rows.specs.WorkedReports.{counter, never_right, lines_of, told, told_by, report_of, WorkedLines}

two_nodes_lines : lines_of two_nodes ≡ codes "0.0 R#0{next=null}\n" ∷ codes "0.1 R#0{next=R#0}\n" ∷ codes "0.2.0 R#0{next=R#1} R#1{next=null}\n" ∷ codes "0.2.1 R#0{next=R#1} R#1{next=R#0}\n" ∷ codes "0.2.2 R#0{next=R#1} R#1{next=R#1}\n" ∷ []
unfolding digits less space_of heap_of walk table_of values_of is_constant evaluated constant_width judged bind eval exec value body_of verdict_of end_on read_slots order_of mark_of all_of all_entries structure_text listing_answer
two_nodes_lines = refl

two_subclasses_lines : lines_of two_subclasses ≡ codes "0.0.0 R#0{x=P#0,y=P#0} P#0{}\n" ∷ codes "0.0.1 R#0{x=P#0,y=P#1} P#0{} P#1{}\n" ∷ codes "0.0.2 R#0{x=P#0,y=Q#0} P#0{} Q#0{}\n" ∷ codes "0.2.0 R#0{x=Q#0,y=P#0} Q#0{} P#0{}\n" ∷ codes "0.2.2 R#0{x=Q#0,y=Q#0} Q#0{}\n" ∷ codes "0.2.3 R#0{x=Q#0,y=Q#1} Q#0{} Q#1{}\n" ∷ []
unfolding digits less space_of heap_of walk table_of values_of is_constant evaluated constant_width judged bind eval exec value body_of verdict_of end_on read_slots order_of mark_of all_of all_entries structure_text listing_answer
two_subclasses_lines = refl

arrays_lines : lines_of arrays ≡ codes "0.0.0 R#0{a=int[]#0} int[]#0[]\n" ∷ codes "0.0.1.0 R#0{a=int[]#0} int[]#0[0]\n" ∷ codes "0.0.1.1 R#0{a=int[]#0} int[]#0[1]\n" ∷ codes "0.0.2.0.0 R#0{a=int[]#0} int[]#0[0,0]\n" ∷ codes "0.0.2.0.1 R#0{a=int[]#0} int[]#0[0,1]\n" ∷ codes "0.0.2.1.0 R#0{a=int[]#0} int[]#0[1,0]\n" ∷ codes "0.0.2.1.1 R#0{a=int[]#0} int[]#0[1,1]\n" ∷ []
unfolding digits less space_of heap_of walk table_of values_of is_constant evaluated constant_width judged bind eval exec value body_of verdict_of end_on read_slots order_of mark_of all_of all_entries structure_text listing_answer
arrays_lines = refl

two_ints_report : report_of two_ints [] 9 ≡ told 0 (codes "0.1.0 R#0{a=1,b=7}\n0.1.1 R#0{a=1,b=9}\nvalid 2 tried 3\n")
unfolding digits less space_of heap_of walk table_of values_of is_constant evaluated constant_width judged bind eval exec value body_of verdict_of end_on read_slots order_of mark_of all_of all_entries structure_text listing_answer
two_ints_report = refl

cell_report : report_of (cell 0 1000) [] 9 ≡ told 0 (codes "0.1 Cell#0{v=1}\n0.2 Cell#0{v=2}\nvalid 2 tried 3\n")
unfolding digits less space_of heap_of walk table_of values_of is_constant evaluated constant_width judged bind eval exec value body_of verdict_of end_on read_slots order_of mark_of all_of all_entries structure_text listing_answer
cell_report = refl

cell_limited : report_of (cell 0 1000) [] 1 ≡ told 0 (codes "0.1 Cell#0{v=1}\nmore 0.1\n")
unfolding digits less space_of heap_of walk table_of values_of is_constant evaluated constant_width judged bind eval exec value body_of verdict_of end_on read_slots order_of mark_of all_of all_entries structure_text listing_answer
cell_limited = refl

cell_at_the_limit : report_of (cell 0 1000) [] 2 ≡ told 0 (codes "0.1 Cell#0{v=1}\n0.2 Cell#0{v=2}\nvalid 2 tried 3\n")
unfolding digits less space_of heap_of walk table_of values_of is_constant evaluated constant_width judged bind eval exec value body_of verdict_of end_on read_slots order_of mark_of all_of all_entries structure_text listing_answer
cell_at_the_limit = refl

cell_resumed : report_of (cell 0 1000) (0 ∷ 1 ∷ []) 9 ≡ told 0 (codes "0.2 Cell#0{v=2}\nvalid 1 tried 1\n")
unfolding digits less space_of heap_of walk table_of values_of is_constant evaluated constant_width judged bind eval exec value body_of verdict_of end_on read_slots order_of mark_of all_of all_entries structure_text listing_answer
cell_resumed = refl

cell_without_fuel : report_of (cell 0 5) [] 9 ≡ told 5 (codes "spent 0.0\n")
unfolding digits less space_of heap_of walk table_of values_of is_constant evaluated constant_width judged bind eval exec value body_of verdict_of end_on read_slots order_of mark_of all_of all_entries structure_text listing_answer
cell_without_fuel = refl

later_first_report : report_of later_first [] 9 ≡ told 0 (codes "0.1.0 R#0{a=7,b=1}\n0.1.1 R#0{a=9,b=1}\nvalid 2 tried 3\n")
unfolding digits less space_of heap_of walk table_of values_of is_constant evaluated constant_width judged bind eval exec value body_of verdict_of end_on read_slots order_of mark_of all_of all_entries structure_text listing_answer
later_first_report = refl

rows_before_spent : report_of loops [] 9 ≡ told 5 (codes "0.0 Cell#0{v=0}\nspent 0.1\n")
unfolding digits less space_of heap_of walk table_of values_of is_constant evaluated constant_width judged bind eval exec value body_of verdict_of end_on read_slots order_of mark_of all_of all_entries structure_text listing_answer
rows_before_spent = refl

spent_at_the_limit : report_of loops [] 1 ≡ told 5 (codes "0.0 Cell#0{v=0}\nspent 0.1\n")
unfolding digits less space_of heap_of walk table_of values_of is_constant evaluated constant_width judged bind eval exec value body_of verdict_of end_on read_slots order_of mark_of all_of all_entries structure_text listing_answer
spent_at_the_limit = refl

behind_spent : report_of loops (0 ∷ 1 ∷ []) 9 ≡ told 0 (codes "0.2 Cell#0{v=2}\nvalid 1 tried 1\n")
unfolding digits less space_of heap_of walk table_of values_of is_constant evaluated constant_width judged bind eval exec value body_of verdict_of end_on read_slots order_of mark_of all_of all_entries structure_text listing_answer
behind_spent = refl

cell_counted : told_by (tally_of 3 (cell 0 1000)) ≡ told 0 (codes "nodes 3 valid 2\n")
unfolding digits less space_of heap_of walk table_of values_of is_constant evaluated constant_width judged bind eval exec value body_of verdict_of end_on read_slots order_of mark_of all_of all_entries structure_text listing_answer
cell_counted = refl

counted_up_to_spent : told_by (tally_of 1 loops) ≡ told 5 (codes "spent 0.1\n")
unfolding digits less space_of heap_of walk table_of values_of is_constant evaluated constant_width judged bind eval exec value body_of verdict_of end_on read_slots order_of mark_of all_of all_entries structure_text listing_answer
counted_up_to_spent = refl

plus_report : report_of plus [] 9 ≡ told 0 (codes "0.1.0 pass (x=1) Cell#0{v=0}\nvalid 1 failing 0 tried 2\n")
unfolding digits less space_of heap_of walk table_of values_of is_constant evaluated constant_width judged bind eval exec value body_of verdict_of end_on read_slots order_of mark_of all_of all_entries structure_text listing_answer
plus_report = refl

counter_report : report_of counter [] 9 ≡ told 1 (codes "0.0.0 pass R#0{v=0,o=null}\n0.1.0 pass R#0{v=1,o=null}\n0.2.0 ensures 1 R#0{v=2,o=null}\n0.3.0 ensures 1 R#0{v=3,o=null}\nvalid 4 failing 2 tried 4\n")
unfolding digits less space_of heap_of walk table_of values_of is_constant evaluated constant_width judged bind eval exec value body_of verdict_of end_on read_slots order_of mark_of all_of all_entries structure_text listing_answer
counter_report = refl

counter_cut_behind_a_failing_row : report_of counter [] 3 ≡ told 1 (codes "0.0.0 pass R#0{v=0,o=null}\n0.1.0 pass R#0{v=1,o=null}\n0.2.0 ensures 1 R#0{v=2,o=null}\nmore 0.2.0\n")
unfolding digits less space_of heap_of walk table_of values_of is_constant evaluated constant_width judged bind eval exec value body_of verdict_of end_on read_slots order_of mark_of all_of all_entries structure_text listing_answer
counter_cut_behind_a_failing_row = refl

counter_cut_before_a_failing_row : report_of counter [] 2 ≡ told 0 (codes "0.0.0 pass R#0{v=0,o=null}\n0.1.0 pass R#0{v=1,o=null}\nmore 0.1.0\n")
unfolding digits less space_of heap_of walk table_of values_of is_constant evaluated constant_width judged bind eval exec value body_of verdict_of end_on read_slots order_of mark_of all_of all_entries structure_text listing_answer
counter_cut_before_a_failing_row = refl

spent_behind_failing_rows : report_of never_right [] 9 ≡ told 5 (codes "0.0.0 ensures 1 R#0{v=0,o=null}\n0.1.0 ensures 1 R#0{v=1,o=null}\nspent 0.2\n")
unfolding digits less space_of heap_of walk table_of values_of is_constant evaluated constant_width judged bind eval exec value body_of verdict_of end_on read_slots order_of mark_of all_of all_entries structure_text listing_answer
spent_behind_failing_rows = refl

booleans : map (value_text two_ints) (Truth true ∷ Truth false ∷ []) ≡ codes "true" ∷ codes "false" ∷ []
unfolding digits less space_of heap_of walk table_of values_of is_constant evaluated constant_width judged bind eval exec value body_of verdict_of end_on read_slots order_of mark_of all_of all_entries structure_text listing_answer
booleans = refl

verdicts : map (verdict_text (table_of (predefined ∷ [])).headings) (Some Pass ∷ Some (Ensures 12) ∷ Some (Signals 7) ∷ Some RepOk ∷ Some (Trap NullPointerException) ∷ Some (Trap (Thrown 9)) ∷ Some (CheckTrap ArithmeticException) ∷ Some OutOfFuel ∷ []) ≡ codes "pass " ∷ codes "ensures 12 " ∷ codes "signals 7 " ∷ codes "repOk " ∷ codes "trap NullPointerException " ∷ codes "trap IllegalStateException " ∷ codes "check-trap ArithmeticException " ∷ codes "spent " ∷ []
unfolding predefined digits less space_of heap_of walk table_of values_of is_constant evaluated constant_width judged bind eval exec value body_of verdict_of end_on read_slots order_of mark_of all_of all_entries structure_text listing_answer
verdicts = refl

failing : map is_failing (None ∷ Some Pass ∷ Some (Ensures 1) ∷ Some (Signals 1) ∷ Some RepOk ∷ Some (Trap NoReturn) ∷ Some (CheckTrap NoReturn) ∷ Some OutOfFuel ∷ []) ≡ false ∷ false ∷ true ∷ true ∷ true ∷ true ∷ true ∷ true ∷ []
unfolding digits less space_of heap_of walk table_of values_of is_constant evaluated constant_width judged bind eval exec value body_of verdict_of end_on read_slots order_of mark_of all_of all_entries structure_text listing_answer
failing = refl

tested_last_line : tested_text 4 2 4 ≡ codes "valid 4 failing 2 tried 4\n"
unfolding digits less space_of heap_of walk table_of values_of is_constant evaluated constant_width judged bind eval exec value body_of verdict_of end_on read_slots order_of mark_of all_of all_entries structure_text listing_answer
tested_last_line = refl

pub worked : WorkedLines
worked = record {
  two_nodes_lines = two_nodes_lines;
  two_subclasses_lines = two_subclasses_lines;
  arrays_lines = arrays_lines;
  two_ints_report = two_ints_report;
  cell_report = cell_report;
  cell_limited = cell_limited;
  cell_at_the_limit = cell_at_the_limit;
  cell_resumed = cell_resumed;
  cell_without_fuel = cell_without_fuel;
  later_first_report = later_first_report;
  rows_before_spent = rows_before_spent;
  spent_at_the_limit = spent_at_the_limit;
  behind_spent = behind_spent;
  cell_counted = cell_counted;
  counted_up_to_spent = counted_up_to_spent;
  plus_report = plus_report;
  counter_report = counter_report;
  counter_cut_behind_a_failing_row = counter_cut_behind_a_failing_row;
  counter_cut_before_a_failing_row = counter_cut_before_a_failing_row;
  spent_behind_failing_rows = spent_behind_failing_rows;
  booleans = booleans;
  verdicts = verdicts;
  failing = failing;
  tested_last_line = tested_last_line;
}
