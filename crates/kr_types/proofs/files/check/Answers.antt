use Rattle.std.proofs.Common.{sym, ap, ◌∙◌, subst, List, length}
use Rattle.kr_ast.specs.Arena.{Arena}
use Rattle.kr_classes_table.specs.Rules.{least}
use Rattle.kr_classes_members.specs.Shown.{table_in}
use Rattle.kr_classes_names.proofs.Growing.{number_kept}
use Rattle.kr_classes_members.specs.Rosters.{IsRoster}
use Rattle.kr_types_judging.specs.Shown.{least_shown}
use Rattle.kr_types_expressions.specs.Constructors.{AreSingle}
use Rattle.kr_types.specs.Programs.{AreTypedFiles}
use Rattle.kr_types.specs.Refusals.{faults_in}
use Rattle.kr_types.proofs.Faults.{all_faults, well_typed}
use Rattle.kr_types.proofs.Single.{single}
use Rattle.kr_types.proofs.files.check.Goals as goal

pub typed_program-requires-clause-single : goal.typed_program-requires-clause-single
typed_program-requires-clause-single c = subst (λ (files : List Arena). AreSingle (table_in files)) (sym c.deref.ensures.value) (single _ c.requires.table.unbroken)

pub returns-in-Some-clause-refused : goal.returns-in-Some-clause-refused
returns-in-Some-clause-refused c =
    all_faults c.args.trees.items
    ∙ ap (λ (files : List Arena). least (faults_in files (length files))) (sym c.deref-2.ensures.value)
    ∙ sym c.first_fault.ensures ∙ ap least_shown c.in-Some.is

pub returns-in-None-clause-typed : goal.returns-in-None-clause-typed
returns-in-None-clause-typed c =
    let files = c.args.trees.items in
    let typed = subst (λ (all : List Arena). AreTypedFiles all c.typed_program.new.types (length all) c.in_ok-roster.field-0.files.items) c.deref.ensures.value c.in_ok-roster.ensures.typed in
    record {
      few = c.requires.few;
      small = c.requires.small;
      table = record {
        table = record {
          heads = c.requires.table.table.heads;
          members = c.requires.table.table.members;
          numbers = λ f n. number_kept _ _ _ _ c.in_ok-roster.ensures.extends (c.requires.table.table.numbers f n);
          values = c.requires.table.table.values;
        };
        unbroken = c.requires.table.unbroken;
      };
      roster = subst (λ (all : List Arena). IsRoster all c.in_ok-roster.field-0.roster) c.deref.ensures.value c.in_ok-roster.ensures.roster;
      count = typed.count;
      files = typed.each;
      well_typed = well_typed files
          (all_faults files
          ∙ ap (λ (all : List Arena). least (faults_in all (length all))) (sym c.deref-2.ensures.value)
          ∙ sym c.first_fault.ensures ∙ ap least_shown c.in-None.is);
    }
